-- `checker::read::code_in_form` meets its contract. The form of the list bounds the variable.
-- Assumes nothing.
use Rattle.std.proofs.Common.{arith}
use Rattle.layout.proofs.Literals.{code_next}
use Rattle.checker.proofs.Marking.{code_form}
use Rattle.checker.proofs.read.code_in_form.Goals as goal

pub returns : goal.returns
returns c =
    let a = c.args in
    code_form a.part.now a.i c.requires.1 (omega arith) (code_next a.part.now a.i c.u16_at.ensures.0)
