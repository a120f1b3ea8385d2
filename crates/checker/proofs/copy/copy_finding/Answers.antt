-- `checker::copy::copy_finding` meets its contract: a step that does not pass, but is in form and cites a clause, copies none.
-- Assumes nothing.
use Rattle.std.proofs.Common.{sym, ◌∙◌}
use Rattle.checker.proofs.Known.{form_more, formed_by}
use Rattle.checker.proofs.Copying.{copy_fine, copy_fault}
use Rattle.checker.proofs.copy.copy_finding.Goals as goal

pub returns-then-is_copy : goal.returns-then-is_copy
returns-then-is_copy c =
    copy_fine c.args.s.now c.args.b.now c.args.k c.requires.1 (sym c.is_copy.ensures ∙ c.if-is_copy.true)

pub form_finding-requires : goal.form_finding-requires
form_finding-requires c = sym c.requires.1

pub returns : goal.returns
returns c =
    let s = c.args.s.now in
    let b = c.args.b.now in
    let k = c.args.k in
    let g = c.in_ok-form_finding.ensures in
    let failed = sym c.is_copy.ensures ∙ c.if-is_copy.false in
    rw c.at.ensures (copy_fault s b k c.requires.1 (formed_by s b k g c.requires.0) failed ∙ form_more s b k _ g)
