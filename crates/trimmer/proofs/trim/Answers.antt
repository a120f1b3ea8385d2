-- `trimmer::trim` meets its contract: the facts of the answer and the promises follow from the three equations.
-- Assumes nothing.
use mathlib.Core.Path.{◌∙◌}
use Rattle.judgement.specs.Demands.{IsBytes}
use Rattle.trimmer.proofs.Promised.{trimming_promised}
use Rattle.trimmer.proofs.When.{trimmed_when}
use Rattle.trimmer.proofs.trim.Goals as goal

pub returns-clause-when : goal.returns-clause-when
returns-clause-when c =
    let a = c.args in
    let e = c.trim_into.ensures in
    trimmed_when a.sheet.now a.«record».now a.marks.now a.out.now _ _ _ (c.into.ensures ∙ e.answer) e.marked e.buffer

pub returns-clause-promised : goal.returns-clause-promised
returns-clause-promised c =
    let bytes : IsBytes c.args.«record».now = λ i. (c.type_inv.record i).fits in
    trimming_promised c.args.sheet.now c.args.«record».now bytes
