-- `writer::write_sheet` meets its contract: what the answer and the buffer are says what is told. That a file's entries are bytes
-- is known of a slice. That there is one order goes by the lemma that the function's attribute names.
-- Assumes nothing.
use mathlib.Core.Path.{◌∙◌}
use Rattle.writer.proofs.Canonical.{one_way}
use Rattle.writer.proofs.Answers.{told_is, written_when}
use Rattle.writer.proofs.write_sheet.Goals as goal

pub returns-clause-answer : goal.returns-clause-answer
returns-clause-answer c = c.into.ensures ∙ told_is _ _ c.write.ensures.answer

pub returns-clause-when : goal.returns-clause-when
returns-clause-when c =
    let a = c.args in
    written_when a.sheet.now a.out.now _ _ (c.into.ensures ∙ told_is _ _ c.write.ensures.answer) c.write.ensures.buffer

pub returns-clause-oneway : goal.returns-clause-oneway
returns-clause-oneway c v = one_way c.args.sheet.now v (λ i. (c.type_inv.sheet i).fits)
