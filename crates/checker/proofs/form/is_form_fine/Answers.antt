-- `checker::form::is_form_fine` meets its contract. Each early answer is a test that fails, after those that hold.
-- Assumes nothing.
use Rattle.std.proofs.Common.{◌≡◌, ◌+◌, ◌-◌, ◌*◌, length, ap, ◌∙◌, arith, length-drop, eq-eqb, le-leb}
use Rattle.judgement.specs.Step.{literal_count, tail, tail_fine, form_fine}
use Rattle.layout.proofs.Number.{number_byte}
use Rattle.checker.proofs.form.is_form_fine.Goals as goal

pub returns : goal.returns
unfolding form_fine
returns c =
    let b = c.args.b.now in
    let start = 12 + 2 * literal_count b in
    let size : length b - (12 + 2 * c.u16_at.result) ≡ length (tail b) = omega (arith, length-drop start b) in
    rw (
      le-leb start (length b) (omega arith),
      number_byte,
      eq-eqb _ _ c.if-b-ne0.false,
      ← c.literals.ensures,
      ← c.variable_count.ensures.0,
      ← c.literals_fine.ensures,
      c.if-not-literals_fine.false,
    )
    (c.is_tail_fine.ensures ∙ ap (tail_fine _) size)
