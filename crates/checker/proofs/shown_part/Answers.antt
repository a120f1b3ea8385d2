-- `checker::shown_part` meets its contract. What is shown lies in its file, so what equals it does.
-- Assumes nothing.
use Rattle.std.proofs.Common.{◌∙◌, arith, eq-eqb}
use Rattle.checker.proofs.Judged.{in_range, step_count_is, which_lies}
use Rattle.checker.proofs.shown_part.Goals as goal

pub returns : goal.returns
returns c =
    let answer = c.judge-answer.ensures.answer in
    let passes = eq-eqb _ 0 c.if-answer-ne0.false in
    let t = step_count_is _ _ _ answer passes in
    let there = in_range _ _ _ _ answer passes c.if-step-lt1.false (omega (arith, t, c.if-answer-step.false)) in
    let r = which_lies c.args.sheet.now c.args.«record».now c.args.step (c.step_part.ensures ∙ there) in
    record { part = r.0; inside = r.1 }
