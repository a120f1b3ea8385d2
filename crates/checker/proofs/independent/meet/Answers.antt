-- `checker::independent::meet` meets its contract. What the mark is above t and the code, in 64 bits, tells the literal's state.
-- Assumes nothing.
use Rattle.std.proofs.Common.{◌+◌, ◌-◌, ◌^◌, ◌≤◌, ◌<◌, arith}
use Rattle.judgement.specs.Meaning.{variable_of}
use Rattle.checker.specs.Marks.{mark_at}
use Rattle.checker.proofs.Bits.{wrapped_fits, wrapped_back}
use Rattle.checker.proofs.Conditions.{met_told, told_marked}
use Rattle.checker.proofs.independent.meet.Goals as goal

pub returns-clause-tells : goal.returns-clause-tells
returns-clause-tells c =
    let t = c.args.t in
    let x = c.args.c in
    let marks = c.args.marks.now in
    let d = variable_of x - 1 in
    let m = mark_at marks d in
    let low : m < t + 4096 = c.requires.0.below d in
    let fits : m < 2 ^ 64 = omega (arith, low) in
    let here : t + x ≤ 2 ^ 64 = omega arith in
    λ D uses known.
    told_marked marks d (omega arith)
    (met_told D uses t marks x c.requires.1 known c.requires.2 (wrapped_fits _) (wrapped_back m (t + x) fits here) (wrapped_fits _)
    (wrapped_back _ 1 (omega arith) (omega arith)))
