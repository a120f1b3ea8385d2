-- `checker::signed::shifted` meets its contract: what is added and taken away is small.
-- Assumes nothing.
use Rattle.std.proofs.Common.{◌*◌, pos, ◌+ℤ◌, arith}
use Rattle.checker.proofs.Bits.{held, natural, add_size, plus_small, plus_back, minus_small, minus_back}
use Rattle.checker.proofs.signed.shifted.Goals as goal

pub overflow_add-result : goal.overflow_add-result
overflow_add-result c =
    let a = c.args in
    let p = c.requires in
    plus_small a.x (pos (2 * a.w)) (held a.x c.ranges.x.sfits) (natural (2 * a.w) (omega (arith, p))) (omega (arith, p)) (omega (arith, p))

pub overflow_sub-result : goal.overflow_sub-result
overflow_sub-result c =
    let a = c.args in
    let p = c.requires in
    let s = add_size a.x (pos (2 * a.w)) in
    let sum = plus_back a.x (pos (2 * a.w)) (held a.x c.ranges.x.sfits) (natural (2 * a.w) (omega (arith, p))) (omega (arith, p)) (omega (arith, p)) in
    minus_small (a.x +ℤ pos (2 * a.w)) (pos a.y) sum (natural a.y (omega (arith, p))) (omega (arith, p, s)) (omega (arith, p))

pub returns : goal.returns
returns c =
    let a = c.args in
    let p = c.requires in
    let s = add_size a.x (pos (2 * a.w)) in
    let sum = plus_back a.x (pos (2 * a.w)) (held a.x c.ranges.x.sfits) (natural (2 * a.w) (omega (arith, p))) (omega (arith, p)) (omega (arith, p)) in
    minus_back (a.x +ℤ pos (2 * a.w)) (pos a.y) sum (natural a.y (omega (arith, p))) (omega (arith, p, s)) (omega (arith, p))
