-- `checker::signed::gained` meets its contract: both negative parts are small, and so are their difference and what is taken from it.
-- Assumes nothing.
use Rattle.std.proofs.Common.{pos, ◌-ℤ◌, arith}
use Rattle.judgement.specs.Integers.{below_zero}
use Rattle.checker.proofs.Bits.{natural, less_back, less_size, minus_size, minus_small, minus_back}
use Rattle.checker.proofs.signed.gained.Goals as goal

pub overflow_sub-result-2 : goal.overflow_sub-result-2
overflow_sub-result-2 c =
    let z = less_size c.args.z in
    let x = less_size c.args.x in
    let s = minus_size (below_zero c.args.z) (below_zero c.args.x) in
    let first = less_back c.args.z c.min.result c.ranges.z.sfits c.min.type_inv c.min.ensures.value in
    let second = less_back c.args.x c.min-2.result c.ranges.x.sfits c.min-2.type_inv c.min-2.ensures.value in
    let difference = minus_back (below_zero c.args.z) (below_zero c.args.x) first second (omega (arith, c.requires, z)) (omega (arith, c.requires, x)) in
    minus_small (below_zero c.args.z -ℤ below_zero c.args.x) (pos c.args.w) difference (natural c.args.w (omega (arith, c.requires))) (omega (arith, c.requires, z, x, s)) (omega (arith, c.requires))

pub returns : goal.returns
returns c =
    let z = less_size c.args.z in
    let x = less_size c.args.x in
    let s = minus_size (below_zero c.args.z) (below_zero c.args.x) in
    let first = less_back c.args.z c.min.result c.ranges.z.sfits c.min.type_inv c.min.ensures.value in
    let second = less_back c.args.x c.min-2.result c.ranges.x.sfits c.min-2.type_inv c.min-2.ensures.value in
    let difference = minus_back (below_zero c.args.z) (below_zero c.args.x) first second (omega (arith, c.requires, z)) (omega (arith, c.requires, x)) in
    minus_back (below_zero c.args.z -ℤ below_zero c.args.x) (pos c.args.w) difference (natural c.args.w (omega (arith, c.requires))) (omega (arith, c.requires, z, x, s)) (omega (arith, c.requires))
