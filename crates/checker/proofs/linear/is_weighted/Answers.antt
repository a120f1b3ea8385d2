use Rattle.std.proofs.Common.{refl, arith}
use Rattle.judgement.specs.Scan.{all_of}
use Rattle.checker.proofs.Totals.{divisor_zero, weight_zero, weights_more, weights_all}
use Rattle.checker.proofs.linear.is_weighted.Goals as goal

pub returns-then-u16_at-eq0 : goal.returns-then-u16_at-eq0
returns-then-u16_at-eq0 c = divisor_zero c.args.tail.now c.u16_at.ensures.0 c.if-u16_at-eq0.true

pub loop-j-init : goal.loop-j-init
unfolding all_of
loop-j-init c = refl

pub returns-then-u16_at-eq0-2 : goal.returns-then-u16_at-eq0-2
returns-then-u16_at-eq0-2 c =
    weight_zero c.args.tail.now c.loop-j.j c.u16_at-in-loop-j.ensures.0 c.if-u16_at-eq0-2.true (omega arith)

pub loop-j-preserved : goal.loop-j-preserved
loop-j-preserved c = weights_more c.args.tail.now c.loop-j.j c.u16_at-in-loop-j.ensures.0 c.if-u16_at-eq0-2.false c.loop-j.invariant

pub returns : goal.returns
returns c = weights_all c.args.tail.now c.u16_at.ensures.0 c.if-u16_at-eq0.false (omega arith) c.loop-j.invariant
