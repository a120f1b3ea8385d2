use mathlib.Core.Path.{ap}
use native.Mathlib.Omega.{arith}
use lib.ListN.{length}
use Rattle.turns.specs.Turning.{value_in}
use Rattle.turns.proofs.Counting.{count_within}
use Rattle.judgement.specs.Sheet.{variables, clause}
use Rattle.turns.proofs.Coding.{byte_one, true_start, true_turn, true_done, true_among, in_bytes}
use Rattle.turns.proofs.counts.true_in.Goals as goal

pub loop-i-init : goal.loop-i-init
loop-i-init c = true_start c.args.s.now (value_in c.args.a.now) c.args.k

pub is_literal_true-requires : goal.is_literal_true-requires
is_literal_true-requires c =
    let a = c.args in
    let l = c.loop-i in
    let e = ap length c.clause_of-part.ensures.bytes in
    let w = true_among a.s.now c.requires.0 a.k c.requires.1 l.i _ _ c.clause_of-part.ensures.bytes (omega (arith, e)) c.u16_at.ensures in
    (w.0, in_bytes (variables a.s.now) _ (length a.a.now) w c.requires.2)

pub overflow_add-sum : goal.overflow_add-sum
overflow_add-sum c =
    let a = c.args in
    let l = c.loop-i in
    let e = ap length c.clause_of-part.ensures.bytes in
    let b = count_within (variables a.s.now) (clause a.s.now a.k) (c.requires.0.lists a.k c.requires.1) in
    let n = c.requires.0.n.1 in
    omega (arith, e, b, n, (byte_one _ c.from-sum.ensures).1, l.invariant.most, l.invariant.within)

pub loop-i-preserved : goal.loop-i-preserved
loop-i-preserved c =
    let a = c.args in
    let l = c.loop-i in
    let e = ap length c.clause_of-part.ensures.bytes in
    true_turn a.s.now (value_in a.a.now) a.k l.i l.sum _ _ _ _ c.clause_of-part.ensures.bytes l.invariant (omega (arith, e)) c.u16_at.ensures c.is_literal_true.ensures (byte_one _ c.from-sum.ensures).0 (byte_one _ c.from-sum.ensures).1

pub returns : goal.returns
returns c =
    let a = c.args in
    let l = c.loop-i in
    let e = ap length c.clause_of-part.ensures.bytes in
    true_done a.s.now (value_in a.a.now) a.k l.i l.sum l.invariant (omega (arith, e))
