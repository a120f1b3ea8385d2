use native.Mathlib.Omega.{arith}
use Rattle.turns.specs.Turning.{value_in}
use Rattle.turns.proofs.Walking.{fresh_start, fresh_turn}
use Rattle.turns.proofs.Coding.{byte_one}
use Rattle.turns.proofs.counts.count_afresh.Goals as goal

pub loop-k-init : goal.loop-k-init
loop-k-init c = fresh_start c.args.s.now (value_in c.args.a.now) c.args.counts.now

pub loop-k-preserved : goal.loop-k-preserved
loop-k-preserved c =
    let a = c.args in
    let l = c.loop-k in
    fresh_turn a.s.now (value_in a.a.now) l.k l.total _ _ a.counts.now l.counts _ c.requires.2 (omega (arith, c.clause_count-m.ensures.0)) l.invariant c.true_in-x.ensures (byte_one _ c.from-total.ensures).0 c.put_u16.ensures
