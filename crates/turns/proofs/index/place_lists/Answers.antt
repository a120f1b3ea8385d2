use native.Mathlib.Omega.{arith}
use Rattle.turns.proofs.Clauses.{placing_start, placing_turn, placing_done, end_small, pairs_within}
use Rattle.turns.proofs.index.place_lists.Goals as goal

pub loop-v-init : goal.loop-v-init
loop-v-init c =
    let a = c.args in
    let w = pairs_within a.s.now in
    (placing_start a.s.now a.index.now _ c.variable_count-n.ensures.0 c.requires.1, omega (arith, w, c.variable_count-n.ensures.0))

pub overflow_cast-next : goal.overflow_cast-next
overflow_cast-next c =
    let e = end_small c.args.s.now c.requires.0 in
    omega (arith, e, c.loop-v.invariant.1)

pub loop-v-preserved : goal.loop-v-preserved
loop-v-preserved c =
    let a = c.args in
    let l = c.loop-v in
    let w = pairs_within a.s.now in
    placing_turn a.s.now c.requires.0 l.v l.next a.index.now l.index l.invariant.0 (omega (arith, c.variable_count-n.ensures.0)) _ _ _
    (omega (arith, w)) c.u32_at-size.ensures.0 c.put_u32.ensures c.put_u32-in-loop-v.ensures

pub returns : goal.returns
returns c =
    let a = c.args in
    let l = c.loop-v in
    placing_done a.s.now l.v l.next a.index.now l.index c.requires.2 (omega (arith, c.variable_count-n.ensures.0)) l.invariant.0
