use mathlib.Core.Path.{refl, ap, ◌∙◌}
use native.Mathlib.Omega.{arith}
use lib.ListN.{length}
use Rattle.turns.specs.Turning.{turned}
use Rattle.judgement.proofs.Laws.Patch.{kept_same, kept_next}
use Rattle.turns.proofs.Switching.{length_turn}
use Rattle.turns.proofs.Coding.{turn_among, turned_next}
use Rattle.turns.proofs.walk.turn_all.Goals as goal

pub loop-v-init : goal.loop-v-init
unfolding turned
loop-v-init c = (refl, c.requires.2, kept_same _ _, refl)

pub turn_one-sum-requires : goal.turn_one-sum-requires
turn_one-sum-requires c =
    let l = c.loop-v in
    let e = l.invariant.3 in
    (turn_among _ c.args.turns.now l.v-index c.requires.0 (omega arith), omega (arith, e, c.requires.1), l.invariant.1)

pub loop-v-preserved : goal.loop-v-preserved
loop-v-preserved c =
    let a = c.args in
    let l = c.loop-v in
    let e = c.turn_one-sum.ensures in
    (turned_next a.a.now l.a _ a.turns.now l.v-index (omega arith) l.invariant.0 e.0, e.1, kept_next _ _ _ _ l.invariant.2 e.2, ap length e.0 ∙ length_turn l.a _ ∙ l.invariant.3)
