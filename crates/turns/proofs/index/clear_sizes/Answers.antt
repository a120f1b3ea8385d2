use native.Mathlib.Omega.{arith}
use Rattle.turns.proofs.Sizing.{clear_turn}
use Rattle.turns.proofs.index.clear_sizes.Goals as goal

pub loop-v-preserved : goal.loop-v-preserved
loop-v-preserved c =
    let a = c.args in
    let l = c.loop-v in
    clear_turn a.n l.v a.index.now l.index _ c.requires.1 (omega arith) l.invariant c.put_u32.ensures
