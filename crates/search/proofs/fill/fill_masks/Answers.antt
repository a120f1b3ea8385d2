-- `search::fill::fill_masks` meets its contract.
-- Assumes nothing.
use native.Mathlib.Omega.{arith}
use Rattle.search.proofs.Entering.{clause_list}
use Rattle.search.proofs.fill.fill_masks.Goals as goal

pub sets_of-requires : goal.sets_of-requires
sets_of-requires c =
    let m = c.clause_count-m.ensures.0 in
    clause_list c.args.s.now c.loop-k.k c.requires.0 c.requires.1 (omega (arith, m)) c.clause_of.ensures.bytes
