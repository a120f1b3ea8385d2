-- `turns::index::clear_sizes` meets its contract. The invariant: the first v lengths are 0.
-- Assumes nothing.
use Rattle.turns.proofs.Sizing.{ClearTo}
use Rattle.turns.proofs.index.clear_sizes.Given as goal

abbrev pub invariant-loop-v : goal.invariant-loop-v
invariant-loop-v l = ClearTo l.n l.v l.initial.index l.index
