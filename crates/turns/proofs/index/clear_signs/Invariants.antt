-- `turns::index::clear_signs` meets its contract. The invariant: the entries before `at` are halved.
-- Assumes nothing.
use Rattle.turns.proofs.Signs.{ClearedTo}
use Rattle.turns.proofs.index.clear_signs.Given as goal

abbrev pub invariant-loop-at : goal.invariant-loop-at
invariant-loop-at l = ClearedTo l.s l.initial.index l.at l.index
