-- `turns::index::place_lists` meets its contract. The invariant: v pairs are placed, the others have their sizes.
-- Assumes nothing.
use Prim.Native.Nat.{◌≤◌}
use Rattle.turns.specs.Index.{index_end}
use Rattle.turns.proofs.Clauses.{PlacingAt}
use Rattle.turns.proofs.index.place_lists.Given as goal

abbrev pub invariant-loop-v : goal.invariant-loop-v
invariant-loop-v l = PlacingAt l.s l.v l.next l.initial.index l.index × (l.next ≤ index_end l.s)
