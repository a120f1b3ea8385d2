-- `search::count::copy_level` meets its contract. The invariant: words 0 to i - 1 of each plane are copied.
-- Assumes nothing.
use Prim.Native.Nat.{◌+◌}
use Rattle.search.proofs.Slices.{Same, Done}
use Rattle.search.proofs.count.copy_level.Given as goal

abbrev pub invariant-loop-i : goal.invariant-loop-i
invariant-loop-i l = Done (Same l.level.at l.initial.table) (l.level.at + 320) l.initial.table l.table l.i
