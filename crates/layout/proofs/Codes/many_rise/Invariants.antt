-- `layout::Codes::many_rise` meets its contract. The invariant: the last eight literals rise, and i literals after the first. The
-- measure is the number of those left.
-- Assumes nothing.
use Prim.Native.Nat.{◌-◌, ◌≤◌}
use mathlib.Core.Path.{◌≡◌}
use mathlib.Core.Bool.{true}
use Rattle.layout.specs.Rise.{rises_from}
use Rattle.layout.proofs.Codes.many_rise.Given as goal

abbrev pub invariant-loop-i : goal.invariant-loop-i
invariant-loop-i l = (8 ≤ l.i) × (l.i ≤ l.self.after) × (rises_from l.self.part.now 0 l.i ≡ true) × (rises_from l.self.part.now (l.self.after - 8) 8 ≡ true)

abbrev pub decreases-loop-i : goal.decreases-loop-i
decreases-loop-i l = l.self.after - l.i
