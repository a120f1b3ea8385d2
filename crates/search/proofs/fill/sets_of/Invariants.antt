-- `search::fill::sets_of` meets its contract. The invariant: each set has the variables of i literals of its kind.
-- Assumes nothing.
use Prim.Native.Nat.{ℕ, ◌≤◌}
use mathlib.Core.Path.{◌≡◌}
use lib.ListN.{length, get_or}
use Rattle.search.proofs.Entering.{Gathered}
use Rattle.search.proofs.fill.sets_of.Given as goal

abbrev pub invariant-loop-i : goal.invariant-loop-i
invariant-loop-i l = record { size : length l.sets ≡ 2; each : (odd : ℕ) → odd ≤ 1 → Gathered l.part odd (get_or l.sets odd 0) l.i }
