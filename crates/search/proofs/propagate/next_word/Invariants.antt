-- `search::propagate::next_word` meets its contract.
-- Assumes nothing.
use Prim.Native.Nat.{ℕ, ◌+◌, ◌≤◌, ◌<◌}
use mathlib.Core.Path.{◌≡◌}
use lib.ListN.{get_or}
use Rattle.search.proofs.propagate.next_word.Given as goal

-- the numbers from i to j are 0
abbrev pub invariant-loop-j : goal.invariant-loop-j
invariant-loop-j l = (h : ℕ) → l.i ≤ h → h < l.j → get_or l.table (l.start + h) 0 ≡ 0
