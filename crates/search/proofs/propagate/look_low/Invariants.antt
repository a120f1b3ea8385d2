-- `search::propagate::look_low` meets its contract.
-- Assumes nothing.
use Prim.Native.Nat.{◌-◌, ◌≤◌}
use Rattle.std.specs.Prelude.{Some}
use Rattle.search.proofs.Walking.{LowUpTo}
use Rattle.search.proofs.propagate.look_low.Given as goal

-- the clauses of words 0 to i - 1 have been looked at
abbrev pub invariant-loop-i : goal.invariant-loop-i
invariant-loop-i l = record { inside : l.i ≤ l.words; looked : LowUpTo l.tables l.table l.fn.level.at l.initial.out l.i (Some l.out) }

abbrev pub decreases-loop-i : goal.decreases-loop-i
decreases-loop-i l = l.words - l.i
