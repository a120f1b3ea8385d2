-- `search::propagate::look_word` meets its contract.
-- Assumes nothing.
use Prim.Native.Nat.{ℕ, ◌^◌, ◌<◌}
use mathlib.Core.Path.{◌≡◌}
use mathlib.Core.Bool.{true}
use Rattle.std.specs.Prelude.{Some}
use Rattle.search.specs.Node.{has}
use Rattle.search.proofs.Walking.{WordDownTo}
use Rattle.search.proofs.propagate.look_word.Given as goal

-- the clauses of `bits` that are not of x have been looked at
abbrev pub invariant-loop-x : goal.invariant-loop-x
invariant-loop-x l = record {
  word : l.x < 2 ^ 64;
  part : (j : ℕ) → has l.x j ≡ true → has l.bits j ≡ true;
  looked : WordDownTo l.tables l.i l.bits l.initial.out l.x (Some l.out);
}

abbrev pub decreases-loop-x : goal.decreases-loop-x
decreases-loop-x l = l.x
