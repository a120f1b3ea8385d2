-- `search::count::count_all` meets its contract. The invariant: the numbers count the rows of codes 2 to c + 1.
-- Assumes nothing.
use Prim.Native.Nat.{◌+◌}
use Rattle.search.specs.Counts.{words_for}
use Rattle.search.proofs.Slices.{Counted}
use Rattle.search.proofs.count.count_all.Given as goal

abbrev pub invariant-loop-c : goal.invariant-loop-c
invariant-loop-c l = Counted l.tables.rows (words_for l.tables.size.clauses) l.table (l.c + 1)
