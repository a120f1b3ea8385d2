-- `turns::index::count_clause` meets its contract. The invariant: the lengths after k - 1 clauses and i literals of clause k.
-- Assumes nothing.
use Rattle.turns.proofs.Clauses.{CountingAt}
use Rattle.turns.proofs.index.count_clause.Given as goal

abbrev pub invariant-loop-i : goal.invariant-loop-i
invariant-loop-i l = CountingAt l.s l.k l.i l.initial.index l.index
