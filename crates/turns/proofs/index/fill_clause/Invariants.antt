-- `turns::index::fill_clause` meets its contract. The invariant: the lists after k - 1 clauses and i literals of clause k.
-- Assumes nothing.
use Rattle.turns.proofs.Clauses.{FillingAt}
use Rattle.turns.proofs.index.fill_clause.Given as goal

abbrev pub invariant-loop-i : goal.invariant-loop-i
invariant-loop-i l = FillingAt l.s l.k l.i l.initial.index l.index
