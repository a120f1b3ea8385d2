-- `search::fill::fill_rows` meets its contract. The invariant: k clauses stand in the rows of their literals.
-- Assumes nothing.
use Rattle.search.specs.Tables.{Rowed}
use Rattle.search.proofs.fill.fill_rows.Given as goal

abbrev pub invariant-loop-k : goal.invariant-loop-k
invariant-loop-k l = Rowed l.s l.rows l.k
