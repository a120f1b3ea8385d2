-- `search::fill::fill_masks` meets its contract. The invariant: the sets of k clauses are in the table.
-- Assumes nothing.
use Rattle.search.specs.Tables.{Masked}
use Rattle.search.proofs.fill.fill_masks.Given as goal

abbrev pub invariant-loop-k : goal.invariant-loop-k
invariant-loop-k l = Masked l.s l.masks l.k
