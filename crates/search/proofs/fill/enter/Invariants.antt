-- `search::fill::enter` meets its contract. The invariant: the clause stands in the rows of i literals.
-- Assumes nothing.
use Rattle.search.proofs.Entering.{Entered}
use Rattle.search.proofs.fill.enter.Given as goal

abbrev pub invariant-loop-i : goal.invariant-loop-i
invariant-loop-i l = Entered l.part l.k l.initial.rows l.rows l.i
