-- `search::fill::fill_costs` meets its contract. The invariant: v costs are in the table, and each cost there has 32 bits.
-- Assumes nothing.
use Rattle.search.specs.Tables.{Small, Costed}
use Rattle.search.proofs.fill.fill_costs.Given as goal

abbrev pub invariant-loop-v : goal.invariant-loop-v
invariant-loop-v l = record { small : Small l.costs; each : Costed l.s l.costs l.v }
