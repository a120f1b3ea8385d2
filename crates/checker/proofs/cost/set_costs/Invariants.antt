-- `checker::cost::set_costs` meets its contract. The invariant: what the literals of v variables cost is put down.
-- Assumes nothing.
use Rattle.std.proofs.Common.{◌≡◌, ◌+◌, length}
use Rattle.judgement.specs.Sheet.{cost_of}
use Rattle.checker.specs.Marks.{most_codes}
use Rattle.checker.proofs.Pricing.{Filled}
use Rattle.checker.proofs.cost.set_costs.Given as goal

abbrev pub invariant-loop-v : goal.invariant-loop-v
invariant-loop-v l =
    (length l.falsified ≡ most_codes)
    × (length l.unsettled ≡ most_codes)
    × Filled (λ u. 0) (cost_of l.s) l.v l.falsified
    × Filled (λ u. cost_of l.s u + 1) (λ u. 0) l.v l.unsettled
