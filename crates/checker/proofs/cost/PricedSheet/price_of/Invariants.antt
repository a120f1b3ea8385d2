-- `checker::cost::PricedSheet::price_of` meets its contract. The invariant: the sum is that of i literals.
-- Assumes nothing.
use Rattle.checker.proofs.Pricing.{Summed}
use Rattle.checker.proofs.cost.PricedSheet.price_of.Given as goal

abbrev pub invariant-loop-i : goal.invariant-loop-i
invariant-loop-i l = Summed l.self.falsified.now l.part l.sum l.i
