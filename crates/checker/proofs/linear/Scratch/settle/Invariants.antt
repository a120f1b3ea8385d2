-- `checker::linear::Scratch::settle` meets its contract. The invariant: i literals are settled, and the sum is that of i literals.
-- Assumes nothing.
use Rattle.checker.specs.Weighing.{Settling}
use Rattle.checker.proofs.Pricing.{Summed}
use Rattle.checker.proofs.linear.Scratch.settle.Given as goal

abbrev pub invariant-loop-i : goal.invariant-loop-i
invariant-loop-i l = Settling l.part l.i l.t l.self.marks l.self.rest × Summed l.priced.falsified.now l.part l.sum l.i
