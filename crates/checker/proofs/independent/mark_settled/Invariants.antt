-- `checker::independent::mark_settled` meets its contract. The invariant: the variables of i literals are marked, the other marks
-- are what they were, and the sum is that of i literals.
-- Assumes nothing.
use Rattle.std.proofs.Common.{◌≡◌, length}
use Rattle.checker.specs.Marks.{Marked}
use Rattle.checker.proofs.Pricing.{Summed}
use Rattle.checker.proofs.Conditions.{settled_to}
use Rattle.checker.proofs.independent.mark_settled.Given as goal

abbrev pub invariant-loop-i : goal.invariant-loop-i
invariant-loop-i l =
    (length l.marks ≡ 1024)
    × Marked l.marks (settled_to l.part l.t l.initial.marks l.i)
    × Summed l.priced.falsified.now l.part l.sum l.i
