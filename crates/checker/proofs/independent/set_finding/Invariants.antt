-- `checker::independent::set_finding` meets its contract. The invariant: j clauses are fine, their variables are marked as used,
-- and the sum has what they cost at least.
-- Assumes nothing.
use Rattle.checker.proofs.Conditions.{Cleared}
use Rattle.checker.proofs.independent.set_finding.Given as goal

abbrev pub invariant-loop-j : goal.invariant-loop-j
invariant-loop-j l = Cleared l.priced.sheet.now l.b.bytes.now l.k l.marks l.sum l.j
