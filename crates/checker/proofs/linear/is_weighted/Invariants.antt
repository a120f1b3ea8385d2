-- `checker::linear::is_weighted` meets its contract. The invariant: the weights of j entries are not 0.
-- Assumes nothing.
use Rattle.std.proofs.Common.{◌≡◌, true}
use Rattle.judgement.specs.Scan.{all_of}
use Rattle.checker.proofs.Totals.{is_weight}
use Rattle.checker.proofs.linear.is_weighted.Given as goal

abbrev pub invariant-loop-j : goal.invariant-loop-j
invariant-loop-j l = all_of (is_weight l.tail) l.j ≡ true
