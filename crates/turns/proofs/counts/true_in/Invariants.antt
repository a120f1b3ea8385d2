-- `turns::counts::true_in` meets its contract. The invariant: the sum over i literals.
-- Assumes nothing.
use Rattle.turns.specs.Turning.{value_in}
use Rattle.turns.proofs.Coding.{TrueTo}
use Rattle.turns.proofs.counts.true_in.Given as goal

abbrev pub invariant-loop-i : goal.invariant-loop-i
invariant-loop-i l = TrueTo l.s (value_in l.a) l.k l.i l.sum
