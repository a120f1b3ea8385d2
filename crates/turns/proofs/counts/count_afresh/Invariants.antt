-- `turns::counts::count_afresh` meets its contract. The invariant: the first k counts, and how many of them are 0.
-- Assumes nothing.
use Rattle.turns.specs.Turning.{value_in}
use Rattle.turns.proofs.Walking.{FreshTo}
use Rattle.turns.proofs.counts.count_afresh.Given as goal

abbrev pub invariant-loop-k : goal.invariant-loop-k
invariant-loop-k l = FreshTo l.s (value_in l.a) l.k l.total l.initial.counts l.counts
