-- `turns::walk::walk` meets its contract. The invariant: clauses up to the last entry done have their new counts, the others their old
-- ones.
-- Assumes nothing.
use Rattle.turns.proofs.Walking.{WalkAt}
use Rattle.turns.specs.Turning.{value_in, turn}
use Rattle.turns.proofs.walk.walk.Given as goal

abbrev pub invariant-loop-j : goal.invariant-loop-j
invariant-loop-j l = WalkAt l.x.sheet.now l.v (value_in (turn l.a l.v)) (value_in l.a) l.j l.sum l.initial.counts l.counts
