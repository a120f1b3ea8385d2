-- `turns::index::fill` meets its contract. The invariant: the lists by the first k clauses.
-- Assumes nothing.
use Rattle.judgement.specs.Buffer.{Kept}
use Rattle.turns.specs.Index.{FilledTo, index_end}
use Rattle.turns.proofs.index.fill.Given as goal

abbrev pub invariant-loop-k : goal.invariant-loop-k
invariant-loop-k l = FilledTo l.s l.k l.index × Kept (index_end l.s) l.initial.index l.index
