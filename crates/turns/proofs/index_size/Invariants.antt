-- `turns::index_size` meets its contract. The invariant: the pairs, and the literals of k clauses.
-- Assumes nothing.
use Rattle.turns.proofs.Answers.{SizeTo}
use Rattle.turns.proofs.index_size.Given as goal

abbrev pub invariant-loop-k : goal.invariant-loop-k
invariant-loop-k l = SizeTo l.s l.k l.size
