-- `turns::index::count_sizes` meets its contract. The invariant: the lengths by the first k clauses.
-- Assumes nothing.
use Prim.Native.Nat.{◌*◌}
use Rattle.judgement.specs.Sheet.{variables}
use Rattle.judgement.specs.Buffer.{Kept}
use Rattle.turns.specs.Index.{SizedTo}
use Rattle.turns.proofs.index.count_sizes.Given as goal

abbrev pub invariant-loop-k : goal.invariant-loop-k
invariant-loop-k l = SizedTo l.s l.k l.index × Kept (8 * variables l.s) l.initial.index l.index
