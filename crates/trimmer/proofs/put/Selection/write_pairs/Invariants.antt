-- `trimmer::put::Selection::write_pairs` meets its contract: the invariant is that the pairs of the first k steps stand at the
-- beginning.
-- Assumes nothing.
use Rattle.trimmer.proofs.Loops.{PairsSo}
use Rattle.trimmer.proofs.Placed.{s, r}
use Rattle.trimmer.proofs.put.Selection.write_pairs.Given as goal

abbrev pub invariant-loop-k : goal.invariant-loop-k
invariant-loop-k l = PairsSo (s l.self.source) (r l.self.source) l.start l.k l.next l.at l.initial.out l.out
