-- `trimmer::put::Numbering::write_bodies` meets its contract: the invariant is that the bodies of the first k steps stand at the
-- beginning.
-- Assumes nothing.
use Rattle.trimmer.proofs.Loops.{BodiesSo}
use Rattle.trimmer.proofs.Placed.{s, r}
use Rattle.trimmer.proofs.put.Numbering.write_bodies.Given as goal

abbrev pub invariant-loop-k : goal.invariant-loop-k
invariant-loop-k l = BodiesSo (s l.self.selection.source) (r l.self.selection.source) l.k l.pos l.initial.out l.out
