-- `trimmer::put::Selection::bodies_size` meets its contract: the invariant is that n is what the first k steps add.
-- Assumes nothing.
use mathlib.Core.Path.{◌≡◌}
use Prim.Native.Nat.{◌*◌, ◌≤◌}
use lib.ListN.{length}
use Rattle.trimmer.specs.Work.{bodies_to}
use Rattle.trimmer.proofs.Placed.{s, r}
use Rattle.trimmer.proofs.put.Selection.bodies_size.Given as goal

abbrev pub invariant-loop-k : goal.invariant-loop-k
invariant-loop-k l = (l.n ≡ length (bodies_to (s l.self.source) (r l.self.source) l.k)) × (l.n ≤ 4294967296 * l.k)
