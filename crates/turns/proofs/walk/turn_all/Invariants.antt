-- `turns::walk::turn_all` meets its contract. The invariant: the first i turns are done, and the counts are those of the assignment as it is.
-- Assumes nothing.
use Prim.Native.Nat.{◌*◌}
use mathlib.Core.Path.{◌≡◌}
use lib.ListN.{length, take}
use Rattle.judgement.specs.Sheet.{clauses}
use Rattle.turns.specs.Turning.{value_in, turned}
use Rattle.judgement.specs.Buffer.{Kept}
use Rattle.turns.specs.Counts.{CountedFor}
use Rattle.turns.proofs.walk.turn_all.Given as goal

abbrev pub invariant-loop-v : goal.invariant-loop-v
invariant-loop-v l = (l.a ≡ turned l.initial.a (take l.v-index l.turns)) × CountedFor l.x.sheet.now (value_in l.a) l.sum l.counts × Kept (2 * clauses l.x.sheet.now) l.initial.counts l.counts × (length l.a ≡ length l.initial.a)
