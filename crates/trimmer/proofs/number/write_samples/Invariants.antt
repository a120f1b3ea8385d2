-- `trimmer::number::write_samples` meets its contract: the invariant is that the first i samples are right, and that n is the count
-- at the next.
-- Assumes nothing.
use mathlib.Core.Path.{◌≡◌}
use Prim.Native.Nat.{ℕ, ◌*◌, ◌<◌, min}
use lib.ListN.{length}
use Rattle.judgement.specs.Number.{number_at}
use Rattle.judgement.specs.Scan.{count_of}
use Rattle.trimmer.specs.Work.{marked}
use Rattle.trimmer.proofs.number.write_samples.Given as goal

abbrev pub invariant-loop-i : goal.invariant-loop-i
invariant-loop-i l =
    (l.n ≡ count_of (marked l.marks) (min (l.i * l.w) (length l.marks))) × (length l.table ≡ length l.initial.table)
    × ((j : ℕ) → j < l.i → number_at l.table (4 * j) 4 ≡ count_of (marked l.marks) (j * l.w))
