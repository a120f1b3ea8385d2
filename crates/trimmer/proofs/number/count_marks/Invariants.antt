-- `trimmer::number::count_marks` meets its contract: the invariant is that n of the steps after `from` that were looked at have a mark.
-- Assumes nothing.
use Prim.Native.Nat.{◌+◌, ◌≤◌}
use mathlib.Core.Path.{◌≡◌}
use Rattle.judgement.specs.Scan.{count_of}
use Rattle.trimmer.specs.Work.{marked}
use Rattle.trimmer.proofs.number.count_marks.Given as goal

abbrev pub invariant-loop-x : goal.invariant-loop-x
invariant-loop-x l = (l.n ≤ l.x-index) × (count_of (marked l.marks) l.from + l.n ≡ count_of (marked l.marks) (l.from + l.x-index))
