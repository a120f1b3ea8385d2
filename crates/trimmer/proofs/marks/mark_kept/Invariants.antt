-- `trimmer::marks::mark_kept` meets its contract: the invariant is that the marks are the definition's when the steps behind k have
-- been looked at.
-- Assumes nothing.
use Prim.Native.Nat.{◌-◌}
use mathlib.Core.Path.{◌≡◌}
use lib.ListN.{length}
use Rattle.trimmer.specs.Work.{marks_after}
use Rattle.trimmer.proofs.marks.mark_kept.Given as goal

abbrev pub invariant-loop-k : goal.invariant-loop-k
invariant-loop-k l = l.marks ≡ marks_after l.source.sheet.now l.source.«record».now (length l.initial.marks - l.k)
