-- `checker::marks::mark_many` meets its contract. The invariant: the literals of so many fours have the mark.
-- Assumes nothing.
use Rattle.std.proofs.Common.{◌*◌}
use Rattle.checker.specs.Marks.{MarkedTo}
use Rattle.checker.proofs.marks.mark_many.Given as goal

abbrev pub invariant-loop-fours : goal.invariant-loop-fours
invariant-loop-fours l = MarkedTo l.list.part.now l.initial.marks l.t (4 * l.fours) l.marks
