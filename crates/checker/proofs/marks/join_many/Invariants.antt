-- `checker::marks::join_many` meets its contract. The invariant: `all` is joined with the marks of so many fours of literals.
-- Assumes nothing.
use Rattle.std.proofs.Common.{◌*◌}
use Rattle.checker.specs.Marks.{mark_at, JoinedTo}
use Rattle.checker.proofs.marks.join_many.Given as goal

abbrev pub invariant-loop-fours : goal.invariant-loop-fours
invariant-loop-fours l = JoinedTo l.list.part.now (mark_at l.marks) l.x (4 * l.fours) l.all
