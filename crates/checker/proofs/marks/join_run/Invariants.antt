-- `checker::marks::join_run` meets its contract. The invariant: the marks of i literals from o + 1 on are joined.
-- Assumes nothing.
use Rattle.checker.specs.Marks.{mark_at, JoinsOn}
use Rattle.checker.proofs.marks.join_run.Given as goal

abbrev pub invariant-loop-i : goal.invariant-loop-i
invariant-loop-i g l = JoinsOn l.list.part.now (mark_at l.marks) l.o l.i l.x l.all
