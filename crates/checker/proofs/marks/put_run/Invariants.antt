-- `checker::marks::put_run` meets its contract. The invariant: i literals from o + 1 on have got the mark.
-- Assumes nothing.
use Rattle.checker.specs.Marks.{MarksOn}
use Rattle.checker.proofs.marks.put_run.Given as goal

abbrev pub invariant-loop-i : goal.invariant-loop-i
invariant-loop-i g l = MarksOn l.list.part.now l.t l.o l.i l.initial.marks l.marks
