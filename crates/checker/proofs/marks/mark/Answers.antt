-- `checker::marks::mark` meets its contract: of an empty list there is nothing to mark.
-- Assumes nothing.
use Rattle.std.proofs.Common.{arith}
use Rattle.judgement.specs.Literals.{count, holds}
use Rattle.checker.proofs.Marking.{mark_none, marked_to}
use Rattle.checker.proofs.marks.mark.Goals as goal

pub returns-else-q-ge1 : goal.returns-else-q-ge1
unfolding holds
returns-else-q-ge1 c =
    let a = c.args in
    (marked_to {i = count a.list.part.now} (omega arith) (mark_none a.list.part.now a.marks.now a.t)).marked
