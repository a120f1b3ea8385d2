-- `checker::marks::mark_thirds` meets its contract: the first N, the last N, and N between them.
-- Assumes nothing.
use Rattle.std.proofs.Common.{◌-◌, arith}
use Rattle.judgement.specs.Literals.{count, holds}
use Rattle.checker.proofs.Marking.{marks_thirds, marked_to}
use Rattle.checker.proofs.marks.mark_thirds.Goals as goal

pub returns : goal.returns
unfolding holds
returns g c =
    let a = c.args in
    let p = a.list.part.now in
    let k = marks_thirds p a.t g.row.N c.min.result (c.count-last.result - g.row.N) a.marks.now (omega (arith, c.min.ensures)) (omega (arith, c.min.ensures))
    (omega (arith, c.min.ensures)) c.put_run.ensures c.put_run-2.ensures c.put_run-3.ensures in
    (marked_to {i = count p} (omega (arith, c.count-last.ensures)) k).marked
