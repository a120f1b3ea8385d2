-- `checker::marks::join_thirds` meets its contract: the first N, the last N, and N between them.
-- Assumes nothing.
use Rattle.std.proofs.Common.{◌-◌, arith}
use Rattle.judgement.specs.Literals.{count}
use Rattle.checker.specs.Marks.{mark_at}
use Rattle.checker.proofs.Marking.{joined_to, joins_thirds}
use Rattle.checker.proofs.marks.join_thirds.Goals as goal

pub returns : goal.returns
returns g c =
    let a = c.args in
    let p = a.list.part.now in
    joined_to {i = count p} (omega (arith, c.count-last.ensures))
    (joins_thirds p (mark_at a.marks.now) g.row.N c.min.result (c.count-last.result - g.row.N) a.x (omega (arith, c.min.ensures))
    (omega (arith, c.min.ensures)) (omega (arith, c.min.ensures)) c.join_run-a.ensures c.join_run-b.ensures c.join_run.ensures)
