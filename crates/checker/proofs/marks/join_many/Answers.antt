use Rattle.std.proofs.Common.{◌+◌, ◌*◌, arith}
use Rattle.judgement.specs.Literals.{count}
use Rattle.checker.specs.Marks.{mark_at}
use Rattle.checker.proofs.Marking.{join_none, joined_to}
use Rattle.checker.proofs.marks.join_many.Goals as goal

pub loop-fours-init : goal.loop-fours-init
loop-fours-init c = join_none c.args.list.part.now (mark_at c.args.marks.now) c.args.x

pub loop-fours-preserved : goal.loop-fours-preserved
loop-fours-preserved c =
    let l = c.loop-fours in
    joined_to {i = 4 * (l.fours + 1)} (omega arith) (c.join_run-all.ensures c.args.x (4 * l.fours) (omega arith) l.invariant)

pub returns : goal.returns
returns c =
    let a = c.args in
    let l = c.loop-fours in
    joined_to {i = count a.list.part.now} (omega arith) (c.join_run.ensures a.x (4 * l.fours) (omega arith) l.invariant)
