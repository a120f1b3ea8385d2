use Rattle.std.proofs.Common.{◌+◌, ◌*◌, arith}
use Rattle.judgement.specs.Literals.{count, holds}
use Rattle.checker.proofs.Marking.{mark_none, marked_to}
use Rattle.checker.proofs.marks.mark_many.Goals as goal

pub loop-fours-init : goal.loop-fours-init
loop-fours-init c = mark_none c.args.list.part.now c.args.marks.now c.args.t

pub loop-fours-preserved : goal.loop-fours-preserved
loop-fours-preserved c =
    let l = c.loop-fours in
    marked_to {i = 4 * (l.fours + 1)} (omega arith) (c.put_run.ensures c.args.marks.now (4 * l.fours) (omega arith) l.invariant)

pub returns : goal.returns
unfolding holds
returns c =
    let a = c.args in
    let l = c.loop-fours in
    (marked_to {i = count a.list.part.now} (omega arith) (c.put_run-2.ensures a.marks.now (4 * l.fours) (omega arith) l.invariant)).marked
