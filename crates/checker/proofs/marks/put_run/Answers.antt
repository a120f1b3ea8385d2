use Rattle.std.proofs.Common.{◌≡◌, arith}
use Rattle.checker.proofs.Marking.{put_one, marks_no, marks_two}
use Rattle.checker.proofs.marks.put_run.Goals as goal

pub loop-i-init : goal.loop-i-init
loop-i-init g c = marks_no

pub loop-i-preserved : goal.loop-i-preserved
loop-i-preserved g c =
    let l = c.loop-i in
    marks_two l.i 1 l.invariant (put_one c.put.ensures c.args.list.in_form (omega arith) c.put.array_long)

pub returns : goal.returns
returns g c =
    let e : c.loop-i.i ≡ g.row.N = omega arith in
    rw e at c.loop-i.invariant
