use Rattle.checker.proofs.Marking.{join_on, joins_no, joins_two}
use Rattle.checker.proofs.marks.join_run.Goals as goal

pub loop-i-init : goal.loop-i-init
loop-i-init g c = joins_no

pub loop-i-preserved : goal.loop-i-preserved
loop-i-preserved g c = joins_two c.loop-i.i 1 c.loop-i.invariant (join_on c.join-all.ensures)
