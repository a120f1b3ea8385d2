use Rattle.trimmer.proofs.Numbering.{count_turn}
use Rattle.trimmer.proofs.number.count_marks.Goals as goal

pub loop-x-preserved : goal.loop-x-preserved
loop-x-preserved c =
    let a = c.args in
    let l = c.loop-x in
    count_turn a.marks.now a.from a.to l.x-index l.n _ c.requires.1 c.loop-x-test.true l.invariant.0 l.invariant.1 c.from-n.ensures
