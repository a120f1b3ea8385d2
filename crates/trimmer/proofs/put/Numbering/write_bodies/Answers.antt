use native.Mathlib.Omega.{arith}
use lib.ListN.{length}
use Rattle.judgement.proofs.Laws.Buffer.{length_from}
use Rattle.trimmer.proofs.Loops.{bodies_start, bodies_fit, bodies_turn}
use Rattle.trimmer.proofs.Placed.{s, r}
use Rattle.trimmer.proofs.put.Numbering.write_bodies.Goals as goal

pub loop-k-init : goal.loop-k-init
loop-k-init c = let x = c.args.self.now.selection in bodies_start (s x.source) (r x.source) c.args.out.now

pub write_body-pos-requires : goal.write_body-pos-requires
write_body-pos-requires c =
    let x = c.args.self.now.selection in
    let l = c.loop-k in
    let z = bodies_fit (s x.source) (r x.source) (length x.marks.now) c.args.out.now c.requires l.k l.pos l.out l.invariant (omega arith) in
    let f = length_from l.pos l.out in
    ((omega arith, omega arith), omega arith)

pub loop-k-preserved : goal.loop-k-preserved
loop-k-preserved c =
    let x = c.args.self.now.selection in
    let l = c.loop-k in
    let y = c.write_body-pos.ensures in
    bodies_turn (s x.source) (r x.source) (length x.marks.now) c.args.out.now c.requires l.k l.pos l.out _ _ l.invariant (omega arith) y.0 y.1
