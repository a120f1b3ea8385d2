use native.Mathlib.Omega.{arith}
use Rattle.judgement.proofs.Laws.Table.{bodies_start, bodies_turn}
use Rattle.writer.specs.Words.{body_of}
use Rattle.writer.proofs.put.Order.write_bodies.Goals as goal

pub loop-w-init : goal.loop-w-init
loop-w-init c = bodies_start (body_of c.args.self.now.clauses.sheet.now) c.args.self.now.words.now c.args.out.now

pub body_of-body-requires : goal.body_of-body-requires
body_of-body-requires c =
    (c.args.self.now.inside c.loop-w.w-index (omega arith)).0

pub loop-w-preserved : goal.loop-w-preserved
loop-w-preserved c =
    let l = c.loop-w in
    let a = c.args in
    bodies_turn (body_of a.self.now.clauses.sheet.now) a.self.now.words.now l.w-index l.at a.out.now l.out _ _ l.invariant (omega arith) c.requires
    c.body_of-body.ensures c.put_bytes.ensures
