use native.Mathlib.Omega.{arith}
use Rattle.judgement.proofs.Laws.Table.{pairs_start, pairs_turn}
use Rattle.writer.specs.Words.{body_of}
use Rattle.writer.proofs.put.Order.write_pairs.Goals as goal

pub loop-i-init : goal.loop-i-init
loop-i-init c = pairs_start (body_of c.args.self.now.clauses.sheet.now) c.args.self.now.words.now c.args.start c.args.out.now

pub body_of-size-requires : goal.body_of-size-requires
body_of-size-requires c =
    (c.args.self.now.inside c.loop-i.i (omega arith)).0

pub loop-i-preserved : goal.loop-i-preserved
loop-i-preserved c =
    let l = c.loop-i in
    let a = c.args in
    pairs_turn (body_of a.self.now.clauses.sheet.now) a.self.now.words.now a.start l.i l.next a.out.now l.out c.put_pair.new.out c.body_of-size.result.now
    l.invariant (omega arith) c.requires.room c.body_of-size.ensures (grind (arith, c.put_pair.ensures))
