use mathlib.Core.Path.{refl, ap}
use native.Mathlib.Omega.{arith}
use lib.ListN.{length, get_or}
use Rattle.judgement.specs.Writer.{joined}
use Rattle.judgement.proofs.Laws.Table.{size_next}
use Rattle.writer.specs.Words.{number_of, body_of}
use Rattle.writer.proofs.Raw.{clause_size}
use Rattle.writer.proofs.put.Order.bodies_size.Goals as goal

pub loop-w-init : goal.loop-w-init
unfolding joined
loop-w-init c = (refl, omega arith)

pub body_of-requires : goal.body_of-requires
body_of-requires c =
    (c.args.self.now.inside c.loop-w.w-index (omega arith)).0

pub loop-w-preserved : goal.loop-w-preserved
loop-w-preserved c =
    let s = c.args.self.now.clauses.sheet.now in
    let l = c.loop-w in
    let e = ap length c.body_of.ensures in
    let z = clause_size s (number_of (get_or c.args.self.now.words.now l.w-index 0)) in
    let n = size_next (body_of s) c.args.self.now.words.now l.w-index (omega arith) in
    (omega (arith, e, n), omega (arith, e, z))
