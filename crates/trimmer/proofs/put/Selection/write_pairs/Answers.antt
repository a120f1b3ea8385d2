use native.Mathlib.Omega.{arith}
use lib.ListN.{length}
use Rattle.judgement.proofs.Laws.Buffer.{length_from}
use Rattle.trimmer.proofs.Numbering.{byte_one}
use Rattle.trimmer.proofs.Loops.{bodies_within, bodies_room, pairs_start, pairs_fit, pairs_turn}
use Rattle.trimmer.proofs.Placed.{s, r, selected}
use Rattle.trimmer.proofs.put.Selection.write_pairs.Goals as goal

pub loop-k-init : goal.loop-k-init
loop-k-init c = let x = c.args.self.now in pairs_start (s x.source) (r x.source) c.args.start c.args.out.now

pub overflow_cast-next : goal.overflow_cast-next
overflow_cast-next c =
    let x = c.args.self.now in
    let l = c.loop-k in
    let z = bodies_within (s x.source) (r x.source) (length x.marks.now) l.k (omega arith) in
    omega (arith, z, l.invariant.next_is)

pub put_pair_if-requires : goal.put_pair_if-requires
put_pair_if-requires c =
    let x = c.args.self.now in
    let l = c.loop-k in
    let z = pairs_fit (s x.source) (r x.source) x.source.table x.marks.now (selected x) c.args.start c.args.out.now c.requires.1 l.k l.next l.at l.out _ l.invariant (omega arith) c.kept_size-size.ensures.0 in
    let f = length_from l.at l.out in
    omega arith

pub overflow_add-next : goal.overflow_add-next
overflow_add-next c =
    let x = c.args.self.now in
    let l = c.loop-k in
    let z = bodies_room (s x.source) (r x.source) (length x.marks.now) l.k (omega arith) in
    omega (arith, z, l.invariant.next_is, c.kept_size-size.ensures.0)

pub loop-k-preserved : goal.loop-k-preserved
loop-k-preserved c =
    let x = c.args.self.now in
    let l = c.loop-k in
    pairs_turn (s x.source) (r x.source) x.source.table x.marks.now (selected x) c.args.start c.args.out.now c.requires.1 l.k l.next l.at l.out _ _ _ l.invariant (omega arith)
    c.kept_size-size.ensures.0 (byte_one _ c.from.ensures).0 c.put_pair_if.ensures
