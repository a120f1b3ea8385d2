-- `search::fill::sets_of` meets its contract.
-- Assumes nothing.
use mathlib.Core.Path.{refl, ◌∙◌}
use native.Mathlib.Omega.{arith}
use lib.ListN.{length-set}
use Rattle.search.proofs.Entering.{next_among, zeros, gathered_none, gathered_all, sets_more}
use Rattle.search.proofs.fill.sets_of.Goals as goal

pub loop-i-init : goal.loop-i-init
loop-i-init c = record { size = refl; each = λ odd l. rw (zeros 2 odd) (gathered_none c.args.part.now odd) }

pub overflow_sub-sets : goal.overflow_sub-sets
overflow_sub-sets c = let w = next_among c.args.part.now c.loop-i.i c.requires (omega arith) c.read_u16-c.ensures.0 in omega (arith, w.0)

pub overflow_shl-sets : goal.overflow_shl-sets
overflow_shl-sets c = let w = next_among c.args.part.now c.loop-i.i c.requires (omega arith) c.read_u16-c.ensures.0 in omega (arith, w.1)

pub loop-i-preserved : goal.loop-i-preserved
loop-i-preserved c =
    let a = c.args in
    let l = c.loop-i in
    let r = c.read_u16-c in
    record {
      size = length-set l.sets _ _ ∙ l.invariant.size;
      each = sets_more a.part.now l.sets r.result l.i l.invariant.size (next_among a.part.now l.i c.requires (omega arith) r.ensures.0) r.ensures.0 l.invariant.each;
    }

pub returns : goal.returns
returns c =
    λ odd v small.
    let l = c.loop-i in
    gathered_all c.args.part.now odd _ l.i (l.invariant.each odd small) (omega arith) v
