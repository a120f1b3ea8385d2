use Rattle.turns.proofs.Answers.{size_start, size_one, size_turn, size_done}
use native.Mathlib.Omega.{arith}
use Rattle.turns.proofs.index_size.Goals as goal

pub loop-k-init : goal.loop-k-init
loop-k-init c = size_start c.args.s.now c.requires _ c.variable_count-n.ensures.0

pub overflow_add-size : goal.overflow_add-size
overflow_add-size c =
    let l = c.loop-k in
    let a = size_one c.args.s.now c.requires l.k _ (omega (arith, c.clause_count-m.ensures.0)) c.clause_of.ensures.bytes in
    omega (arith, a, l.invariant.most, l.invariant.within, c.clause_count-m.ensures.1, c.clause_count-m.ensures.0)

pub loop-k-preserved : goal.loop-k-preserved
loop-k-preserved c =
    let l = c.loop-k in
    size_turn c.args.s.now c.requires l.k l.size _ (omega (arith, c.clause_count-m.ensures.0)) c.clause_of.ensures.bytes l.invariant

pub returns : goal.returns
returns c =
    let l = c.loop-k in
    size_done c.args.s.now c.requires l.k l.size (omega (arith, c.clause_count-m.ensures.0)) l.invariant
