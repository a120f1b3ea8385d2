use Prim.Native.Nat.{ℕ, ◌*◌}
use mathlib.Core.Path.{refl, ap, ◌∙◌}
use mathlib.Core.List.{List}
use native.Mathlib.Omega.{arith}
use lib.ListN.{length}
use Rattle.judgement.specs.Number.{number_at}
use Rattle.turns.proofs.Clauses.{counting_start, counting_takes, counting_turn, counting_done}
use Rattle.turns.proofs.index.count_clause.Goals as goal

pub loop-i-init : goal.loop-i-init
loop-i-init c =
    let a = c.args in
    counting_start a.s.now a.k a.index.now c.requires.2

pub raise-requires : goal.raise-requires
raise-requires c =
    let a = c.args in
    let l = c.loop-i in
    let e = ap length c.clause_of-part.ensures.bytes in
    counting_takes a.s.now c.requires.0 a.k c.requires.1 l.i (omega (arith, e)) _ _
    (c.u16_at-v.ensures ∙ ap (λ (p : List ℕ). number_at p (2 * l.i) 2) c.clause_of-part.ensures.bytes) refl a.index.now l.index l.invariant

pub loop-i-preserved : goal.loop-i-preserved
loop-i-preserved c =
    let a = c.args in
    let l = c.loop-i in
    let e = ap length c.clause_of-part.ensures.bytes in
    let t = counting_turn a.s.now c.requires.0 a.k c.requires.1 l.i (omega (arith, e)) _ _
    (c.u16_at-v.ensures ∙ ap (λ (p : List ℕ). number_at p (2 * l.i) 2) c.clause_of-part.ensures.bytes) refl a.index.now l.index l.invariant in
    rw c.raise.ensures t

pub returns : goal.returns
returns c =
    let a = c.args in
    let l = c.loop-i in
    let e = ap length c.clause_of-part.ensures.bytes in
    counting_done a.s.now a.k l.i a.index.now l.index c.requires.1.0 l.invariant (omega (arith, e))
