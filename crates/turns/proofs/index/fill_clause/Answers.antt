use Rattle.turns.proofs.Clauses.{filling_start, filling_takes, filling_turn, filling_done, entry_is}
use Rattle.judgement.specs.Number.{number_at}
use mathlib.Core.List.{List}
use lib.ListN.{length}
use native.Mathlib.Omega.{arith}
use mathlib.Core.Path.{refl, ap, ◌∙◌}
use Prim.Native.Nat.{◌*◌, ℕ}
use Rattle.turns.proofs.index.fill_clause.Goals as goal

pub loop-i-init : goal.loop-i-init
loop-i-init c =
    let a = c.args in
    filling_start a.s.now a.k a.index.now c.requires.2

pub file-requires : goal.file-requires
file-requires c =
    let a = c.args in
    let l = c.loop-i in
    let e = ap length c.clause_of-part.ensures.bytes in
    filling_takes a.s.now c.requires.0 a.k c.requires.1 l.i (omega (arith, e)) _ _
    (c.u16_at-c.ensures ∙ ap (λ (p : List ℕ). number_at p (2 * l.i) 2) c.clause_of-part.ensures.bytes) refl a.index.now l.index l.invariant

pub loop-i-preserved : goal.loop-i-preserved
loop-i-preserved c =
    let a = c.args in
    let l = c.loop-i in
    let e = ap length c.clause_of-part.ensures.bytes in
    let t = filling_turn a.s.now c.requires.0 a.k c.requires.1 l.i (omega (arith, e)) _ _
    (c.u16_at-c.ensures ∙ ap (λ (p : List ℕ). number_at p (2 * l.i) 2) c.clause_of-part.ensures.bytes) refl a.index.now l.index l.invariant in
    let z = entry_is a.s.now c.requires.0 a.k c.requires.1 l.i (omega (arith, e)) _ _
    (c.u16_at-c.ensures ∙ ap (λ (p : List ℕ). number_at p (2 * l.i) 2) c.clause_of-part.ensures.bytes) refl in
    rw (c.file.ensures, z) t

pub returns : goal.returns
returns c =
    let a = c.args in
    let l = c.loop-i in
    let e = ap length c.clause_of-part.ensures.bytes in
    filling_done a.s.now a.k l.i a.index.now l.index c.requires.1.0 l.invariant (omega (arith, e))
