-- `search::propagate::look_word` meets its contract.
-- Assumes nothing.
use Prim.Native.Nat.{◌-◌}
use mathlib.Core.Logic.{inl, inr}
use native.Mathlib.Omega.{arith}
use lib.Bits.{and_le_l}
use Rattle.search.proofs.Walking.{word_inside, rest_part, word_first, word_next, word_last}
use Rattle.search.proofs.propagate.look_word.Goals as goal

pub loop-x-init : goal.loop-x-init
loop-x-init c =
    let a = c.args in
    record { word = omega arith; part = λ j t. t; looked = word_first a.tables.now a.i a.bits a.w }

pub returns-in_err-out-clause-keeps : goal.returns-in_err-out-clause-keeps
returns-in_err-out-clause-keeps c =
    let a = c.args in
    let l = c.loop-x in
    let here = word_inside a.i l.x (omega arith) l.invariant.word a.tables.now.size.clauses (λ j w t. c.requires.1 j w (l.invariant.part j t)) in
    let e = word_last a.tables.now a.i a.bits a.w c.look.result _ (inl c.in_err-out.was)
    (word_next a.tables.now a.i a.bits a.w l.out c.look.result l.x (omega arith) l.invariant.word here c.look.ensures l.invariant.looked) in
    rw (c.from_residual.ensures, ← c.in_err-out.was) e.1

pub loop-x-preserved : goal.loop-x-preserved
loop-x-preserved c =
    let a = c.args in
    let l = c.loop-x in
    let here = word_inside a.i l.x (omega arith) l.invariant.word a.tables.now.size.clauses (λ j w t. c.requires.1 j w (l.invariant.part j t)) in
    record {
      word = let b = and_le_l l.x (l.x - 1) in let s = l.invariant.word in omega (arith, b, s);
      part = λ j t. l.invariant.part j (rest_part l.x j t);
      looked = rw (← c.in_ok-out.was)
          (word_next a.tables.now a.i a.bits a.w l.out c.look.result l.x (omega arith) l.invariant.word here c.look.ensures l.invariant.looked);
    }

pub returns-clause-keeps : goal.returns-clause-keeps
returns-clause-keeps c =
    let a = c.args in
    let l = c.loop-x in
    (word_last a.tables.now a.i a.bits a.w _ l.x (inr (omega arith)) l.invariant.looked).1
