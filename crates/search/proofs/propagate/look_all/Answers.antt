-- `search::propagate::look_all` meets its contract.
-- Assumes nothing.
use Prim.Native.Nat.{◌+◌}
use mathlib.Core.Logic.{inl, inr}
use native.Mathlib.Omega.{arith}
use Rattle.search.proofs.Walking.{all_first, all_next, all_last}
use Rattle.search.proofs.propagate.look_all.Goals as goal

pub loop-k-init : goal.loop-k-init
loop-k-init c = let a = c.args in all_first a.tables.now a.w

pub returns-in_err-out-clause-keeps : goal.returns-in_err-out-clause-keeps
returns-in_err-out-clause-keeps c =
    let a = c.args in
    let l = c.loop-k in
    let e = all_last a.tables.now a.w c.look.result (l.k + 1) (inl c.in_err-out.was)
    (all_next a.tables.now a.w l.out c.look.result l.k (omega arith) c.look.ensures l.invariant) in
    rw (c.from_residual.ensures, ← c.in_err-out.was) e.1

pub loop-k-preserved : goal.loop-k-preserved
loop-k-preserved c =
    let a = c.args in
    let l = c.loop-k in
    rw (← c.in_ok-out.was) (all_next a.tables.now a.w l.out c.look.result l.k (omega arith) c.look.ensures l.invariant)

pub returns-clause-keeps : goal.returns-clause-keeps
returns-clause-keeps c =
    let a = c.args in
    let l = c.loop-k in
    (all_last a.tables.now a.w _ l.k (inr (omega arith)) l.invariant).1
