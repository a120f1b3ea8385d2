-- `search::clause::look` meets its contract.
-- Assumes nothing.
use Prim.Native.Nat.{◌≤◌}
use mathlib.Core.Path.{refl}
use native.Mathlib.Omega.{arith}
use Rattle.search.specs.Work.{node_of, is_false, is_quiet}
use Rattle.search.proofs.Units.{rest_none, rest_two, rest_true, rest_either}
use Rattle.search.proofs.clause.look.Goals as goal

pub returns-then-rest-eq0 : goal.returns-then-rest-eq0
returns-then-rest-eq0 c =
    λ n small fine.
    let a = c.args in
    let f = c.not_false-rest in
    is_false (rest_none n a.a a.b small fine (node_of a.w) f.result (omega arith) f.ensures c.if-rest-eq0.true) refl

pub returns-then-rest-ne0 : goal.returns-then-rest-ne0
returns-then-rest-ne0 c =
    λ n small fine.
    let a = c.args in
    let f = c.not_false-rest in
    let some : 1 ≤ f.result = omega (arith, c.if-rest-eq0.false) in
    is_quiet (rest_two n a.a a.b small fine (node_of a.w) f.result (omega arith) f.ensures some c.if-rest-ne0.true) refl

pub returns-then-rest-w-ne0 : goal.returns-then-rest-w-ne0
returns-then-rest-w-ne0 c =
    λ n small fine.
    let a = c.args in
    let f = c.not_false-rest in
    let some : 1 ≤ f.result = omega (arith, c.if-rest-eq0.false) in
    is_quiet (rest_true n a.a a.b small fine (node_of a.w) f.result (omega arith) f.ensures some c.if-rest-w-ne0.true) refl

pub returns : goal.returns
returns c =
    λ n small fine.
    let a = c.args in
    let f = c.not_false-rest in
    let some : 1 ≤ f.result = omega (arith, c.if-rest-eq0.false) in
    rest_either n a.a a.b f.result a.w small fine (omega arith) f.ensures some c.if-rest-ne0.false c.if-rest-w-ne0.false _ _ (grind arith)
