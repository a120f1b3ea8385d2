use native.Mathlib.Omega.{arith}
use borrow.Author.Tests.{eq-eqb, ne_eqb}
use Rattle.layout.proofs.Pairs.{pairs_last}
use Rattle.layout.proofs.pairs_finding.Goals as goal

pub returns-then-next-s : goal.returns-then-next-s
returns-then-next-s c =
    let l = c.loop-k in
    let a = c.args in
    let e = pairs_last a.number a.s.now a.at a.count l.k l.invariant.0 l.invariant.1 (omega arith) in
    rw (e, ne_eqb _ _ c.if-next-s.true)

pub returns : goal.returns
returns c =
    let l = c.loop-k in
    let a = c.args in
    let e = pairs_last a.number a.s.now a.at a.count l.k l.invariant.0 l.invariant.1 (omega arith) in
    rw (e, eq-eqb _ _ c.if-next-s.false)
