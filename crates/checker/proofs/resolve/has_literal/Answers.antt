use Rattle.std.proofs.Common.{◌+◌, sym, ◌∙◌, arith, eq-eqb}
use Rattle.judgement.specs.Literals.{count, holds}
use Rattle.judgement.proofs.Laws.Scan.{any_at}
use Rattle.checker.proofs.resolve.has_literal.Goals as goal

pub returns-then-code-c : goal.returns-then-code-c
unfolding holds
returns-then-code-c c =
    let l = c.loop-i in
    let a = c.args in
    let e = sym c.code.ensures.0 ∙ c.if-code-c.true in
    sym (any_at _ (count a.list.part.now) (l.i + 1) (omega arith, omega arith) (eq-eqb _ _ e))
