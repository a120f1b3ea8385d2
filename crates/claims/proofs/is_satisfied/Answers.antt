use mathlib.Core.Path.{sym, ◌∙◌}
use native.Mathlib.Omega.{arith}
use Rattle.judgement.specs.Meaning.{literal_true}
use Rattle.judgement.specs.Literals.{code}
use Rattle.judgement.specs.Record.{assigned, satisfied}
use Rattle.layout.proofs.Loops.{any_stop}
use Rattle.layout.proofs.Literals.{code_next}
use Rattle.claims.proofs.is_satisfied.Goals as goal

pub returns-then-is_literal_true : goal.returns-then-is_literal_true
unfolding satisfied
returns-then-is_literal_true c =
    let a = c.args in
    let l = c.loop-i in
    let e = code_next a.part.now l.i c.read_u16.ensures.0 in
    sym
    (any_stop (λ j. literal_true (assigned a.r.now) (code a.part.now j)) l.i _ (omega arith)
    (rw (← e) (sym c.is_literal_true.ensures ∙ c.if-is_literal_true.true)))
