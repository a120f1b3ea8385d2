use Rattle.std.proofs.Common.{ℕ, sym, arith}
use Rattle.judgement.specs.Sheet.{clauses}
use Rattle.layout.proofs.Literals.{rises_low, rises_high}
use Rattle.checker.proofs.Rising.{numbered, next}
use Rattle.checker.proofs.form.is_rising.Goals as goal
use Rattle.checker.proofs.form.is_rising.Goals.{then-c-before-via-then-c-before, then-c-before-via-else-c-before+then-m-c}

pub returns-then-c-before : goal.returns-then-c-before
returns-then-c-before c =
    let a = c.args in
    let f : ℕ → ℕ = numbered a.tail.now a.from a.apart in
    let v = next a.tail.now a.from a.apart c.loop-j.j c.u32_at-c.ensures.0 in
    elim c.then-c-before.branch [
      | then-c-before-via-then-c-before w ↦ sym (rises_low f (clauses a.s.now) c.loop-j.j v c.loop-j.invariant.0 _ (omega arith) w.if-c-before.true)
      | then-c-before-via-else-c-before+then-m-c w ↦
          sym (rises_high f (clauses a.s.now) c.loop-j.j v c.loop-j.invariant.0 _ (omega arith) (omega arith) (omega arith))
    ]
