use mathlib.Core.Path.{refl}
use native.Mathlib.Omega.{arith}
use Rattle.judgement.specs.Finding.{over_all}
use Rattle.turns.proofs.Answers.{wrong_next, wrong_low, wrong_high}
use Rattle.turns.proofs.first_wrong.Goals as goal
use Rattle.turns.proofs.first_wrong.Goals.{then-v-lt1-via-then-v-lt1, then-v-lt1-via-else-v-lt1+then-n-v}

pub loop-i-init : goal.loop-i-init
unfolding over_all
loop-i-init c = refl

pub returns-then-v-lt1 : goal.returns-then-v-lt1
returns-then-v-lt1 c =
    let l = c.loop-i in
    elim c.then-v-lt1.branch [
      | then-v-lt1-via-then-v-lt1 w ↦ wrong_low c.args.n c.args.turns.now l.i (omega arith) l.invariant w.if-v-lt1.true
      | then-v-lt1-via-else-v-lt1+then-n-v w ↦ wrong_high c.args.n c.args.turns.now l.i (omega arith) l.invariant w.if-v-lt1.false w.if-n-v.true
    ]

pub loop-i-preserved : goal.loop-i-preserved
loop-i-preserved c = wrong_next c.args.n c.args.turns.now c.loop-i.i c.loop-i.invariant c.if-v-lt1.false c.if-n-v.false
