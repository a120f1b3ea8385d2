use Rattle.std.proofs.Common.{refl, arith}
use Rattle.checker.proofs.FirstCondition.{asked_start, asked_more, asked_told}
use Rattle.checker.proofs.independent.first_condition.Goals as goal

pub loop-i-init : goal.loop-i-init
loop-i-init c = λ D list m. asked_start D _

pub loop-i-preserved : goal.loop-i-preserved
loop-i-preserved c =
    let e = c.code_in_form-c.ensures in
    λ D list m. asked_more (c.loop-i.invariant D list m) list m e.0 e.1 refl

pub returns-then-not-none_true : goal.returns-then-not-none_true
returns-then-not-none_true c =
    λ D list m. rw c.at.ensures (rw c.if-not-none_true.true at (asked_told c.args.k (c.loop-i.invariant D list m) (omega arith) list))

pub returns-then-not-positive : goal.returns-then-not-positive
returns-then-not-positive c =
    λ D list m.
    rw c.at-then-not-positive.ensures
    (rw (c.if-not-none_true.false, c.if-not-positive.true) at (asked_told c.args.k (c.loop-i.invariant D list m) (omega arith) list))

pub returns-then-not-some_unsettled : goal.returns-then-not-some_unsettled
returns-then-not-some_unsettled c =
    λ D list m.
    rw c.at-then-not-some_unsettled.ensures
    (rw (c.if-not-none_true.false, c.if-not-positive.false, c.if-not-some_unsettled.true) at
    (asked_told c.args.k (c.loop-i.invariant D list m) (omega arith) list))

pub returns : goal.returns
returns c =
    λ D list m.
    rw c.at-2.ensures
    (rw (c.if-not-none_true.false, c.if-not-positive.false, c.if-not-some_unsettled.false) at
    (asked_told c.args.k (c.loop-i.invariant D list m) (omega arith) list))
