use Rattle.std.proofs.Common.{◌≡◌, refl, arith}
use Rattle.judgement.specs.Step.{cited_count}
use Rattle.judgement.proofs.Laws.Scan.{clash}
use Rattle.checker.proofs.Cited.{next_within, next_form}
use Rattle.checker.proofs.Conditions.{cleared_start, next_stop, next_below, next_more, bound_fault, bound_fine}
use Rattle.checker.proofs.independent.set_finding.Goals as goal

pub loop-j-init : goal.loop-j-init
loop-j-init c =
    let settled = c.mark_settled-sum.ensures in
    cleared_start c.literals-list.ensures settled.marked settled.cost.0 settled.cost.1

pub clause-clause-requires : goal.clause-clause-requires
clause-clause-requires c =
    next_within c.args.priced.now.sheet.now c.args.b.bytes.now c.loop-j.j c.requires.0 c.tail-tail.ensures c.u32_at.ensures.0 (omega arith)

pub look_at-requires : goal.look_at-requires
look_at-requires c =
    let list =
    next_form c.args.priced.now.sheet.now c.args.b.bytes.now c.loop-j.j c.requires.0 c.tail-tail.ensures c.u32_at.ensures.0 (omega arith)
    c.clause-clause.ensures in
    (c.loop-j.invariant.marked.stale, list, omega arith)

pub clause_finding-requires : goal.clause_finding-requires
clause_finding-requires c =
    let list =
    next_form c.args.priced.now.sheet.now c.args.b.bytes.now c.loop-j.j c.requires.0 c.tail-tail.ensures c.u32_at.ensures.0
    (omega (arith, c)) c.clause-clause.ensures in
    (c.look_at.ensures.stale, rw c.literals-list.ensures c.requires.0.list, list, omega arith)

pub returns-in_default : goal.returns-in_default
returns-in_default c =
    let p = c.args.priced.now in
    let stop =
    next_stop p.sheet.now c.args.b.bytes.now c.requires.0 p.bytes c.tail-tail.ensures c.u32_at.ensures.0 (omega (arith, c))
    c.clause-clause.ensures c.loop-j.invariant p.priced.unsettled c.in_default.ensures.tells refl
    (rw c.literals-list.ensures at c.clause_finding.ensures) in
    record { stale = (λ fine. absurd (clash fine stop.0)); finding = (stop.1) }

pub overflow_add-sum : goal.overflow_add-sum
overflow_add-sum c =
    let p = c.args.priced.now in
    let low =
    next_below p.sheet.now c.args.b.bytes.now c.requires.0 p.bytes c.tail-tail.ensures c.u32_at.ensures.0 (omega (arith, c))
    c.clause-clause.ensures c.loop-j.invariant p.priced.unsettled c.in-Some.ensures.tells refl in
    omega (arith, low)

pub loop-j-preserved : goal.loop-j-preserved
loop-j-preserved c =
    let p = c.args.priced.now in
    next_more p.sheet.now c.args.b.bytes.now c.requires.0 p.bytes c.tail-tail.ensures c.u32_at.ensures.0 (omega (arith, c))
    c.clause-clause.ensures c.loop-j.invariant p.priced.unsettled c.in-Some.ensures.tells refl

pub returns-then-bound-with_loss-clause-finding : goal.returns-then-bound-with_loss-clause-finding
returns-then-bound-with_loss-clause-finding c =
    let l = c.loop-j in
    let end : l.j ≡ cited_count c.args.b.bytes.now = rw (← c.tail-tail.ensures) (omega arith) in
    rw c.at.ensures (bound_fault l.invariant end c.bound.ensures c.with_loss.ensures c.if-bound-with_loss.true)

pub returns-clause-finding : goal.returns-clause-finding
returns-clause-finding c =
    let l = c.loop-j in
    let end : l.j ≡ cited_count c.args.b.bytes.now = rw (← c.tail-tail.ensures) (omega arith) in
    bound_fine l.invariant end c.bound.ensures c.with_loss.ensures c.if-bound-with_loss.false
