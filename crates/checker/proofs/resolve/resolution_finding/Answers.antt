-- `checker::resolve::resolution_finding` meets its contract: the form, the two steps that are cited, and what is left.
-- Assumes nothing.
use Rattle.std.proofs.Common.{sym, ◌∙◌, arith}
use Rattle.std.proofs.lemmas.Result.{err_from_is_err_and}
use Rattle.checker.proofs.Known.{formed_by, form_stop, form_more, own_room, resolvent_tail, first_within, second_within, forms, few_steps, step_at, step_is, resolution_is}
use Rattle.checker.proofs.Marking.{stale_later}
use Rattle.checker.proofs.resolve.resolution_finding.Goals as goal

pub form_finding-requires : goal.form_finding-requires
form_finding-requires c = sym c.requires.2

pub returns-in_err-form_finding : goal.returns-in_err-form_finding
returns-in_err-form_finding c =
    let h = c.requires in
    record { stale = (stale_later (omega arith) h.3); finding = (let p = err_from_is_err_and c.from_residual.result c.from_residual.ensures.1 in rw (p.1, p.2) (form_stop _ _ _ _ c.in_err-form_finding.ensures ∙ sym (step_is _ _ _ _ h.1))) }

pub invariant_of-body : goal.invariant_of-body
invariant_of-body c =
    let h = c.requires in
    let formed = formed_by _ _ _ c.in_ok-form_finding.ensures h.0.sheet in
    record { room = own_room _ _ _ formed }

pub invariant_of-x : goal.invariant_of-x
invariant_of-x c =
    let h = c.requires in
    let formed = formed_by _ _ _ c.in_ok-form_finding.ensures h.0.sheet in
    let all = forms _ _ _ formed _ h.0 h.2 c.cited.ensures (step_at _ _ _ h.4 c.body_at.ensures) c.cited-2.ensures (step_at _ _ _ h.4 c.body_at-2.ensures) in
    record { room = all.of_x.room }

pub invariant_of-y : goal.invariant_of-y
invariant_of-y c =
    let h = c.requires in
    let formed = formed_by _ _ _ c.in_ok-form_finding.ensures h.0.sheet in
    let all = forms _ _ _ formed _ h.0 h.2 c.cited.ensures (step_at _ _ _ h.4 c.body_at.ensures) c.cited-2.ensures (step_at _ _ _ h.4 c.body_at-2.ensures) in
    record { room = all.of_y.room }

pub cited-requires : goal.cited-requires
cited-requires c =
    let h = c.requires in
    let formed = formed_by _ _ _ c.in_ok-form_finding.ensures h.0.sheet in
    (omega arith, omega (arith, resolvent_tail _ _ _ formed h.2))

pub body_at-requires : goal.body_at-requires
body_at-requires c =
    let h = c.requires in
    let formed = formed_by _ _ _ c.in_ok-form_finding.ensures h.0.sheet in
    first_within _ _ _ formed _ h.0 h.2 h.4 c.cited.ensures

pub cited-requires-2 : goal.cited-requires-2
cited-requires-2 c =
    let h = c.requires in
    let formed = formed_by _ _ _ c.in_ok-form_finding.ensures h.0.sheet in
    (omega arith, omega (arith, resolvent_tail _ _ _ formed h.2))

pub body_at-requires-2 : goal.body_at-requires-2
body_at-requires-2 c =
    let h = c.requires in
    let formed = formed_by _ _ _ c.in_ok-form_finding.ensures h.0.sheet in
    second_within _ _ _ formed _ h.0 h.2 h.4 c.cited-2.ensures

pub resolvent_finding-requires : goal.resolvent_finding-requires
resolvent_finding-requires c =
    let h = c.requires in
    let formed = formed_by _ _ _ c.in_ok-form_finding.ensures h.0.sheet in (
      forms _ _ _ formed _ h.0 h.2 c.cited.ensures (step_at _ _ _ h.4 c.body_at.ensures)
          c.cited-2.ensures (step_at _ _ _ h.4 c.body_at-2.ensures),
      resolvent_tail _ _ _ formed h.2,
      h.3,
      few_steps _ _ _ h.0,
    )

pub returns : goal.returns
returns c =
    let h = c.requires in record {
      stale = (c.resolvent_finding.ensures.stale);
      finding = (c.resolvent_finding.ensures.finding
          ∙ form_more _ _ _ _ c.in_ok-form_finding.ensures
          ∙ sym (resolution_is _ _ _ _ h.1 h.2 c.cited.ensures (step_at _ _ _ h.4 c.body_at.ensures)
          c.cited-2.ensures (step_at _ _ _ h.4 c.body_at-2.ensures)));
    }
