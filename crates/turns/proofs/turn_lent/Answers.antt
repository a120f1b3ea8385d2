-- `turns::turn_lent` meets its contract: the sheet's own findings first, then 29 and 30, then the turns.
-- That the list which is looked at is that of all turns is found by `search`, however it is spelled: the answers cite no spelling of it.
-- Assumes nothing.
use Rattle.turns.proofs.Answers.{valid_by, refused_sheet, wrong_told, no_room_told, wrong_turn_told, all_turned_told}
use Rattle.turns.proofs.When.{enough_is, fine_all}
use Rattle.turns.specs.Turning.{lent}
use Rattle.std.proofs.lemmas.Result.{err_from_is_err_and}
use Rattle.judgement.specs.Sheet.{variables}
use mathlib.Core.Path.{◌∙◌, sym}
use lib.Seq.{take-length}
use Rattle.turns.proofs.turn_lent.Goals as goal

pub returns-in_err-alone_finding : goal.returns-in_err-alone_finding
returns-in_err-alone_finding c =
    let q = refused_sheet c.args.s.now c.args.turns.now (lent c.args.a.now c.args.index.now c.args.counts.now) c.in_err-alone_finding.field-0.0 c.in_err-alone_finding.ensures in
    let p = err_from_is_err_and c.from_residual.result c.from_residual.ensures.1 in
    rw (p.1, p.2) q

pub index_size-end-requires : goal.index_size-end-requires
index_size-end-requires c = valid_by c.args.s.now c.args.turns.now (lent c.args.a.now c.args.index.now c.args.counts.now) c.in_ok-alone_finding.ensures

pub has_room-requires : goal.has_room-requires
has_room-requires c = (valid_by c.args.s.now c.args.turns.now (lent c.args.a.now c.args.index.now c.args.counts.now) c.in_ok-alone_finding.ensures, c.index_size-end.ensures.0)

pub returns-then-not-has_room : goal.returns-then-not-has_room
returns-then-not-has_room c =
    let q = no_room_told c.args.s.now c.args.turns.now (lent c.args.a.now c.args.index.now c.args.counts.now) c.in_ok-alone_finding.ensures (sym c.has_room.ensures ∙ c.if-not-has_room.true) in
    rw (c.into.ensures, c.at.ensures) q

pub returns-in-Some : goal.returns-in-Some
returns-in-Some c =
    let w = wrong_told c.args.s.now c.args.turns.now _ _ _ _ (search take-length) c.variable_count-n.ensures.0 c.first_wrong.ensures c.in-Some.is in
    rw c.number.ensures (wrong_turn_told c.args.s.now c.args.turns.now (lent c.args.a.now c.args.index.now c.args.counts.now) _ c.in_ok-alone_finding.ensures (sym c.has_room.ensures ∙ c.if-not-has_room.false) w)

pub run-requires : goal.run-requires
run-requires c =
    let a = c.args in
    let w = wrong_told a.s.now a.turns.now _ _ _ _ (search take-length) c.variable_count-n.ensures.0 c.first_wrong.ensures c.in_default.is in
    let r = enough_is a.s.now (lent a.a.now a.index.now a.counts.now) (sym c.has_room.ensures ∙ c.if-not-has_room.false) in
    (valid_by a.s.now a.turns.now (lent a.a.now a.index.now a.counts.now) c.in_ok-alone_finding.ensures, c.index_size-end.ensures.0, fine_all (variables a.s.now) a.turns.now w, r)

pub returns : goal.returns
returns c =
    let a = c.args in
    let w = wrong_told a.s.now a.turns.now _ _ _ _ (search take-length) c.variable_count-n.ensures.0 c.first_wrong.ensures c.in_default.is in
    all_turned_told a.s.now a.turns.now (lent a.a.now a.index.now a.counts.now) _ _ c.in_ok-alone_finding.ensures (sym c.has_room.ensures ∙ c.if-not-has_room.false) w c.run.ensures
