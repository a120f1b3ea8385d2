-- `trimmer::trim_into` meets its contract: the record's refusal, 27, or what `write_if_room` answers.
-- Assumes nothing.
use native.Mathlib.Omega.{arith}
use borrow.Author.Tests.{eq-eqb}
use Rattle.checker.proofs.Judged.{step_count_is}
use Rattle.trimmer.proofs.Whole.{refused_record, few_marks_lem, marks_put, marks_written, passed_by}
use Rattle.trimmer.proofs.trim_into.Goals as goal

pub returns-then-answer-ne0 : goal.returns-then-answer-ne0
returns-then-answer-ne0 c =
    let a = c.args in
    let t = refused_record a.sheet.now a.«record».now a.marks.now a.out.now _ c.judge-answer.ensures.answer (λ q. omega (arith, q)) in
    record { answer = t.0; marked = t.1; buffer = t.2 }

pub returns-then-marks-t : goal.returns-then-marks-t
returns-then-marks-t c =
    let a = c.args in
    let ok = passed_by a.sheet.now a.«record».now _ c.judge-answer.ensures.answer (omega arith) in
    let n = step_count_is a.sheet.now a.«record».now _ c.judge-answer.ensures.answer (eq-eqb c.judge-answer.result.number 0 (omega arith)) in
    let t = few_marks_lem a.sheet.now a.«record».now a.marks.now a.out.now ok (omega (arith, n)) in
    record { answer = rw c.at.ensures t.0; marked = t.1; buffer = t.2 }

pub returns : goal.returns
returns c =
    let a = c.args in
    let ok = passed_by a.sheet.now a.«record».now _ c.judge-answer.ensures.answer (omega arith) in
    let n = step_count_is a.sheet.now a.«record».now _ c.judge-answer.ensures.answer (eq-eqb c.judge-answer.result.number 0 (omega arith)) in
    let t = marks_written a.sheet.now a.«record».now a.marks.now a.out.now ok _ _ _ (omega (arith, n)) (marks_put a.sheet.now a.«record».now a.marks.now _ _ n c.mark_kept.ensures.marks_are) (c.write_if_room.ensures.answer, c.write_if_room.ensures.buffer) in
    record { answer = t.0; marked = t.1; buffer = t.2 }
