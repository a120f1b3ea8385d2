-- `checker::resolve::resolve` meets its contract. The marks of the step's literals stay, and tell of both premises.
-- Assumes nothing.
use Rattle.std.proofs.Common.{◌+◌, ◌∙◌, refl, arith}
use Rattle.judgement.specs.Meaning.{positive, negative}
use Rattle.checker.specs.Marks.{mark_at, Marked, with_marks}
use Rattle.checker.proofs.Marking.{stale_later}
use Rattle.checker.proofs.Resolution.{marked_stale, marked_covered, marked_unused, premises_told}
use Rattle.checker.proofs.resolve.resolve.Goals as goal

pub has_rest-x-requires : goal.has_rest-x-requires
has_rest-x-requires c =
    let m = c.mark in
    let a = c.args in
    let D = a.d.part.now in
    let E = a.marks.now in
    let stale = stale_later {u = a.t + 1 + 1} (omega arith) c.requires.0 in (
      stale_later (omega arith) (marked_stale D E (a.t + 1) stale m.new.marks m.ensures m.array_long),
      marked_unused D E a.t c.requires.0 m.new.marks m.ensures,
      omega arith,
      c.requires.2,
      omega arith,
    )

pub has_rest-y-requires : goal.has_rest-y-requires
has_rest-y-requires c =
    let a = c.args in
    let D = a.d.part.now in
    let E = a.marks.now in
    let same = c.has_rest-x.ensures.same in
    let stale = stale_later {u = a.t + 1 + 1} (omega arith) c.requires.0 in
    let marks : Marked c.has_rest-x.new.marks (with_marks D (a.t + 1) (mark_at E)) = λ i. same i ∙ c.mark.ensures i in (
      stale_later (omega arith) (marked_stale D E (a.t + 1) stale c.has_rest-x.new.marks marks c.has_rest-x.array_long),
      marked_unused D E a.t c.requires.0 c.has_rest-x.new.marks marks,
      omega arith,
      c.requires.2,
      omega arith,
    )

pub returns : goal.returns
returns c =
    let a = c.args in
    let A = a.a.part.now in
    let B = a.b.part.now in
    let D = a.d.part.now in
    let E = a.marks.now in
    let ex = c.has_rest-x.ensures in
    let ey = c.has_rest-y.ensures in
    let here = stale_later {u = a.t + 1} (omega arith) c.requires.0 in
    let stale = stale_later {u = a.t + 1 + 1} (omega arith) c.requires.0 in
    let marks-1 = c.mark.ensures in
    let marks-a : Marked c.has_rest-x.new.marks (with_marks D (a.t + 1) (mark_at E)) = λ i. ex.same i ∙ marks-1 i in
    let marks-b : Marked c.has_rest-y.new.marks (with_marks D (a.t + 1) (mark_at E)) = λ i. ey.same i ∙ marks-a i in
    let of-a = rw (marked_covered D E (a.t + 1) here c.mark.new.marks marks-1 A (positive a.p)) at ex.rest in
    let of_b = rw (marked_covered D E (a.t + 1) here c.has_rest-x.new.marks marks-a B (negative a.p)) at ey.rest in record { stale = (stale_later (omega arith) (marked_stale D E (a.t + 1) stale c.has_rest-y.new.marks marks-b c.has_rest-y.array_long)); resolves = (premises_told A B D a.p of-a of_b refl) }
