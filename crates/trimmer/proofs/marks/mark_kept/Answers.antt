use mathlib.Core.Path.{◌≡◌, refl, ◌∙◌}
use lib.ListN.{length}
use native.Mathlib.Omega.{arith}
use Prim.Native.Nat.{◌+◌, ◌-◌}
use Rattle.judgement.specs.Record.{steps}
use Rattle.judgement.specs.Facts.{Among}
use Rattle.trimmer.proofs.Marking.{marks_start, marks_next, marks_end}
use Rattle.trimmer.proofs.Steps.{citing_of}
use Rattle.trimmer.proofs.Placed.{passed}
use Rattle.trimmer.proofs.marks.mark_kept.Goals as goal

pub mark_last-requires : goal.mark_last-requires
mark_last-requires c = let p = passed c.args.source.now in let h = p.before.stored.layout.t in omega arith

pub loop-k-init : goal.loop-k-init
loop-k-init c =
    let x = c.args.source.now in
    c.mark_last.ensures ∙ marks_start x.sheet.now x.«record».now (length c.args.marks.now) c.requires (length c.mark_last.new.marks)

pub loop-k-preserved : goal.loop-k-preserved
loop-k-preserved c =
    let x = c.args.source.now in
    let l = c.loop-k in
    let z : l.k - 1 + 1 ≡ l.k = omega arith in
    let w : Among (steps x.«record».now) l.k = (omega arith, omega arith) in
    let n : length c.mark_last.new.marks ≡ steps x.«record».now = omega arith in
    marks_next x.sheet.now x.«record».now _ n l.k l.marks _ (rw n w)
    (citing_of x.sheet.now x.«record».now x.table (passed x) l.k w (steps x.«record».now) w.1 refl) l.invariant (rw z at c.pass_on.ensures)

pub returns : goal.returns
returns c =
    let x = c.args.source.now in
    let l = c.loop-k in
    let z : l.k ≡ 0 = omega arith in
    record {
      passed = passed x;
      marks_are = marks_end x.sheet.now x.«record».now (length c.mark_last.new.marks) (omega arith) l.marks (rw z at l.invariant);
    }
