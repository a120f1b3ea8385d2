-- `checker::show` meets its contract: the bytes of the part that is shown, and its place in the file that it names.
-- Assumes nothing.
use Rattle.checker.proofs.Judged.{of_sheet, of_record}
use Rattle.checker.proofs.show.Goals as goal

pub returns-then-p : goal.returns-then-p
returns-then-p c =
    let a = c.args in
    let p = c.shown_part-p.ensures in
    let r = of_sheet a.sheet.now a.«record».now a.step a.sheet.ref_ptr a.«record».ref_ptr p.part p.inside c.if-p.true c.part_of.ensures.bytes c.part_of.ensures.place in
    record { bytes = r.0; place = r.1 }

pub returns : goal.returns
returns c =
    let a = c.args in
    let p = c.shown_part-p.ensures in
    let r = of_record a.sheet.now a.«record».now a.step a.sheet.ref_ptr a.«record».ref_ptr p.part p.inside c.if-p.false c.part_of-2.ensures.bytes c.part_of-2.ensures.place in
    record { bytes = r.0; place = r.1 }
