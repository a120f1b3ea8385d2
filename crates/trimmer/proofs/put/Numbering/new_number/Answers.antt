-- `trimmer::put::Numbering::new_number` meets its contract: a sample, and the marks behind it.
-- Assumes nothing.
use native.Mathlib.Omega.{arith}
use Rattle.trimmer.proofs.Numbering.{number_found}
use Rattle.trimmer.proofs.put.Numbering.new_number.Goals as goal

pub overflow_add-result : goal.overflow_add-result
overflow_add-result c =
    let x = c.args.self.now in
    let z = number_found x.counts.now x.selection.marks.now x.w c.args.x _ x.sampled c.requires c.sample_of-i.ensures _ _ c.u32_at.ensures.0 c.count_marks.ensures in
    omega (arith, z.1)

pub overflow_cast-result : goal.overflow_cast-result
overflow_cast-result c =
    let x = c.args.self.now in
    let z = number_found x.counts.now x.selection.marks.now x.w c.args.x _ x.sampled c.requires c.sample_of-i.ensures _ _ c.u32_at.ensures.0 c.count_marks.ensures in
    omega (arith, z.1)
