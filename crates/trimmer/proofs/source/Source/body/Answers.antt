-- `trimmer::source::Source::body` meets its contract: the part that the pair names is the step's body.
-- Assumes nothing.
use Rattle.std.proofs.Common.{arith}
use Rattle.trimmer.proofs.Placed.{placed, part_is}
use Rattle.trimmer.proofs.source.Source.body.Goals as goal

pub overflow_mul-k : goal.overflow_mul-k
overflow_mul-k c = let p = placed c.args.self.now c.args.k c.requires in omega arith

pub overflow_add-self : goal.overflow_add-self
overflow_add-self c = let p = placed c.args.self.now c.args.k c.requires in omega arith

pub u32_at-start-requires : goal.u32_at-start-requires
u32_at-start-requires c = let p = placed c.args.self.now c.args.k c.requires in omega arith

pub slice_bounds-result-end : goal.slice_bounds-result-end
slice_bounds-result-end c = (part_is c.args.self.now c.args.k c.requires c.u32_at-start.ensures.0 c.body_size.ensures.0).0

pub returns : goal.returns
returns c = (part_is c.args.self.now c.args.k c.requires c.u32_at-start.ensures.0 c.body_size.ensures.0).1
