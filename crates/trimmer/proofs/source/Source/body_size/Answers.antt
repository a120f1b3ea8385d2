-- `trimmer::source::Source::body_size` meets its contract: the pair has the body's length.
-- Assumes nothing.
use Rattle.std.proofs.Common.{arith}
use Rattle.trimmer.proofs.Placed.{placed, size_of}
use Rattle.trimmer.proofs.source.Source.body_size.Goals as goal

pub overflow_mul-k : goal.overflow_mul-k
overflow_mul-k c = let p = placed c.args.self.now c.args.k c.requires in omega arith

pub overflow_add-self : goal.overflow_add-self
overflow_add-self c = let p = placed c.args.self.now c.args.k c.requires in omega arith

pub overflow_add-self-2 : goal.overflow_add-self-2
overflow_add-self-2 c = let p = placed c.args.self.now c.args.k c.requires in omega arith

pub u32_at-requires : goal.u32_at-requires
u32_at-requires c = let p = placed c.args.self.now c.args.k c.requires in omega arith

pub returns : goal.returns
returns c = (size_of c.args.self.now c.args.k c.requires c.u32_at.ensures.0, c.u32_at.ensures.1)
