-- `trimmer::read::cited_at` meets its contract: a number of the tail stands in the body.
-- Assumes nothing.
use Rattle.trimmer.proofs.Parts.{cited_number}
use Rattle.trimmer.proofs.read.cited_at.Goals as goal

pub returns : goal.returns
returns c = (cited_number c.args.b.now c.args.j c.tail_at.ensures.0 c.u32_at.ensures.0, c.u32_at.ensures.1)
