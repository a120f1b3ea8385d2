-- `trimmer::marks::mark_last` meets its contract: zeros, and 1 at the last place.
-- Assumes nothing.
use Rattle.trimmer.proofs.Marking.{last_set}
use Rattle.trimmer.proofs.marks.mark_last.Goals as goal

pub returns : goal.returns
returns c = last_set c.args.marks.now c.fill.new.self c.requires c.fill.ensures.len (c.fill.ensures.after (λ y h. h))
