-- `trimmer::put::put_citing` meets its contract: the body, and two numbers over its citations.
-- Assumes nothing.
use Rattle.trimmer.proofs.Parts.{citing_put}
use Rattle.trimmer.proofs.put.put_citing.Goals as goal

pub returns : goal.returns
returns c =
    let a = c.args in
    let h = c.requires in
    citing_put a.b.now a.x a.y a.out.now _ _ _ h.0 h.1 c.put_bytes.ensures c.tail_at-e.ensures.0 c.put_pair.ensures
