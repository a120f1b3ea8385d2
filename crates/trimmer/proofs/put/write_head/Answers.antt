-- `trimmer::put::write_head` meets its contract: three parts, one behind the other.
-- Assumes nothing.
use native.Mathlib.Omega.{arith}
use Rattle.trimmer.proofs.Parts.{head_put}
use Rattle.trimmer.proofs.Placed.{head_room}
use Rattle.trimmer.proofs.put.write_head.Goals as goal

pub slice_bounds-put_bytes-end : goal.slice_bounds-put_bytes-end
slice_bounds-put_bytes-end c = let h = head_room c.args.source.now in omega arith

pub slice_bounds-put_bytes-end-3 : goal.slice_bounds-put_bytes-end-3
slice_bounds-put_bytes-end-3 c = let h = head_room c.args.source.now in omega arith

pub returns : goal.returns
returns c =
    let a = c.args in
    let h = head_room a.source.now in
    head_put a.source.now.«record».now a.source.now.table a.count a.out.now _ _ _ h.0 h.1 c.requires c.put_bytes.ensures c.put_u32.ensures c.put_bytes-2.ensures
