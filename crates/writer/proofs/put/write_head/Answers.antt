-- `writer::put::write_head` meets its contract: three writes, one behind the other.
-- Assumes nothing.
use native.Mathlib.Omega.{arith}
use Rattle.writer.proofs.Raw.{head_written}
use Rattle.writer.proofs.put.write_head.Goals as goal

pub returns : goal.returns
returns c =
    let field = c.due_field in
    let a = c.args in
    head_written a.s.now a.end a.count a.out.now _ _ _ (omega arith) (omega arith) (omega arith) c.requires.3 field.ensures
    c.put_u16.ensures c.put_u16-2.ensures c.put_bytes.ensures
