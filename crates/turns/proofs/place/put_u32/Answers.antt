-- `turns::place::put_u32` meets its contract. Four stores are one patch.
-- Assumes nothing.
use mathlib.Core.Path.{◌∙◌}
use native.Mathlib.Omega.{arith}
use Rattle.judgement.specs.Writer.{bytes_of}
use Rattle.turns.proofs.Stores.{four_bytes, four_put}
use Rattle.turns.proofs.place.put_u32.Goals as goal

pub returns : goal.returns
unfolding bytes_of
returns c =
    let a = c.args in
    rw (c.to_le_bytes.ensures ∙ four_bytes a.x) (four_put a.x a.at a.out.now (omega arith))
