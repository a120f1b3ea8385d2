-- `turns::place::put_u16` meets its contract. Two stores are one patch.
-- Assumes nothing.
use mathlib.Core.Path.{◌∙◌}
use native.Mathlib.Omega.{arith}
use Rattle.judgement.specs.Writer.{bytes_of}
use Rattle.turns.proofs.Stores.{two_bytes, two_put}
use Rattle.turns.proofs.place.put_u16.Goals as goal

pub returns : goal.returns
unfolding bytes_of
returns c =
    let a = c.args in
    rw (c.to_le_bytes.ensures ∙ two_bytes a.x) (two_put a.x a.at a.out.now (omega arith))
