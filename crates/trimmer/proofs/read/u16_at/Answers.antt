-- `trimmer::read::u16_at` meets its contract: the two bytes make the number by `number_split`.
-- Assumes nothing.
use native.Mathlib.Omega.{arith}
use Prim.Native.Nat.{◌+◌}
use Rattle.layout.proofs.Number.{number_split, number_byte}
use Rattle.trimmer.proofs.read.u16_at.Goals as goal

pub returns : goal.returns
returns c =
    let a = c.args in
    let s = a.part.now in
    omega (arith, number_split s a.at 1 1, number_byte s a.at, number_byte s (a.at + 1), c.from_le_bytes.ensures)
