-- `trimmer::read::u32_at` meets its contract: the four bytes make the number by `number_split`.
-- Assumes nothing.
use native.Mathlib.Omega.{arith}
use Prim.Native.Nat.{◌+◌}
use Rattle.layout.proofs.Number.{number_split, number_byte}
use Rattle.trimmer.proofs.read.u32_at.Goals as goal

pub returns : goal.returns
returns c =
    let a = c.args in
    let s = a.part.now in
    let n = number_split s a.at 3 1 in
    let m = number_split s a.at 2 1 in
    let k = number_split s a.at 1 1 in
    (omega (arith, n, m, k, number_byte s a.at, number_byte s (a.at + 1), number_byte s (a.at + 2), number_byte s (a.at + 3), c.from_le_bytes.ensures), c.from_le_bytes.type_inv)
