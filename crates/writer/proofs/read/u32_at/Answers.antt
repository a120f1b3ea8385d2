-- `writer::read::u32_at` meets its contract: the bytes make the number by `number_split`.
-- Assumes nothing.
use native.Mathlib.Omega.{arith}
use Rattle.layout.proofs.Number.{number_split, number_byte}
use Rattle.writer.proofs.read.u32_at.Goals as goal

pub returns : goal.returns
returns c =
    let a = c.args in
    let s = a.part.now in
    let one = number_split s a.at 1 1 in
    let two = number_split s a.at 2 1 in
    let three = number_split s a.at 3 1 in
    omega (arith, number_byte s)
