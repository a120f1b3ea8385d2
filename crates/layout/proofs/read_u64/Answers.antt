-- `layout::read_u64` meets its contract. Where fewer than 8 bytes are left: the low half and, above it, the high one, which
-- is 0 where the file ends with the low one.
-- Assumes nothing.
use Prim.Native.Nat.{◌+◌}
use native.Mathlib.Omega.{arith}
use Rattle.layout.proofs.Number.{number_split, number_past}
use Rattle.layout.proofs.read_u64.Goals as goal

pub returns-then-left-le4 : goal.returns-then-left-le4
returns-then-left-le4 c =
    let a = c.args in
    omega (arith, number_split a.s.now a.at 4 4, number_past a.s.now (a.at + 4) 4 (omega arith))

pub returns : goal.returns
returns c =
    let a = c.args in
    omega (arith, number_split a.s.now a.at 4 4)
