-- `layout::read_u16` meets its contract. Where fewer than 2 bytes are left the high one is 0.
-- Assumes nothing.
use Prim.Native.Nat.{◌+◌}
use native.Mathlib.Omega.{arith}
use Rattle.layout.proofs.Number.{number_split, number_past}
use Rattle.layout.proofs.read_u16.Goals as goal

pub returns : goal.returns
returns c =
    let a = c.args in
    omega (arith, number_split a.s.now a.at 1 1, number_past a.s.now (a.at + 1) 1 (omega arith))
