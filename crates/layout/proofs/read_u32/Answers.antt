-- `layout::read_u32` meets its contract. Where fewer than 4 bytes are left: the low half and, above it, the high one. Where the
-- file ends with the low one, the high one is 0: the check finds that by `number_short`, which the function's attribute names.
-- Assumes nothing.
use native.Mathlib.Omega.{arith}
use Rattle.layout.proofs.Number.{number_split}
use Rattle.layout.proofs.read_u32.Goals as goal

pub returns : goal.returns
returns c =
    let a = c.args in
    omega (arith, number_split a.s.now a.at 2 2)
