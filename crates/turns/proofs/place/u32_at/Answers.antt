-- `turns::place::u32_at` meets its contract.
-- Assumes nothing.
use Prim.Native.Nat.{◌+◌}
use mathlib.Core.Path.{◌≡◌}
use native.Mathlib.Omega.{arith}
use Rattle.judgement.specs.Number.{number_at}
use Rattle.turns.proofs.place.u32_at.Goals as goal

pub returns : goal.returns
unfolding number_at
returns c =
    let at = c.args.at in
    let e : at + 1 + 1 ≡ at + 2 = omega arith in
    let f : at + 2 + 1 ≡ at + 3 = omega arith in
    (rw (e, f) (omega arith), omega arith)
