-- `search::count::put_planes` meets its contract.
-- Assumes nothing.
use mathlib.Core.Path.{refl}
use native.Mathlib.Omega.{arith}
use Rattle.search.proofs.Slices.{wrote_four}
use Rattle.search.proofs.count.put_planes.Goals as goal

pub returns : goal.returns
returns c =
    let a = c.args in
    wrote_four a.table.now a.level.at a.i _ _ _ _ _ _ _ _ (omega (arith, a.level.inside)) c.requires refl refl refl refl
