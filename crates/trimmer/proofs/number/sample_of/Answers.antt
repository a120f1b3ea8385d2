-- `trimmer::number::sample_of` meets its contract: a division by 1 changes nothing.
-- Assumes nothing.
use native.Mathlib.Omega.{arith}
use mathlib.Core.Path.{◌≡◌}
use Rattle.trimmer.proofs.number.sample_of.Goals as goal

pub returns-then-w-eq1 : goal.returns-then-w-eq1
returns-then-w-eq1 c =
    let e : c.args.w ≡ 1 = omega arith in
    rw e (omega arith)
