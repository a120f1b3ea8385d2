-- `checker::cost::cost_at` meets its contract: the costs begin at byte 4, so that of variable v stands at 4 v.
-- Assumes nothing.
use Rattle.std.proofs.Common.{◌≡◌, ◌+◌, ◌-◌, ◌*◌, arith}
use Rattle.checker.proofs.cost.cost_at.Goals as goal

pub returns : goal.returns
returns c =
    let place : 4 + 4 * (c.args.v - 1) ≡ 4 * c.args.v = omega (arith, c.requires.0) in
    (rw place c.u32_at.ensures.0, c.u32_at.ensures.1)
