-- `checker::signed::plus` meets its contract: the sum of two small numbers fits, in whichever order they are added.
-- Assumes nothing.
use Rattle.std.proofs.Common.{◌∙◌}
use Rattle.std.proofs.Math.IntN.{+ℤ_comm}
use Rattle.checker.proofs.Bits.{held, plus_small, plus_back}
use Rattle.checker.proofs.signed.plus.Goals as goal

pub overflow_add-result : goal.overflow_add-result
overflow_add-result c =
    let a = c.args in
    let x = held a.x c.ranges.x.sfits in
    let y = held a.y c.ranges.y.sfits in
    let p = c.requires in
    search (plus_small, x, y, p.0, p.1)

pub returns : goal.returns
returns c =
    let a = c.args in
    let x = held a.x c.ranges.x.sfits in
    let y = held a.y c.ranges.y.sfits in
    let p = c.requires in
    search (plus_back a.x a.y x y p.0 p.1, plus_back a.y a.x y x p.1 p.0 ∙ +ℤ_comm a.y a.x)
