use Rattle.std.proofs.Common.{◌∙◌}
use Rattle.checker.proofs.Bits.{held}
use Rattle.checker.proofs.Totals.{weighing_start, paid_small, first_total}
use Rattle.checker.proofs.linear.Scratch.bound_by.Goals as goal

pub loop-j-init : goal.loop-j-init
loop-j-init c =
    let d = c.u16_at-d in
    let s = c.args.priced.now.sheet.now in
    let paid = c.settle in
    let small = paid_small d.result paid.result d.ensures.1 paid.ensures.cost.1 in
    let e = held c.natural-sum.result c.natural-sum.type_inv ∙ c.natural-sum.ensures in (
      rw e small,
      weighing_start s c.args.list.now c.args.tail.now c.args.t paid.new.self.marks paid.new.self.rest c.requires.0.n c.requires.0.list paid.ensures.settled,
      first_total s c.args.list.now c.args.tail.now d.result paid.result c.requires.0.list d.ensures.0 paid.ensures.cost.0 e,
    )
