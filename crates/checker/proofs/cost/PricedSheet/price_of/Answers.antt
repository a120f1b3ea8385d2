use Rattle.std.proofs.Common.{arith}
use Rattle.checker.proofs.Pricing.{summed_none, summed_fits, summed_more, summed_all}
use Rattle.checker.proofs.cost.PricedSheet.price_of.Goals as goal

pub loop-i-init : goal.loop-i-init
loop-i-init c = summed_none _ _

pub overflow_add-sum : goal.overflow_add-sum
overflow_add-sum c =
    let p = c.args.self.now in
    summed_fits p.bytes p.valid p.priced.falsified c.requires c.loop-i.invariant (omega arith) c.code_in_form.ensures.0

pub loop-i-preserved : goal.loop-i-preserved
loop-i-preserved c =
    let p = c.args.self.now in
    summed_more p.bytes p.valid p.priced.falsified c.requires c.loop-i.invariant (omega arith) c.code_in_form.ensures.0

pub returns : goal.returns
returns c =
    let p = c.args.self.now in
    let all = summed_all p.bytes p.valid p.priced.falsified c.requires c.loop-i.invariant (omega arith) in
    (all.0, omega (arith, all.1))
