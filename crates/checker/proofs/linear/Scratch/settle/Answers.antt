use Rattle.std.proofs.Common.{◌≡◌, ◌∙◌, arith}
use Rattle.judgement.specs.Literals.{count}
use Rattle.checker.proofs.Bits.{held}
use Rattle.checker.proofs.Cited.{list_within}
use Rattle.checker.proofs.Pricing.{summed_none, summed_fits, summed_more, summed_all}
use Rattle.checker.proofs.Meeting.{settling_start, settling_more}
use Rattle.checker.proofs.linear.Scratch.settle.Goals as goal

pub loop-i-init : goal.loop-i-init
loop-i-init c =
    let self = c.args.self.now in
    (settling_start c.args.part.now c.args.t self.marks self.rest c.requires.0 self.whole, summed_none _ _)

pub overflow_add-sum : goal.overflow_add-sum
overflow_add-sum c =
    let p = c.args.priced.now in
    summed_fits p.bytes p.valid p.priced.falsified c.requires.1 c.loop-i.invariant.1 (omega arith) c.code_in_form-c.ensures.0

pub loop-i-preserved : goal.loop-i-preserved
loop-i-preserved c =
    let p = c.args.priced.now in
    let l = c.loop-i in
    let e = c.code_in_form-c.ensures in
    let list = list_within _ 1024 p.valid.n.1 c.requires.1 in
    let begin = held c.far-begin.result c.far-begin.type_inv ∙ c.far-begin.ensures in (
      settling_more c.args.part.now l.i c.args.t l.self.marks l.self.rest list (omega arith) e.0 e.1 begin l.invariant.0,
      summed_more p.bytes p.valid p.priced.falsified c.requires.1 l.invariant.1 (omega arith) e.0,
    )

pub returns : goal.returns
returns c =
    let p = c.args.priced.now in
    let l = c.loop-i in
    let end : l.i ≡ count c.args.part.now = omega arith in
    record { settled = rw end at l.invariant.0; cost = summed_all p.bytes p.valid p.priced.falsified c.requires.1 l.invariant.1 end }
