use Rattle.std.proofs.Common.{◌≡◌, refl, arith, length-set}
use Rattle.judgement.specs.Scan.{any_of}
use Rattle.judgement.specs.Literals.{count}
use Rattle.checker.proofs.Cited.{list_within}
use Rattle.checker.proofs.Pricing.{summed_none, summed_fits, summed_more, summed_all}
use Rattle.checker.proofs.Conditions.{settled_more, marks_start}
use Rattle.checker.proofs.independent.mark_settled.Goals as goal

pub loop-i-init : goal.loop-i-init
unfolding any_of
loop-i-init c = (c.requires.0.size, λ d. refl, summed_none _ _)

pub overflow_add-sum : goal.overflow_add-sum
overflow_add-sum c =
    let p = c.args.priced.now in
    summed_fits p.bytes p.valid p.priced.falsified c.requires.1 c.loop-i.invariant.2 (omega arith) c.code_in_form-c.ensures.0

pub loop-i-preserved : goal.loop-i-preserved
loop-i-preserved c =
    let p = c.args.priced.now in
    let l = c.loop-i in
    let e = c.code_in_form-c.ensures in
    let list = list_within _ 1024 p.valid.n.1 c.requires.1 in (
      simp length-set l.invariant.0,
      settled_more c.args.part.now l.i list (omega arith) e.0 c.args.t c.args.marks.now l.marks l.invariant.0 e.1 l.invariant.1,
      summed_more p.bytes p.valid p.priced.falsified c.requires.1 l.invariant.2 (omega arith) e.0,
    )

pub returns : goal.returns
returns c =
    let p = c.args.priced.now in
    let l = c.loop-i in
    let part = c.args.part.now in
    let end : l.i ≡ count part = omega arith in
    let list = list_within _ 1024 p.valid.n.1 c.requires.1 in
    let all = summed_all p.bytes p.valid p.priced.falsified c.requires.1 l.invariant.2 end in
    record {
      marked = marks_start part c.args.t c.args.marks.now l.marks list c.requires.0 l.invariant.0 (rw end at l.invariant.1);
      cost = (all.0, omega (arith, all.1));
    }
