-- `checker::linear::Scratch::weighted_finding` meets its contract: 23, and then 24.
-- Assumes nothing.
use Rattle.std.proofs.Common.{arith}
use Rattle.judgement.specs.Step.{literals, tail}
use Rattle.checker.proofs.Totals.{divisor_some, weighable_as, weights_fault, bound_fault, bound_fine}
use Rattle.checker.proofs.linear.Scratch.weighted_finding.Goals as goal

pub returns-then-not-is_weighted-clause-finding : goal.returns-then-not-is_weighted-clause-finding
returns-then-not-is_weighted-clause-finding c =
    rw c.at.ensures
    (weights_fault c.args.priced.now.sheet.now c.args.b.bytes.now c.args.k c.tail-tail.ensures c.is_weighted.ensures c.if-not-is_weighted.true)

pub bound_by-requires : goal.bound_by-requires
bound_by-requires c = (
  weighable_as c.args.priced.now.sheet.now (literals c.args.b.bytes.now) (tail c.args.b.bytes.now) c.literals-list.ensures c.tail-tail.ensures c.requires.0,
  divisor_some c.tail-tail.result.now c.is_weighted.ensures c.if-not-is_weighted.false,
  c.requires.1,
  omega arith,
)

pub returns-then-bound-bound_by-clause-finding : goal.returns-then-bound-bound_by-clause-finding
returns-then-bound-bound_by-clause-finding c =
    rw c.at-then-bound-bound_by.ensures
    (bound_fault c.args.priced.now.sheet.now c.args.b.bytes.now c.args.k c.tail-tail.ensures c.literals-list.ensures c.is_weighted.ensures c.if-not-is_weighted.false c.bound.ensures c.bound_by.ensures.bound c.if-bound-bound_by.true)

pub returns-clause-finding : goal.returns-clause-finding
returns-clause-finding c =
    bound_fine c.args.priced.now.sheet.now c.args.b.bytes.now c.args.k c.tail-tail.ensures c.literals-list.ensures c.is_weighted.ensures c.if-not-is_weighted.false c.bound.ensures c.bound_by.ensures.bound c.if-bound-bound_by.false
