-- `checker::cost::PricedSheet::cost_finding` meets its contract. What is compared is the step's bound and what its literals cost, with
-- the loss.
-- Assumes nothing.
use Rattle.std.proofs.Common.{◌∙◌}
use Rattle.checker.proofs.Known.{own_room, own_layout, form_more, formed_by}
use Rattle.checker.proofs.Pricing.{cost_other, cost_same}
use Rattle.checker.proofs.cost.PricedSheet.cost_finding.Goals as goal

pub invariant_of-body : goal.invariant_of-body
invariant_of-body c = record { room = own_room _ _ _ (formed_by _ _ _ c.in_ok-form_finding.ensures c.args.self.now.valid) }

pub price_of-paid-requires : goal.price_of-paid-requires
price_of-paid-requires c =
    let formed = formed_by _ _ _ c.in_ok-form_finding.ensures c.args.self.now.valid in
    rw c.literals.ensures (own_layout _ _ _ formed).list

pub returns-then-bound-with_loss : goal.returns-then-bound-with_loss
returns-then-bound-with_loss c =
    rw c.at.ensures
    (cost_other _ _ c.args.k c.literals.ensures c.bound.ensures c.price_of-paid.ensures.0 c.with_loss.ensures c.if-bound-with_loss.true
    ∙ form_more _ _ _ _ c.in_ok-form_finding.ensures)

pub returns : goal.returns
returns c =
    cost_same _ _ c.args.k c.literals.ensures c.bound.ensures c.price_of-paid.ensures.0 c.with_loss.ensures c.if-bound-with_loss.false
    ∙ form_more _ _ _ _ c.in_ok-form_finding.ensures
