-- `checker::linear::Scratch::linear_finding` meets its contract: the form, and what is left.
-- Assumes nothing.
use Rattle.checker.proofs.Known.{formed_by, own_room, weighable_step}
use Rattle.checker.proofs.linear.Scratch.linear_finding.Goals as goal

pub invariant_of-weighted_finding : goal.invariant_of-weighted_finding
invariant_of-weighted_finding c = record { room = own_room _ _ _ (formed_by _ _ _ c.in_ok-form_finding.ensures c.args.priced.now.valid) }

pub weighted_finding-requires : goal.weighted_finding-requires
weighted_finding-requires c =
    (weighable_step _ _ _ (formed_by _ _ _ c.in_ok-form_finding.ensures c.args.priced.now.valid) c.requires.0, c.requires.1)
