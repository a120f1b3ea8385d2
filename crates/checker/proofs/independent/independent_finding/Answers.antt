-- `checker::independent::independent_finding` meets its contract: the form, and what is left.
-- Assumes nothing.
use Rattle.checker.proofs.Known.{formed_by, own_room, citable_step}
use Rattle.checker.proofs.independent.independent_finding.Goals as goal

pub invariant_of-set_finding : goal.invariant_of-set_finding
invariant_of-set_finding c = record { room = own_room _ _ _ (formed_by _ _ _ c.in_ok-form_finding.ensures c.args.priced.now.valid) }

pub set_finding-requires : goal.set_finding-requires
set_finding-requires c =
    (citable_step _ _ _ (formed_by _ _ _ c.in_ok-form_finding.ensures c.args.priced.now.valid) c.requires.0, c.requires.1)
