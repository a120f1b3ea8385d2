-- `checker::finding_of` meets its contract, the stages by the definition, which its attribute opens: the steps are asked of files that are
-- laid out as they have to be.
-- Assumes nothing.
use Rattle.std.proofs.Common.{arith}
use Rattle.checker.proofs.Judged.{valid_after, layout_after}
use Rattle.checker.proofs.finding_of.Goals as goal

pub steps_finding-requires : goal.steps_finding-requires
steps_finding-requires c =
    (valid_after c.args.s.now c.in_ok-sheet_finding.ensures (omega arith), layout_after c.args.s.now c.args.r.now c.in_ok-record_finding.ensures (omega arith))
