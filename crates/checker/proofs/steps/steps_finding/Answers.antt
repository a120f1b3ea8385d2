use Rattle.std.proofs.Common.{arith}
use Rattle.judgement.proofs.Laws.Findings.{over_none}
use Rattle.checker.specs.Marks.{most_codes}
use Rattle.checker.proofs.Marking.{unmarked}
use Rattle.checker.proofs.steps.steps_finding.Goals as goal

pub loop-k-init : goal.loop-k-init
loop-k-init c = (over_none _, unmarked most_codes (omega arith), unmarked 1024 (omega arith))
