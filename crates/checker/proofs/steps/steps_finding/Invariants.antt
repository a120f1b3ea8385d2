-- `checker::steps::steps_finding` meets its contract. The loop's invariant: the first k steps are fine, and no mark has reached
-- those of step k + 1.
-- Assumes nothing.
use Rattle.std.proofs.Common.{◌≡◌, ◌+◌, ◌*◌}
use Rattle.std.specs.Prelude.{Ok}
use Rattle.judgement.specs.Finding.{over_all}
use Rattle.judgement.specs.Judgement.{step_finding}
use Rattle.checker.specs.Marks.{most_codes, Stale}
use Rattle.checker.proofs.steps.steps_finding.Given as goal

abbrev pub invariant-loop-k : goal.invariant-loop-k
invariant-loop-k l =
    (over_all (step_finding l.s l.r) l.k ≡ Ok tt)
    × Stale most_codes l.marks (2 * (l.k + 1))
    × Stale 1024 l.scratch.marks (4096 * (l.k + 1))
