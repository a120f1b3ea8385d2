-- `claims::ones_in_bytes` meets its contract. The invariant: the sum is that of the bytes done, at most 8 for each.
-- Assumes nothing.
use Prim.Native.Nat.{◌+◌, ◌-◌, ◌*◌, ◌≤◌}
use mathlib.Core.Path.{◌≡◌}
use lib.ListN.{get_or}
use Rattle.judgement.specs.Scan.{sum_of}
use Rattle.judgement.specs.Record.{assignment_at}
use Rattle.claims.specs.Ones.{ones_of}
use Rattle.claims.proofs.ones_in_bytes.Given as goal

abbrev pub invariant-loop-done : goal.invariant-loop-done
invariant-loop-done l =
    (l.sum ≡ sum_of (λ j. ones_of (get_or l.r (assignment_at + (j - 1)) 0)) l.done) × (l.sum ≤ 8 * l.done)
