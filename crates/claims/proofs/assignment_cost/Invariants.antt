-- `claims::assignment_cost` meets its contract. The invariant: the sum is that of v variables, each of at most 32 bits.
-- Assumes nothing.
use Prim.Native.Nat.{◌*◌, ◌^◌, ◌≤◌}
use mathlib.Core.Path.{◌≡◌}
use mathlib.Core.Bool.{cond}
use Rattle.judgement.specs.Scan.{sum_of}
use Rattle.judgement.specs.Sheet.{cost_of}
use Rattle.judgement.specs.Record.{assigned}
use Rattle.claims.proofs.assignment_cost.Given as goal

abbrev pub invariant-loop-v : goal.invariant-loop-v
invariant-loop-v l = (l.sum ≡ sum_of (λ j. cond (assigned l.r j) (cost_of l.s j) 0) l.v) × (l.sum ≤ 2 ^ 32 * l.v)
