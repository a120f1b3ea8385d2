-- `claims::is_clear` meets its contract. The invariant: i variables after `from` are false.
-- Assumes nothing.
use Prim.Native.Nat.{◌+◌}
use mathlib.Core.Path.{◌≡◌}
use mathlib.Core.Bool.{true, not}
use Rattle.judgement.specs.Scan.{all_of}
use Rattle.judgement.specs.Record.{assigned}
use Rattle.claims.proofs.is_clear.Given as goal

abbrev pub invariant-loop-i : goal.invariant-loop-i
invariant-loop-i l = all_of (λ j. not (assigned l.r (l.from + j))) l.i ≡ true
