-- `claims::is_satisfied` meets its contract. The invariant: none of i literals is true.
-- Assumes nothing.
use mathlib.Core.Path.{◌≡◌}
use mathlib.Core.Bool.{false}
use Rattle.judgement.specs.Scan.{any_of}
use Rattle.judgement.specs.Meaning.{literal_true}
use Rattle.judgement.specs.Literals.{code}
use Rattle.judgement.specs.Record.{assigned}
use Rattle.claims.proofs.is_satisfied.Given as goal

abbrev pub invariant-loop-i : goal.invariant-loop-i
invariant-loop-i l = any_of (λ j. literal_true (assigned l.r) (code l.part j)) l.i ≡ false
