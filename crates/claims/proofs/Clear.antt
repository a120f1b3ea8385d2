-- The bits that refusal 6 looks at, as the code asks for them.
-- Assumes nothing.
use Prim.Native.Nat.{ℕ, ◌+◌, ◌-◌, ◌*◌}
use mathlib.Core.Path.{◌≡◌}
use mathlib.Core.Bool.{Bool, not}
use mathlib.Core.List.{List}
use native.Mathlib.Nat.{zero-add}
use Rattle.judgement.specs.Scan.{all_of}
use Rattle.judgement.specs.Sheet.{variables}
use Rattle.judgement.specs.Record.{assigned, assignment_size, spare_clear, all_clear}

-- n is the number of variables, and x what the loop answers of so many after a first one
module _ (s r : List ℕ) {n : ℕ} {x : Bool} (e : n ≡ variables s) where
  pub spare_is : x ≡ all_of (λ i. not (assigned r (n + i))) (8 * assignment_size n - n) → x ≡ spare_clear s r
  unfolding spare_clear
  spare_is p = rw (← e) p

  pub all_is : x ≡ all_of (λ i. not (assigned r (0 + i))) n → x ≡ all_clear s r
  unfolding all_clear
  all_is p = rw (← e) (simp zero-add at p)
