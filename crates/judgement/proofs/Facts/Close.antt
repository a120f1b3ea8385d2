-- The close: step t closes, falls short of the claim, or stays open; the test is fine in the first two cases, and 19 in the third.
-- Assumes nothing.
use Prim.Native.Nat.{ℕ, ◌<◌}
use mathlib.Core.Path.{◌≡◌, refl, sym, ◌∙◌}
use mathlib.Core.Bool.{or-true, and-false}
use mathlib.Core.List.{List}
use mathlib.Core.Logic.{◌≢◌, ◌⊎◌, inl, inr}
use native.Mathlib.Omega.{arith}
use native.Mathlib.Decide.{dec_lt, ℕ_discrete}
use lib.Dec.{eqb}
use borrow.Author.Tests.{eq-eqb, ne_eqb, le-leb, lt-leb}
use Rattle.judgement.specs.Finding.{fault}
use Rattle.judgement.specs.Meaning.{none}
use Rattle.judgement.specs.Record.{claim, steps, last_step}
use Rattle.judgement.specs.Step.{literal_count, bound}
use Rattle.judgement.specs.Judgement.{close}
use Rattle.judgement.specs.Facts.{Closes, FallsShort, StaysOpen, literals_left, none_unproved}
use Rattle.judgement.proofs.Laws.Findings.{IsFine, not_fine, fine_is, fault_has}

module _ (s r : List ℕ) where
  -- it is one of the three
  three_ways : (Closes s r ⊎ FallsShort s r) ⊎ StaysOpen s r
  three_ways = go (ℕ_discrete (literal_count (last_step s r)) 0) (dec_lt (bound (last_step s r)) (claim r)) (ℕ_discrete (claim r) none)
    where
      go : Dec (literal_count (last_step s r) ≡ 0) → Dec (bound (last_step s r) < claim r) → Dec (claim r ≡ none)
          → (Closes s r ⊎ FallsShort s r) ⊎ StaysOpen s r
      go (no some) below claimed = inr (literals_left some)
      go (yes empty) (no reached) claimed = inl (inl (record { empty = empty; reaches = omega (arith, reached) }))
      go (yes empty) (yes below) (no some) = inl (inr (record { some = some; empty = empty; below = below }))
      go (yes empty) (yes below) (yes claimed) = inr (none_unproved claimed below)

  pub closes_fine : Closes s r → IsFine (close s r)
  unfolding close
  closes_fine h =
      rw (eq-eqb (literal_count (last_step s r)) 0 h.empty, le-leb (claim r) (bound (last_step s r)) h.reaches, or-true)

  -- of a cost, whatever the bound
  pub cost_fine : literal_count (last_step s r) ≡ 0 → claim r ≢ none → IsFine (close s r)
  unfolding close
  cost_fine empty some = rw (eq-eqb (literal_count (last_step s r)) 0 empty, ne_eqb (claim r) none some)

  pub open_fault : StaysOpen s r → close s r ≡ fault 19 (steps r)
  unfolding close
  open_fault (literals_left some) = rw (ne_eqb (literal_count (last_step s r)) 0 some)
  open_fault (none_unproved claimed below) =
      rw (eq-eqb (claim r) none claimed, lt-leb (claim r) (bound (last_step s r)) below, and-false (eqb (literal_count (last_step s r)) 0))

  pub close_facts : IsFine (close s r) → Closes s r ⊎ FallsShort s r
  close_facts fine = elim three_ways [
    | inl shut ↦ shut
    | inr stays ↦ absurd (not_fine (sym (fine_is (close s r) fine) ∙ open_fault stays))
  ]

  pub fault_open : (P : ℕ) → close s r ≡ fault 19 P → (P ≡ steps r) × StaysOpen s r
  fault_open P e = elim three_ways [
    | inl (inl closes) ↦ absurd (not_fine (sym (fine_is (close s r) (closes_fine closes)) ∙ e))
    | inl (inr short) ↦ absurd (not_fine (sym (fine_is (close s r) (cost_fine short.empty short.some)) ∙ e))
    | inr stays ↦ (fault_has (λ N P. P ≡ steps r) (fault 19 (steps r)) refl (sym (open_fault stays) ∙ e), stays)
  ]
