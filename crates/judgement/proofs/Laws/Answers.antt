-- Laws of the names of answers: what each says of number, gap and cost.
-- Assumes nothing.
use Prim.Native.Nat.{◌<◌}
use mathlib.Core.Path.{◌≡◌}
use mathlib.Core.Bool.{true, false, not, ◌&&◌, not-or_self}
use mathlib.Core.Logic.{◌≢◌, ◌⊎◌, inl, inr}
use native.Mathlib.Omega.{arith}
use native.Mathlib.Decide.{dec_lt}
use lib.Dec.{eqb}
use borrow.Author.Tests.{eq-eqb, eqb-true, ne_eqb}
use Rattle.judgement.specs.declared.Answer.{Answer}
use Rattle.judgement.specs.Meaning.{none}
use Rattle.judgement.specs.Judgement.{passes, says_least, says_none, says_within, accepts}
use Rattle.judgement.proofs.Laws.Scan.{and_l, and_r, or_l, or_r, or_e, not_e, false_i}

module _ (a : Answer) where
  -- ---- acceptance

  pub accepts_passes : accepts a ≡ true → passes a ≡ true
  accepts_passes e = elim (or_e (says_least a) (says_none a) e) [ inl p ↦ search (p, and_l) | inr p ↦ search (p, and_l) ]

  pub accepts_gap : accepts a ≡ true → a.gap ≡ 0
  accepts_gap e = elim (or_e (says_least a) (says_none a) e) [
    | inl p ↦ eqb-true a.gap 0 (search (p, and_l, and_r) depth 12)
    | inr p ↦ eqb-true a.gap 0 (search (p, and_l, and_r) depth 12)
  ]

  pub passes_accepts : passes a ≡ true → a.gap ≡ 0 → accepts a ≡ true
  passes_accepts p e = rw (p, eq-eqb a.gap 0 e) (not-or_self (eqb a.cost none))

  -- ---- least

  pub least_accepts : says_least a ≡ true → accepts a ≡ true
  least_accepts e = or_l (says_least a) (says_none a) e

  pub accepts_least : accepts a ≡ true → a.cost ≢ none → says_least a ≡ true
  accepts_least e h = rw (accepts_passes e, eq-eqb a.gap 0 (accepts_gap e), ne_eqb a.cost none h)

  pub least_not_none : says_least a ≡ true → a.cost ≢ none
  least_not_none e z = not_e (eqb a.cost none) (and_r (passes a && eqb a.gap 0) (not (eqb a.cost none)) e) (eq-eqb a.cost none z)

  -- ---- none

  pub none_accepts : says_none a ≡ true → accepts a ≡ true
  none_accepts e = or_r (says_least a) (says_none a) e

  pub none_cost : says_none a ≡ true → a.cost ≡ none
  none_cost e = eqb-true a.cost none (and_r (passes a && eqb a.gap 0) (eqb a.cost none) e)

  pub accepts_none : accepts a ≡ true → a.cost ≡ none → says_none a ≡ true
  accepts_none e z = rw (accepts_passes e, eq-eqb a.gap 0 (accepts_gap e), eq-eqb a.cost none z)

  -- ---- within

  pub within_passes : says_within a ≡ true → passes a ≡ true
  within_passes e = search (e, and_l)

  pub within_gap : says_within a ≡ true → 0 < a.gap
  within_gap e =
      let h : not (eqb a.gap 0) ≡ true = search (e, and_l, and_r) depth 12 in
      let some : a.gap ≢ 0 = λ z. not_e (eqb a.gap 0) h (eq-eqb a.gap 0 z) in
      omega (arith, some)

  pub gap_within : passes a ≡ true → 0 < a.gap → a.cost ≢ none → says_within a ≡ true
  gap_within p h some = rw (p, ne_eqb a.gap 0 (λ z. omega (arith, z, h)), ne_eqb a.cost none some)

  -- where a gap is never that of "none", an answer that passes is an acceptance or within
  pub passes_one_of : passes a ≡ true → (0 < a.gap → a.cost ≢ none) → (accepts a ≡ true) ⊎ (says_within a ≡ true)
  passes_one_of p some = go (dec_lt 0 a.gap)
    where
      go : Dec (0 < a.gap) → (accepts a ≡ true) ⊎ (says_within a ≡ true)
      go (yes h) = inr (gap_within p h (some h))
      go (no h) = inl (passes_accepts p (omega (arith, h)))

  -- within is no acceptance
  pub within_apart : says_within a ≡ true → accepts a ≡ false
  within_apart w = false_i (accepts a) (λ e. omega (arith, within_gap w, accepts_gap e))
