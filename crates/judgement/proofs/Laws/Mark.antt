-- Laws of the mark: it takes one bit from the field of n, and where it stands there are four bytes of loss.
-- Assumes nothing.
use Prim.Native.Nat.{ℕ, ◌+◌, ◌*◌, ◌/◌, ◌%◌, ◌^◌, ◌≤◌, ◌<◌}
use mathlib.Core.Path.{◌≡◌, refl}
use mathlib.Core.Bool.{true, false}
use mathlib.Core.List.{List}
use mathlib.Core.Logic.{◌⊎◌, inl, inr}
use native.Mathlib.Omega.{arith}
use lib.Dec.{leb}
use borrow.Author.Tests.{leb-true, leb-false}
use Rattle.judgement.specs.Meaning.{with_loss}
use Rattle.judgement.specs.Number.{number_at}
use Rattle.judgement.specs.Sheet.{most_variables, first_field, mark, marked, variables, loss_at, loss_size, clause_pairs_at, loss, problem_of}
use Rattle.judgement.proofs.Laws.Scan.{which, clash}

-- what a sheet has with the mark, and what without
pub record WithMark (s : List ℕ) : Type 0 where
  pub is : marked s ≡ true
  pub field : mark ≤ first_field s
  pub size : loss_size s ≡ 4
  pub lost : loss s ≡ number_at s (loss_at s) 4

pub record NoMark (s : List ℕ) : Type 0 where
  pub is : marked s ≡ false
  pub field : first_field s < mark
  pub size : loss_size s ≡ 0
  pub lost : loss s ≡ 0

pub mark_or : (s : List ℕ) → WithMark s ⊎ NoMark s
unfolding marked loss_size loss number_at
mark_or s = elim (which (leb mark (first_field s))) [
  | inl e ↦ inl (record { is = e; field = leb-true mark (first_field s) e; size = rw e; lost = rw e })
  | inr e ↦ inr (record { is = e; field = leb-false mark (first_field s) e; size = rw e; lost = rw e })
]

-- n is the rest of the field
pub variables_are : (s : List ℕ) → first_field s % mark ≡ variables s
unfolding variables
variables_are s = refl

-- without the mark everything is where document 01 has it, nothing is lost, and nothing is added to what is paid
pub unmarked : (s : List ℕ) → marked s ≡ false
    → (variables s ≡ first_field s) × (clause_pairs_at s ≡ 4 + 4 * first_field s) × (loss s ≡ 0)
    × ((paid : ℕ) → with_loss (problem_of s) paid ≡ paid)
unmarked s e = elim (mark_or s) [
  | inl m ↦ absurd (clash m.is e)
  | inr m ↦
      let n : variables s ≡ first_field s = let v = variables_are s in omega (arith, v, m.field) in
      (n, omega (arith, n, m.size), m.lost, λ paid. omega (arith, m.lost))
]

-- with it the whole field is more than there may be variables: who does not know the mark tells 2
pub too_many_lem : (s : List ℕ) → marked s ≡ true → most_variables < first_field s
too_many_lem s e = elim (mark_or s) [
  | inl m ↦ omega (arith, m.field)
  | inr m ↦ absurd (clash e m.is)
]

pub size_is : (s : List ℕ) → first_field s < 2 ^ 16 → 4 * (first_field s / mark) ≡ loss_size s
size_is s h = elim (mark_or s) [
  | inl m ↦ omega (arith, m.field, m.size)
  | inr m ↦ omega (arith, m.field, m.size)
]

pub no_loss : (s : List ℕ) → loss_size s ≡ 0 → loss s ≡ 0
no_loss s e = elim (mark_or s) [
  | inl m ↦ absurd (omega (arith, e, m.size))
  | inr m ↦ m.lost
]

pub some_loss : (s : List ℕ) → (loss_size s ≡ 0 → ⊥) → loss s ≡ number_at s (loss_at s) 4
some_loss s h = elim (mark_or s) [
  | inl m ↦ m.lost
  | inr m ↦ absurd (h m.size)
]
