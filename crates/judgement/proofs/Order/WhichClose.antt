-- Refusal 19 is told exactly when all before the close is right and step t stays open.
-- Assumes nothing.
use Prim.Native.Nat.{ℕ}
use mathlib.Core.Path.{◌≡◌, refl, sym, ◌∙◌}
use mathlib.Core.Bool.{true, false, not}
use mathlib.Core.List.{List}
use mathlib.Core.Logic.{inl, inr}
use native.Mathlib.Omega.{arith}
use lib.Dec.{eqb, leb}
use borrow.Author.Tests.{ne_eqb, leb-true, not-true}
use Rattle.judgement.specs.Finding.{Finding, fault}
use Rattle.judgement.specs.Record.{steps}
use Rattle.judgement.specs.declared.Kind.{Kind}
use Rattle.judgement.specs.Kinds.{kind_finding}
use Rattle.judgement.specs.Judgement.{step_finding, close, finding, judgement}
use Rattle.judgement.specs.Facts.{BeforeClose, StaysOpen}
use Rattle.judgement.specs.Demands.{WhichClose}
use Rattle.judgement.proofs.Laws.Scan.{and_r}
use Rattle.judgement.proofs.Laws.Findings.{fine_is, then_found, Faults, faults_map, faults, not_told}
use Rattle.judgement.proofs.Order.Early.{Early, oversize_early, sheet_early, record_early, assignment_early, form_early, citation_early}
use Rattle.judgement.proofs.Facts.Accepted.{front, finding_is, front_facts, facts_front}
use Rattle.judgement.proofs.Facts.Close.{open_fault, fault_open}
use Rattle.judgement.proofs.Order.WhichKind.{Here, kind_here}
use Rattle.judgement.proofs.Order.WhichFault.{answer_fault}

-- no fault of it is 19
abbrev NotClose : Finding → Type 0
NotClose f = Faults (λ N P. eqb N 19 ≡ false) f

early_others : (f : Finding) → Early f → NotClose f
early_others f = faults_map (λ N P. leb N 11 ≡ true) (λ N P. eqb N 19 ≡ false) below f
  where
    below : (N P : ℕ) → leb N 11 ≡ true → eqb N 19 ≡ false
    below N P e = ne_eqb N 19 (λ z. omega (arith, leb-true N 11 e, z))

module _ (s r : List ℕ) where
  kind_others : (k : ℕ) (K : Kind) → NotClose (kind_finding K s r k)
  kind_others k K = faults_map (Here s r k K) (λ N P. eqb N 19 ≡ false) of_kind (kind_finding K s r k) (kind_here s r k K)
    where
      of_kind : (N P : ℕ) → Here s r k K N P → eqb N 19 ≡ false
      of_kind N P h = not-true (eqb N 19) (and_r (not (leb N 11)) (not (eqb N 19)) h.0)

  step_others : (k : ℕ) → NotClose (step_finding s r k)
  unfolding step_finding
  step_others k = search (faults, early_others, form_early s, citation_early s, kind_others) depth 12

  front_others : NotClose (front s r)
  front_others = search (faults, early_others, oversize_early s r, sheet_early s, record_early s r, assignment_early s r, step_others) depth 12

  -- so 19 is told by the close
  told_close : (P : ℕ) → finding s r ≡ fault 19 P → (P ≡ steps r) × BeforeClose s r × StaysOpen s r
  told_close P e = elim (then_found (front s r) (close s r) 19 P (sym (finding_is s r) ∙ e)) [
    | inl q ↦ absurd (not_told (λ N. eqb N 19) (front s r) refl front_others q)
    | inr (fine, last) ↦
        let (place, stays) = fault_open s r P last in
        (place, front_facts s r fine, stays)
  ]

  close_told : (P : ℕ) → (P ≡ steps r) × BeforeClose s r × StaysOpen s r → finding s r ≡ fault 19 P
  close_told P (place, before, stays) = rw (finding_is s r, fine_is (front s r) (facts_front s r before), open_fault s r stays, place)

  pub which_close : WhichClose s r (judgement s r)
  unfolding judgement
  which_close P = (
    λ (a, b). told_close P (answer_fault s r (finding s r) 19 P (λ z. omega (arith, z)) a b),
    λ w.
        let e = close_told P w in
        (rw e, rw e),
  )
