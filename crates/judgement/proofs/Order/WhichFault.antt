-- Which fault: a refusal has number N and place P exactly when N at P is the first fault in the list of all tests.
-- Assumes nothing.
use Prim.Native.Nat.{ℕ, zero, suc, ◌<◌}
use mathlib.Core.Path.{◌≡◌, refl, sym, ◌∙◌}
use mathlib.Core.Bool.{Bool, true, false, cond}
use mathlib.Core.List.{List, [], ◌∷◌, ◌++◌}
use mathlib.Core.Logic.{◌≢◌}
use native.Mathlib.Omega.{arith}
use lib.ListN.{get_or}
use Rattle.std.specs.Prelude.{Ok, Err}
use Rattle.judgement.specs.Finding.{Finding, fault, ◌then◌, over_all}
use Rattle.judgement.specs.Pairs.{pair_finding, pairs_finding}
use Rattle.judgement.specs.Sheet.{clauses, sheet_finding, sheet_pairs, clause_form}
use Rattle.judgement.specs.declared.Kind.{Kind}
use Rattle.judgement.specs.declared.Kind.TheVariants.{Copy, Cost, IndependentSet, Resolvent, WeightedSet, Unknown}
use Rattle.judgement.specs.Step.{kind_of, literals, cited, cited_clause}
use Rattle.judgement.specs.Record.{claims_none, steps, step, record_pairs, record_finding, broken_clause, claimed_cost}
use Rattle.judgement.specs.Kinds.{depends_on, dependence, resolution_finding, kind_finding}
use Rattle.judgement.specs.Judgement.{assignment_finding, step_finding, finding, answer_of, judgement}
use Rattle.judgement.specs.Order.{each, pair_tests, dependence_tests, resolution_tests, kind_tests, step_tests, assignment_tests, tests, FirstFault}
use Rattle.judgement.specs.Demands.{WhichFault}
use Rattle.judgement.proofs.Laws.Findings.{then_assoc, then_fine, not_fine}

-- ---- the first fault of a list

abbrev first : List Finding → Finding
first [] = Ok tt
first (f ∷ list) = f then first list

first_append : (l m : List Finding) → first (l ++ m) ≡ first l then first m
first_append [] m = refl
first_append (f ∷ l) m = rw (first_append l m) (sym (then_assoc f (first l) (first m)))

first_each : (f : ℕ → List Finding) (g : ℕ → Finding) (n : ℕ) → ((k : ℕ) → first (f k) ≡ g k) → first (each f n) ≡ over_all g n
unfolding each over_all
first_each f g zero h = refl
first_each f g (suc n) h = rw (first_append, first_each f g n h, h (suc n))

first_singles : (g : ℕ → Finding) (n : ℕ) → first (each (λ k. g k ∷ []) n) ≡ over_all g n
first_singles g n = first_each (λ k. g k ∷ []) g n (λ k. then_fine (g k))

-- ---- the judgement's finding is the first fault of the tests

first_pairs : (number : ℕ) (f : List ℕ) (at count : ℕ) → first (pair_tests number f at count) ≡ pairs_finding number f at count
unfolding pair_tests pairs_finding
first_pairs number f at count = rw (first_append, first_singles (pair_finding number f at count) count, then_fine)

first_dependence : (s b : List ℕ) (k j : ℕ) (D C : List ℕ) → first (dependence_tests s b k j D C) ≡ depends_on s b k j D C
unfolding dependence_tests depends_on
first_dependence s b k j D C = rw then_fine

first_resolution : (x y b : List ℕ) (k : ℕ) → first (resolution_tests x y b k) ≡ resolution_finding x y b k
unfolding resolution_tests resolution_finding
first_resolution x y b k = rw then_fine

first_kind : (K : Kind) (s r : List ℕ) (k : ℕ) → first (kind_tests K s r k) ≡ kind_finding K s r k
unfolding kind_tests kind_finding dependence
first_kind Copy s r k = then_fine _
first_kind Cost s r k = then_fine _
first_kind IndependentSet s r k =
    rw (first_append, first_each _ _ _ (λ j. first_dependence s (step s r k) k j (literals (step s r k)) (cited_clause s (step s r k) j)), then_fine)
first_kind Resolvent s r k = first_resolution (step s r (cited (step s r k) 1)) (step s r (cited (step s r k) 2)) (step s r k) k
first_kind WeightedSet s r k = rw then_fine
first_kind Unknown s r k = refl

first_step : (s r : List ℕ) (k : ℕ) → first (step_tests s r k) ≡ step_finding s r k
unfolding step_tests step_finding
first_step s r k = rw (first_kind (kind_of (step s r k)) s r k)

first_assignment : (s r : List ℕ) → first (assignment_tests s r) ≡ assignment_finding s r
unfolding assignment_tests assignment_finding
first_assignment s r = go (claims_none r)
  where
    go : (b : Bool)
        → first (cond b [] (each (λ k. broken_clause s r k ∷ []) (clauses s) ++ (claimed_cost s r ∷ [])))
        ≡ cond b (Ok tt) (over_all (broken_clause s r) (clauses s) then claimed_cost s r)
    go true = refl
    go false = rw (first_append, first_singles (broken_clause s r) (clauses s), then_fine)

pub in_order : (s r : List ℕ) → first (tests s r) ≡ finding s r
unfolding tests finding sheet_finding sheet_pairs record_finding record_pairs
in_order s r =
    simp (
      first_append,
      first_pairs,
      first_singles (clause_form s) (clauses s),
      first_assignment,
      first_each (step_tests s r) (step_finding s r) (steps r) (first_step s r),
      then_assoc,
      then_fine,
    )

-- ---- what the first fault of a list is

first_found : (list : List Finding) (N P : ℕ) → first list ≡ fault N P → FirstFault list N P
first_found [] N P e = absurd (not_fine e)
first_found (Ok _ ∷ list) N P e =
    let (i, here, before) = first_found list N P e in
    (suc i, here, λ j h. fine_before j i h before)
  where
    fine_before : (j i : ℕ) → j < suc i → ((j : ℕ) → j < i → get_or list j (Ok tt) ≡ Ok tt) → get_or (Ok tt ∷ list) j (Ok tt) ≡ Ok tt
    fine_before zero i h b = refl
    fine_before (suc j) i h b = b j (omega arith)
first_found (Err x ∷ list) N P e = (0, e, λ j h. absurd (omega arith))

found_first : (list : List Finding) (N P : ℕ) → FirstFault list N P → first list ≡ fault N P
found_first [] N P (i, here, before) = absurd (not_fine here)
found_first (f ∷ list) N P (zero, here, before) = rw here
found_first (f ∷ list) N P (suc i, here, before) =
    rw (before 0 (omega arith)) (found_first list N P (i, here, λ j h. before (suc j) (omega arith)))

-- ---- the judgement

pub answer_fault : (s r : List ℕ) (f : Finding) (N P : ℕ) → N ≢ 0 → (answer_of s r f).number ≡ N → (answer_of s r f).place ≡ P → f ≡ fault N P
answer_fault s r (Ok _) N P n a b = absurd (n (sym a))
answer_fault s r (Err x) N P n a b = rw (a, b)

pub which_fault : (s r : List ℕ) → WhichFault s r (judgement s r)
unfolding judgement
which_fault s r N P n = (
  λ (a, b). first_found (tests s r) N P (in_order s r ∙ answer_fault s r (finding s r) N P n a b),
  λ w.
      let e : finding s r ≡ fault N P = sym (in_order s r) ∙ found_first (tests s r) N P w in
      (rw e, rw e),
)
