-- What a step adds up beside a sheet s and beside one that extends it, t: the sums are the same, because they read costs, the loss and
-- clauses of s alone.
-- Assumes nothing.
use Prim.Native.Nat.{ℕ}
use mathlib.Core.Path.{◌≡◌, ap, ◌∙◌}
use mathlib.Core.Bool.{not}
use mathlib.Core.List.{List}
use native.Mathlib.Omega.{arith}
use Rattle.judgement.specs.Scan.{count_of, least_of}
use Rattle.judgement.specs.Meaning.{positive, negative, is_positive, none}
use Rattle.judgement.specs.Literals.{count, code, variable}
use Rattle.judgement.specs.Sheet.{variables, clauses, clause, problem_of}
use Rattle.judgement.specs.Step.{literals, cited, cited_clause, cited_count, tail, entry_count, entry_cites}
use Rattle.judgement.specs.Linear.{entry_clause, weight_of, remainder, negatives, entry_sum, addend, addend_sum, total_of, total}
use Rattle.judgement.specs.Kinds.{negative_cost, falsified_cost, unsettled_cost, least_unsettled, independent_cost}
use Rattle.judgement.specs.Facts.{Among, Alike, LiteralList, ValidSheet}
use Rattle.judgement.specs.Longer.{ExtendedBy}
use Rattle.judgement.proofs.Laws.Scan.{sum_same, count_same, least_same}
use Rattle.judgement.proofs.Laws.Integers.{sum_ℤ_same}
use Rattle.judgement.proofs.Laws.Membership.{same_holds}
use Rattle.judgement.proofs.Facts.Copy.{SameCodes, members_same}

-- ---- kind 2

pub same_falsified : (s t : List ℕ) → Alike (problem_of s) (problem_of t) → (D : List ℕ) → LiteralList (variables s) D
    → falsified_cost s D ≡ falsified_cost t D
unfolding falsified_cost negative_cost
same_falsified s t alike D list =
    let paid : negative_cost s D ≡ negative_cost t D =
    sum_same _ _ (count D) (λ i w. rw (alike.same_costs (variable D i) (list.variables.range i w))) in
    rw (alike.same_loss, paid)

module _ (s t : List ℕ) (valid : ValidSheet s) (longer : ExtendedBy s t) where
  -- clause k of s is clause k of t, literal by literal
  same_codes : (k : ℕ) → Among (clauses s) k → SameCodes (clause s k) (clause t k)
  same_codes k w =
      let there : Among (clauses t) k = (w.0, omega (arith, w.1, longer.more)) in
      let list : LiteralList (variables s) (clause t k) = rw longer.alike.same_variables (longer.valid.lists k there) in
      members_same (variables s) (clause s k) (clause t k) (valid.lists k w) list (longer.same k w)

  -- ---- kind 3

  same_unsettled : (D : List ℕ) (k : ℕ) → Among (clauses s) k → least_unsettled s D (clause s k) ≡ least_unsettled t D (clause t k)
  unfolding least_unsettled unsettled_cost
  same_unsettled D k w =
      let (long, each) = same_codes k w in
      least_same none (unsettled_cost s D (clause s k)) (unsettled_cost t D (clause t k)) (count (clause s k)) (λ i u.
      let among = (valid.lists k w).variables.range i u in
      rw (longer.alike.same_costs (variable (clause s k) i) among, each i u))
      ∙ ap (least_of none (unsettled_cost t D (clause t k))) long

  pub same_independent : (b : List ℕ) → LiteralList (variables s) (literals b)
      → ((j : ℕ) → Among (cited_count b) j → Among (clauses s) (cited b j)) → independent_cost s b ≡ independent_cost t b
  unfolding independent_cost
  same_independent b list cites =
      let least = sum_same
      (λ j. least_unsettled s (literals b) (cited_clause s b j))
      (λ j. least_unsettled t (literals b) (cited_clause t b j))
      (cited_count b) (λ j w. same_unsettled (literals b) (cited b j) (cites j w)) in
      rw (same_falsified s t longer.alike (literals b) list, least)

  -- ---- kind 5

  same_negatives : (k : ℕ) → Among (clauses s) k → negatives (clause s k) ≡ negatives (clause t k)
  unfolding negatives
  same_negatives k w =
      let (long, each) = same_codes k w in
      count_same (λ i. not (is_positive (code (clause s k) i))) (λ i. not (is_positive (code (clause t k) i))) (count (clause s k))
      (λ i u. rw (each i u))
      ∙ ap (count_of (λ i. not (is_positive (code (clause t k) i)))) long

  module _ (e : List ℕ) (cites : (j : ℕ) → Among (entry_count e) j → Among (clauses s) (entry_cites e j)) where
    same_weight : (c : ℕ) → weight_of s e (entry_count e) c ≡ weight_of t e (entry_count e) c
    unfolding weight_of
    same_weight c =
        sum_same _ _ (entry_count e)
        (λ j w. rw (same_holds (entry_clause s e j) (entry_clause t e j) (longer.same (entry_cites e j) (cites j w)) c))

    same_remainder : (v : ℕ) → Among (variables s) v → remainder s e (entry_count e) v ≡ remainder t e (entry_count e) v
    unfolding remainder
    same_remainder v w = rw (longer.alike.same_costs v w, same_weight (positive v), same_weight (negative v))

    same_entries : entry_sum s e (entry_count e) ≡ entry_sum t e (entry_count e)
    unfolding entry_sum
    same_entries = sum_ℤ_same _ _ (entry_count e) (λ j w. rw (same_negatives (entry_cites e j) (cites j w)))

    same_total : (D : List ℕ) → total_of s D e (entry_count e) ≡ total_of t D e (entry_count e)
    unfolding total_of addend_sum
    same_total D =
        let rest = sum_ℤ_same
        (λ v. addend D v (remainder s e (entry_count e) v))
        (λ v. addend D v (remainder t e (entry_count e) v))
        (variables s) (λ v w. ap (addend D v) (same_remainder v w)) in
        rw (same_entries, rest, longer.alike.same_variables)

  pub same_weighted : (b : List ℕ) → ((j : ℕ) → Among (entry_count (tail b)) j → Among (clauses s) (entry_cites (tail b) j))
      → total s b ≡ total t b
  unfolding total
  same_weighted b cites = same_total (tail b) cites (literals b)
