-- The refusals of kind 5 said as facts: the answer is one of them exactly when these hold.
-- Assumes nothing.
use Prim.Native.Nat.{ℕ}
use mathlib.Core.Path.{◌≡◌, refl, sym, ◌∙◌}
use mathlib.Core.Bool.{Bool, true, false, not}
use mathlib.Core.List.{List}
use mathlib.Core.Logic.{◌↔◌, ◌⊎◌, inl, inr}
use native.Mathlib.Omega.{arith}
use lib.Dec.{eqb}
use borrow.Author.Tests.{ne_eqb, eqb-true, eqb-false, not-false}
use Rattle.judgement.specs.Finding.{fault, need, ◌then◌}
use Rattle.judgement.specs.Sheet.{clauses}
use Rattle.judgement.specs.Record.{step}
use Rattle.judgement.specs.declared.Kind.TheVariants.{WeightedSet}
use Rattle.judgement.specs.Step.{kind_of, bound, tail, divisor, entry_count, entry_cites, weight, step_form, cites_fine, citation}
use Rattle.judgement.specs.Kinds.{kind_finding}
use Rattle.judgement.specs.Linear.{linear_cost, is_weighted, weights_finding, linear_bound}
use Rattle.judgement.specs.Judgement.{finding, judgement}
use Rattle.judgement.specs.Facts.{Among, CitesWeighted}
use Rattle.judgement.specs.Refusals.{Reached, RefusedLinear, no_divisor, no_weight, other_bound, is_of_linear}
use Rattle.judgement.specs.Demands.{WhichLinear}
use Rattle.judgement.proofs.Laws.Scan.{clash, false_i, or_e, and_false_e, all_fails}
use Rattle.judgement.proofs.Laws.Findings.{IsFine, need_true, not_fine, same_fault}
use Rattle.judgement.proofs.Laws.Lists.{rises_rising, rising_rises}
use Rattle.judgement.proofs.Facts.FirstByte.{kind_begins, begins_kind}
use Rattle.judgement.proofs.Facts.Inferences.{form_tail, layout_form}
use Rattle.judgement.proofs.Facts.WeightedSet.{is_weighted_lem, weighted_is, bound_cover, cover_bound, tail_entries, entries_tail}
use Rattle.judgement.proofs.Order.WhichFault.{answer_fault}
use Rattle.judgement.proofs.Order.WhichKind.{is_of_kind, finding_kind, kind_finding_lem, teller, found_kind}

-- ---- the two tests

-- which number is 0 where one is
found_zero : (e : List ℕ) → is_weighted e ≡ false
    → (divisor e ≡ 0) ⊎ ((j : ℕ) × Among (entry_count e) j × (weight e j ≡ 0))
unfolding is_weighted
found_zero e h = elim (and_false_e (not (eqb (divisor e) 0)) _ h) [
  | inl p ↦ inl (eqb-true (divisor e) 0 (not-false (eqb (divisor e) 0) p))
  | inr p ↦
      let (j, w, q) = all_fails (λ j. not (eqb (weight e j) 0)) (entry_count e) p in
      inr (j, w, eqb-true (weight e j) 0 (not-false (eqb (weight e j) 0) q))
]

linear_refused : (s b : List ℕ) (k N P : ℕ) → ((weights_finding b k then linear_bound s b k) ≡ fault N P) ↔ ((P ≡ k) × RefusedLinear s b N)
unfolding weights_finding linear_bound
linear_refused s b k N P = (found (is_weighted (tail b)) (eqb (bound b) (linear_cost s b)) refl refl, λ (place, refused). rw place (back refused))
  where
    found : (x y : Bool) → is_weighted (tail b) ≡ x → eqb (bound b) (linear_cost s b) ≡ y
        → (need x 23 k then need y 24 k) ≡ fault N P → (P ≡ k) × RefusedLinear s b N
    found false y p q e =
        let (n, here) = same_fault e in
        elim (found_zero (tail b) p) [
          | inl d ↦ (here, no_divisor n d)
          | inr w ↦ (here, no_weight n w.0 w.1 w.2)
        ]
    found true false p q e =
        let (n, here) = same_fault e in
        let weighted = is_weighted_lem (tail b) p in
        (here, other_bound n weighted (λ c. eqb-false (bound b) (linear_cost s b) q (cover_bound s b weighted c)))
    found true true p q e = absurd (not_fine e)

    back : RefusedLinear s b N → (need (is_weighted (tail b)) 23 k then need (eqb (bound b) (linear_cost s b)) 24 k) ≡ fault N k
    back (no_divisor n d) = rw (n, false_i (is_weighted (tail b)) (λ p. (is_weighted_lem (tail b) p).divides d))
    back (no_weight n j w y) = rw (n, false_i (is_weighted (tail b)) (λ p. (is_weighted_lem (tail b) p).weighs j w y))
    back (other_bound n weighted other) =
        rw (n, weighted_is (tail b) weighted, ne_eqb (bound b) (linear_cost s b) (λ e. other (bound_cover s b weighted e)))

-- ---- the judgement: this kind alone has these numbers

of_kind : (N : ℕ) → is_of_linear N ≡ true → (is_of_kind N ≡ true) × (teller N ≡ WeightedSet)
of_kind N two = elim (or_e (eqb N 23) (eqb N 24) two) [ inl x ↦ rw (eqb-true N 23 x) (refl, refl) | inr x ↦ rw (eqb-true N 24 x) (refl, refl) ]

module _ (s r : List ℕ) where
  -- what it is to be of kind 5, with a tail in form that cites clauses in order
  citing_by : (k : ℕ) → IsFine (step_form s (step s r k) k) → IsFine (citation s (step s r k) k)
      → kind_of (step s r k) ≡ WeightedSet → CitesWeighted s (step s r k)
  unfolding citation cites_fine
  citing_by k form cites kind =
      let b = step s r k in
      let sized = tail_entries b (rw kind at (form_tail s b k form)) in
      let risen = rw kind at (need_true (cites_fine (kind_of b) s k b) 9 k cites) in
      record {
        kind = rw kind at (kind_begins b) (omega arith);
        size = sized.0;
        some = sized.1;
        cites = rises_rising (entry_cites (tail b)) (clauses s) (entry_count (tail b)) risen;
      }

  linear_reached : (N k : ℕ) → is_of_linear N ≡ true → finding s r ≡ fault N k
      → Reached s r k × CitesWeighted s (step s r k) × RefusedLinear s (step s r k) N
  unfolding kind_finding
  linear_reached N k two e =
      let (is_one, told) = of_kind N two in
      let f = finding_kind s r N k is_one e in
      let kind = sym (found_kind s r k N f) ∙ told in
      (f.reached, citing_by k f.form f.cites kind, ((linear_refused s (step s r k) k N k).0 (rw kind at f.found)).1)

  reached_linear : (N k : ℕ) → Reached s r k → CitesWeighted s (step s r k) → RefusedLinear s (step s r k) N
      → finding s r ≡ fault N k
  unfolding citation cites_fine kind_finding
  reached_linear N k h citing refused =
      let b = step s r k in
      let kind = begins_kind WeightedSet b (omega arith) citing.kind in
      kind_finding_lem s r N k record {
        reached = h;
        form = layout_form s b k (h.forms k h.among.0 (omega arith)) (rw kind (entries_tail b citing.size citing.some));
        cites = rw (kind, rising_rises (entry_cites (tail b)) (clauses s) (entry_count (tail b)) citing.cites);
        found = rw kind ((linear_refused s b k N k).1 (refl, refused));
      }

-- the answer is one of them at place k exactly when the weights of step k are reached and it is refused by this
pub which_linear : (s r : List ℕ) → WhichLinear s r (judgement s r)
unfolding judgement
which_linear s r N k two = (
  λ (a, b). linear_reached s r N k two (answer_fault s r (finding s r) N k (λ z. clash (rw z at two) refl) a b),
  λ (h, citing, refused).
      let e = reached_linear s r N k h citing refused in
      (rw e, rw e),
)
