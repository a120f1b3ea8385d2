-- The refusals of kind 4 said as facts: the answer is one of them exactly when these hold.
-- Assumes nothing.
use Prim.Native.Nat.{ℕ, min}
use mathlib.Core.Path.{◌≡◌, refl, sym, ◌∙◌}
use mathlib.Core.Bool.{Bool, true, false, ◌&&◌, ◌||◌}
use mathlib.Core.List.{List}
use mathlib.Core.Logic.{◌↔◌, inl, inr}
use native.Mathlib.Omega.{arith}
use lib.Dec.{eqb, leb}
use borrow.Author.Tests.{eqb-true, lt-leb, leb-false}
use Rattle.judgement.specs.Finding.{fault, need, ◌then◌}
use Rattle.judgement.specs.Meaning.{positive, negative}
use Rattle.judgement.specs.Literals.{holds}
use Rattle.judgement.specs.Record.{step}
use Rattle.judgement.specs.declared.Kind.TheVariants.{Resolvent}
use Rattle.judgement.specs.Step.{kind_of, bound, literals, pivot_of, step_form, cites_fine, citation}
use Rattle.judgement.specs.Kinds.{covers_resolvent, pivot_finding, resolvent_finding, lesser_bound, resolution_finding, kind_finding}
use Rattle.judgement.specs.Judgement.{finding, judgement}
use Rattle.judgement.specs.Facts.{CitesSteps, premise}
use Rattle.judgement.specs.Refusals.{Reached, RefusedResolution, no_pivot, literal_missing, bound_above, is_of_resolution}
use Rattle.judgement.specs.Demands.{WhichResolution}
use Rattle.judgement.proofs.Laws.Scan.{clash, false_i, or_e}
use Rattle.judgement.proofs.Laws.Findings.{IsFine, need_true, not_fine, same_fault}
use Rattle.judgement.proofs.Facts.FirstByte.{kind_begins, begins_kind}
use Rattle.judgement.proofs.Facts.Inferences.{form_tail, layout_form}
use Rattle.judgement.proofs.Facts.Resolvent.{has_pivots, pivots_has, covers_includes, includes_covers, missing_of, cites_steps, steps_cited}
use Rattle.judgement.proofs.Order.WhichFault.{answer_fault}
use Rattle.judgement.proofs.Order.WhichKind.{is_of_kind, finding_kind, kind_finding_lem, teller, found_kind}

-- ---- the three tests

module _ (x y b : List ℕ) where
  pivoted : Bool
  pivoted = holds (literals x) (positive (pivot_of b)) && holds (literals y) (negative (pivot_of b))

  covers : Bool
  covers = covers_resolvent (literals x) (literals y) (pivot_of b) (literals b)

  most : Bool
  most = leb (bound b) (min (bound x) (bound y))

  resolution_refused : (k N P : ℕ) → (resolution_finding x y b k ≡ fault N P) ↔ ((P ≡ k) × RefusedResolution x y b N)
  unfolding resolution_finding pivot_finding resolvent_finding lesser_bound pivoted covers most
  resolution_refused k N P = (found pivoted covers most refl refl refl, λ (place, refused). rw place (back refused))
    where
      found : (u v w : Bool) → pivoted ≡ u → covers ≡ v → most ≡ w
          → (need u 16 k then need v 17 k then need w 18 k) ≡ fault N P → (P ≡ k) × RefusedResolution x y b N
      found false v w p q h e =
          let (n, here) = same_fault e in
          (here, no_pivot n (λ pivots. clash (pivots_has x y b pivots) p))
      found true false w p q h e =
          let (n, here) = same_fault e in
          let (c, held, out) = missing_of x y b q in
          (here, literal_missing n (has_pivots x y b p) c held out)
      found true true false p q h e =
          let (n, here) = same_fault e in
          (here, bound_above n (has_pivots x y b p) (covers_includes x y b q) (omega (arith, leb-false (bound b) (min (bound x) (bound y)) h)))
      found true true true p q h e = absurd (not_fine e)

      back : RefusedResolution x y b N → (need pivoted 16 k then need covers 17 k then need most 18 k) ≡ fault N k
      back (no_pivot n out) = rw (n, false_i pivoted (λ p. out (has_pivots x y b p)))
      back (literal_missing n pivots c held out) =
          let missing = false_i covers (λ q. clash (covers_includes x y b q c held) out) in
          rw (n, pivots_has x y b pivots, missing)
      back (bound_above n pivots includes above) =
          rw (n, pivots_has x y b pivots, includes_covers x y b includes, lt-leb (bound b) (min (bound x) (bound y)) above)

-- ---- the judgement: this kind alone has these numbers

of_kind : (N : ℕ) → is_of_resolution N ≡ true → (is_of_kind N ≡ true) × (teller N ≡ Resolvent)
of_kind N three = elim (or_e (eqb N 16 || eqb N 17) (eqb N 18) three) [
  | inl two ↦ elim (or_e (eqb N 16) (eqb N 17) two) [ inl e ↦ rw (eqb-true N 16 e) (refl, refl) | inr e ↦ rw (eqb-true N 17 e) (refl, refl) ]
  | inr e ↦ rw (eqb-true N 18 e) (refl, refl)
]

module _ (s r : List ℕ) where
  -- what it is to be of kind 4, with a tail in form that cites steps before it
  citing_by : (k : ℕ) → IsFine (step_form s (step s r k) k) → IsFine (citation s (step s r k) k)
      → kind_of (step s r k) ≡ Resolvent → CitesSteps (step s r k) k
  unfolding citation
  citing_by k form cites kind =
      let b = step s r k in
      let begins = rw kind at (kind_begins b) in
      let sized = rw kind at (form_tail s b k form) in
      let earlier = rw kind at (need_true (cites_fine (kind_of b) s k b) 9 k cites) in
      cites_steps s b k (begins (omega arith)) sized earlier

  resolution_reached : (N k : ℕ) → is_of_resolution N ≡ true → finding s r ≡ fault N k
      → Reached s r k × CitesSteps (step s r k) k × RefusedResolution (premise s r k 1) (premise s r k 2) (step s r k) N
  unfolding kind_finding
  resolution_reached N k three e =
      let (is_one, told) = of_kind N three in
      let f = finding_kind s r N k is_one e in
      let kind = sym (found_kind s r k N f) ∙ told in
      (f.reached, citing_by k f.form f.cites kind, ((resolution_refused (premise s r k 1) (premise s r k 2) (step s r k) k N k).0 (rw kind at f.found)).1)

  reached_resolution : (N k : ℕ) → Reached s r k → CitesSteps (step s r k) k
      → RefusedResolution (premise s r k 1) (premise s r k 2) (step s r k) N → finding s r ≡ fault N k
  unfolding citation kind_finding
  reached_resolution N k h citing refused =
      let b = step s r k in
      let kind = begins_kind Resolvent b (omega arith) citing.kind in
      let (size, earlier) = steps_cited s b k citing in
      kind_finding_lem s r N k record {
        reached = h;
        form = layout_form s b k (h.forms k h.among.0 (omega arith)) (rw kind size);
        cites = rw (kind, earlier);
        found = rw kind ((resolution_refused (premise s r k 1) (premise s r k 2) b k N k).1 (refl, refused));
      }

-- the answer is one of them at place k exactly when the premises of step k are reached and it is refused by this
pub which_resolution : (s r : List ℕ) → WhichResolution s r (judgement s r)
unfolding judgement
which_resolution s r N k three = (
  λ (a, b). resolution_reached s r N k three (answer_fault s r (finding s r) N k (λ z. clash (rw z at three) refl) a b),
  λ (h, citing, refused).
      let e = reached_resolution s r N k h citing refused in
      (rw e, rw e),
)
