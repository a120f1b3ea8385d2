-- The refusals of kind 3 said as facts: the answer is one of them exactly when these hold.
-- Assumes nothing.
use Prim.Native.Nat.{ℕ, ◌-◌}
use mathlib.Core.Path.{◌≡◌, refl, sym, ◌∙◌}
use mathlib.Core.Bool.{Bool, true, false, not, ◌||◌}
use mathlib.Core.List.{List}
use mathlib.Core.Logic.{◌↔◌, inl, inr}
use native.Mathlib.Omega.{arith}
use lib.Dec.{eqb}
use borrow.Author.Tests.{ne_eqb, eqb-true, eqb-false, not-false}
use Rattle.judgement.specs.Meaning.{variable_of, is_positive, opposite}
use Rattle.judgement.specs.Finding.{Finding, fault, need, ◌then◌}
use Rattle.judgement.specs.Literals.{count, code, variable, holds}
use Rattle.judgement.specs.Sheet.{clauses}
use Rattle.judgement.specs.Record.{step}
use Rattle.judgement.specs.declared.Kind.TheVariants.{IndependentSet}
use Rattle.judgement.specs.Step.{kind_of, bound, literals, cited, cited_clause, cited_count, step_form, cites_fine, citation}
use Rattle.judgement.specs.Kinds.{settled, none_true, unsettled_positive, some_unsettled, used_before, unshared}
use Rattle.judgement.specs.Kinds.{true_finding, negative_finding, settled_finding, shared_finding, depends_on, dependence}
use Rattle.judgement.specs.Kinds.{independent_cost, independent_bound, kind_finding}
use Rattle.judgement.specs.Judgement.{finding, judgement}
use Rattle.judgement.specs.Facts.{Among, In, Mentions, Free, CitesClauses}
use Rattle.judgement.specs.Refusals.{Dependent, made_true, negative_yet, all_settled, shared_yet, FirstDependent, Reached, RefusedIndependent, is_of_independent}
use Rattle.judgement.specs.Demands.{WhichIndependent}
use Rattle.judgement.proofs.Laws.Scan.{clash, or_e, or_none_l, or_none_r, false_i, all_fails, any_at}
use Rattle.judgement.proofs.Laws.Findings.{IsFine, fine_is, need_true, not_fine, same_fault, over_found, found_over, then_found}
use Rattle.judgement.proofs.Laws.Membership.{holds_in, mentions_in, in_mention, free}
use Rattle.judgement.proofs.Order.WhichFault.{answer_fault}
use Rattle.judgement.proofs.Order.WhichKind.{is_of_kind, finding_kind, kind_finding_lem, teller, found_kind}
use Rattle.judgement.proofs.Laws.Lists.{rises_rising, rising_rises}
use Rattle.judgement.proofs.Facts.FirstByte.{kind_begins, begins_kind}
use Rattle.judgement.proofs.Facts.Inferences.{form_tail, layout_form}
use Rattle.judgement.proofs.Facts.IndependentSet.{tail_facts, facts_tail, none_true_lem, true_none, unsettled_positive_lem, positive_unsettled, some_unsettled_lem, unsettled_some, used_before_lem, unshared_disjoint, depends_fits, fits_depends, dependence_fits, fits_dependence}

-- ---- what a test that fails has found, of C where D is falsified

found_true : (D C : List ℕ) → none_true D C ≡ false → (c : ℕ) × In C c × In D (opposite c)
unfolding none_true
found_true D C p =
    let (i, w, e) = all_fails (λ i. not (holds D (opposite (code C i)))) (count C) p in
    (code C i, (i, w, refl), holds_in D (opposite (code C i)) (not-false (holds D (opposite (code C i))) e))

found_negative : (D C : List ℕ) → unsettled_positive D C ≡ false
    → (c : ℕ) × In C c × Free D (variable_of c) × (is_positive c ≡ false)
unfolding unsettled_positive
found_negative D C p =
    let (i, w, e) = all_fails (λ i. settled D C i || is_positive (code C i)) (count C) p in
    (code C i, (i, w, refl), free D (variable C i) (or_none_l (settled D C i) (is_positive (code C i)) e), or_none_r (settled D C i) (is_positive (code C i)) e)

found_settled : (D C : List ℕ) → some_unsettled D C ≡ false → (v : ℕ) → Mentions C v → Mentions D v
unfolding some_unsettled
found_settled D C p v (i, w, e) =
    rw e at
    (mentions_in D (variable C i)
    (not-false (settled D C i) (false_i (not (settled D C i)) (λ q. clash (any_at (λ i. not (settled D C i)) (count C) i w q) p))))

found_shared : (s b : List ℕ) (j : ℕ) (D C : List ℕ) → unshared s b j D C ≡ false
    → (v : ℕ) × (h : ℕ) × Mentions C v × Free D v × Among (j - 1) h × Mentions (cited_clause s b h) v
unfolding unshared
found_shared s b j D C p =
    let (i, w, e) = all_fails (λ i. settled D C i || not (used_before s b j (variable C i))) (count C) p in
    let u = not-false (used_before s b j (variable C i)) (or_none_r (settled D C i) (not (used_before s b j (variable C i))) e) in
    let (h, a, m) = used_before_lem s b j (variable C i) u in
    (variable C i, h, (i, w, refl), free D (variable C i) (or_none_l (settled D C i) (not (used_before s b j (variable C i))) e), a, m)

-- ---- one clause

module _ (s b : List ℕ) (k j : ℕ) (D C : List ℕ) where
  -- the finding of the four tests, of which x, y, z and w are the answers
  abbrev four : Bool → Bool → Bool → Bool → Finding
  four x y z w = need x 14 k then need y 20 k then need z 21 k then need w 22 k

  depends_found : (N P : ℕ) → depends_on s b k j D C ≡ fault N P → (P ≡ k) × Dependent s b j D C N
  unfolding depends_on true_finding negative_finding settled_finding shared_finding
  depends_found N P = go (none_true D C) (unsettled_positive D C) (some_unsettled D C) (unshared s b j D C) refl refl refl refl
    where
      go : (x y z w : Bool) → none_true D C ≡ x → unsettled_positive D C ≡ y → some_unsettled D C ≡ z → unshared s b j D C ≡ w
          → four x y z w ≡ fault N P → (P ≡ k) × Dependent s b j D C N
      go false y z w p q r t e =
          let (n, here) = same_fault e in
          let (c, inside, opposite-inside) = found_true D C p in
          (here, made_true n c inside opposite-inside)
      go true false z w p q r t e =
          let (n, here) = same_fault e in
          let (c, inside, unsettled, negative) = found_negative D C q in
          (here, negative_yet n (none_true_lem D C p) c inside unsettled negative)
      go true true false w p q r t e =
          let (n, here) = same_fault e in
          (here, all_settled n (none_true_lem D C p) (found_settled D C r))
      go true true true false p q r t e =
          let (n, here) = same_fault e in
          let (v, h, inside, unsettled, a, there) = found_shared s b j D C t in
          (here, shared_yet n (none_true_lem D C p) (unsettled_positive_lem D C q) v h inside unsettled a.0 (omega (arith, a.0, a.1)) there)
      go true true true true p q r t e = absurd (not_fine e)

  found_depends : (N : ℕ) → Dependent s b j D C N → depends_on s b k j D C ≡ fault N k
  unfolding depends_on true_finding negative_finding settled_finding shared_finding
  found_depends N (made_true n c inside opposite-inside) =
      rw (n, false_i (none_true D C) (λ p. none_true_lem D C p c inside opposite-inside))
  found_depends N (negative_yet n opens c inside unsettled negative) =
      rw (
        n,
        true_none D C opens,
        false_i (unsettled_positive D C) (λ p. elim (unsettled_positive_lem D C p c inside) [
          | inl m ↦ unsettled m
          | inr q ↦ clash q negative
        ]),
      )
  found_depends N (all_settled n opens each) =
      rw (
        n,
        true_none D C opens,
        positive_unsettled D C (λ c inside. inl (each (variable_of c) (in_mention C c inside))),
        false_i (some_unsettled D C) (λ p. let (v, inside, unsettled) = some_unsettled_lem D C p in unsettled (each v inside)),
      )
  found_depends N (shared_yet n opens positives v h inside unsettled l m there) =
      rw (
        n,
        true_none D C opens,
        positive_unsettled D C positives,
        unsettled_some D C (v, inside, unsettled),
        false_i (unshared s b j D C) (λ p. unsettled (unshared_disjoint s b j D C p h l m v there inside)),
      )

-- ---- all cited clauses

-- the finding is the refusal N at the step exactly when N is the first that applies to the first clause to which one applies
first_dependent : (s b : List ℕ) (k N P : ℕ) → (dependence s b k ≡ fault N P) ↔ ((P ≡ k) × FirstDependent s b N)
unfolding dependence
first_dependent s b k N P = (
  λ e.
      let (j, w, before, here) = over_found (λ j. depends_on s b k j (literals b) (cited_clause s b j)) (cited_count b) N P e in
      let (place, dependent) = depends_found s b k j (literals b) (cited_clause s b j) N P here in
      (place, (j, w, λ h l m. depends_fits s b k h (literals b) (cited_clause s b h) (before h l m), dependent)),
  λ (place, (j, w, before, dependent)).
      found_over (λ j. depends_on s b k j (literals b) (cited_clause s b j)) (cited_count b) (fault N P) refl (
        j,
        w,
        λ h l m. fits_depends s b k h (literals b) (cited_clause s b h) (before h l m),
        rw place (found_depends s b k j (literals b) (cited_clause s b j) N dependent),
      ),
)

-- all cited clauses, and then the bound
set_refused : (s b : List ℕ) (k N P : ℕ) → ((dependence s b k then independent_bound s b k) ≡ fault N P) ↔ ((P ≡ k) × RefusedIndependent s b N)
unfolding independent_bound
set_refused s b k N P = (
  λ e. elim (then_found (dependence s b k) (independent_bound s b k) N P e) [
    | inl d ↦ (let (place, first) = (first_dependent s b k N P).0 d in (place, inl first))
    | inr d ↦ other (eqb (bound b) (independent_cost s b)) refl d.0 d.1
  ],
  λ (place, refused). elim refused [
    | inl first ↦ rw ((first_dependent s b k N P).1 (place, first))
    | inr f ↦
        rw (place, f.0, fine_is (dependence s b k) (fits_dependence s b k f.1), ne_eqb (bound b) (independent_cost s b) f.2)
  ],
)
  where
    other : (same : Bool) → eqb (bound b) (independent_cost s b) ≡ same → IsFine (dependence s b k) → need same 15 k ≡ fault N P
        → (P ≡ k) × RefusedIndependent s b N
    other true e fine q = absurd (not_fine q)
    other false e fine q =
        let (n, here) = same_fault q in
        (here, inr (n, dependence_fits s b k fine, eqb-false (bound b) (independent_cost s b) e))

-- ---- the judgement: this kind alone has these numbers

of_kind : (N : ℕ) → is_of_independent N ≡ true → (is_of_kind N ≡ true) × (teller N ≡ IndependentSet)
of_kind N four = elim (or_e (eqb N 14 || eqb N 15 || eqb N 20 || eqb N 21) (eqb N 22) four) [
  | inl p ↦ elim (or_e (eqb N 14 || eqb N 15 || eqb N 20) (eqb N 21) p) [
    | inl q ↦ elim (or_e (eqb N 14 || eqb N 15) (eqb N 20) q) [
      | inl u ↦ elim (or_e (eqb N 14) (eqb N 15) u) [ inl x ↦ rw (eqb-true N 14 x) (refl, refl) | inr x ↦ rw (eqb-true N 15 x) (refl, refl) ]
      | inr x ↦ rw (eqb-true N 20 x) (refl, refl)
    ]
    | inr x ↦ rw (eqb-true N 21 x) (refl, refl)
  ]
  | inr x ↦ rw (eqb-true N 22 x) (refl, refl)
]

module _ (s r : List ℕ) where
  -- what it is to be of kind 3, with a tail in form that cites clauses in order
  citing_by : (k : ℕ) → IsFine (step_form s (step s r k) k) → IsFine (citation s (step s r k) k)
      → kind_of (step s r k) ≡ IndependentSet → CitesClauses s (step s r k)
  unfolding citation cites_fine
  citing_by k form cites kind =
      let b = step s r k in
      let tail = tail_facts b (rw kind at (form_tail s b k form)) in
      let risen = rw kind at (need_true (cites_fine (kind_of b) s k b) 9 k cites) in
      record {
        kind = rw kind at (kind_begins b) (omega arith);
        size = tail.0;
        some = tail.1;
        cites = rises_rising (cited b) (clauses s) (cited_count b) risen;
      }

  independent_reached : (N k : ℕ) → is_of_independent N ≡ true → finding s r ≡ fault N k
      → Reached s r k × CitesClauses s (step s r k) × RefusedIndependent s (step s r k) N
  unfolding kind_finding
  independent_reached N k four e =
      let (is_one, told) = of_kind N four in
      let f = finding_kind s r N k is_one e in
      let kind = sym (found_kind s r k N f) ∙ told in
      (f.reached, citing_by k f.form f.cites kind, ((set_refused s (step s r k) k N k).0 (rw kind at f.found)).1)

  reached_independent : (N k : ℕ) → Reached s r k → CitesClauses s (step s r k) → RefusedIndependent s (step s r k) N
      → finding s r ≡ fault N k
  unfolding citation cites_fine kind_finding
  reached_independent N k h citing refused =
      let b = step s r k in
      let kind = begins_kind IndependentSet b (omega arith) citing.kind in
      kind_finding_lem s r N k record {
        reached = h;
        form = layout_form s b k (h.forms k h.among.0 (omega arith)) (rw kind (facts_tail b citing.size citing.some));
        cites = rw (kind, rising_rises (cited b) (clauses s) (cited_count b) citing.cites);
        found = rw kind ((set_refused s b k N k).1 (refl, refused));
      }

-- the answer is one of them at place k exactly when the clauses that step k cites are reached and it is refused by this
pub which_independent : (s r : List ℕ) → WhichIndependent s r (judgement s r)
unfolding judgement
which_independent s r N k four = (
  λ (a, b). independent_reached s r N k four (answer_fault s r (finding s r) N k (λ z. clash (rw z at four) refl) a b),
  λ (h, citing, refused).
      let e = reached_independent s r N k h citing refused in
      (rw e, rw e),
)
