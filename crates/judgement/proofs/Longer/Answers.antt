-- The answer beside a sheet with clauses added at its end: the one that it was, or 10 at the first added clause that the assignment
-- breaks.
-- Assumes nothing.
use Prim.Native.Nat.{ℕ, ◌≤◌, ◌<◌}
use mathlib.Core.Path.{◌≡◌, refl, sym, ◌∙◌}
use mathlib.Core.Bool.{true}
use mathlib.Core.List.{List}
use mathlib.Core.Logic.{◌≢◌, ◌⊎◌, inl, inr}
use native.Mathlib.Omega.{arith}
use native.Mathlib.Decide.{dec_lt, ℕ_discrete}
use Rattle.std.specs.Prelude.{Ok, Err}
use Rattle.judgement.specs.Finding.{Finding, fault, over_all}
use Rattle.judgement.specs.Meaning.{none}
use Rattle.judgement.specs.Sheet.{clauses, clause, problem_of, sheet_finding}
use Rattle.judgement.specs.Record.{claim, assigned, satisfied, true_count, record_finding, broken_clause}
use Rattle.judgement.specs.Judgement.{oversize, close, finding, refused, answer_of, judgement, passes}
use Rattle.judgement.specs.Facts.{Among, BeforeClose}
use Rattle.judgement.specs.Longer.{ExtendedBy, SatisfiesAt, SatisfiesAdded, FirstBroken, SameOrTen, OldReasons}
use Rattle.judgement.proofs.Laws.Scan.{clash, false_i}
use Rattle.judgement.proofs.Laws.Findings.{IsFine, fine_is, not_fine, over_each, over_found, found_over}
use Rattle.judgement.proofs.Laws.Models.{satisfied_satisfies, same_satisfied}
use Rattle.judgement.proofs.Laws.Cost.{same_cost}
use Rattle.judgement.proofs.Facts.Layouts.{facts_oversize, valid_sheet, layout_record, satisfies_fine, fine_satisfies, claim_tested}
use Rattle.judgement.proofs.Facts.Accepted.{facts_fine, passed_fine, passes_close, passes_before}
use Rattle.judgement.proofs.Longer.Steps.{same_layout, same_form, same_inference}

-- clause k broken is 10 at k
broken_fault : (t r : List ℕ) (k : ℕ) → (SatisfiesAt t r k → ⊥) → broken_clause t r k ≡ fault 10 k
unfolding broken_clause
broken_fault t r k out =
    rw (false_i (satisfied (assigned r) (clause t k)) (λ h. out (satisfied_satisfies (assigned r) (clause t k) h)))

module _ (s t r : List ℕ) (longer : ExtendedBy s t) (ok : passes (judgement s r) ≡ true) where
  facts : BeforeClose s r
  facts = passes_before s r ok

  -- clauses that stood are satisfied still
  satisfies_old : claim r ≢ none → (k : ℕ) → Among (clauses s) k → SatisfiesAt t r k
  satisfies_old some k w =
      same_satisfied (assigned r) (clause s k) (clause t k) (longer.same k w) (facts.stored.model some k w.0 w.1)

  -- one that stood, or an added one
  old_or_added : claim r ≢ none → (k : ℕ) → 1 ≤ k → (clauses s < k → SatisfiesAt t r k) → SatisfiesAt t r k
  old_or_added some k l added = go (dec_lt (clauses s) k)
    where
      go : Dec (clauses s < k) → SatisfiesAt t r k
      go (yes new) = added new
      go (no old) = satisfies_old some k (l, omega (arith, old))

  -- ---- the same answer

  facts_stay : SatisfiesAdded s t r ⊎ (claim r ≡ none) → BeforeClose t r
  facts_stay stays =
      record {
        stored = record {
          sheet = longer.valid;
          layout = same_layout s t longer.alike r facts.stored.layout;
          model = λ some. elim stays [
            | inl added ↦ λ k l u. old_or_added some k l (λ new. added k (new, u))
            | inr nothing ↦ absurd (some nothing)
          ];
          cost_is = λ some. sym (same_cost (problem_of s) (problem_of t) longer.alike (assigned r)) ∙ facts.stored.cost_is some;
        };
        forms = λ k w. same_form s t longer.alike r k (facts.forms k w);
        inferences = λ k w. same_inference s t facts.stored.sheet longer r k (facts.forms k w).list (facts.inferences k w);
      }

  -- all six numbers
  same_numbers : answer_of t r (Ok tt) ≡ answer_of s r (Ok tt)
  unfolding true_count
  same_numbers = rw longer.alike.same_variables

  stays_same : SatisfiesAdded s t r ⊎ (claim r ≡ none) → judgement t r ≡ judgement s r
  unfolding judgement close
  stays_same stays =
      let last : IsFine (close t r) = rw (sym longer.alike.same_variables) (passes_close s r ok) in
      rw (fine_is (finding t r) (facts_fine t r (facts_stay stays) last), passed_fine s r ok) same_numbers

  -- ---- 10

  broken_first : claim r ≢ none → (k : ℕ) → FirstBroken s t r k → judgement t r ≡ refused 10 k
  unfolding judgement finding
  broken_first some k b =
      let sizes = facts_oversize t r (longer.valid.size, facts.stored.layout.size) in
      let sheet = valid_sheet t longer.valid in
      let layout = layout_record t r (same_layout s t longer.alike r facts.stored.layout) in
      let earlier : (h : ℕ) → 1 ≤ h → h < k → IsFine (broken_clause t r h) =
      λ h l u. satisfies_fine t r h (old_or_added some h l (λ new. b.before h new u)) in
      let found = found_over (broken_clause t r) (clauses t) (fault 10 k) refl
      (k, (omega (arith, b.added.0), b.added.1), earlier, broken_fault t r k b.broken) in
      rw (fine_is (oversize t r) sizes, fine_is (sheet_finding t) sheet, fine_is (record_finding t r) layout, claim_tested t r some, found)

  -- ---- one or the other

  all_or_first : claim r ≢ none → SatisfiesAdded s t r ⊎ ((k : ℕ) × FirstBroken s t r k)
  all_or_first some = go (over_all (broken_clause t r) (clauses t)) refl
    where
      added : (k : ℕ) → Among (clauses t) k → (SatisfiesAt t r k → ⊥) → Dec (clauses s < k) → clauses s < k
      added k w out (yes new) = new
      added k w out (no old) = absurd (out (satisfies_old some k (w.0, omega (arith, old))))

      go : (f : Finding) → over_all (broken_clause t r) (clauses t) ≡ f → SatisfiesAdded s t r ⊎ ((k : ℕ) × FirstBroken s t r k)
      go (Ok _) e = inl (λ k w. fine_satisfies t r k (over_each (broken_clause t r) (clauses t) (rw e) k (omega (arith, w.0), w.1)))
      go (Err x) e =
          let (k, w, first, here) = over_found (broken_clause t r) (clauses t) x.number x.place e in
          let out : SatisfiesAt t r k → ⊥ = λ h. not_fine (sym (fine_is (broken_clause t r k) (satisfies_fine t r k h)) ∙ here) in
          inr (
            k,
            record {
              added = (added k w out (dec_lt (clauses s) k), w.1);
              broken = out;
              before = λ h l u. fine_satisfies t r h (first h (omega (arith, l)) u);
            },
          )

  -- the answer of before, or 10
  outcome : (SatisfiesAdded s t r ⊎ (claim r ≡ none)) ⊎ ((k : ℕ) × FirstBroken s t r k × (judgement t r ≡ refused 10 k))
  outcome = go (ℕ_discrete (claim r) none)
    where
      go : Dec (claim r ≡ none)
          → (SatisfiesAdded s t r ⊎ (claim r ≡ none)) ⊎ ((k : ℕ) × FirstBroken s t r k × (judgement t r ≡ refused 10 k))
      go (yes nothing) = inl (inr nothing)
      go (no some) = elim (all_or_first some) [
        | inl added ↦ inl (inl added)
        | inr (k, b) ↦ inr (k, b, broken_first some k b)
      ]

  same_or_ten : SameOrTen s t r (judgement s r)
  same_or_ten = record {
    same = (
      λ e. elim outcome [
        | inl stays ↦ stays
        | inr (k, b, told) ↦ absurd (clash ok (rw (sym e ∙ told)))
      ],
      stays_same,
    );
    otherwise = λ differs. elim outcome [
      | inl stays ↦ absurd (differs (stays_same stays))
      | inr found ↦ found
    ];
  }

pub old_reasons : (s r : List ℕ) → OldReasons s r (judgement s r)
old_reasons s r ok t longer = same_or_ten s t r longer ok
