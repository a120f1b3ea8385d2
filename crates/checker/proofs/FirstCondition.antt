-- Which refusal applies to a clause C that is not independent, where the marks have what D settles and nothing else. i literals of C
-- are done, and c, the code of literal i + 1, is next.
-- Assumes nothing.
use Rattle.std.proofs.Common.{◌≡◌, ℕ, ◌+◌, ◌-◌, ◌%◌, Bool, true, false, not, ◌&&◌, ◌||◌, eqb, leb, ◌⊎◌, List, sym, refl, ◌∙◌, inl, inr, arith, eqb-true, le-leb}
use borrow.Author.Tests.{lt-leb}
use Rattle.judgement.specs.Finding.{fault, need, is_fine, ◌then◌}
use Rattle.judgement.specs.Scan.{all_of, any_of}
use Rattle.judgement.specs.Meaning.{variable_of, is_positive, opposite}
use Rattle.judgement.specs.Literals.{count, code, holds, mentions}
use Rattle.judgement.specs.Kinds.{settled, none_true, true_finding, unsettled_positive, negative_finding, some_unsettled, settled_finding, unshared, shared_finding, depends_on}
use Rattle.judgement.specs.Facts.{Among, LiteralList}
use Rattle.judgement.proofs.Laws.Scan.{which, clash, or_e}
use Rattle.checker.specs.Marks.{mark_at, IndependentMarks}
use Rattle.checker.specs.Independent.{TellsWhich}
use Rattle.checker.proofs.Marking.{all_next, any_next, opposite_variable, not_opposite}
use Rattle.checker.proofs.Conditions.{settled_by, depends_when}

-- ---- what x, the mark of the variable of c, tells

module _ (c : ℕ) {D marks : List ℕ} {t x : ℕ} (m : IndependentMarks D (λ v. false) t marks) (w : Among 1024 (variable_of c))
    (x_is : x ≡ mark_at marks (variable_of c - 1)) where
  -- it is t and the code of the literal that D has
  mark_own : holds D c ≡ true → x ≡ t + c
  mark_own h = x_is ∙ eqb-true (mark_at marks (variable_of c - 1)) (t + c) (m.settled c w ∙ h)

  mark_opposite : holds D (opposite c) ≡ true → x ≡ t + opposite c
  mark_opposite h =
      let e = (opposite_variable c w.0).0 in
      x_is ∙ eqb-true (mark_at marks (variable_of c - 1)) (t + opposite c) (rw e at (m.settled (opposite c) (rw e w)) ∙ h)

  -- t is not above it where the variable is settled
  settled_told : leb t x ≡ mentions D (variable_of c)
  settled_told = go (which (mentions D (variable_of c)))
    where
      go : (mentions D (variable_of c) ≡ true) ⊎ (mentions D (variable_of c) ≡ false) → leb t x ≡ mentions D (variable_of c)
      go (inl h) = le-leb t x (elim (or_e (holds D c) (holds D (opposite c)) (sym (settled_by D c) ∙ h)) [
        | inl p ↦ omega (arith, mark_own p)
        | inr p ↦ omega (arith, mark_opposite p)
      ]) ∙ sym h
      go (inr h) = lt-leb t x (omega (arith, x_is, m.unused (variable_of c) w h refl)) ∙ sym h

  -- a literal is not true where its variable is unsettled, or where D has it
  not_true_told : LiteralList 1024 D → not (leb t x) || eqb x (t + c) ≡ not (holds D (opposite c))
  not_true_told l =
      rw (settled_told, x_is, m.settled c w, settled_by D c)
      (go (holds D c) (holds D (opposite c)) (not_opposite D 1024 c l))
    where
      go : (h o : Bool) → (h ≡ true → o ≡ false) → not (h || o) || h ≡ not o
      go true o e = rw (e refl)
      go false true e = refl
      go false false e = refl

-- ---- three tests of the first i literals

pub record Asked (D C : List ℕ) (none_true positive some : Bool) (i : ℕ) : Type 0 where
  pub true_told : none_true ≡ all_of (λ h. not (holds D (opposite (code C h)))) i
  pub positive_told : positive ≡ all_of (λ h. settled D C h || is_positive (code C h)) i
  pub some_told : some ≡ any_of (λ h. not (settled D C h)) i

pub asked_start : (D C : List ℕ) → Asked D C true true false 0
unfolding all_of any_of
asked_start D C = record { true_told = refl; positive_told = refl; some_told = refl }

-- the next literal
pub asked_more : {D C marks : List ℕ} {none_true positive some : Bool} {i t c x : ℕ} → Asked D C none_true positive some i
    → LiteralList 1024 D → IndependentMarks D (λ v. false) t marks → c ≡ code C (i + 1) → Among 1024 (variable_of c)
    → x ≡ mark_at marks (variable_of c - 1)
    → Asked D C (none_true && (not (leb t x) || eqb x (t + c))) (positive && (leb t x || eqb (c % 2) 0)) (some || not (leb t x)) (i + 1)
asked_more {D} {C} {i = i} {c = c} so_far l m c-is w x_is =
    record {
      true_told = rw (all_next (λ h. not (holds D (opposite (code C h)))) i, so_far.true_told, not_true_told c m w x_is l, c-is);
      positive_told = rw (all_next (λ h. settled D C h || is_positive (code C h)) i, so_far.positive_told, settled_told c m w x_is, c-is);
      some_told = rw (any_next (λ h. not (settled D C h)) i, so_far.some_told, settled_told c m w x_is, c-is);
    }

-- all are asked: the first test that fails tells the refusal, and where none does, what is left is that a variable is shared
pub asked_told : {D C : List ℕ} {none_true positive some : Bool} {i : ℕ} (k : ℕ) → Asked D C none_true positive some i → i ≡ count C
    → LiteralList 1024 D → TellsWhich D C k (need none_true 14 k then need positive 20 k then need some 21 k then fault 22 k)
unfolding depends_on true_finding negative_finding settled_finding shared_finding none_true unsettled_positive some_unsettled
asked_told {D} {C} k all end l s b j dependent =
    rw (all.true_told, all.positive_told, all.some_told, end)
    (go
    (all_of (λ h. not (holds D (opposite (code C h)))) (count C))
    (all_of (λ h. settled D C h || is_positive (code C h)) (count C))
    (any_of (λ h. not (settled D C h)) (count C))
    (unshared s b j D C)
    (sym (depends_when s b k j D C l) ∙ dependent))
  where
    go : (x y z w : Bool) → is_fine (need x 14 k then need y 20 k then need z 21 k then need w 22 k) ≡ false
        → (need x 14 k then need y 20 k then need z 21 k then fault 22 k) ≡ (need x 14 k then need y 20 k then need z 21 k then need w 22 k)
    go true true true true e = absurd (clash refl e)
    go true true true false e = refl
    go true true false w e = refl
    go true false z w e = refl
    go false y z w e = refl
