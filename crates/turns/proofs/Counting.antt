-- True literals counted: what a turned variable changes.
-- Assumes nothing.
use Prim.Native.Nat.{◌%◌, ◌+◌, ◌<◌, ◌≤◌, suc, zero, ℕ}
use mathlib.Core.Path.{◌∙◌, ◌≡◌, refl, sym}
use mathlib.Core.Bool.{Bool, ◌||◌, cond, false, not, true}
use mathlib.Core.List.{List}
use mathlib.Core.Logic.{◌≢◌, ◌⊎◌, inl, inr}
use native.Mathlib.Decide.{dec_lt}
use native.Mathlib.Nat.{add-zero}
use native.Mathlib.Omega.{arith}
use borrow.Author.Tests.{eq-eqb, eqb-false, eqb-true, ne_eqb}
use lib.Dec.{eqb}
use Rattle.judgement.specs.Facts.{Among, LiteralList, Mentions, Rising}
use Rattle.judgement.specs.Literals.{code, count, holds, mentions, variable}
use Rattle.judgement.specs.Meaning.{Assignment, is_positive, literal_true, positive, variable_of}
use Rattle.judgement.specs.Record.{satisfied}
use Rattle.judgement.specs.Scan.{any_of, one, sum_of}
use Rattle.judgement.proofs.Laws.Membership.{holds_in, in_holds, mentions_in}
use Rattle.judgement.proofs.Laws.Scan.{any_at, clash, sum_apart, sum_bound, sum_same, which}
use Rattle.turns.specs.Counts.{agrees, goes_up}
use Rattle.turns.specs.Turning.{true_in}
use Rattle.turns.proofs.Lists.{either}

pub or_false : (b : Bool) → b || false ≡ b
or_false true = refl
or_false false = refl

pub or_true : (b : Bool) → b || true ≡ true
or_true true = refl
or_true false = refl

-- alike but for v
pub record Turned (α β : Assignment) (v : ℕ) : Type 0 where
  pub here : β v ≡ not (α v)
  pub elsewhere : (u : ℕ) → 1 ≤ u → u ≢ v → β u ≡ α u

literal_other : (α β : Assignment) (v c : ℕ) → Turned α β v → 1 ≤ variable_of c → variable_of c ≢ v → literal_true β c ≡ literal_true α c
unfolding literal_true
literal_other α β v c t h d = rw (t.elsewhere (variable_of c) h d)

literal_same : (α β : Assignment) (v c : ℕ) → Turned α β v → variable_of c ≡ v → literal_true β c ≡ not (literal_true α c)
unfolding literal_true
literal_same α β v c t e = rw (e, t.here) (go (is_positive c) (α v))
  where
    go : (p a : Bool) → cond p (not a) (not (not a)) ≡ not (cond p a (not a))
    go true a = refl
    go false a = refl

tally_not : (b : Bool) → one b + one (not b) ≡ 1
tally_not true = refl
tally_not false = refl

once : (n : ℕ) (part : List ℕ) → LiteralList n part → (i : ℕ) → Among (count part) i → (j : ℕ) → Among (count part) j → j ≢ i
    → variable part j ≡ variable part i → ⊥
once n part list i w j x d q = go (dec_lt j i)
  where
    go : Dec (j < i) → ⊥
    go (yes h) = let r = list.variables.rising j i x.0 h w.1 in omega (arith, r, q)
    go (no h) = let r = list.variables.rising i j w.0 (omega (arith, h, d)) x.1 in omega (arith, r, q)

-- the one literal of v in the list: v true stands there where it is positive
pub positive_at : (n : ℕ) (part : List ℕ) → LiteralList n part → (i : ℕ) → Among (count part) i → (v : ℕ) → variable part i ≡ v
    → holds part (positive v) ≡ is_positive (code part i)
positive_at n part list i w v e = go (which (is_positive (code part i))) (which (holds part (positive v)))
  where
    go : (is_positive (code part i) ≡ true) ⊎ (is_positive (code part i) ≡ false)
        → (holds part (positive v) ≡ true) ⊎ (holds part (positive v) ≡ false) → holds part (positive v) ≡ is_positive (code part i)
    go (inl p) d =
        let z = eqb-true (code part i % 2) 0 p in
        rw p (in_holds part (positive v) (i, w, omega (arith, z, e)))
    go (inr p) (inr q) = rw (p, q)
    go (inr p) (inl q) =
        let z = eqb-false (code part i % 2) 0 p in
        let (j, x, y) = holds_in part (positive v) q in
        either j i
        (λ r. absurd (omega (arith, z, rw r at y)))
        (λ d. absurd (once n part list i w j x d (omega (arith, y, e))))

-- how a count changes
abbrev pub CountStep : Bool → ℕ → ℕ → Type 0
CountStep true x y = y ≡ x + 1
CountStep false x y = x ≡ y + 1

module _ (n : ℕ) (part : List ℕ) (list : LiteralList n part) (α β : Assignment) (v : ℕ) (t : Turned α β v) where
  -- a list that does not mention v has as many as before
  pub count_other : mentions part v ≡ false → true_in β part ≡ true_in α part
  unfolding true_in mentions
  count_other h =
      sum_same (λ i. one (literal_true β (code part i))) (λ i. one (literal_true α (code part i))) (count part)
      (λ i w.
      rw (literal_other α β v (code part i) t (list.variables.range i w).0
      (λ e. clash (any_at (λ j. eqb (variable part j) v) (count part) i w (eq-eqb (variable part i) v e)) h)))

  -- where literal i is of v, one more or one less
  pub count_at : (i : ℕ) → Among (count part) i → variable part i ≡ v
      → true_in β part + one (literal_true α (code part i)) ≡ true_in α part + one (literal_true β (code part i))
  unfolding true_in
  count_at i w e =
      sum_apart (λ j. one (literal_true β (code part j))) (λ j. one (literal_true α (code part j))) (count part) i w
      (λ j x d. rw (literal_other α β v (code part j) t (list.variables.range j x).0 (λ q. once n part list i w j x d (q ∙ sym e))))

  -- one of v in the list
  module _ (m : mentions part v ≡ true) where
    place : Mentions part v
    place = mentions_in part v m

    positive_is : holds part (positive v) ≡ is_positive (code part place.0)
    positive_is = positive_at n part list place.0 place.1 v place.2

    literal_is : literal_true β (code part place.0) ≡ agrees (holds part (positive v)) (β v)
    unfolding literal_true
    literal_is = rw (place.2, positive_is) (go (is_positive (code part place.0)) (β v))
      where
        go : (p b : Bool) → cond p b (not b) ≡ agrees p b
        go true b = refl
        go false b = refl

    -- one more where it became true, else one less
    pub count_turn : CountStep (goes_up part v (β v)) (true_in α part) (true_in β part)
    count_turn =
        rw (← literal_is)
        (step (literal_true α (code part place.0)) (literal_true β (code part place.0))
        (literal_same α β v (code part place.0) t place.2) (count_at place.0 place.1 place.2))
      where
        step : (a b : Bool) → b ≡ not a → true_in β part + one a ≡ true_in α part + one b → CountStep b (true_in α part) (true_in β part)
        step true b e q = rw e (let z = rw e at q in omega (arith, z))
        step false b e q = rw e (let z = rw e at q in omega (arith, z))

-- ---- bounds

-- a list in form has at most n literals
rises_far : (f : ℕ → ℕ) (top q : ℕ) → Rising f top q → (i : ℕ) → Among q i → i ≤ f i
rises_far f top q r zero w = omega arith
rises_far f top q r (suc i) w = go (dec_lt 0 i) (rises_far f top q r i)
  where
    go : Dec (0 < i) → (Among q i → i ≤ f i) → suc i ≤ f (suc i)
    go (yes h) g =
        let a = g (h, omega (arith, w.1)) in
        let b = r.rising i (suc i) h (omega arith) w.1 in
        omega arith
    go (no h) g = let a = (r.range (suc i) w).0 in omega (arith, a, h)

pub count_within : (n : ℕ) (part : List ℕ) → LiteralList n part → count part ≤ n
count_within n part list = go (dec_lt 0 (count part))
  where
    go : Dec (0 < count part) → count part ≤ n
    go (yes h) =
        let a = rises_far (variable part) n (count part) list.variables (count part) (h, omega arith) in
        let b = (list.variables.range (count part) (h, omega arith)).1 in
        omega (arith, a, b)
    go (no h) = omega (arith, h)

pub true_within : (α : Assignment) (part : List ℕ) → true_in α part ≤ count part
unfolding true_in
true_within α part =
    let a = sum_bound (λ i. one (literal_true α (code part i))) 1 (count part) (λ i. most (literal_true α (code part i))) in
    omega arith
  where
    most : (b : Bool) → one b ≤ 1
    most true = omega arith
    most false = omega arith

-- ---- a clause at 0 is one that is not satisfied

zero_none : (f : ℕ → Bool) (n : ℕ) → eqb (sum_of (λ i. one (f i)) n) 0 ≡ not (any_of f n)
unfolding sum_of any_of
zero_none f zero = refl
zero_none f (suc n) = go (f (suc n)) (zero_none f n)
  where
    go : (b : Bool) → eqb (sum_of (λ i. one (f i)) n) 0 ≡ not (any_of f n)
        → eqb (sum_of (λ i. one (f i)) n + one b) 0 ≡ not (any_of f n || b)
    go true r = rw (or_true (any_of f n)) (ne_eqb (sum_of (λ i. one (f i)) n + 1) 0 (omega arith))
    go false r = rw (or_false (any_of f n), add-zero) r

pub zero_broken : (α : Assignment) (part : List ℕ) → eqb (true_in α part) 0 ≡ not (satisfied α part)
unfolding true_in satisfied
zero_broken α part = zero_none (λ i. literal_true α (code part i)) (count part)
