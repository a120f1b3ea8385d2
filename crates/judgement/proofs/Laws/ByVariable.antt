-- A sum over the literals of a list in form is one over variables.
-- Assumes nothing.
use Prim.Native.Nat.{ℕ, zero, suc, ◌+◌, ◌/◌, ◌%◌, ◌≤◌, ◌<◌}
use mathlib.Core.Path.{◌≡◌, refl, sym, ap, ◌∙◌}
use mathlib.Core.Bool.{Bool, true, false, cond, ◌||◌}
use mathlib.Core.List.{List}
use mathlib.Core.Logic.{◌⊎◌, inl, inr}
use native.Mathlib.Omega.{arith}
use native.Mathlib.Nat.{le_refl}
use lib.Dec.{eqb}
use borrow.Author.Tests.{eq-eqb, ne_eqb, eqb-true, eqb-false}
use Rattle.judgement.specs.Scan.{any_of, sum_of}
use Rattle.judgement.specs.Meaning.{positive, negative, is_positive}
use Rattle.judgement.specs.Literals.{count, code, variable, holds}
use Rattle.judgement.specs.Facts.{LiteralList}
use Rattle.judgement.proofs.Laws.Scan.{which, false_i, any_some, sum_same, sum_zero, sum_change}

-- the value of the literal c, if it stands among the first i of C
abbrev value_in : List ℕ → (ℕ → ℕ) → ℕ → ℕ → ℕ
value_in C f i c = cond (any_of (λ h. eqb (code C h) c) i) (f c) 0

-- the next literal brings no value but its own
other_literal : (C : List ℕ) (f : ℕ → ℕ) (i c : ℕ) → (code C (suc i) ≡ c → ⊥) → value_in C f i c ≡ value_in C f (suc i) c
unfolding any_of
other_literal C f i c ne = rw (ne_eqb (code C (suc i)) c ne) (go (any_of (λ h. eqb (code C h) c) i))
  where
    go : (b : Bool) → cond b (f c) 0 ≡ cond (b || false) (f c) 0
    go true = refl
    go false = refl

-- and its own, as it has not stood before
new_literal : (n : ℕ) (C : List ℕ) (f : ℕ → ℕ) (i c : ℕ) → LiteralList n C → i < count C → code C (suc i) ≡ c
    → value_in C f i c + f c ≡ value_in C f (suc i) c
unfolding any_of
new_literal n C f i c list l e = rw (eq-eqb (code C (suc i)) c e, fresh) (omega arith)
  where
    fresh : any_of (λ h. eqb (code C h) c) i ≡ false
    fresh = false_i (any_of (λ h. eqb (code C h) c) i) (λ t.
        let (h, w, q) = any_some (λ h. eqb (code C h) c) i t in
        let r = list.variables.rising h (suc i) w.0 (omega (arith, w.1)) l in
        let same = eqb-true (code C h) c q in
        absurd (omega (arith, r, same, e)))

-- a list in form has one literal of each of its variables, so that a sum over its literals is one over variables
pub literals_by_variable : (n : ℕ) (C : List ℕ) (f : ℕ → ℕ) → LiteralList n C
    → sum_of (λ i. f (code C i)) (count C)
    ≡ sum_of (λ v. cond (holds C (positive v)) (f (positive v)) 0 + cond (holds C (negative v)) (f (negative v)) 0) n
unfolding holds any_of sum_of
literals_by_variable n C f list = go (count C) (le_refl (count C))
  where
    -- the values of the literals of v among the first i
    before : ℕ → ℕ → ℕ
    before i v = value_in C f i (positive v) + value_in C f i (negative v)

    next : (i : ℕ) → i < count C → sum_of (before i) n + f (code C (suc i)) ≡ sum_of (before (suc i)) n
    next i l =
        sum_change (before i) (before (suc i)) (f c) n (c / 2) (list.variables.range (suc i) (omega arith, omega (arith, l)))
        others (here (which (is_positive c)))
      where
        c : ℕ
        c = code C (suc i)

        others : (v : ℕ) → (v ≡ c / 2 → ⊥) → before i v ≡ before (suc i) v
        others v ne =
            let p = other_literal C f i (positive v) (λ q. ne (omega (arith, q))) in
            let m = other_literal C f i (negative v) (λ q. ne (omega (arith, q))) in
            omega (arith, p, m)

        here : (is_positive c ≡ true) ⊎ (is_positive c ≡ false) → before i (c / 2) + f c ≡ before (suc i) (c / 2)
        here (inl p) =
            let even = eqb-true (c % 2) 0 p in
            let e : c ≡ positive (c / 2) = omega (arith, even) in
            let own = new_literal n C f i (positive (c / 2)) list l e in
            let other = other_literal C f i (negative (c / 2)) (λ q. omega (arith, q, even)) in
            let same = ap f e in
            omega (arith, own, other, same)
        here (inr p) =
            let odd = eqb-false (c % 2) 0 p in
            let e : c ≡ negative (c / 2) = omega (arith, odd) in
            let own = new_literal n C f i (negative (c / 2)) list l e in
            let other = other_literal C f i (positive (c / 2)) (λ q. odd (omega (arith, q))) in
            let same = ap f e in
            omega (arith, own, other, same)

    go : (i : ℕ) → i ≤ count C → sum_of (λ h. f (code C h)) i ≡ sum_of (before i) n
    go zero l = sym (sum_zero (before 0) n (λ v. refl))
    go (suc i) l =
        let a = go i (omega (arith, l)) in
        let b = next i l in
        omega (arith, a, b)

-- and one over its negative literals likewise
pub negatives_by_variable : (n : ℕ) (C : List ℕ) (f : ℕ → ℕ) → LiteralList n C
    → sum_of (λ i. cond (is_positive (code C i)) 0 (f (variable C i))) (count C) ≡ sum_of (λ v. cond (holds C (negative v)) (f v) 0) n
negatives_by_variable n C f list =
    literals_by_variable n C (λ c. cond (is_positive c) 0 (f (c / 2))) list
    ∙ sum_same _ _ n (λ v w. go v (holds C (positive v)) (holds C (negative v)))
  where
    go : (v : ℕ) (p m : Bool)
        → cond p (cond (is_positive (positive v)) 0 (f (positive v / 2))) 0 + cond m (cond (is_positive (negative v)) 0 (f (negative v / 2))) 0
        ≡ cond m (f v) 0
    go v p m =
        let even : positive v % 2 ≡ 0 = omega arith in
        let odd : negative v % 2 ≡ 0 → ⊥ = λ z. omega (arith, z) in
        let own : negative v / 2 ≡ v = omega arith in
        rw (eq-eqb (positive v % 2) 0 even, ne_eqb (negative v % 2) 0 odd, own) (by p m)
      where
        by : (p m : Bool) → cond p 0 0 + cond m (f v) 0 ≡ cond m (f v) 0
        by true m = omega arith
        by false m = omega arith
