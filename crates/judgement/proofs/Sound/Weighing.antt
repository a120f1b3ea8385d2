-- Kind 5: the total as a difference of natural numbers, and that a variable adds no more to it than an assignment that falsifies the
-- step's literals pays for it.
-- Assumes nothing.
use Prim.Native.Nat.{ℕ, ◌+◌, ◌-◌, ◌*◌, ◌%◌, ◌≤◌}
use mathlib.Core.Path.{◌≡◌, refl}
use mathlib.Core.Bool.{Bool, true, false, cond}
use mathlib.Core.List.{List}
use mathlib.Core.Logic.{◌⊎◌, inl, inr}
use native.Mathlib.Omega.{arith}
use native.Mathlib.Nat.{mul-zero}
use lib.IntN.{ℤ, pos, ◌-ℤ◌, ◌*ℤ◌}
use borrow.Author.Tests.{eqb-true, eqb-false, not-false}
use Rattle.judgement.specs.Scan.{sum_of}
use Rattle.judgement.specs.Meaning.{Assignment, positive, negative, is_positive, Falsifies}
use Rattle.judgement.specs.Literals.{count, code, variable, holds, mentions}
use Rattle.judgement.specs.Sheet.{variables, cost_of}
use Rattle.judgement.specs.Step.{divisor, weight}
use Rattle.judgement.specs.Integers.{sum_of_ℤ, below_zero}
use Rattle.judgement.specs.Linear.{entry_clause, weight_of, remainder, negatives, entry_sum, addend, addend_sum, total_of}
use Rattle.judgement.specs.Facts.{Among}
use Rattle.judgement.proofs.Laws.Scan.{which, clash, sum_split, sum_times}
use Rattle.judgement.proofs.Laws.Membership.{in_holds, mentions_in}
use Rattle.judgement.proofs.Laws.Truth.{positive_true, negative_true}
use Rattle.judgement.proofs.Laws.Integers.{Diff, pos_diff, add_diff, minus_diff, times_diff, less_diff, sum_diff}

-- ---- sums over true variables

-- the sum of the values of the true variables
abbrev pub true_sum : Assignment → (ℕ → ℕ) → ℕ → ℕ
true_sum α f n = sum_of (λ v. cond (α v) (f v) 0) n

pub true_split : (α : Assignment) (f g : ℕ → ℕ) (n : ℕ) → true_sum α (λ v. f v + g v) n ≡ true_sum α f n + true_sum α g n
true_split α f g n =
    sum_split (λ v. cond (α v) (f v + g v) 0) (λ v. cond (α v) (f v) 0) (λ v. cond (α v) (g v) 0) n
    (λ v. part (α v) (f v) (g v))
  where
    part : (t : Bool) (x y : ℕ) → cond t (x + y) 0 ≡ cond t x 0 + cond t y 0
    part true x y = refl
    part false x y = omega arith

pub true_times : (α : Assignment) (d : ℕ) (f : ℕ → ℕ) (n : ℕ) → d * true_sum α f n ≡ true_sum α (λ v. d * f v) n
true_times α d f n = sum_times d (λ v. cond (α v) (f v) 0) (λ v. cond (α v) (d * f v) 0) n (λ v. part (α v) (f v))
  where
    part : (t : Bool) (x : ℕ) → d * cond t x 0 ≡ cond t (d * x) 0
    part true x = refl
    part false x = mul-zero d

-- ---- one clause

-- what a clause of weight y takes from the remainder of each variable that it holds, and adds to that of each that it holds
-- negated
abbrev pub takes : List ℕ → ℕ → ℕ → ℕ
takes C y v = cond (holds C (positive v)) y 0

abbrev pub adds : List ℕ → ℕ → ℕ → ℕ
adds C y v = cond (holds C (negative v)) y 0

pub no_value : (t : Bool) → cond {A = ℕ} t 0 0 ≡ 0
no_value true = refl
no_value false = refl

-- ---- the total as a difference

-- d times the cost of v, and the weights that are added
abbrev pub credit : List ℕ → List ℕ → ℕ → ℕ → ℕ
credit s e q v = divisor e * cost_of s v + weight_of s e q (negative v)

-- the weights that are taken away
abbrev pub debit : List ℕ → List ℕ → ℕ → ℕ → ℕ
debit s e q v = weight_of s e q (positive v)

remainder_diff : (s e : List ℕ) (q v : ℕ) → Diff (remainder s e q v) (credit s e q v) (debit s e q v)
unfolding remainder
remainder_diff s e q v =
    let m = minus_diff (pos x) (pos p) x 0 p 0 (pos_diff x) (pos_diff p) in
    let a = add_diff (pos x -ℤ pos p) (pos a) (x + 0) (0 + p) a 0 m (pos_diff a) in
    omega (arith, a)
  where
    x : ℕ
    x = divisor e * cost_of s v

    p : ℕ
    p = weight_of s e q (positive v)

    a : ℕ
    a = weight_of s e q (negative v)

-- what a variable with credit a and debit p adds to the total, and takes from it
abbrev pub gain : List ℕ → ℕ → ℕ → ℕ
gain D v a = cond (holds D (negative v)) a 0

abbrev pub loss : List ℕ → ℕ → ℕ → ℕ → ℕ
loss D v a p = cond (holds D (negative v)) p (cond (mentions D v) 0 (p - a))

addend_diff : (D : List ℕ) (v : ℕ) (r : ℤ) (a p : ℕ) → Diff r a p → Diff (addend D v r) (gain D v a) (loss D v a p)
unfolding addend
addend_diff D v r a p h = go (holds D (negative v)) (mentions D v)
  where
    go : (t m : Bool) → Diff (cond t r (cond m (pos 0) (below_zero r))) (cond t a 0) (cond t p (cond m 0 (p - a)))
    go true m = h
    go false true = refl
    go false false = less_diff r a p h

pub entry_diff : (y k : ℕ) → Diff (pos y *ℤ (pos 1 -ℤ pos k)) y (y * k)
entry_diff y k =
    let m = minus_diff (pos 1) (pos k) 1 0 k 0 (pos_diff 1) (pos_diff k) in
    let t = times_diff y (pos 1 -ℤ pos k) 1 k (omega (arith, m)) in
    omega (arith, t)

pub total_diff : (s D e : List ℕ) (q : ℕ)
    → Diff (total_of s D e q)
    (sum_of (weight e) q + sum_of (λ v. gain D v (credit s e q v)) (variables s))
    (sum_of (λ j. weight e j * negatives (entry_clause s e j)) q
    + sum_of (λ v. loss D v (credit s e q v) (debit s e q v)) (variables s))
unfolding total_of entry_sum addend_sum
total_diff s D e q =
    add_diff
    (sum_of_ℤ entry q)
    (sum_of_ℤ share (variables s))
    (sum_of (weight e) q)
    (sum_of (λ j. weight e j * negatives (entry_clause s e j)) q)
    (sum_of (λ v. gain D v (credit s e q v)) (variables s))
    (sum_of (λ v. loss D v (credit s e q v) (debit s e q v)) (variables s))
    (sum_diff entry (weight e) (λ j. weight e j * negatives (entry_clause s e j)) q (λ j. entry_diff (weight e j) (negatives (entry_clause s e j))))
    (sum_diff share (λ v. gain D v (credit s e q v)) (λ v. loss D v (credit s e q v) (debit s e q v)) (variables s)
    (λ v. addend_diff D v (remainder s e q v) (credit s e q v) (debit s e q v) (remainder_diff s e q v)))
  where
    entry : ℕ → ℤ
    entry j = pos (weight e j) *ℤ (pos 1 -ℤ pos (negatives (entry_clause s e j)))

    share : ℕ → ℤ
    share v = addend D v (remainder s e q v)

-- ---- each variable

-- what falsifying D makes of v
settled_true : (α : Assignment) (D : List ℕ) (v : ℕ) → Falsifies α (holds D) → holds D (negative v) ≡ true → α v ≡ true
settled_true α D v falsified h = not-false (α v) (rw (negative_true α v) at (falsified (negative v) h))

settled_false : (α : Assignment) (D : List ℕ) (v : ℕ) → Falsifies α (holds D) → holds D (negative v) ≡ false
    → mentions D v ≡ true → α v ≡ false
settled_false α D v falsified h m =
    let (i, w, e) = mentions_in D v m in
    go i w e (which (is_positive (code D i)))
  where
    go : (i : ℕ) → Among (count D) i → variable D i ≡ v → (is_positive (code D i) ≡ true) ⊎ (is_positive (code D i) ≡ false)
        → α v ≡ false
    go i w e (inl p) =
        let even = eqb-true (code D i % 2) 0 p in
        rw (positive_true α v) at (falsified (positive v) (in_holds D (positive v) (i, w, omega (arith, even, e))))
    go i w e (inr p) =
        let odd = eqb-false (code D i % 2) 0 p in
        absurd (clash (in_holds D (negative v) (i, w, omega (arith, odd, e))) h)

-- the total has no more of a variable than an assignment that falsifies D pays for it
pub variable_covered : (α : Assignment) (D : List ℕ) (v a p : ℕ) → Falsifies α (holds D)
    → gain D v a + cond (α v) p 0 ≤ loss D v a p + cond (α v) a 0
variable_covered α D v a p falsified = go (which (holds D (negative v))) (which (mentions D v))
  where
    unsettled : (t : Bool) → 0 + cond t p 0 ≤ p - a + cond t a 0
    unsettled true = omega arith
    unsettled false = omega arith

    go : (holds D (negative v) ≡ true) ⊎ (holds D (negative v) ≡ false) → (mentions D v ≡ true) ⊎ (mentions D v ≡ false)
        → gain D v a + cond (α v) p 0 ≤ loss D v a p + cond (α v) a 0
    go (inl h) m = rw (h, settled_true α D v falsified h) (omega arith)
    go (inr h) (inl m) = rw (h, m, settled_false α D v falsified h m) (omega arith)
    go (inr h) (inr m) = rw (h, m) (unsettled (α v))
