-- What the literals of one clause do, one after the other, and all of them together.
-- Assumes nothing.
use Rattle.std.proofs.Common.{◌≡◌, ℕ, zero, suc, ◌+◌, ◌*◌, ◌%◌, ◌^◌, ◌<◌, ◌≤◌, Bool, true, false, cond, ◌||◌, eqb, ◌⊎◌, List, ℤ, pos, ◌+ℤ◌, ◌-ℤ◌, neg_ℤ, nat_abs, sym, refl, ◌∙◌, inl, inr, add-one, arith, eq-eqb, ne_eqb, eqb-true}
use mathlib.Core.Bool.{or-false}
use native.Mathlib.Decide.{ℕ_discrete}
use lib.IntN.{+ℤ_assoc, +ℤ_comm}
use borrow.Author.Tests.{eqb-false}
use Rattle.judgement.specs.Scan.{any_of}
use Rattle.judgement.specs.Meaning.{positive, negative, is_positive}
use Rattle.judgement.specs.Literals.{count, code, variable, holds, mentions}
use Rattle.judgement.specs.Integers.{sum_of_ℤ, below_zero}
use Rattle.judgement.specs.Linear.{addend, addend_sum}
use Rattle.judgement.specs.Facts.{Among, LiteralList}
use Rattle.judgement.proofs.Laws.Scan.{which, last_or}
use Rattle.judgement.proofs.Laws.Integers.{sum_ℤ_same, equal_parts, sum_parts, minus_parts, less_parts, one_part, size_parts}
use Rattle.checker.specs.Weighing.{shift, moved}
use Rattle.checker.proofs.Marking.{held_to, unheld}
use Rattle.checker.proofs.Bits.{shift_size}

-- ---- sums of integers

swap_last : (a x b : ℤ) → a +ℤ x +ℤ b ≡ a +ℤ b +ℤ x
swap_last a x b = +ℤ_assoc a x b ∙ rw (+ℤ_comm x b) (sym (+ℤ_assoc a b x))

-- where one value alone differs, by x, so does the sum
sum_ℤ_change : (f g : ℕ → ℤ) (x : ℤ) (n u : ℕ) → Among n u → ((k : ℕ) → (u ≡ k → ⊥) → g k ≡ f k) → g u ≡ f u +ℤ x
    → sum_of_ℤ g n ≡ sum_of_ℤ f n +ℤ x
unfolding sum_of_ℤ
sum_ℤ_change f g x zero u w h more = absurd (omega (arith, w.0, w.1))
sum_ℤ_change f g x (suc n) u w h more = last_or n u w here (λ v. there v (sum_ℤ_change f g x n u v h more))
  where
    here : u ≡ suc n → sum_of_ℤ g n +ℤ g (suc n) ≡ sum_of_ℤ f n +ℤ f (suc n) +ℤ x
    here e =
        let m : g (suc n) ≡ f (suc n) +ℤ x = rw e at more in
        rw (sum_ℤ_same g f n (λ k (l, m). h k (omega arith)), m) (sym (+ℤ_assoc (sum_of_ℤ f n) (f (suc n)) x))

    there : Among n u → sum_of_ℤ g n ≡ sum_of_ℤ f n +ℤ x → sum_of_ℤ g n +ℤ g (suc n) ≡ sum_of_ℤ f n +ℤ f (suc n) +ℤ x
    there v i = rw (i, h (suc n) (omega (arith, v.1))) (swap_last (sum_of_ℤ f n) x (f (suc n)))

-- a change and what it is changed by
back_again : (a b : ℤ) → b ≡ a +ℤ (b -ℤ a)
back_again a b =
    let m = minus_parts b a in
    let s = sum_parts a (b -ℤ a) in
    equal_parts b (a +ℤ (b -ℤ a)) (omega (arith, m, s))

-- ---- one variable's remainder is moved

moved_here : (rem : ℕ → ℤ) (u : ℕ) (z : ℤ) → moved rem u z u ≡ rem u +ℤ z
moved_here rem u z = rw (eq-eqb u u refl)

moved_there : (rem : ℕ → ℤ) (u v : ℕ) (z : ℤ) → (u ≡ v → ⊥) → moved rem u z v ≡ rem v
moved_there rem u v z h = rw (ne_eqb u v h)

pub addends_moved : (D : List ℕ) (n : ℕ) (rem : ℕ → ℤ) (u : ℕ) (z : ℤ) → Among n u
    → addend_sum D n (moved rem u z) ≡ addend_sum D n rem +ℤ (addend D u (rem u +ℤ z) -ℤ addend D u (rem u))
unfolding addend_sum
addends_moved D n rem u z w =
    sum_ℤ_change (λ v. addend D v (rem v)) (λ v. addend D v (moved rem u z v)) (addend D u (rem u +ℤ z) -ℤ addend D u (rem u)) n u w
    (λ v h. rw (moved_there rem u v z h))
    (rw (moved_here rem u z) (back_again (addend D u (rem u)) (addend D u (rem u +ℤ z))))

pub addends_same : (D : List ℕ) (n : ℕ) (rem rem' : ℕ → ℤ) → ((v : ℕ) → Among n v → rem v ≡ rem' v)
    → addend_sum D n rem ≡ addend_sum D n rem'
unfolding addend_sum
addends_same D n rem rem' h = sum_ℤ_same (λ v. addend D v (rem v)) (λ v. addend D v (rem' v)) n (λ v w. rw (h v w))

-- by no more than the remainder is
pub addend_close : (D : List ℕ) (v : ℕ) (r z : ℤ) → nat_abs (addend D v (r +ℤ z) -ℤ addend D v r) ≤ nat_abs z
unfolding addend
addend_close D v r z = go (holds D (negative v)) (mentions D v)
  where
    go : (h m : Bool) → nat_abs (cond h (r +ℤ z) (cond m (pos 0) (below_zero (r +ℤ z))) -ℤ cond h r (cond m (pos 0) (below_zero r))) ≤ nat_abs z
    go true m =
        let s = sum_parts r z in
        let d = minus_parts (r +ℤ z) r in
        omega (arith, s, d, one_part (r +ℤ z -ℤ r), one_part z, size_parts (r +ℤ z -ℤ r), size_parts z)
    go false true = omega arith
    go false false =
        let s = sum_parts r z in
        let d = minus_parts (below_zero (r +ℤ z)) (below_zero r) in
        let a = less_parts (r +ℤ z) in
        let b = less_parts r in
        omega (arith, s, d, a, b, one_part (below_zero (r +ℤ z) -ℤ below_zero r), one_part r, one_part (r +ℤ z), size_parts (below_zero (r +ℤ z) -ℤ below_zero r), size_parts z)

-- ---- the first i literals of a clause C of weight y

unfoldable pub rem_to : (ℕ → ℤ) → List ℕ → ℕ → ℕ → ℕ → ℤ
rem_to rem C y zero = rem
rem_to rem C y (suc i) = moved (rem_to rem C y i) (variable C (suc i)) (shift (code C (suc i)) y)

pub rem_to_size : (rem : ℕ → ℤ) (C : List ℕ) (y i v : ℕ) → y < 2 ^ 16 → nat_abs (rem_to rem C y i v) ≤ nat_abs (rem v) + 65536 * i
unfolding rem_to
rem_to_size rem C y zero v h = omega arith
rem_to_size rem C y (suc i) v h = go (eqb (variable C (suc i)) v) (rem_to rem C y i v) (rem_to_size rem C y i v h)
  where
    go : (b : Bool) (x : ℤ) → nat_abs x ≤ nat_abs (rem v) + 65536 * i
        → nat_abs (cond b (x +ℤ shift (code C (suc i)) y) x) ≤ nat_abs (rem v) + 65536 * suc i
    go true x k =
        let s = shift_size x (code C (suc i)) y in
        omega (arith, s, k, h)
    go false x k = omega arith

-- ---- what the whole clause does

-- a weight is taken away, or added, where the clause holds the variable, or holds it negated
abbrev pub turned : ℤ → Bool → Bool → ℕ → ℤ
turned r p n y = r -ℤ pos (cond p y 0) +ℤ pos (cond n y 0)

pub turned_not : (r : ℤ) (y : ℕ) → turned r false false y ≡ r
turned_not r y =
    let a = minus_parts r (pos 0) in
    let b = sum_parts (r -ℤ pos 0) (pos 0) in
    equal_parts (r -ℤ pos 0 +ℤ pos 0) r (omega (arith, a, b))

turned_positive : (r : ℤ) (y : ℕ) → r +ℤ neg_ℤ (pos y) ≡ turned r true false y
turned_positive r y =
    let b = sum_parts (r -ℤ pos y) (pos 0) in
    equal_parts (r -ℤ pos y) (r -ℤ pos y +ℤ pos 0) (omega (arith, b))

turned_negative : (r : ℤ) (y : ℕ) → r +ℤ pos y ≡ turned r false true y
turned_negative r y =
    let a = minus_parts r (pos 0) in
    let b = sum_parts (r -ℤ pos 0) (pos y) in
    let c = sum_parts r (pos y) in
    equal_parts (r +ℤ pos y) (r -ℤ pos 0 +ℤ pos y) (omega (arith, a, b, c))

pub rem_to_turned : (rem : ℕ → ℤ) (C : List ℕ) (y : ℕ) → LiteralList 1024 C → (i v : ℕ) → i ≤ count C
    → rem_to rem C y i v ≡ turned (rem v) (held_to C i (positive v)) (held_to C i (negative v)) y
unfolding rem_to any_of
rem_to_turned rem C y list zero v l = sym (turned_not (rem v) y)
rem_to_turned rem C y list (suc i) v l = go (ℕ_discrete (variable C (suc i)) v) (rem_to_turned rem C y list i v (omega arith))
  where
    c : ℕ
    c = code C (suc i)

    go : Dec (variable C (suc i) ≡ v) → rem_to rem C y i v ≡ turned (rem v) (held_to C i (positive v)) (held_to C i (negative v)) y
        → cond (eqb (variable C (suc i)) v) (rem_to rem C y i v +ℤ shift c y) (rem_to rem C y i v)
        ≡ turned (rem v) (held_to C i (positive v) || eqb c (positive v)) (held_to C i (negative v) || eqb c (negative v)) y
    go (no q) h =
        rw (ne_eqb (variable C (suc i)) v q, ne_eqb c (positive v) (λ e. q (omega (arith, e))), ne_eqb c (negative v) (λ e. q (omega (arith, e))), or-false (held_to C i (positive v)), or-false (held_to C i (negative v)))
        h
    go (yes q) h = rw (eq-eqb (variable C (suc i)) v q, no_positive, no_negative) (by (which (is_positive c)) (rw (no_positive, no_negative, turned_not (rem v) y) at h))
      where
        no_positive : held_to C i (positive v) ≡ false
        no_positive = unheld C i {c = c} list l (rw add-one) (positive v) (omega (arith, q))

        no_negative : held_to C i (negative v) ≡ false
        no_negative = unheld C i {c = c} list l (rw add-one) (negative v) (omega (arith, q))

        by : (is_positive c ≡ true) ⊎ (is_positive c ≡ false) → rem_to rem C y i v ≡ rem v
            → rem_to rem C y i v +ℤ shift c y ≡ turned (rem v) (eqb c (positive v)) (eqb c (negative v)) y
        by (inl p) k =
            let even = eqb-true (c % 2) 0 p in
            rw (k, p, eq-eqb c (positive v) (omega (arith, even, q)), ne_eqb c (negative v) (λ e. absurd (omega (arith, even, e)))) (turned_positive (rem v) y)
        by (inr p) k =
            let odd = eqb-false (c % 2) 0 p in
            rw (k, p, ne_eqb c (positive v) (λ e. absurd (omega (arith, odd, e))), eq-eqb c (negative v) (omega (arith, odd, q))) (turned_negative (rem v) y)
