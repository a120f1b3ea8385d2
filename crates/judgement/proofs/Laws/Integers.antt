-- Laws of integers. An integer is a difference of two natural numbers, so that `omega`, which does not read integers, can tell of
-- it.
-- Assumes nothing.
use Prim.Native.Nat.{ℕ, zero, suc, ◌+◌, ◌-◌, ◌*◌, ◌/◌, ◌≤◌, ◌<◌, min}
use mathlib.Core.Path.{◌≡◌, refl}
use mathlib.Core.Bool.{cond}
use native.Mathlib.Omega.{arith}
use native.Mathlib.Decide.{dec_lt}
use native.Mathlib.Nat.{mul-add, mul-suc, mul_comm, div-lt_iff_lt-mul, le_refl}
use mathlib.Core.Logic.{◌⊎◌, inl, inr}
use lib.Dec.{ltb, leb→le, le→leb, ltb→lt, lt→ltb}
use lib.Signed.{◌<ℤ◌}
use lib.IntN.{ℤ, pos, negsuc, neg_ℤ, sub_ℕ, nat_abs, ◌+ℤ◌, ◌-ℤ◌, ◌*ℤ◌}
use borrow.Author.Tests.{lt-ltb, le-ltb}
use Rattle.judgement.specs.Scan.{sum_of}
use Rattle.judgement.specs.Integers.{sum_of_ℤ, below_zero, rounded_up, IsRoundedUp}
use Rattle.judgement.specs.Facts.{Among}

-- what z has above zero, and what it lacks
abbrev pub up : ℤ → ℕ
up (pos n) = n
up (negsuc n) = 0

abbrev pub down : ℤ → ℕ
down (pos n) = 0
down (negsuc n) = suc n

-- z is a minus b
abbrev pub Diff : ℤ → ℕ → ℕ → Type 0
Diff z a b = up z + b ≡ a + down z

-- ---- the operations

sub_diff : (a b : ℕ) → Diff (sub_ℕ a b) a b
sub_diff a b = go (dec_lt a b)
  where
    go : Dec (a < b) → Diff (cond (ltb a b) (negsuc (b - suc a)) (pos (a - b))) a b
    go (yes l) = rw (lt-ltb a b l) (omega arith)
    go (no l) = rw (le-ltb a b (omega (arith, l))) (omega (arith, l))

-- a sum by its parts
pub sum_parts : (z w : ℤ) → Diff (z +ℤ w) (up z + up w) (down z + down w)
sum_parts (pos n) (pos m) = omega arith
sum_parts (pos n) (negsuc m) =
    let h = sub_diff n (suc m) in
    omega (arith, h)
sum_parts (negsuc n) (pos m) =
    let h = sub_diff m (suc n) in
    omega (arith, h)
sum_parts (negsuc n) (negsuc m) = omega arith

neg_parts : (z : ℤ) → (up (neg_ℤ z) ≡ down z) × (down (neg_ℤ z) ≡ up z)
neg_parts (pos zero) = (refl, refl)
neg_parts (pos (suc n)) = (refl, refl)
neg_parts (negsuc n) = (refl, refl)

pub pos_diff : (n : ℕ) → Diff (pos n) n 0
pos_diff n = omega arith

pub add_diff : (z w : ℤ) (a b c e : ℕ) → Diff z a b → Diff w c e → Diff (z +ℤ w) (a + c) (b + e)
add_diff z w a b c e h k =
    let s = sum_parts z w in
    omega arith

pub minus_diff : (z w : ℤ) (a b c e : ℕ) → Diff z a b → Diff w c e → Diff (z -ℤ w) (a + e) (b + c)
minus_diff z w a b c e h k =
    let (u, d) = neg_parts w in
    add_diff z (neg_ℤ w) a b e c h (omega arith)

pub times_diff : (y : ℕ) (z : ℤ) (a b : ℕ) → Diff z a b → Diff (pos y *ℤ z) (y * a) (y * b)
times_diff y (pos n) a b h =
    let e : n + b ≡ a = omega (arith, h) in
    rw (← e, mul-add) (omega arith)
times_diff y (negsuc n) a b h =
    let e : b ≡ a + suc n = omega (arith, h) in
    let (u, d) = neg_parts (pos (y * suc n)) in
    rw (e, mul-add) (omega arith)

pub less_diff : (z : ℤ) (a b : ℕ) → Diff z a b → Diff (below_zero z) 0 (b - a)
less_diff (pos n) a b h = omega arith
less_diff (negsuc n) a b h = omega arith

pub sum_diff : (f : ℕ → ℤ) (g h : ℕ → ℕ) (n : ℕ) → ((k : ℕ) → Diff (f k) (g k) (h k))
    → Diff (sum_of_ℤ f n) (sum_of g n) (sum_of h n)
unfolding sum_of_ℤ sum_of
sum_diff f g h zero e = refl
sum_diff f g h (suc n) e =
    add_diff (sum_of_ℤ f n) (f (suc n)) (sum_of g n) (sum_of h n) (g (suc n)) (h (suc n)) (sum_diff f g h n e) (e (suc n))

pub sum_ℤ_same : (f g : ℕ → ℤ) (n : ℕ) → ((k : ℕ) → Among n k → f k ≡ g k) → sum_of_ℤ f n ≡ sum_of_ℤ g n
unfolding sum_of_ℤ
sum_ℤ_same f g zero h = refl
sum_ℤ_same f g (suc n) h =
    rw (sum_ℤ_same f g n (λ k w. h k (w.0, omega (arith, w.1))), h (suc n) (omega arith, omega arith))

-- ---- equality

-- differences that are the same are of the same integer
pub same_diff : (z w : ℤ) (a b : ℕ) → Diff z a b → Diff w a b → z ≡ w
same_diff (pos n) (pos m) a b h k =
    let e : n ≡ m = omega arith in
    rw e
same_diff (pos n) (negsuc m) a b h k = absurd (omega arith)
same_diff (negsuc n) (pos m) a b h k = absurd (omega arith)
same_diff (negsuc n) (negsuc m) a b h k =
    let e : n ≡ m = omega arith in
    rw e

-- ---- rounding up

-- where x covers n, n rounded up does not exceed x
rounded_most : (n d x : ℕ) → 1 ≤ d → n ≤ d * x → (n + (d - 1)) / d ≤ x
rounded_most n d x l h =
    let e = mul-suc d x in
    let less = (div-lt_iff_lt-mul {k = d} {x = n + (d - 1)} {y = suc x} l).1 (rw (mul_comm (suc x) d) (omega (arith, e))) in
    omega (arith, less)

-- and what is below n rounded up does not cover n
rounded_least : (n d x : ℕ) → 1 ≤ d → suc x ≤ (n + (d - 1)) / d → d * x < n
rounded_least n d x l h = go (dec_lt (d * x) n)
  where
    go : Dec (d * x < n) → d * x < n
    go (yes less) = less
    go (no less) = let most = rounded_most n d x l (omega (arith, less)) in absurd (omega (arith, most, h))

rounded_covers : (n d : ℕ) → 1 ≤ d → n ≤ d * ((n + (d - 1)) / d)
rounded_covers n d l =
    let q = (n + (d - 1)) / d in
    let e = mul-suc d q in
    let less = (div-lt_iff_lt-mul {k = d} {x = n + (d - 1)} {y = suc q} l).0 (omega arith) in
    let less-d : n + (d - 1) < d * suc q = rw (mul_comm d (suc q)) less in
    omega (arith, e, less-d)

-- rounded up, the quotient is the least cover
pub rounded_cover : (z : ℤ) (d : ℕ) → 1 ≤ d → IsRoundedUp z d (rounded_up z d)
rounded_cover (negsuc n) d l = record { covers = record { le = tt }; least = inl refl }
rounded_cover (pos n) d l = record {
  covers = record { le = le→leb n _ (rounded_covers n d l) };
  least = go ((n + (d - 1)) / d) (le_refl _);
}
  where
    go : (x : ℕ) → x ≤ (n + (d - 1)) / d → (x ≡ 0) ⊎ (pos (d * (x - 1)) <ℤ pos n)
    go zero h = inl refl
    go (suc x) h = let one_less : suc x - 1 ≡ x = omega arith in inr record { lt = lt→ltb _ n (rw one_less (rounded_least n d x l h)) }

-- and there is no other
pub cover_rounded : (z : ℤ) (d x : ℕ) → 1 ≤ d → IsRoundedUp z d x → x ≡ rounded_up z d
cover_rounded (negsuc n) d x l c = elim c.least [ inl e ↦ e | inr h ↦ absurd h.lt ]
cover_rounded (pos n) d x l c =
    let most = rounded_most n d x l (leb→le n (d * x) c.covers.le) in
    let low = go x c.least in
    omega (arith, most, low)
  where
    go : (x : ℕ) → (x ≡ 0) ⊎ (pos (d * (x - 1)) <ℤ pos n) → x ≤ (n + (d - 1)) / d
    go zero h = omega arith
    go (suc x) (inl e) = absurd (omega (arith, e))
    go (suc x) (inr h) = by (dec_lt ((n + (d - 1)) / d) (suc x))
      where
        by : Dec ((n + (d - 1)) / d < suc x) → suc x ≤ (n + (d - 1)) / d
        by (no less) = omega (arith, less)
        by (yes less) =
            let one_less : suc x - 1 ≡ x = omega arith in
            let above : d * x < n = ltb→lt (d * x) n (rw one_less at h.lt) in
            let e = mul-suc d x in
            let below = (div-lt_iff_lt-mul {k = d} {x = n + (d - 1)} {y = suc x} l).0 less in
            let below-d : n + (d - 1) < d * suc x = rw (mul_comm d (suc x)) below in
            absurd (omega (arith, above, e, below-d))

-- the least cover of a minus b does not exceed what covers it
pub cover_diff : (z : ℤ) (a b d x y : ℕ) → Diff z a b → 1 ≤ d → IsRoundedUp z d x → a ≤ d * y + b → x ≤ y
cover_diff z a b d x y h l c m = rw (cover_rounded z d x l c) (go z h)
  where
    go : (z : ℤ) → Diff z a b → rounded_up z d ≤ y
    go (pos n) h = rounded_most n d y l (omega (arith, h, m))
    go (negsuc n) h = omega arith

-- ---- integers by their parts: an equation of integers is one of natural numbers

pub equal_parts : (z w : ℤ) → up z + down w ≡ up w + down z → z ≡ w
equal_parts z w e = same_diff z w (up z) (down z) refl (omega (arith, e))

pub minus_parts : (z w : ℤ) → Diff (z -ℤ w) (up z + down w) (down z + up w)
minus_parts z w = minus_diff z w (up z) (down z) (up w) (down w) refl refl

pub same_parts : {z w : ℤ} → z ≡ w → (up z ≡ up w) × (down z ≡ down w)
same_parts e = (rw e, rw e)

pub less_parts : (z : ℤ) → (up (below_zero z) ≡ 0) × (down (below_zero z) ≡ down z)
less_parts (pos n) = (refl, refl)
less_parts (negsuc n) = (refl, refl)

pub one_part : (z : ℤ) → min (up z) (down z) ≡ 0
one_part (pos n) = omega arith
one_part (negsuc n) = omega arith

pub size_parts : (z : ℤ) → nat_abs z ≡ up z + down z
size_parts (pos n) = omega arith
size_parts (negsuc n) = omega arith
