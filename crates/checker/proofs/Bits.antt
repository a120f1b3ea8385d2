-- What a signed local holds. The machine keeps the bits of an integer, and each operation reads the integer back: `to_z w64` of
-- `of_z w64`. Where the integer is small, what is read back is the integer itself.
-- Assumes nothing.
use Rattle.std.proofs.Common.{◌≡◌, ℕ, zero, suc, ◌+◌, ◌-◌, ◌*◌, ◌/◌, ◌%◌, ◌^◌, ◌<◌, ◌≤◌, Bool, true, false, cond, T, ℤ, pos, negsuc, ◌+ℤ◌, ◌-ℤ◌, neg_ℤ, nat_abs, refl, mul-le-mul, div-le_self, arith, w64, Fits, SFits, to_z, of_z, lt-ltb}
use native.Mathlib.Nat.{div-eq_of_lt}
use lib.Signed.{mag, quot_z, non_neg}
use mir.ValLaws.{to_z-of_z, to_z_pos}
use Rattle.std.specs.Int.{int_min, int_max}
use Rattle.judgement.specs.Meaning.{is_positive}
use Rattle.judgement.specs.Integers.{below_zero, rounded_up}
use Rattle.checker.specs.Weighing.{shift}
use Rattle.judgement.proofs.Laws.Integers.{up, down, Diff, add_diff, size_parts}

-- ---- a difference of naturals in 64 bits

pub wrapped_fits : (x : ℕ) → x % 2 ^ 64 < 2 ^ 64
wrapped_fits x = omega arith

pub wrapped_back : (a b : ℕ) → a < 2 ^ 64 → b ≤ 2 ^ 64 → ((a + (2 ^ 64 - b)) % 2 ^ 64 + b) % 2 ^ 64 ≡ a
wrapped_back a b h l = omega arith

-- ---- small integers

pub small : (z : ℤ) → nat_abs z < 2 ^ 63 → SFits w64 z
small (pos n) h = record { sfits = h }
small (negsuc n) h = record { sfits = omega arith }

pub back : (z : ℤ) → nat_abs z < 2 ^ 63 → to_z w64 (of_z w64 z) ≡ z
back z h = to_z-of_z w64 z (small z h)

pub natural : (n : ℕ) → n < 2 ^ 63 → to_z w64 n ≡ pos n
natural n h = to_z_pos w64 n h

pub add_size : (z w : ℤ) → nat_abs (z +ℤ w) ≤ nat_abs z + nat_abs w
add_size z w = go (z +ℤ w) (add_diff z w (up z) (down z) (up w) (down w) (omega arith) (omega arith))
  where
    go : (x : ℤ) → Diff x (up z + up w) (down z + down w) → nat_abs x ≤ nat_abs z + nat_abs w
    go (pos n) h = omega (arith, h, size_parts z, size_parts w)
    go (negsuc n) h = omega (arith, h, size_parts z, size_parts w)

pub less_size : (z : ℤ) → nat_abs (below_zero z) ≤ nat_abs z
less_size (pos n) = omega arith
less_size (negsuc n) = omega arith

-- ---- rounding up

-- z where it is positive, else 0
abbrev pub above_zero : ℤ → ℕ
above_zero z = nat_abs (int_max z (pos 0))

pub above_is : (z : ℤ) → int_max z (pos 0) ≡ pos (above_zero z)
above_is (pos zero) = refl
above_is (pos (suc n)) = rw (lt-ltb 0 (suc n) (omega arith))
above_is (negsuc n) = refl

pub above_size : (z : ℤ) → above_zero z ≤ nat_abs z
above_size (pos zero) = omega arith
above_size (pos (suc n)) = rw (lt-ltb 0 (suc n) (omega arith)) (omega arith)
above_size (negsuc n) = omega arith

pub rounded_small : (z : ℤ) (d : ℕ) → nat_abs z < 2 ^ 62 → d < 2 ^ 16 → rounded_up z d < 2 ^ 63
rounded_small (pos n) d b h = let q = div-le_self (n + (d - 1)) d in omega arith
rounded_small (negsuc n) d b h = omega arith

-- the bits of the quotient of a sum x by d: both are read back
abbrev pub quotient_bits : ℤ → ℕ → ℕ
quotient_bits x d = of_z w64 (quot_z (to_z w64 (of_z w64 x)) (to_z w64 d))

pub quotient_small : (n d : ℕ) → n < 2 ^ 62 → d < 2 ^ 16 → (n + (d - 1)) / d < 2 ^ 63
quotient_small n d b h =
    let q = div-le_self (n + (d - 1)) d in
    omega arith

pub quotient_read : (x : ℤ) (n d : ℕ) → x ≡ pos (n + (d - 1)) → n < 2 ^ 62 → d < 2 ^ 16
    → quot_z (to_z w64 (of_z w64 x)) (to_z w64 d) ≡ pos ((n + (d - 1)) / d)
quotient_read x n d e b h = rw (e, back (pos (n + (d - 1))) (omega arith), natural d (omega arith))

pub quotient_back : (x : ℤ) (n d : ℕ) → x ≡ pos (n + (d - 1)) → n < 2 ^ 62 → d < 2 ^ 16
    → to_z w64 (quotient_bits x d) ≡ pos ((n + (d - 1)) / d)
quotient_back x n d e b h = rw (quotient_read x n d e b h) (back (pos ((n + (d - 1)) / d)) (quotient_small n d b h))

-- where the sum is of the total z, or 0 where that is below 0, and d - 1
module _ (z : ℤ) (d : ℕ) {x : ℤ} (b : nat_abs z < 2 ^ 62) (h : d < 2 ^ 16) (sum : x ≡ pos (above_zero z + (d - 1))) where
  few : above_zero z < 2 ^ 62
  few = let s = above_size z in omega arith

  bits : to_z w64 (quotient_bits x d) ≡ pos ((above_zero z + (d - 1)) / d)
  bits = quotient_back x (above_zero z) d sum few h

  pub quotient_natural : T (non_neg (to_z w64 (quotient_bits x d)))
  quotient_natural = rw bits tt

  pub quotient_fits : Fits w64 (nat_abs (to_z w64 (quotient_bits x d)))
  quotient_fits =
      let q = quotient_small (above_zero z) d few h in
      rw bits (record { fits = omega arith })

  pub rounded_read : 1 ≤ d → nat_abs (to_z w64 (quotient_bits x d)) ≡ rounded_up z d
  rounded_read l = rw bits (rounds z)
    where
      rounds : (z : ℤ) → (above_zero z + (d - 1)) / d ≡ rounded_up z d
      rounds (pos zero) = refl
      rounds (pos (suc n)) = rw (lt-ltb 0 (suc n) (omega arith)) refl
      rounds (negsuc n) = div-eq_of_lt (omega arith)

  pub rounded_below : 1 ≤ d → nat_abs (to_z w64 (quotient_bits x d)) < 2 ^ 63
  rounded_below l = rw (rounded_read l) (rounded_small z d b h)

-- ---- the lesser of an integer and 0

pub min_zero : (z : ℤ) → int_min z (pos 0) ≡ below_zero z
min_zero (pos zero) = refl
min_zero (pos (suc n)) = rw (lt-ltb 0 (suc n) (omega arith))
min_zero (negsuc n) = refl

-- ---- values that the machine is known to hold: a parameter (`c.fits.x.sfits`), a call's result (`.ok`), an element (`.given`)

abbrev pub Held : ℤ → Type 0
Held z = mag z < 2 ^ 63

-- what the machine reads back of z
abbrev pub again : ℤ → ℤ
again z = to_z w64 (of_z w64 z)

pub held : (z : ℤ) → Held z → again z ≡ z
held z h = to_z-of_z w64 z (record { sfits = h })

pub neg_size : (z : ℤ) → nat_abs (neg_ℤ z) ≡ nat_abs z
neg_size (pos zero) = refl
neg_size (pos (suc n)) = refl
neg_size (negsuc n) = refl

pub minus_size : (z w : ℤ) → nat_abs (z -ℤ w) ≤ nat_abs z + nat_abs w
minus_size z w =
    let s = add_size z (neg_ℤ w) in
    let e = neg_size w in
    omega arith

-- z + w and z - w, where both are small; z' and w' are what the machine reads of them
pub plus_small : (z w : ℤ) {z' w' : ℤ} → z' ≡ z → w' ≡ w → nat_abs z < 2 ^ 62 → nat_abs w < 2 ^ 62 → SFits w64 (z' +ℤ w')
plus_small z w e f a b =
    let s = add_size z w in
    rw (e, f) (small (z +ℤ w) (omega arith))

pub plus_back : (z w : ℤ) {z' w' : ℤ} → z' ≡ z → w' ≡ w → nat_abs z < 2 ^ 62 → nat_abs w < 2 ^ 62 → again (z' +ℤ w') ≡ z +ℤ w
plus_back z w e f a b =
    let s = add_size z w in
    rw (e, f) (back (z +ℤ w) (omega arith))

pub minus_small : (z w : ℤ) {z' w' : ℤ} → z' ≡ z → w' ≡ w → nat_abs z < 2 ^ 62 → nat_abs w < 2 ^ 62 → SFits w64 (z' -ℤ w')
minus_small z w e f a b =
    let s = minus_size z w in
    rw (e, f) (small (z -ℤ w) (omega arith))

pub minus_back : (z w : ℤ) {z' w' : ℤ} → z' ≡ z → w' ≡ w → nat_abs z < 2 ^ 62 → nat_abs w < 2 ^ 62 → again (z' -ℤ w') ≡ z -ℤ w
minus_back z w e f a b =
    let s = minus_size z w in
    rw (e, f) (back (z -ℤ w) (omega arith))

pub less_back : (x r : ℤ) → Held x → Held r → r ≡ int_min (again x) (pos 0) → again r ≡ below_zero x
less_back x r hx hr e = rw (held r hr, e, held x hx) (min_zero x)

-- ---- a literal's weight, where w is y or 0

pub product_small : (d x : ℕ) → d < 2 ^ 16 → x < 2 ^ 32 → d * x ≤ 2 ^ 48
product_small d x a b = mul-le-mul {n₁ = d} {m₁ = x} {n₂ = 2 ^ 16} {m₂ = 2 ^ 32} (omega arith) (omega arith)

pub shift_size : (x : ℤ) (c y : ℕ) → nat_abs (x +ℤ shift c y) ≤ nat_abs x + y
shift_size x c y = go (is_positive c)
  where
    go : (b : Bool) → nat_abs (x +ℤ cond b (neg_ℤ (pos y)) (pos y)) ≤ nat_abs x + y
    go true =
        let s = minus_size x (pos y) in
        omega arith
    go false =
        let s = add_size x (pos y) in
        omega arith

pub shift_bound : (c y : ℕ) → y < 2 ^ 16 → nat_abs (shift c y) ≤ 2 ^ 16
shift_bound c y h = go (is_positive c)
  where
    go : (b : Bool) → nat_abs (cond b (neg_ℤ (pos y)) (pos y)) ≤ 2 ^ 16
    go true = let e = neg_size (pos y) in omega (arith, e, h)
    go false = omega (arith, h)

pub again_right : (x w : ℤ) → Held w → x +ℤ again w ≡ x +ℤ w
again_right x w h = rw (held w h)

pub weight_small : (c y : ℕ) → y < 2 ^ 16 → c % 2 * y < 2 ^ 16
weight_small c y h =
    let s = mul-le-mul {n₁ = c % 2} {m₁ = y} {n₂ = 1} {m₂ = y} (omega arith) (omega arith) in
    omega arith
