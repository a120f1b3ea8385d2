-- Laws of sets of variables as bits of a number.
-- Assumes nothing.
use Prim.Native.Nat.{ℕ, zero, suc, ◌+◌, ◌*◌, ◌/◌, ◌%◌, ◌^◌, ◌≤◌, ◌<◌}
use mathlib.Core.Path.{◌≡◌, refl, sym, ap, ◌∙◌}
use mathlib.Core.Bool.{Bool, true, false, ◌&&◌, ◌||◌}
use mathlib.Core.Logic.{◌⊎◌, inl, inr}
use native.Mathlib.Nat.{pow-succ', pow-suc, div-div-eq-div-mul, mul-div_cancel, mod-lt}
use native.Mathlib.Omega.{arith}
use lib.Dec.{eqb, eqb-zero-suc, eqb-suc-zero, eqb-suc-suc}
use lib.Bits.{bit_and, bit_or, or_shr, or_mod, and_shr, and_mod}
use borrow.Author.Tests.{eqb-true, eq-eqb, ne_eqb}
use Rattle.judgement.proofs.Laws.Scan.{or_r, or_e}
use Rattle.search.specs.Node.{has, add}

-- ---- bits

abbrev pub bit : ℕ → ℕ → Bool
bit x i = eqb (x / 2 ^ i % 2) 1

pub bit_suc : (x i : ℕ) → bit x (suc i) ≡ bit (x / 2) i
bit_suc x i = rw (shift_suc x i)
  where
    shift_suc : (x i : ℕ) → x / 2 ^ suc i ≡ x / 2 / 2 ^ i
    shift_suc x i = rw (pow-succ' 2 i) (sym (div-div-eq-div-mul x 2 (2 ^ i)))

-- a digit is 0 or 1
pub digits : (Q : ℕ → ℕ → Type 0) → Q 0 0 → Q 0 1 → Q 1 0 → Q 1 1 → (a b : ℕ) → a < 2 → b < 2 → Q a b
digits Q x y z w zero zero p q = x
digits Q x y z w zero (suc zero) p q = y
digits Q x y z w zero (suc (suc b)) p q = absurd (omega (arith, q))
digits Q x y z w (suc zero) zero p q = z
digits Q x y z w (suc zero) (suc zero) p q = w
digits Q x y z w (suc zero) (suc (suc b)) p q = absurd (omega (arith, q))
digits Q x y z w (suc (suc a)) b p q = absurd (omega (arith, p))

pub bit_or_lem : (a b i : ℕ) → bit (bit_or a b) i ≡ bit a i || bit b i
bit_or_lem a b i =
    ap (λ (x : ℕ). eqb (x % 2) 1) (or_shr a b i)
    ∙ ap (λ (x : ℕ). eqb x 1) (or_mod (a / 2 ^ i) (b / 2 ^ i) 1)
    ∙ digits (λ a b. eqb (bit_or a b) 1 ≡ eqb a 1 || eqb b 1) refl refl refl refl
    (a / 2 ^ i % 2) (b / 2 ^ i % 2) (mod-lt (a / 2 ^ i) (omega arith)) (mod-lt (b / 2 ^ i) (omega arith))

pub bit_and_lem : (a b i : ℕ) → bit (bit_and a b) i ≡ bit a i && bit b i
bit_and_lem a b i =
    ap (λ (x : ℕ). eqb (x % 2) 1) (and_shr a b i)
    ∙ ap (λ (x : ℕ). eqb x 1) (and_mod (a / 2 ^ i) (b / 2 ^ i) 1)
    ∙ digits (λ a b. eqb (bit_and a b) 1 ≡ eqb a 1 && eqb b 1) refl refl refl refl
    (a / 2 ^ i % 2) (b / 2 ^ i % 2) (mod-lt (a / 2 ^ i) (omega arith)) (mod-lt (b / 2 ^ i) (omega arith))

pub bit_zero : (i : ℕ) → bit 0 i ≡ false
bit_zero zero = refl
bit_zero (suc i) = bit_suc 0 i ∙ bit_zero i

pub bit_pow : (i j : ℕ) → bit (2 ^ i) j ≡ eqb j i
bit_pow zero zero = refl
bit_pow zero (suc j) = bit_suc 1 j ∙ bit_zero j ∙ sym (eqb-suc-zero j)
bit_pow (suc i) zero = ap (λ (x : ℕ). eqb (x / 1 % 2) 1) (pow-suc 2 i) ∙ even (2 ^ i) ∙ sym (eqb-zero-suc i)
  where
    even : (m : ℕ) → eqb (m * 2 / 1 % 2) 1 ≡ false
    even m = ne_eqb (m * 2 / 1 % 2) 1 (λ e. omega (arith, e))
bit_pow (suc i) (suc j) =
    bit_suc (2 ^ suc i) j
    ∙ ap (λ (x : ℕ). bit x j) (ap (λ (x : ℕ). x / 2) (pow-suc 2 i) ∙ mul-div_cancel (2 ^ i) (omega arith))
    ∙ bit_pow i j ∙ sym (eqb-suc-suc j i)

-- a number of k bits is what its bits are
pub bit_ext : (k a b : ℕ) → a < 2 ^ k → b < 2 ^ k → ((i : ℕ) → i < k → bit a i ≡ bit b i) → a ≡ b
bit_ext zero a b p q h = omega (arith, p, q)
bit_ext (suc k) a b p q h =
    let p2 = rw (pow-suc 2 k) at p in
    let q2 = rw (pow-suc 2 k) at q in
    let top = bit_ext k (a / 2) (b / 2) (half a (2 ^ k) p2) (half b (2 ^ k) q2) upper in
    let low = digit a b (h 0 (omega arith)) in
    omega (arith, top, low)
  where
    half : (a m : ℕ) → a < m * 2 → a / 2 < m
    half a m h = omega (arith, h)

    upper : (i : ℕ) → i < k → bit (a / 2) i ≡ bit (b / 2) i
    upper i l = sym (bit_suc a i) ∙ h (suc i) (omega (arith, l)) ∙ bit_suc b i

    digit : (a b : ℕ) → bit a 0 ≡ bit b 0 → a % 2 ≡ b % 2
    digit a b e =
        let d = rw (div_1 a, div_1 b) at e in
        digits (λ x y. eqb x 1 ≡ eqb y 1 → x ≡ y)
        (λ e. refl) (λ e. eqb-true 0 1 e) (λ e. sym (eqb-true 0 1 (sym e))) (λ e. refl)
        (a % 2) (b % 2) (mod-lt a (omega arith)) (mod-lt b (omega arith)) d
      where
        div_1 : (a : ℕ) → a / 1 ≡ a
        div_1 a = omega arith

-- ---- sets

pub has_empty : (v : ℕ) → has 0 v ≡ false
unfolding has
has_empty zero = refl
has_empty (suc i) = bit_zero i

-- with one variable more
pub has_add : (set v u : ℕ) → 1 ≤ v → has (add set v) u ≡ eqb u v || has set u
unfolding has add
has_add set zero u h = absurd (omega (arith, h))
has_add set (suc i) zero h = sym (rw (eqb-zero-suc i))
has_add set (suc i) (suc j) h =
    bit_or_lem set (2 ^ i) j ∙ or_comm (bit set j) (bit (2 ^ i) j) ∙ ap (λ b. b || bit set j) (bit_pow i j ∙ sym (eqb-suc-suc j i))
  where
    or_comm : (a b : Bool) → a || b ≡ b || a
    or_comm true true = refl
    or_comm true false = refl
    or_comm false true = refl
    or_comm false false = refl

pub add_new : (set v : ℕ) → 1 ≤ v → has (add set v) v ≡ true
add_new set v h = has_add set v v h ∙ rw (eq-eqb v v refl)

pub add_old : (set v u : ℕ) → 1 ≤ v → has set u ≡ true → has (add set v) u ≡ true
add_old set v u h e = has_add set v u h ∙ or_r (eqb u v) (has set u) e

pub add_or : (set v u : ℕ) → 1 ≤ v → has (add set v) u ≡ true → (u ≡ v) ⊎ (has set u ≡ true)
add_or set v u h e = elim (or_e (eqb u v) (has set u) (sym (has_add set v u h) ∙ e)) [
  | inl q ↦ inl (eqb-true u v q)
  | inr q ↦ inr q
]

-- sets with the same members are one
pub set_ext : (a b : ℕ) → ((v : ℕ) → has a v ≡ has b v) → a ≡ b
unfolding has
set_ext a b h =
    let l = below_pow (a + b) in
    bit_ext (a + b) a b (omega (arith, l)) (omega (arith, l)) (λ i m. h (suc i))
  where
    below_pow : (k : ℕ) → k < 2 ^ k
    below_pow zero = omega arith
    below_pow (suc k) = let h = below_pow k in rw (pow-suc 2 k) (omega (arith, h))
