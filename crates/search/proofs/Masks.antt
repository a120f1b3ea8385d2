-- Sets of variables under the operations of 64-bit words.
-- Assumes nothing.
use Prim.Native.Nat.{ℕ, zero, suc, ◌+◌, ◌-◌, ◌*◌, ◌/◌, ◌%◌, ◌^◌, ◌≤◌, ◌<◌}
use mathlib.Core.Path.{◌≡◌, refl, sym, ap, ap₂, ◌∙◌}
use mathlib.Core.Bool.{Bool, true, false, not, ◌&&◌, ◌||◌}
use native.Mathlib.Nat.{pow-suc, one-mul, mod-lt}
use native.Mathlib.Omega.{arith}
use native.Mathlib.Decide.{dec_lt, ℕ_discrete}
use lib.Dec.{eqb, eqb-suc-suc, eqb-suc-zero}
use lib.Bits.{bit_and, bit_or, and_mask, and_le_l}
use lib.Pow.{shl_exact, pow-lt}
use lib.Count.{count_trailing_zeros, under}
use borrow.Author.Tests.{eq-eqb, ne_eqb, not-true}
use Rattle.judgement.specs.Facts.{Among}
use Rattle.judgement.proofs.Laws.Scan.{clash, and_l, and_r}
use Rattle.search.specs.Node.{has, add}
use Rattle.search.proofs.Sets.{bit, bit_suc, bit_or_lem, bit_and_lem, bit_zero, bit_pow, bit_ext, has_empty}

-- ---- the bit of a variable

pub has_at : (set v : ℕ) → 1 ≤ v → has set v ≡ bit set (v - 1)
unfolding has
has_at set zero h = absurd (omega (arith, h))
has_at set (suc i) h = let e : suc i - 1 ≡ i = omega arith in rw e

pub add_at : (set v : ℕ) → 1 ≤ v → add set v ≡ bit_or set (2 ^ (v - 1))
unfolding add
add_at set zero h = absurd (omega (arith, h))
add_at set (suc i) h = let e : suc i - 1 ≡ i = omega arith in rw e

-- read by shift and mask
pub has_read : (set v : ℕ) → 1 ≤ v → eqb (bit_and (set / 2 ^ (v - 1)) 1) 1 ≡ has set v
has_read set v h = rw (and_mask (set / 2 ^ (v - 1)) 1, has_at set v h)

-- 1 moved up within a word
pub one_shifted : (k : ℕ) → k < 64 → 1 * 2 ^ k % 18446744073709551616 ≡ 2 ^ k
one_shifted k h = shl_exact 1 k 64 (omega arith) (omega arith) ∙ one-mul (2 ^ k)

-- ---- or, and, not

pub has_or : (a b v : ℕ) → has (bit_or a b) v ≡ has a v || has b v
unfolding has
has_or a b zero = refl
has_or a b (suc i) = bit_or_lem a b i

pub has_and : (a b v : ℕ) → has (bit_and a b) v ≡ has a v && has b v
unfolding has
has_and a b zero = refl
has_and a b (suc i) = bit_and_lem a b i

digit_not : (x y : ℕ) → x < 2 → y ≡ 1 - x → eqb y 1 ≡ not (eqb x 1)
digit_not zero y h e = rw e
digit_not (suc zero) y h e = rw e
digit_not (suc (suc x)) y h e = absurd (omega (arith, h))

bit_not : (i k a : ℕ) → a < 2 ^ k → i < k → bit ((2 ^ k - 1) - a) i ≡ not (bit a i)
bit_not i zero a h l = absurd (omega (arith, l))
bit_not zero (suc k) a h l = rw (pow-suc 2 k) (digit_not (a / 1 % 2) _ (mod-lt (a / 1) (omega arith)) (low (2 ^ k) a (rw (pow-suc 2 k) at h)))
  where
    low : (m a : ℕ) → a < m * 2 → (m * 2 - 1 - a) / 1 % 2 ≡ 1 - a / 1 % 2
    low m a h = omega (arith, h)
bit_not (suc i) (suc k) a h l =
    let h2 = rw (pow-suc 2 k) at h in
    bit_suc ((2 ^ suc k - 1) - a) i
    ∙ ap (λ (x : ℕ). bit x i) (ap (λ (m : ℕ). (m - 1 - a) / 2) (pow-suc 2 k) ∙ high (2 ^ k) a h2)
    ∙ bit_not i k (a / 2) (half (2 ^ k) a h2) (omega (arith, l))
    ∙ sym (ap not (bit_suc a i))
  where
    high : (m a : ℕ) → a < m * 2 → (m * 2 - 1 - a) / 2 ≡ m - 1 - a / 2
    high m a h = omega (arith, h)

    half : (m a : ℕ) → a < m * 2 → a / 2 < m
    half m a h = omega (arith, h)

pub has_not : (a v : ℕ) → a < 2 ^ 64 → Among 64 v → has (18446744073709551615 - a) v ≡ not (has a v)
has_not a v h w = has_at (18446744073709551615 - a) v w.0 ∙ bit_not (v - 1) 64 a h (omega (arith, w.0, w.1)) ∙ sym (ap not (has_at a v w.0))

pub has_ext : (a b : ℕ) → a < 2 ^ 64 → b < 2 ^ 64 → ((v : ℕ) → Among 64 v → has a v ≡ has b v) → a ≡ b
unfolding has
has_ext a b p q h = bit_ext 64 a b p q (λ i l. h (suc i) (omega arith, omega (arith, l)))

pub has_single : (i v : ℕ) → 1 ≤ v → has (2 ^ i) v ≡ eqb v (i + 1)
has_single i v h = has_at (2 ^ i) v h ∙ bit_pow i (v - 1) ∙ sym (go v h)
  where
    go : (v : ℕ) → 1 ≤ v → eqb v (i + 1) ≡ eqb (v - 1) i
    go v h = let e : v ≡ suc (v - 1) = omega (arith, h) in let f : i + 1 ≡ suc i = omega arith in ap (λ (x : ℕ). eqb x (i + 1)) e ∙ rw f (eqb-suc-suc (v - 1) i)

-- ---- the lowest element

tz_at : (k x : ℕ) → count_trailing_zeros k x < k → bit x (count_trailing_zeros k x) ≡ true
unfolding count_trailing_zeros
tz_at zero x h = absurd (omega (arith, h))
tz_at (suc k) x h = go (x % 2) refl (tz_at k (x / 2)) h
  where
    go : (d : ℕ) → x % 2 ≡ d → (count_trailing_zeros k (x / 2) < k → bit (x / 2) (count_trailing_zeros k (x / 2)) ≡ true)
        → under d (count_trailing_zeros k (x / 2)) < suc k → bit x (under d (count_trailing_zeros k (x / 2))) ≡ true
    go zero e ih h = bit_suc x (count_trailing_zeros k (x / 2)) ∙ ih (omega (arith, h))
    go (suc d) e ih h = eq-eqb (x / 1 % 2) 1 (omega (arith, e))

tz_before : (k x i : ℕ) → i < count_trailing_zeros k x → bit x i ≡ false
unfolding count_trailing_zeros
tz_before zero x i h = absurd (omega (arith, h))
tz_before (suc k) x i h = go (x % 2) refl (tz_before k (x / 2)) i h
  where
    go : (d : ℕ) → x % 2 ≡ d → ((i : ℕ) → i < count_trailing_zeros k (x / 2) → bit (x / 2) i ≡ false)
        → (i : ℕ) → i < under d (count_trailing_zeros k (x / 2)) → bit x i ≡ false
    go (suc d) e ih i h = absurd (omega (arith, h))
    go zero e ih zero h = ne_eqb (x / 1 % 2) 1 (λ q. omega (arith, e, q))
    go zero e ih (suc i) h = bit_suc x i ∙ ih i (omega (arith, h))

pub lowest_in : (x : ℕ) → count_trailing_zeros 64 x < 64 → has x (count_trailing_zeros 64 x + 1) ≡ true
lowest_in x h =
    let e : count_trailing_zeros 64 x + 1 - 1 ≡ count_trailing_zeros 64 x = omega arith in
    has_at x (count_trailing_zeros 64 x + 1) (omega arith) ∙ rw e (tz_at 64 x h)

pub none_lower : (x v : ℕ) → 1 ≤ v → v ≤ count_trailing_zeros 64 x → has x v ≡ false
none_lower x v l h = has_at x v l ∙ tz_before 64 x (v - 1) (omega (arith, l, h))

-- a set that is not empty has a lowest element
pub lowest_small : (x : ℕ) → x < 2 ^ 64 → (x ≡ 0 → ⊥) → count_trailing_zeros 64 x < 64
lowest_small x b h = go (dec_lt (count_trailing_zeros 64 x) 64)
  where
    go : Dec (count_trailing_zeros 64 x < 64) → count_trailing_zeros 64 x < 64
    go (yes l) = l
    go (no l) = absurd (h (bit_ext 64 x 0 b (omega arith) (λ i m. tz_before 64 x i (omega (arith, l, m)) ∙ sym (bit_zero i))))

-- ---- the literals of a clause that are not false

pub not_false_law : (a b t f v : ℕ) → t < 2 ^ 64 → f < 2 ^ 64 → Among 64 v
    → has (bit_or (bit_and a (18446744073709551615 - f)) (bit_and b (18446744073709551615 - t))) v
    ≡ (has a v && not (has f v)) || (has b v && not (has t v))
not_false_law a b t f v p q w =
    has_or (bit_and a (18446744073709551615 - f)) (bit_and b (18446744073709551615 - t)) v
    ∙ ap₂ (λ (x y : Bool). x || y)
    (has_and a (18446744073709551615 - f) v ∙ ap (λ (x : Bool). has a v && x) (has_not f v q w))
    (has_and b (18446744073709551615 - t) v ∙ ap (λ (x : Bool). has b v && x) (has_not t v p w))

-- a set that is not empty has something
pub some_in : (x : ℕ) → x < 2 ^ 64 → (x ≡ 0 → ⊥) → (v : ℕ) × Among 64 v × (has x v ≡ true)
some_in x b h =
    let l = lowest_small x b h in
    (count_trailing_zeros 64 x + 1, (omega arith, omega (arith, l)), lowest_in x l)

-- ---- without the lowest element

below_bit : (k x i : ℕ) → 1 ≤ x → x < 2 ^ k → bit x i && bit (x - 1) i ≡ bit x i && not (eqb i (count_trailing_zeros k x))
unfolding count_trailing_zeros
below_bit zero x i h b = absurd (omega (arith, h, b))
below_bit (suc k) x i h b = go (below_bit k (x / 2)) (x % 2) refl i
  where
    zero_bit : (y : ℕ) → y % 2 ≡ 0 → bit y 0 ≡ false
    zero_bit y e = ne_eqb (y / 1 % 2) 1 (λ q. omega (arith, e, q))

    none : (c : Bool) → c && false ≡ c && not true
    none true = refl
    none false = refl

    same : (c : Bool) → c && c ≡ c && true
    same true = refl
    same false = refl

    go : ((j : ℕ) → 1 ≤ x / 2 → x / 2 < 2 ^ k → bit (x / 2) j && bit (x / 2 - 1) j ≡ bit (x / 2) j && not (eqb j (count_trailing_zeros k (x / 2))))
        → (d : ℕ) → x % 2 ≡ d → (i : ℕ) → bit x i && bit (x - 1) i ≡ bit x i && not (eqb i (under d (count_trailing_zeros k (x / 2))))
    go half-way zero e zero = rw (zero_bit x e)
    go half-way zero e (suc j) =
        let b2 = rw (pow-suc 2 k) at b in
        let half : (x - 1) / 2 ≡ x / 2 - 1 = omega (arith, e, h) in
        let ih = half-way j (omega (arith, e, h)) (omega (arith, b2)) in
        rw (bit_suc x j, bit_suc (x - 1) j, half, eqb-suc-suc j (count_trailing_zeros k (x / 2))) ih
    go half-way (suc d) e zero = rw (zero_bit (x - 1) (omega (arith, e))) (none (bit x 0))
    go half-way (suc d) e (suc j) =
        let half : (x - 1) / 2 ≡ x / 2 = omega (arith, e) in
        rw (bit_suc x j, bit_suc (x - 1) j, half, eqb-suc-zero j) (same (bit (x / 2) j))

pub has_rest : (x v : ℕ) → 1 ≤ x → x < 2 ^ 64 → 1 ≤ v → has (bit_and x (x - 1)) v ≡ has x v && not (eqb v (count_trailing_zeros 64 x + 1))
has_rest x v h b l =
    has_and x (x - 1) v ∙ ap₂ ◌&&◌ (has_at x v l) (has_at (x - 1) v l) ∙ below_bit 64 x (v - 1) h b
    ∙ ap₂ ◌&&◌ (sym (has_at x v l)) (ap not (moved v l))
  where
    moved : (v : ℕ) → 1 ≤ v → eqb (v - 1) (count_trailing_zeros 64 x) ≡ eqb v (count_trailing_zeros 64 x + 1)
    moved v l =
        let e : v ≡ suc (v - 1) = omega (arith, l) in
        let f : count_trailing_zeros 64 x + 1 ≡ suc (count_trailing_zeros 64 x) = omega arith in
        sym (ap (λ (y : ℕ). eqb y (count_trailing_zeros 64 x + 1)) e ∙ rw f (eqb-suc-suc (v - 1) (count_trailing_zeros 64 x)))

-- nothing is left: it had one element
pub single : (x : ℕ) → 1 ≤ x → x < 2 ^ 64 → bit_and x (x - 1) ≡ 0 → x ≡ 2 ^ count_trailing_zeros 64 x
single x h b z =
    let l = lowest_small x b (λ e. omega (arith, e, h)) in
    has_ext x (2 ^ count_trailing_zeros 64 x) b (pow-lt {j = 64} l) (λ v w. same_there v w l (ℕ_discrete v (count_trailing_zeros 64 x + 1)))
  where
    none : (a : Bool) → a && true ≡ false → a ≡ false
    none true e = e
    none false e = refl

    same_there : (v : ℕ) → Among 64 v → count_trailing_zeros 64 x < 64 → Dec (v ≡ count_trailing_zeros 64 x + 1) → has x v ≡ has (2 ^ count_trailing_zeros 64 x) v
    same_there v w l (yes e) = rw e (lowest_in x l ∙ sym (has_single (count_trailing_zeros 64 x) (count_trailing_zeros 64 x + 1) (omega arith) ∙ eq-eqb (count_trailing_zeros 64 x + 1) (count_trailing_zeros 64 x + 1) refl))
    same_there v w l (no e) =
        let n = ne_eqb v (count_trailing_zeros 64 x + 1) e in
        none (has x v) (rw n at (sym (has_rest x v h b w.0) ∙ (ap (λ (y : ℕ). has y v) z ∙ has_empty v))) ∙ sym (has_single (count_trailing_zeros 64 x) v w.0 ∙ n)

-- something is left: it had two
pub two_in : (x : ℕ) → 1 ≤ x → x < 2 ^ 64 → (bit_and x (x - 1) ≡ 0 → ⊥)
    → (u v : ℕ) × (u ≡ v → ⊥) × Among 64 u × Among 64 v × (has x u ≡ true) × (has x v ≡ true)
two_in x h b nz =
    let l = lowest_small x b (λ e. omega (arith, e, h)) in
    let (u, a, r) = some_in (bit_and x (x - 1)) (let s = and_le_l x (x - 1) in omega (arith, s, b)) nz in
    let both = sym (has_rest x u h b a.0) ∙ r in (
      u,
      count_trailing_zeros 64 x + 1,
      (λ e. clash (eq-eqb u (count_trailing_zeros 64 x + 1) e) (not-true (eqb u (count_trailing_zeros 64 x + 1)) (and_r (has x u) _ both))),
      a,
      (omega arith, omega (arith, l)),
      and_l (has x u) _ both,
      lowest_in x l,
    )
