-- The fewest digits that hold a number are its decimal.
-- Assumes nothing.
use Prim.Native.Nat.{ℕ, zero, suc, ◌-◌, ◌/◌, ◌%◌, ◌^◌, ◌≤◌, ◌<◌}
use mathlib.Core.Path.{◌≡◌}
use native.Mathlib.Nat.{pow-suc, pow-le-pow_right, mod-eq_of_lt}
use native.Mathlib.Omega.{arith}
use borrow.Author.Tests.{lt-ltb, le-ltb}
use Rattle.io.specs.Digits.{last_digits, IsDigitCount}
use Rattle.lines.specs.Lines.{decimal_within, decimal_of}

-- one digit less holds a tenth of the number
fewer : (k n : ℕ) → IsDigitCount 10 1 n (suc (suc k)) → (10 ≤ n) × IsDigitCount 10 1 (n / 10) (suc k)
fewer k n (f, g, h) =
    let i : suc (suc k) - 1 ≡ suc k = omega arith in
    let j : suc k - 1 ≡ k = omega arith in
    let least : 10 ^ suc k ≤ n = rw i at h (omega arith) in
    let one : 10 ^ 0 ≤ 10 ^ k = pow-le-pow_right (omega arith) {i = 0} {j = k} (omega arith) in
    let p = pow-suc 10 k in
    let q = pow-suc 10 (suc k) in
    (omega arith, (omega arith, omega arith, λ w. rw j (omega arith)))

fewest : (k most n : ℕ) → n < 10 ^ suc most → IsDigitCount 10 1 n k → (k ≤ suc most) × (last_digits 10 k n ≡ decimal_within (suc most) n)
unfolding decimal_within
fewest zero most n h f = let z : ⊥ = omega arith in absurd z
fewest (suc zero) most n h f = let l : n < 10 = omega arith in (omega arith, rw (mod-eq_of_lt l, lt-ltb n 10))
fewest (suc (suc k)) zero n h f = let g = fewer k n f in let z : ⊥ = omega arith in absurd z
fewest (suc (suc k)) (suc most) n h f =
    let g = fewer k n f in
    let p = pow-suc 10 (suc most) in
    let r = fewest (suc k) most (n / 10) (omega arith) g.1 in
    (omega arith, rw (le-ltb n 10 g.0, lt-ltb (n % 10) 10 (omega arith), ← r.1))

pub fewest_decimal : (k n : ℕ) → n < 2 ^ 64 → IsDigitCount 10 1 n k → (k ≤ 20) × (last_digits 10 k n ≡ decimal_of n)
unfolding decimal_of
fewest_decimal k n h f = fewest k 19 n (omega arith) f
