-- Whole numbers that may lie below zero: sums of them, and division that rounds up.
-- Assumes nothing.
use Rattle.std.specs.Prelude.{ℕ, zero, suc, ◌+◌, ◌-◌, ◌*◌, ◌/◌, ◌≡◌, ◌⊎◌, ℤ, pos, negsuc, ◌+ℤ◌, ◌≤ℤ◌, ◌<ℤ◌}

unfoldable pub sum_of_ℤ : (ℕ → ℤ) → ℕ → ℤ
sum_of_ℤ f zero = pos 0
sum_of_ℤ f (suc n) = sum_of_ℤ f n +ℤ f (suc n)

-- z where it is negative, else 0
abbrev pub below_zero : ℤ → ℤ
below_zero (pos n) = pos 0
below_zero (negsuc n) = negsuc n

-- z divided by d, rounded up; 0 where z is not positive. Of d = 0 nothing is meant: 23 is told before this counts
abbrev pub rounded_up : ℤ → ℕ → ℕ
rounded_up (pos n) d = (n + (d - 1)) / d
rounded_up (negsuc n) d = 0

-- x is z divided by d and rounded up, or 0: the least number whose d-fold is not below z
pub record IsRoundedUp (z : ℤ) (d x : ℕ) : Type 0 where
  pub covers : z ≤ℤ pos (d * x)
  pub least : (x ≡ 0) ⊎ (pos (d * (x - 1)) <ℤ z)
