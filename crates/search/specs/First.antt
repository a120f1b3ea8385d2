-- The first of things that are numbered from 1.
-- Assumes nothing.
use Rattle.std.specs.Prelude.{ℕ, zero, suc, Bool, cond}

-- the first number, or the second where that is 0
unfoldable pub or_else : ℕ → ℕ → ℕ
or_else zero b = b
or_else (suc a) b = suc a

-- the first of f 1 to f n that is not 0; 0 where each is
unfoldable pub first_of : (ℕ → ℕ) → ℕ → ℕ
first_of f zero = 0
first_of f (suc n) = or_else (first_of f n) (f (suc n))

-- the lowest number from 1 to n that passes the test; 0 where none does
abbrev pub lowest : (ℕ → Bool) → ℕ → ℕ
lowest test n = first_of (λ k. cond (test k) k 0) n
