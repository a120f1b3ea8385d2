-- A list of literals whose variables rise, one literal after the other.
-- Assumes nothing.
use Rattle.std.specs.Prelude.{ℕ, ◌+◌, Bool, List, ltb}
use Rattle.judgement.specs.Scan.{all_of}
use Rattle.judgement.specs.Literals.{variable}

-- literal i + 1 is of a greater variable than literal i
abbrev pub is_rise : List ℕ → ℕ → Bool
is_rise part i = ltb (variable part i) (variable part (i + 1))

-- so is each of the k literals after literal i + 1, beside the one before it
unfoldable pub rises_from : List ℕ → ℕ → ℕ → Bool
rises_from part i k = all_of (λ j. is_rise part (i + j)) k
