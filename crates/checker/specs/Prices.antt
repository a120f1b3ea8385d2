-- What literals cost, in two arrays with a number for each code, which are made once for a record.
-- Assumes nothing.
use Rattle.std.specs.Prelude.{◌≡◌, ℕ, ◌+◌, ◌^◌, ◌<◌, cond, List, length, slice_index}
use Rattle.judgement.specs.Scan.{sum_of}
use Rattle.judgement.specs.Meaning.{variable_of, is_positive}
use Rattle.judgement.specs.Literals.{count, code}
use Rattle.judgement.specs.Sheet.{variables, cost_of}
use Rattle.judgement.specs.Facts.{Among}
use Rattle.checker.specs.Marks.{most_codes}

abbrev pub price_at : List ℕ → ℕ → ℕ
price_at table c = slice_index table c

-- the price of a literal: what falsifying it costs
pub record Prices (s prices : List ℕ) : Type 0 where
  pub size : length prices ≡ most_codes
  pub each : (c : ℕ) → Among (variables s) (variable_of c) → price_at prices c ≡ cond (is_positive c) 0 (cost_of s (variable_of c))

-- 1 more than what a literal costs where it is unsettled in a cited clause, and 0 for a negative one, which may not be
pub record UnsettledCosts (s costs : List ℕ) : Type 0 where
  pub size : length costs ≡ most_codes
  pub each : (c : ℕ) → Among (variables s) (variable_of c) → price_at costs c ≡ cond (is_positive c) (cost_of s (variable_of c) + 1) 0

-- the two arrays for the sheet s
pub record CostArrays (s prices costs : List ℕ) : Type 0 where
  pub falsified : Prices s prices
  pub unsettled : UnsettledCosts s costs

-- the prices of the literals of a list, added up
abbrev pub price_sum : List ℕ → List ℕ → ℕ
price_sum prices part = sum_of (λ i. price_at prices (code part i)) (count part)

-- each of these is below 2 ^ 32, as the cost of a variable is
abbrev pub Cheap : List ℕ → List ℕ → Type 0
Cheap prices part = (i : ℕ) → Among (count part) i → price_at prices (code part i) < 2 ^ 32
