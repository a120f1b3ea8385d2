-- The counts while variables are turned.
-- Assumes nothing.
use Rattle.std.specs.Prelude.{ℕ, ◌+◌, ◌-◌, ◌*◌, ◌≤◌, ◌<◌, ◌≡◌, Bool, true, false, not, List, length, eqb, Option, Some, None, Result, Ok, Err}
use Rattle.judgement.specs.Scan.{sum_of, one}
use Rattle.judgement.specs.Meaning.{Assignment, positive}
use Rattle.judgement.specs.Number.{number_at}
use Rattle.judgement.specs.Literals.{holds}
use Rattle.judgement.specs.Sheet.{clauses, clause}
use Rattle.judgement.specs.Writer.{bytes_of}
use Rattle.judgement.specs.Buffer.{At, patch}
use Rattle.judgement.specs.Facts.{Among}
use Rattle.judgement.specs.Finding.{Finding, fault}
use Rattle.turns.specs.declared.Refused.{Refused}
use Rattle.turns.specs.declared.Turned.{Turned}
use Rattle.turns.specs.Turning.{true_in}

-- a literal is true where its variable has this value: of a positive one, and of a negative one
abbrev pub agrees : Bool → Bool → Bool
agrees true value = value
agrees false value = not value

-- one more or one less
abbrev pub stepped : Bool → ℕ → ℕ
stepped true x = x + 1
stepped false x = x - 1

-- 1 for a clause at 0
abbrev pub at_zero : ℕ → ℕ
at_zero x = one (eqb x 0)

-- m counts, and how many of them are 0
pub record Counted (m : ℕ) (g : ℕ → ℕ) (total : ℕ) (l : List ℕ) : Type 0 where
  pub stored : (k : ℕ) → Among m k → At l (2 * (k - 1)) (bytes_of 2 (g k))
  pub total_is : total ≡ sum_of (λ k. at_zero (g k)) m
  pub room : 2 * m ≤ length l

-- the counts of an assignment
abbrev pub CountedFor : List ℕ → Assignment → ℕ → List ℕ → Type 0
CountedFor s α total l = Counted (clauses s) (λ k. true_in α (clause s k)) total l

-- the count of a list that mentions v goes up when v gets this value
abbrev pub goes_up : List ℕ → ℕ → Bool → Bool
goes_up part v value = agrees (holds part (positive v)) value

-- the count x may be stepped, in a total
pub record Steps (up : Bool) (x total : ℕ) : Type 0 where
  pub above : up ≡ true → x + 1 < 65536
  pub below : up ≡ false → 1 ≤ x
  pub zeros : at_zero x ≤ total
  pub most : total ≤ 65536

-- the count at `at` is stepped, and the total with it
pub record Touched (up : Bool) (at total r : ℕ) (l left : List ℕ) : Type 0 where
  pub counts : left ≡ patch at (bytes_of 2 (stepped up (number_at l at 2))) l
  pub sum : r ≡ total + at_zero (stepped up (number_at l at 2)) - at_zero (number_at l at 2)

-- what the place of the first wrong turn says, where there is one
abbrev pub wrong_at : Option ℕ → Finding
wrong_at None = Ok tt
wrong_at (Some place) = fault 30 place

-- the answer of a total, or of a refusal
abbrev pub answer_by : Result ℕ Refused → Turned
answer_by (Ok total) = record { number = 0; place = 0; total = total }
answer_by (Err x) = record { number = x.number; place = x.place; total = 0 }
