-- How the code knows which clauses to look at: for each clause how many of its literals stand, modulo 16, in four planes of bits, 64 clauses
-- to a number. A clause in which two literals stand is quiet, or a literal of it is to be looked at yet.
-- Assumes nothing.
use Rattle.std.specs.Prelude.{ℕ, ◌+◌, ◌-◌, ◌*◌, ◌/◌, ◌%◌, ◌≤◌, ◌<◌, ◌≡◌, Bool, true, ◌&&◌, List, ◌⊎◌, leb, get_or}
use Rattle.judgement.specs.Scan.{one, count_of}
use Rattle.judgement.specs.Meaning.{Literals, Problem}
use Rattle.judgement.specs.Facts.{Among}
use Rattle.search.specs.declared.Work.{Work}
use Rattle.search.specs.Node.{has, last_code}
use Rattle.search.specs.Tables.{in_row}
use Rattle.search.specs.Work.{stands}

-- how many literals of the clause stand
abbrev pub standing : ℕ → Work → Literals → ℕ
standing n w C = count_of (stands w C) (last_code n)

-- a level of the table has five planes of 64 numbers: plane p of the level that begins at `at` has clause k
abbrev pub plane : List ℕ → ℕ → ℕ → ℕ → Bool
plane table at p k = has (get_or table (at + 64 * p + (k - 1) / 64) 0) ((k - 1) % 64 + 1)

-- how many numbers a plane has of m clauses
abbrev pub words_for : ℕ → ℕ
words_for m = (m + 63) / 64

-- the number of clause k
abbrev pub held : List ℕ → ℕ → ℕ → ℕ
held table at k = one (plane table at 0 k) + 2 * one (plane table at 1 k) + 4 * one (plane table at 2 k) + 8 * one (plane table at 3 k)

-- the numbers are right at w
abbrev pub Counts : Problem → List ℕ → ℕ → Work → Type 0
Counts P table at w = (k : ℕ) → Among P.clauses k → held table at k ≡ standing P.variables w (P.clause k) % 16

-- what lies outside the level is as it was
abbrev pub Outside : ℕ → List ℕ → List ℕ → Type 0
Outside at before after = (i : ℕ) → (i < at) ⊎ (at + 320 ≤ i) → get_or after i 0 ≡ get_or before i 0

-- what lies below it is as it was
abbrev pub Below : ℕ → List ℕ → List ℕ → Type 0
Below at before after = (i : ℕ) → i < at → get_or after i 0 ≡ get_or before i 0

-- number i of each plane is written, and nothing else
pub record Wrote (at i : ℕ) (before after : List ℕ) (a b c d e : ℕ) : Type 0 where
  pub first : get_or after (at + 64 * 0 + i) 0 ≡ a
  pub second : get_or after (at + 64 * 1 + i) 0 ≡ b
  pub third : get_or after (at + 64 * 2 + i) 0 ≡ c
  pub fourth : get_or after (at + 64 * 3 + i) 0 ≡ d
  pub fifth : get_or after (at + 64 * 4 + i) 0 ≡ e
  pub rest : (x : ℕ) → ((p : ℕ) → p ≤ 4 → x ≡ at + 64 * p + i → ⊥) → get_or after x 0 ≡ get_or before x 0

-- one less for each clause of the row of c, and the last plane has those of them that are at 1 or 0 now
pub record CountedDown (rows : List ℕ) (c m at : ℕ) (before after : List ℕ) : Type 0 where
  pub less : (k : ℕ) → Among m k → held after at k ≡ (held before at k + 16 - one (in_row rows c k)) % 16
  pub low : (k : ℕ) → Among m k → plane after at 4 k ≡ in_row rows c k && leb (held after at k) 1
  pub outside : Outside at before after

-- a clause of the last plane is one of m
abbrev pub LowInside : ℕ → List ℕ → ℕ → Type 0
LowInside m table at = (k : ℕ) → Among (64 * words_for m) k → plane table at 4 k ≡ true → k ≤ m
