-- Kind 5: what is known of a step before its entries are weighed, and what is kept meanwhile.
-- Assumes nothing.
use Rattle.std.specs.Prelude.{◌≡◌, ℕ, ◌+◌, ◌-◌, ◌*◌, ◌^◌, ◌<◌, ◌≤◌, cond, ◌≢◌, List, length, ℤ, pos, ◌+ℤ◌, ◌-ℤ◌, neg_ℤ, ◌==◌, slice_index_or}
use Rattle.judgement.specs.Meaning.{negative, is_positive}
use Rattle.judgement.specs.Literals.{code, variable, holds, mentions}
use Rattle.judgement.specs.Sheet.{variables, cost_of, clause_pairs_at}
use Rattle.judgement.specs.Step.{divisor, entry_count, entry_cites}
use Rattle.judgement.specs.Linear.{entry_clause}
use Rattle.judgement.specs.Facts.{Among, LiteralList}
use Rattle.checker.specs.Marks.{mark_at, Stale}
use Rattle.checker.specs.Prices.{Prices}
use Rattle.checker.specs.Read.{Within}

-- ---- what is known

-- of the step's literals D and its tail e
pub record Weighable (s D e : List ℕ) : Type 0 where
  pub n : variables s ≤ 1024
  pub list : LiteralList (variables s) D
  pub whole : length e ≡ 2 + 6 * entry_count e
  pub few : entry_count e ≤ 4096
  pub within : (j : ℕ) → Among (entry_count e) j → Within s (clause_pairs_at s) (entry_cites e j)
  pub lists : (j : ℕ) → Among (entry_count e) j → LiteralList (variables s) (entry_clause s e j)

-- of entry j + 1 of the tail e, where the sheet's pairs begin at `pairs`, and d is the divisor
pub record Entered (s prices e : List ℕ) (pairs d j : ℕ) : Type 0 where
  pub pairs_at : pairs ≡ clause_pairs_at s
  pub divides : d ≡ divisor e
  pub priced : Prices s prices
  pub n : variables s ≤ 1024
  pub room : 2 + 6 * (j + 1) ≤ length e
  pub few : j < 4096
  pub within : Within s (clause_pairs_at s) (entry_cites e (j + 1))
  pub list : LiteralList (variables s) (entry_clause s e (j + 1))

-- ---- a literal c of a clause of weight y

-- what it adds to the remainder of its variable
abbrev pub shift : ℕ → ℕ → ℤ
shift c y = cond (is_positive c) (neg_ℤ (pos y)) (pos y)

-- its weight, where it is negative
abbrev pub negative_weight : ℕ → ℕ → ℕ
negative_weight c y = cond (is_positive c) 0 y

-- the remainders, with z added to that of u
abbrev pub moved : (ℕ → ℤ) → ℕ → ℤ → ℕ → ℤ
moved rem u z v = cond (u == v) (rem v +ℤ z) (rem v)

-- ---- what is kept: of each variable a number, that of v at v - 1

abbrev pub rest_at : List ℤ → ℕ → ℤ
rest_at rest i = slice_index_or rest i (pos 0)

-- that of v, or `full` where the step has not marked it yet: its remainder before all entries
abbrev pub kept_of : List ℕ → List ℤ → ℕ → ℕ → ℕ → ℤ
kept_of marks rest t full v = cond (mark_at marks (v - 1) == t) (rest_at rest (v - 1)) (pos full)

-- above every remainder by far
abbrev pub far : ℕ
far = 2 ^ 59

-- where the number of the variable of a step's literal c begins
abbrev pub far_of : ℕ → ℤ
far_of c = cond (is_positive c) (pos far) (neg_ℤ (pos far))

-- by how much the number that is kept is above the remainder: a variable that D settles begins far above 0 or far below, so that its
-- number stays there, and adds nothing to the total, or all that it is moved by
abbrev pub offset : List ℕ → ℕ → ℕ → ℤ
offset D full v =
    cond (holds D (negative v)) (neg_ℤ (pos (far + full)))
    (cond (mentions D v) (pos far -ℤ pos full) (pos 0))

-- the first i literals of D are marked with t, and their variables' numbers are far from 0; the other marks are below t
pub record Settling (D : List ℕ) (i t : ℕ) (marks : List ℕ) (rest : List ℤ) : Type 0 where
  pub stale : Stale 1024 marks (t + 1)
  pub size : length rest ≡ 1024
  pub marked : (h : ℕ) → Among i h → mark_at marks (variable D h - 1) ≡ t
  pub begins : (h : ℕ) → Among i h → rest_at rest (variable D h - 1) ≡ far_of (code D h)
  pub others : (v : ℕ) → Among 1024 v → ((h : ℕ) → Among i h → variable D h ≢ v) → mark_at marks (v - 1) < t

-- the numbers of variables 1 to n are kept that go with the remainders `rem`; `full` is what these were before all entries
pub record Weighing (n : ℕ) (D : List ℕ) (full : ℕ → ℕ) (rem : ℕ → ℤ) (t : ℕ) (marks : List ℕ) (rest : List ℤ) : Type 0 where
  pub stale : Stale 1024 marks (t + 1)
  pub size : length rest ≡ 1024
  pub kept : (v : ℕ) → Among n v → kept_of marks rest t (full v) v ≡ rem v +ℤ offset D (full v) v

-- the remainder before all entries
abbrev pub full_of : List ℕ → List ℕ → ℕ → ℕ
full_of s e v = divisor e * cost_of s v
