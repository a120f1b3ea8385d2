-- The index while it is built: lists that are sized, placed and filled. Until the turns are done an entry has a sign.
-- Assumes nothing.
use Rattle.std.specs.Prelude.{ℕ, ◌+◌, ◌-◌, ◌*◌, ◌^◌, ◌≤◌, ◌<◌, cond, List, ◌++◌, map, length}
use Rattle.judgement.specs.Scan.{sum_of}
use Rattle.turns.specs.Listed.{chosen}
use Rattle.judgement.specs.Meaning.{positive}
use Rattle.judgement.specs.Number.{number_at}
use Rattle.judgement.specs.Literals.{holds, mentions}
use Rattle.judgement.specs.Sheet.{variables, clause}
use Rattle.judgement.specs.Writer.{bytes_of, numbers_of}
use Rattle.judgement.specs.Buffer.{At, patch}
use Rattle.judgement.specs.Facts.{Among}
use Rattle.turns.specs.Turning.{mentioning}

-- ---- any n lists

-- where list v begins among n lists of so many numbers
unfoldable pub start_of : ℕ → (ℕ → ℕ) → ℕ → ℕ
start_of n size v = 8 * n + 4 * sum_of size (v - 1)

-- n lists, list v with room for `size v` numbers: the pair of each says where it begins and how long it is by now
pub record Lists (n : ℕ) (size : ℕ → ℕ) (f : ℕ → List ℕ) (l : List ℕ) : Type 0 where
  pub pairs : (v : ℕ) → Among n v → At l (8 * (v - 1)) (bytes_of 4 (start_of n size v) ++ bytes_of 4 (4 * length (f v)))
  pub numbers : (v : ℕ) → Among n v → At l (start_of n size v) (numbers_of 4 (f v))
  pub fits : (v : ℕ) → Among n v → length (f v) ≤ size v
  pub room : start_of n size (n + 1) ≤ length l

-- l with x put behind list v, and the length of its pair raised
unfoldable pub filed : ℕ → ℕ → List ℕ → List ℕ
filed v x l =
    patch (8 * (v - 1) + 4) (bytes_of 4 (number_at l (8 * (v - 1) + 4) 4 + 4))
    (patch (number_at l (8 * (v - 1)) 4 + number_at l (8 * (v - 1) + 4) 4) (bytes_of 4 x) l)

-- list v can take one more
pub record Takes (v : ℕ) (l : List ℕ) : Type 0 where
  pub variable : 1 ≤ v
  pub pair : 8 * v ≤ length l
  pub place : number_at l (8 * (v - 1)) 4 + number_at l (8 * (v - 1) + 4) 4 + 4 ≤ length l
  pub raised : number_at l (8 * (v - 1) + 4) 4 + 4 < 2 ^ 32

-- the length of the pair of v is 4 for each of f v
pub record Sizes (n : ℕ) (f : ℕ → ℕ) (l : List ℕ) : Type 0 where
  pub sizes : (v : ℕ) → Among n v → At l (8 * (v - 1) + 4) (bytes_of 4 (4 * f v))
  pub room : 8 * n ≤ length l

-- l with the length of the pair of v raised
unfoldable pub raised : ℕ → List ℕ → List ℕ
raised v l = patch (8 * (v - 1) + 4) (bytes_of 4 (number_at l (8 * (v - 1) + 4) 4 + 4)) l

-- the length of the pair of v can be raised
pub record Raises (v : ℕ) (l : List ℕ) : Type 0 where
  pub variable : 1 ≤ v
  pub pair : 8 * v ≤ length l
  pub size : number_at l (8 * (v - 1) + 4) 4 + 4 < 2 ^ 32

-- pairs up to v are placed and empty, those from there to n have their sizes
pub record PlacedTo (n : ℕ) (size : ℕ → ℕ) (v : ℕ) (l : List ℕ) : Type 0 where
  pub placed : (u : ℕ) → Among v u → At l (8 * (u - 1)) (bytes_of 4 (start_of n size u) ++ bytes_of 4 0)
  pub sized : (u : ℕ) → v < u → u ≤ n → At l (8 * (u - 1) + 4) (bytes_of 4 (4 * size u))
  pub within : v ≤ n

-- ---- those of a sheet

-- of the first m clauses those that mention v
abbrev pub mentioned_to : List ℕ → ℕ → ℕ → List ℕ
mentioned_to s m v = chosen (λ k. mentions (clause s k) v) m

-- the entry of clause k in list v: twice its number, and one more where it has the negative literal of v
abbrev pub entry : List ℕ → ℕ → ℕ → ℕ
entry s v k = 2 * k + cond (holds (clause s k) (positive v)) 0 1

-- how many clauses mention v
abbrev pub uses : List ℕ → ℕ → ℕ
uses s v = length (mentioning s v)

-- the lengths by the first k clauses of s
abbrev pub SizedTo : List ℕ → ℕ → List ℕ → Type 0
SizedTo s k l = Sizes (variables s) (λ v. length (mentioned_to s k v)) l

-- the entries of the first k clauses of s
abbrev pub FilledTo : List ℕ → ℕ → List ℕ → Type 0
FilledTo s k l = Lists (variables s) (uses s) (λ v. map (entry s v) (mentioned_to s k v)) l

-- where the index ends
abbrev pub index_end : List ℕ → ℕ
index_end s = start_of (variables s) (uses s) (variables s + 1)
