-- What the code of trimming works with: what is known once the record has passed, marks in a buffer, counts sampled from them, and
-- the trimmed record part by part.
-- Assumes nothing.
use Rattle.std.specs.Prelude.{ℕ, ◌+◌, ◌-◌, ◌*◌, ◌^◌, ◌≤◌, ◌<◌, ◌≡◌, Bool, cond, List, [], ◌++◌, map, length, get_or, set, take, drop, eqb}
use Rattle.judgement.specs.Scan.{one, count_of, list_of}
use Rattle.judgement.specs.Number.{number_at}
use Rattle.judgement.specs.declared.Kind.{Kind}
use Rattle.judgement.specs.declared.Kind.TheVariants.{Copy, Cost, IndependentSet, Resolvent, WeightedSet, Unknown}
use Rattle.judgement.specs.Record.{steps, step_pairs_at}
use Rattle.judgement.specs.Step.{kind_of, literal_count, cited}
use Rattle.judgement.specs.Writer.{bytes_of, pairs_of, joined}
use Rattle.judgement.specs.Facts.{Among, BeforeClose}
use Rattle.trimmer.specs.Trim.{cites, kept_after, kept, chosen, new_body, marks_of}

-- ---- what is known

-- the record has passed all but the close, and its pairs begin at `table`
pub record Passed (s r : List ℕ) (table : ℕ) : Type 0 where
  pub before : BeforeClose s r
  pub pairs : table ≡ step_pairs_at s

-- and the marks are written
pub record Marked (s r : List ℕ) (table : ℕ) (marks : List ℕ) : Type 0 where
  pub passed : Passed s r table
  pub marks_are : marks ≡ marks_of s r

-- a step's body b has its head; of kind 4 it is whole, and cites two of n steps
pub record Citing (b : List ℕ) (n : ℕ) : Type 0 where
  pub head : 12 ≤ length b
  pub whole : kind_of b ≡ Resolvent → 12 + 2 * literal_count b + 10 ≡ length b
  pub first : kind_of b ≡ Resolvent → Among n (cited b 1)
  pub second : kind_of b ≡ Resolvent → Among n (cited b 2)

-- ---- marks

-- step k has a mark
unfoldable pub marked : List ℕ → ℕ → Bool
marked marks k = eqb (get_or marks (k - 1) 0) 1

-- a mark for each of 1 to t that passes the test
unfoldable pub marks_to : (ℕ → Bool) → ℕ → List ℕ
marks_to f t = list_of (λ k. one (f k)) t

-- the marks when the last n steps have been looked at
abbrev pub marks_after : List ℕ → List ℕ → ℕ → List ℕ
marks_after s r n = marks_to (kept_after (cites s r) (steps r) n) (steps r)

-- the marks and those of the steps that a body b of kind K cites
unfoldable pub with_cited : Kind → List ℕ → List ℕ → List ℕ
with_cited Copy b marks = marks
with_cited Cost b marks = marks
with_cited IndependentSet b marks = marks
with_cited Resolvent b marks = set (set marks (cited b 1 - 1) 1) (cited b 2 - 1) 1
with_cited WeightedSet b marks = marks
with_cited Unknown b marks = marks

-- step k, with the body b, passes its mark on
unfoldable pub passed_on : List ℕ → ℕ → List ℕ → List ℕ
passed_on b k marks = cond (marked marks k) (with_cited (kind_of b) b marks) marks

-- ---- new numbers

-- sampled counts: number i of the table, from 0, is how many of the first i * w steps have a mark
pub record Sampled (table marks : List ℕ) (w : ℕ) : Type 0 where
  pub wide : 1 ≤ w
  pub few : length marks < 2 ^ 29
  pub room : (i : ℕ) → i * w < length marks → 4 * i + 4 ≤ length table
  pub sample : (i : ℕ) → i * w < length marks → number_at table (4 * i) 4 ≡ count_of (marked marks) (i * w)

-- ---- the trimmed record, step by step

-- what step k adds to the bodies
unfoldable pub kept_body : List ℕ → List ℕ → ℕ → List ℕ
kept_body s r k = cond (kept s r k) (new_body s r k) []

-- what the first k steps add
unfoldable pub bodies_to : List ℕ → List ℕ → ℕ → List ℕ
bodies_to s r k = joined (map (new_body s r) (chosen (kept s r) k))

-- a pair where there is a mark
unfoldable pub pair_if : ℕ → ℕ → ℕ → List ℕ
pair_if mark offset size = cond (eqb mark 1) (bytes_of 4 offset ++ bytes_of 4 size) []

-- the pairs of the first k steps, the first body at `start`
unfoldable pub pairs_to : List ℕ → List ℕ → ℕ → ℕ → List ℕ
pairs_to s r start k = pairs_of start (map (new_body s r) (chosen (kept s r) k))

-- what stands before the pairs, which begin at `table`, for so many steps
unfoldable pub head_bytes : List ℕ → ℕ → ℕ → List ℕ
head_bytes r table count = take 8 r ++ bytes_of 4 count ++ take (table - 12) (drop 12 r)
