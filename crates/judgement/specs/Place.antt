-- Where a lent part of a file lies. A place is a block of memory and an offset in it; a file lies at the place of its first
-- byte.
-- Assumes nothing.
use Rattle.std.specs.Prelude.{ℕ, ◌+◌, ◌≤◌, min, cond, List, length}
use Rattle.judgement.specs.Pairs.{pair_offset}
use Rattle.judgement.specs.declared.Part.{Part}

-- so many bytes further in the same file
abbrev pub further : ℕ × ℕ → ℕ → ℕ × ℕ
further p bytes = (p.0, p.1 + bytes)

-- a part that begins at byte `start` of the file f, which lies at p; cut at the end of the file
abbrev pub place_in : ℕ × ℕ → List ℕ → ℕ → ℕ × ℕ
place_in p f start = further p (min start (length f))

-- body k of the pairs that begin at byte `at` of that file
abbrev pub body_place : ℕ × ℕ → List ℕ → ℕ → ℕ → ℕ × ℕ
body_place p f at k = place_in p f (pair_offset f at k)

-- a part of the sheet, which lies at s, or of the record, which lies at r
abbrev pub place_of : ℕ × ℕ → ℕ × ℕ → Part → ℕ × ℕ
place_of s r p = further (cond p.in_sheet s r) p.start

-- the part lies in the file that it names
abbrev pub Inside : List ℕ → List ℕ → Part → Type 0
Inside s r p = p.start + p.size ≤ length (cond p.in_sheet s r)
