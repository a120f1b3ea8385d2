-- Trimming a record r, read beside its sheet s: which steps are kept, their new numbers, the record that is left, the answer of the
-- call that writes it, and what this leaves in its two buffers.
-- Assumes nothing.
use Rattle.std.specs.Prelude.{ℕ, zero, suc, ◌+◌, ◌-◌, ◌*◌, Bool, false, cond, ◌&&◌, ◌||◌, List, [], ◌∷◌, ◌++◌, map, length, take, drop, eqb, leb}
use Rattle.judgement.specs.Scan.{one, count_of, list_of}
use Rattle.judgement.specs.declared.Written.{Written}
use Rattle.judgement.specs.declared.Kind.{Kind}
use Rattle.judgement.specs.declared.Kind.TheVariants.{Copy, Cost, IndependentSet, Resolvent, WeightedSet, Unknown}
use Rattle.judgement.specs.Finding.{Finding, need, ◌then◌}
use Rattle.judgement.specs.Sheet.{variables}
use Rattle.judgement.specs.Record.{claim, steps, assignment_at, assignment_size, step}
use Rattle.judgement.specs.Step.{kind_of, literal_count, literals_at, tail, cited}
use Rattle.judgement.specs.Writer.{bytes_of, record_of}
use Rattle.judgement.specs.Buffer.{written_by, left_by}
use Rattle.judgement.specs.Judgement.{finding}

-- ---- which steps are kept

-- a step of kind K with the body b cites step j; kind 4 alone cites steps
unfoldable pub cites_step : Kind → List ℕ → ℕ → Bool
cites_step Copy b j = false
cites_step Cost b j = false
cites_step IndependentSet b j = false
cites_step Resolvent b j = eqb (cited b 1) j || eqb (cited b 2) j
cites_step WeightedSet b j = false
cites_step Unknown b j = false

-- step k cites step j
abbrev pub cites : List ℕ → List ℕ → ℕ → ℕ → Bool
cites s r k j = cites_step (kind_of (step s r k)) (step s r k) j

-- backwards from step t, when its last n steps have been looked at: step t is kept, and what a kept one of these n cites
unfoldable pub kept_after : (ℕ → ℕ → Bool) → ℕ → ℕ → ℕ → Bool
kept_after cites t zero j = eqb j t
kept_after cites t (suc n) j = kept_after cites t n j || kept_after cites t n (t - n) && cites (t - n) j

-- step k is kept
abbrev pub kept : List ℕ → List ℕ → ℕ → Bool
kept s r k = kept_after (cites s r) (steps r) (steps r) k

-- those of 1 to n that pass the test, in order
unfoldable pub chosen : (ℕ → Bool) → ℕ → List ℕ
chosen f zero = []
chosen f (suc n) = chosen f n ++ cond (f (suc n)) (suc n ∷ []) []

-- the numbers of the kept steps
abbrev pub kept_steps : List ℕ → List ℕ → List ℕ
kept_steps s r = chosen (kept s r) (steps r)

-- how many they are
abbrev pub kept_count : List ℕ → List ℕ → ℕ
kept_count s r = count_of (kept s r) (steps r)

-- ---- what is left

-- the new number of a kept step: how many are kept up to it
abbrev pub new_number : List ℕ → List ℕ → ℕ → ℕ
new_number s r k = count_of (kept s r) k

-- the body b of a step of kind 4, citing steps x and y instead
unfoldable pub citing : List ℕ → ℕ → ℕ → List ℕ
citing b x y = take (literals_at + 2 * literal_count b) b ++ (bytes_of 4 x ++ (bytes_of 4 y ++ drop 8 (tail b)))

-- the body b of a step of kind K, with new numbers for the steps that it cites
unfoldable pub renumbered : Kind → (ℕ → ℕ) → List ℕ → List ℕ
renumbered Copy number b = b
renumbered Cost number b = b
renumbered IndependentSet number b = b
renumbered Resolvent number b = citing b (number (cited b 1)) (number (cited b 2))
renumbered WeightedSet number b = b
renumbered Unknown number b = b

-- the body of step k as the trimmed record has it
abbrev pub new_body : List ℕ → List ℕ → ℕ → List ℕ
new_body s r k = renumbered (kind_of (step s r k)) (new_number s r) (step s r k)

abbrev pub kept_bodies : List ℕ → List ℕ → List (List ℕ)
kept_bodies s r = map (new_body s r) (kept_steps s r)

-- the bytes of the record's assignment
abbrev pub assignment_bytes : List ℕ → List ℕ → List ℕ
assignment_bytes s r = take (assignment_size (variables s)) (drop assignment_at r)

-- the trimmed record: the same claim and assignment, and the kept bodies
unfoldable pub trimmed : List ℕ → List ℕ → List ℕ
trimmed s r = record_of (claim r) (assignment_bytes s r) (kept_bodies s r)

-- 1 for a kept step, 0 for another
unfoldable pub marks_of : List ℕ → List ℕ → List ℕ
marks_of s r = list_of (λ k. one (kept s r k)) (steps r)

-- ---- the refusals, for a mark buffer of so many bytes and an output with so much room

-- 27: fewer marks than steps
unfoldable pub few_marks : List ℕ → ℕ → Finding
few_marks r marks = need (leb (steps r) marks) 27 0

-- 28: the output is shorter than the trimmed record
unfoldable pub short_output : List ℕ → List ℕ → ℕ → Finding
short_output s r room = need (leb (length (trimmed s r)) room) 28 0

-- what comes before the marks are written: the record's own refusals, then 27
unfoldable pub mark_finding : List ℕ → List ℕ → ℕ → Finding
mark_finding s r marks = finding s r then few_marks r marks

-- and what comes after it
unfoldable pub trim_finding : List ℕ → List ℕ → ℕ → ℕ → Finding
trim_finding s r marks room = mark_finding s r marks then short_output s r room

-- ---- the answer, and both buffers afterwards

unfoldable pub trimming : List ℕ → List ℕ → ℕ → ℕ → Written
trimming s r marks room = written_by (trim_finding s r marks room) (trimmed s r)

-- the mark buffer begins with the marks; 28 comes after they are written
unfoldable pub marks_left : List ℕ → List ℕ → List ℕ → List ℕ
marks_left s r marks = left_by (mark_finding s r (length marks)) (marks_of s r) marks

-- the output begins with the trimmed record
unfoldable pub output_left : List ℕ → List ℕ → ℕ → List ℕ → List ℕ
output_left s r marks out = left_by (trim_finding s r marks (length out)) (trimmed s r) out
