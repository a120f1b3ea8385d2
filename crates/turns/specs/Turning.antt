-- Turning variables: the index of a sheet, the counts of an assignment, the assignment after turns, refusals 29 and 30, the answer, and
-- what the three lent buffers hold after it. Nothing but `turned` knows of single turns: the index is the sheet's, and counts and total
-- are those of the assignment that is left.
-- Assumes nothing.
use Rattle.std.specs.Prelude.{ℕ, ◌+◌, ◌-◌, ◌*◌, ◌/◌, ◌%◌, ◌^◌, Bool, cond, ◌&&◌, List, [], ◌∷◌, length, get_or, set, eqb, leb, Ok, Err}
use Rattle.judgement.specs.Scan.{sum_of, count_of}
use Rattle.turns.specs.Listed.{list_of, chosen}
use Rattle.judgement.specs.Meaning.{Assignment, literal_true}
use Rattle.judgement.specs.Finding.{Finding, need, ◌then◌, over_all}
use Rattle.judgement.specs.Literals.{count, code, mentions}
use Rattle.judgement.specs.Sheet.{variables, clauses, clause, alone_finding}
use Rattle.judgement.specs.Record.{assignment_size, bit}
use Rattle.turns.specs.Listed.{value_at}
use Rattle.judgement.specs.Writer.{numbers_of, file_of}
use Rattle.judgement.specs.Buffer.{left_by}
use Rattle.turns.specs.declared.Turned.{Turned}

-- ---- the index

-- the clauses that mention variable v, rising
abbrev pub mentioning : List ℕ → ℕ → List ℕ
mentioning s v = chosen (λ k. mentions (clause s k) v) (clauses s)

-- a file like sheet and record, with nothing before its pairs: for each variable the numbers of those clauses
unfoldable pub index_of : List ℕ → List ℕ
index_of s = file_of [] (list_of (λ v. numbers_of 4 (mentioning s v)) (variables s))

-- ---- the counts

-- how many literals of the stored list are true
unfoldable pub true_in : Assignment → List ℕ → ℕ
true_in α part = count_of (λ i. literal_true α (code part i)) (count part)

-- that of each clause
unfoldable pub counts_of : List ℕ → Assignment → List ℕ
counts_of s α = numbers_of 2 (list_of (λ k. true_in α (clause s k)) (clauses s))

-- the broken total: the clauses at 0
unfoldable pub broken_total : List ℕ → Assignment → ℕ
broken_total s α = count_of (λ k. eqb (true_in α (clause s k)) 0) (clauses s)

-- ---- the assignment

-- the assignment in a lent buffer, from its first byte on
unfoldable pub value_in : List ℕ → Assignment
value_in a v = value_at 0 a v

-- x with bit i the other way
unfoldable pub switched : ℕ → ℕ → ℕ
switched x i = cond (bit x i) (x - 2 ^ i) (x + 2 ^ i)

-- variable v the other way
unfoldable pub turn : List ℕ → ℕ → List ℕ
turn a v = set a ((v - 1) / 8) (switched (get_or a ((v - 1) / 8) 0) ((v - 1) % 8))

-- each turn done, in order
unfoldable pub turned : List ℕ → List ℕ → List ℕ
turned a [] = a
turned a (v ∷ vs) = turned (turn a v) vs

-- ---- the three lent buffers

pub record Lent : Type 0 where
  pub assignment : List ℕ
  pub index : List ℕ
  pub counts : List ℕ

abbrev pub lent : List ℕ → List ℕ → List ℕ → Lent
lent assignment index counts = record { assignment = assignment; index = index; counts = counts }

-- ---- refusals

-- the bytes of the index: 8 for each variable, and 4 for each literal of the sheet
unfoldable pub index_size : List ℕ → ℕ
index_size s = 8 * variables s + 4 * sum_of (λ k. count (clause s k)) (clauses s)

-- so many bytes for assignment, index and counts are enough
unfoldable pub has_room : List ℕ → ℕ → ℕ → ℕ → Bool
has_room s a i c = leb (assignment_size (variables s)) a && leb (index_size s) i && leb (2 * clauses s) c

-- 29, no room: a buffer is too short
unfoldable pub no_room : List ℕ → Lent → Finding
no_room s b = need (has_room s (length b.assignment) (length b.index) (length b.counts)) 29 0

-- 30, wrong turn: turn i is not a variable from 1 to n
unfoldable pub wrong_turn : ℕ → List ℕ → ℕ → Finding
wrong_turn n turns i = need (leb 1 (get_or turns (i - 1) 0) && leb (get_or turns (i - 1) 0) n) 30 i

-- 29, then 30 over all turns
unfoldable pub lent_finding : List ℕ → List ℕ → Lent → Finding
lent_finding s turns b = no_room s b then over_all (wrong_turn (variables s) turns) (length turns)

-- 1 to 4 of the sheet, then those
unfoldable pub turn_finding : List ℕ → List ℕ → Lent → Finding
turn_finding s turns b = alone_finding s then lent_finding s turns b

-- ---- the answer, and the buffers afterwards

-- the answer of this finding; a refusal has total 0
abbrev pub answer_of : Finding → ℕ → Turned
answer_of (Ok _) total = record { number = 0; place = 0; total = total }
answer_of (Err x) total = record { number = x.number; place = x.place; total = 0 }

-- the assignment after this finding
abbrev pub assignment_by : Finding → List ℕ → List ℕ → List ℕ
assignment_by (Ok _) turns a = turned a turns
assignment_by (Err x) turns a = a

-- what this finding leaves in the buffers
abbrev pub left_in : Finding → List ℕ → List ℕ → Lent → Lent
left_in f s turns b =
    lent
    (assignment_by f turns b.assignment)
    (left_by f (index_of s) b.index)
    (left_by f (counts_of s (value_in (turned b.assignment turns))) b.counts)

unfoldable pub turning : List ℕ → List ℕ → Lent → Turned
turning s turns b = answer_of (turn_finding s turns b) (broken_total s (value_in (turned b.assignment turns)))

unfoldable pub left : List ℕ → List ℕ → Lent → Lent
left s turns b = left_in (turn_finding s turns b) s turns b
