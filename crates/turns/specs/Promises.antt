-- What is promised of turning: which answer comes when, what the three buffers hold then, and that neither the order of the turns matters
-- nor a variable that is turned twice.
-- Assumes nothing.
use Rattle.std.specs.Prelude.{ℕ, ◌+◌, ◌-◌, ◌*◌, ◌/◌, ◌%◌, ◌≤◌, ◌<◌, ◌≡◌, Bool, not, cond, List, [], ◌∷◌, ◌++◌, ◌↔◌, ◌≢◌, length, get_or, take, drop, eqb, Ok}
use Rattle.judgement.specs.Scan.{one}
use Rattle.judgement.specs.Meaning.{Satisfies, Model}
use Rattle.judgement.specs.Number.{number_at}
use Rattle.judgement.specs.Pairs.{body}
use Rattle.judgement.specs.Sheet.{most_bytes, variables, clauses, clause, problem_of}
use Rattle.judgement.specs.Record.{assignment_size}
use Rattle.judgement.specs.Judgement.{judgement}
use Rattle.judgement.specs.Facts.{Among, Mentions, PairRule, Rising, ValidSheet}
use Rattle.turns.specs.declared.Turned.{Turned}
use Rattle.turns.specs.Turning.{true_in, value_in, Lent, index_of, index_size, turn_finding, turning, left}

-- ---- which answer comes when

-- each buffer is long enough
pub record Enough (s : List ℕ) (b : Lent) : Type 0 where
  pub assignment : assignment_size (variables s) ≤ length b.assignment
  pub index : index_size s ≤ length b.index
  pub counts : 2 * clauses s ≤ length b.counts

-- each turn is of a variable from 1 to n
abbrev pub AllTurns : ℕ → List ℕ → Type 0
AllTurns n turns = (i : ℕ) → Among (length turns) i → Among n (get_or turns (i - 1) 0)

-- turn i, counted from 1, is the first that is of none
pub record FirstWrong (n : ℕ) (turns : List ℕ) (i : ℕ) : Type 0 where
  pub there : Among (length turns) i
  pub wrong : Among n (get_or turns (i - 1) 0) → ⊥
  pub before : (j : ℕ) → 1 ≤ j → j < i → Among n (get_or turns (j - 1) 0)

-- what the answer r to a sheet s, turns and buffers b says, and what it leaves in them
pub record TurnedWhen (s turns : List ℕ) (b : Lent) (r : Turned) (l : Lent) : Type 0 where
  -- the turns are done exactly when the sheet is valid, each buffer is long enough and each turn is of a variable; the sheet is looked
  -- at first, and the turns last
  pub done : (r.number ≡ 0) ↔ (ValidSheet s × Enough s b × AllTurns (variables s) turns)
  pub short : (r.number ≡ 29) ↔ (ValidSheet s × (Enough s b → ⊥))
  pub wrong : (r.number ≡ 30) ↔ (ValidSheet s × Enough s b × (AllTurns (variables s) turns → ⊥))
  pub unfit : Among 4 r.number ↔ (ValidSheet s → ⊥)
  -- 1 to 4 and their places are those that the judge tells of the sheet, whatever record stands beside it that is within the limit of 1
  pub told : (ValidSheet s → ⊥) → (q : List ℕ) → length q ≤ most_bytes
      → ((judgement s q).number ≡ r.number) × ((judgement s q).place ≡ r.place)
  pub place : r.number ≡ 0 → r.place ≡ 0
  pub short_place : r.number ≡ 29 → r.place ≡ 0
  pub first : r.number ≡ 30 → FirstWrong (variables s) turns r.place
  -- a refusal has total 0 and alters nothing
  pub none_broken : r.number ≢ 0 → r.total ≡ 0
  pub stays : r.number ≢ 0 → l ≡ b

-- ---- what is left when the turns are done

-- how often v is listed
unfoldable pub times_in : List ℕ → ℕ → ℕ
times_in [] v = 0
times_in (u ∷ us) v = one (eqb u v) + times_in us v

-- a value that is switched so often
unfoldable pub after : ℕ → Bool → Bool
after times value = cond (eqb (times % 2) 1) (not value) value

-- entry j of list v of the index of s, and how many there are
abbrev pub named : List ℕ → ℕ → ℕ → ℕ
named s v j = number_at (body (index_of s) 0 v) (4 * (j - 1)) 4

abbrev pub named_count : List ℕ → ℕ → ℕ
named_count s v = length (body (index_of s) 0 v) / 4

-- in buffers b, as lent, and l, as left, with this total
pub record Turning (s turns : List ℕ) (b l : Lent) (total : ℕ) : Type 0 where
  -- each bit of the assignment's buffer is switched as often as its number is listed: a spare one, and one behind, never is
  pub values : (v : ℕ) → Among (8 * length b.assignment) v
      → value_in l.assignment v ≡ after (times_in turns v) (value_in b.assignment v)
  pub spare : (v : ℕ) → variables s < v → times_in turns v ≡ 0
  -- the index begins with the pairs of n lists, by the rule of every table of pairs; each is of whole numbers of 4 bytes
  pub index_long : length (index_of s) ≡ index_size s
  pub begins : take (index_size s) l.index ≡ index_of s
  pub pairs : PairRule (index_of s) 0 (variables s)
  pub whole : (v : ℕ) → Among (variables s) v → length (body (index_of s) 0 v) % 4 ≡ 0
  -- list v is rising, and names the clauses that mention v and no other
  pub rising : (v : ℕ) → Among (variables s) v → Rising (named s v) (clauses s) (named_count s v)
  pub names : (v : ℕ) → Among (variables s) v → (k : ℕ)
      → ((j : ℕ) × Among (named_count s v) j × (named s v j ≡ k)) ↔ (Among (clauses s) k × Mentions (clause s k) v)
  -- count k is how many literals of clause k are true; it is 0 exactly where the clause is not satisfied
  pub counts : (k : ℕ) → Among (clauses s) k → number_at l.counts (2 * (k - 1)) 2 ≡ true_in (value_in l.assignment) (clause s k)
  pub zero : (k : ℕ) → Among (clauses s) k
      → (true_in (value_in l.assignment) (clause s k) ≡ 0) ↔ (Satisfies (value_in l.assignment) ((problem_of s).clause k) → ⊥)
  -- no clause is broken exactly where the assignment is a model
  pub model : (total ≡ 0) ↔ Model (problem_of s) (value_in l.assignment)
  -- bytes past those named stay, and so do the lengths
  pub assignment_behind : drop (assignment_size (variables s)) l.assignment ≡ drop (assignment_size (variables s)) b.assignment
  pub index_behind : drop (index_size s) l.index ≡ drop (index_size s) b.index
  pub counts_behind : drop (2 * clauses s) l.counts ≡ drop (2 * clauses s) b.counts
  pub assignment_length : length l.assignment ≡ length b.assignment
  pub index_length : length l.index ≡ length b.index
  pub counts_length : length l.counts ≡ length b.counts

-- of the answer r
abbrev pub WhenDone : List ℕ → List ℕ → Lent → Turned → Lent → Type 0
WhenDone s turns b r l = r.number ≡ 0 → Turning s turns b l r.total

-- ---- laws

-- one list is the other in another order
pub data Reordered : List ℕ → List ℕ → Type 0 where
  same : {l : List ℕ} → Reordered l l
  under : {v : ℕ} {l m : List ℕ} → Reordered l m → Reordered (v ∷ l) (v ∷ m)
  swap : {u v : ℕ} {l : List ℕ} → Reordered (u ∷ v ∷ l) (v ∷ u ∷ l)
  through : {l m n : List ℕ} → Reordered l m → Reordered m n → Reordered l n

-- two lists of turns come to the same answer and leave the same in every three buffers that are long enough for one of them
abbrev pub SameTurns : List ℕ → List ℕ → List ℕ → Type 0
SameTurns s turns others =
    (b : Lent) → turn_finding s turns b ≡ Ok tt → (turning s turns b ≡ turning s others b) × (left s turns b ≡ left s others b)

pub record TurnLaws (s : List ℕ) : Type 0 where
  -- the order does not matter
  pub any_order : {turns others : List ℕ} → Reordered turns others → SameTurns s turns others
  -- a variable turned twice, one turn behind the other, changes nothing
  pub twice : (before behind : List ℕ) (v : ℕ) → SameTurns s (before ++ (v ∷ v ∷ behind)) (before ++ behind)
