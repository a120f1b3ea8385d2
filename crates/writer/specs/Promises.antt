-- What is promised of the sheet written in the one way.
-- Assumes nothing.
use Rattle.std.specs.Prelude.{ℕ, ◌≤◌, ◌<◌, ◌≡◌, true, List, ◌++◌, ◌↔◌, ◌≢◌, length, take, drop}
use Rattle.judgement.specs.declared.Written.{Written}
use Rattle.judgement.specs.Meaning.{Assignment, Model, cost, Least, Unsatisfiable}
use Rattle.judgement.specs.Sheet.{most_bytes, marked, clauses, loss, clause, problem_of}
use Rattle.judgement.specs.Judgement.{judgement}
use Rattle.judgement.specs.Facts.{Among, SameMembers, ValidSheet, Alike}
use Rattle.judgement.specs.Demands.{IsBytes}
use Rattle.writer.specs.Order.{InOrder, InPlace}
use Rattle.writer.specs.Canonical.{ordered, canonical, writing, leaves}

-- `ordered s` is a list in the one order, and there is no other
pub record OneOrder (s : List ℕ) : Type 0 where
  pub is : InOrder s (ordered s)
  pub only : (l : List (List ℕ)) → InOrder s l → l ≡ ordered s

-- what the answer r to a sheet s and a buffer `out` says, and what the buffer holds after it
pub record WrittenWhen (s out : List ℕ) (r : Written) (left : List ℕ) : Type 0 where
  -- the sheet is written exactly when it is valid and there is room; 25 is told exactly when it is valid and there is none,
  -- and one of 1 to 4 exactly when it is not valid
  pub written : (r.number ≡ 0) ↔ (ValidSheet s × (length (canonical s) ≤ length out))
  pub short : (r.number ≡ 25) ↔ (ValidSheet s × (length out < length (canonical s)))
  pub unfit : Among 4 r.number ↔ (ValidSheet s → ⊥)
  -- 25 has place 0; 1 to 4 and their places are those that the judge tells of the sheet, whatever record stands beside it that
  -- is within the limit of 1
  pub place : ValidSheet s → r.place ≡ 0
  pub told : (ValidSheet s → ⊥) → (q : List ℕ) → length q ≤ most_bytes
      → ((judgement s q).number ≡ r.number) × ((judgement s q).place ≡ r.place)
  -- a refusal has length 0
  pub size : r.number ≡ 0 → r.length ≡ length (canonical s)
  pub none_written : r.number ≢ 0 → r.length ≡ 0
  -- the buffer begins with what is written; the bytes past that stay, which after a refusal are all
  pub begins : r.number ≡ 0 → take r.length left ≡ canonical s
  pub behind : drop r.length left ≡ drop r.length out
  pub same_room : length left ≡ length out

-- every clause of s is one of t: the same set of literals
abbrev pub ClausesWithin : List ℕ → List ℕ → Type 0
ClausesWithin s t =
    (k : ℕ) → Among (clauses s) k → (j : ℕ) × Among (clauses t) j × SameMembers (clause s k) (clause t j)

-- the same variables, costs, loss and set of clauses
pub record SameProblem (s t : List ℕ) : Type 0 where
  pub alike : Alike (problem_of s) (problem_of t)
  pub there : ClausesWithin s t
  pub back : ClausesWithin t s

-- a mark tells of a loss that is not 0; that a sheet without one has loss 0 needs no saying
abbrev pub NoIdleMark : List ℕ → Type 0
NoIdleMark s = marked s ≡ true → loss s ≢ 0

-- of a valid sheet s
pub record OneWay (s : List ℕ) : Type 0 where
  -- the sheet that is written is a valid one, a file, and no longer than s
  pub valid : ValidSheet (canonical s)
  pub bytes : IsBytes (canonical s)
  pub no_longer : length (canonical s) ≤ length s
  -- its clauses stand in order, and it has no mark whose loss is 0
  pub rises : InPlace (canonical s)
  pub mark : NoIdleMark (canonical s)
  -- it states the same problem, and no other valid sheet that does has its clauses in order and no such mark
  pub same : SameProblem s (canonical s)
  pub only : (t : List ℕ) → ValidSheet t → IsBytes t → SameProblem s t → InPlace t → NoIdleMark t → t ≡ canonical s
  -- so it has the same models at the same costs, what is least on the one is so on the other, and if there is no model of the
  -- one, there is none of the other
  pub models : (α : Assignment) → Model (problem_of s) α ↔ Model (problem_of (canonical s)) α
  pub costs : (α : Assignment) → cost (problem_of s) α ≡ cost (problem_of (canonical s)) α
  pub least : (L : ℕ) → Least (problem_of s) L ↔ Least (problem_of (canonical s)) L
  pub none_exists : Unsatisfiable (problem_of s) ↔ Unsatisfiable (problem_of (canonical s))
  -- written once more it stays the same: the bytes are its own, its own length is room enough, and a buffer that begins with
  -- it is left as it is
  pub again : canonical (canonical s) ≡ canonical s
  pub enough : (room : ℕ) → length (canonical s) ≤ room
      → writing (canonical s) room ≡ record { number = 0; place = 0; length = length (canonical s) }
  pub stays : (l : List ℕ) → leaves (canonical s) (canonical s ++ l) ≡ canonical s ++ l
  -- the same bytes for the same problem, and only for it
  pub exactly : (t : List ℕ) → ValidSheet t → IsBytes t → (canonical s ≡ canonical t) ↔ SameProblem s t
