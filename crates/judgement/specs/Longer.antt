-- What becomes of a record r when clauses are added at the end of its sheet s: document 02, change 10.
-- Assumes nothing.
use Rattle.std.specs.Prelude.{ℕ, ◌≤◌, ◌<◌, ◌≡◌, true, List, ◌↔◌, ◌≢◌, ◌⊎◌}
use Rattle.judgement.specs.Meaning.{Satisfies, none}
use Rattle.judgement.specs.Sheet.{clauses, clause, problem_of}
use Rattle.judgement.specs.Record.{claim, assigned}
use Rattle.judgement.specs.declared.Answer.{Answer}
use Rattle.judgement.specs.Judgement.{refused, judgement, passes}
use Rattle.judgement.specs.Facts.{Among, Alike, SameMembers, ValidSheet}

-- t is a valid sheet, alike in variables, costs and loss, that has the clauses of s, as sets of literals and in their places, and
-- perhaps more behind them
pub record ExtendedBy (s t : List ℕ) : Type 0 where
  pub valid : ValidSheet t
  pub alike : Alike (problem_of s) (problem_of t)
  pub more : clauses s ≤ clauses t
  pub same : (k : ℕ) → Among (clauses s) k → SameMembers (clause s k) (clause t k)

-- clause k of t is one of those behind
abbrev pub IsAdded : List ℕ → List ℕ → ℕ → Type 0
IsAdded s t k = (clauses s < k) × (k ≤ clauses t)

-- the record's assignment satisfies clause k of t
abbrev pub SatisfiesAt : List ℕ → List ℕ → ℕ → Type 0
SatisfiesAt t r k = Satisfies (assigned r) ((problem_of t).clause k)

-- and every added one
abbrev pub SatisfiesAdded : List ℕ → List ℕ → List ℕ → Type 0
SatisfiesAdded s t r = (k : ℕ) → IsAdded s t k → SatisfiesAt t r k

-- k is the first of the added clauses that it does not satisfy
pub record FirstBroken (s t r : List ℕ) (k : ℕ) : Type 0 where
  pub added : IsAdded s t k
  pub broken : SatisfiesAt t r k → ⊥
  pub before : (h : ℕ) → clauses s < h → h < k → SatisfiesAt t r h

-- what is answered to t and r, where a is the answer to s and r
pub record SameOrTen (s t r : List ℕ) (a : Answer) : Type 0 where
  -- a itself, all six numbers, exactly when the assignment satisfies the added clauses, or the claim is "none"
  pub same : (judgement t r ≡ a) ↔ (SatisfiesAdded s t r ⊎ (claim r ≡ none))
  -- else refusal 10, at the first added clause that the assignment breaks
  pub otherwise : judgement t r ≢ a → (k : ℕ) × FirstBroken s t r k × (judgement t r ≡ refused 10 k)

-- where a is least, none or within, this is so for every sheet by which s is extended
abbrev pub OldReasons : List ℕ → List ℕ → Answer → Type 0
OldReasons s r a = passes a ≡ true → (t : List ℕ) → ExtendedBy s t → SameOrTen s t r a
