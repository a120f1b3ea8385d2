-- How the code holds a problem: what each variable costs; for each clause the variables of its positive and of its negative literals,
-- as two sets; and for each literal a row of the clauses that have it, 64 to a number.
-- Assumes nothing.
use Rattle.std.specs.Prelude.{ℕ, ◌+◌, ◌-◌, ◌*◌, ◌/◌, ◌%◌, ◌^◌, ◌≤◌, ◌<◌, ◌≡◌, Bool, true, cond, ◌&&◌, List, leb, get_or}
use Rattle.judgement.specs.Meaning.{positive, negative, variable_of, is_positive, Literals, Problem}
use Rattle.judgement.specs.Literals.{holds}
use Rattle.judgement.specs.Sheet.{cost_of, clause}
use Rattle.judgement.specs.Facts.{Among}
use Rattle.search.specs.declared.Size.{Size}
use Rattle.search.specs.Node.{has}

-- the clause with these positive and these negative variables
abbrev pub clause_of : ℕ → ℕ → Literals
clause_of a b c = cond (is_positive c) (has a (variable_of c)) (has b (variable_of c))

-- the two sets of clause k stand side by side
abbrev pub positives : List ℕ → ℕ → ℕ
positives masks k = get_or masks (2 * (k - 1)) 0

abbrev pub negatives : List ℕ → ℕ → ℕ
negatives masks k = get_or masks (2 * (k - 1) + 1) 0

-- the problem that the tables state
abbrev pub table_problem : Size → List ℕ → List ℕ → Problem
table_problem size costs masks = record {
  variables = size.variables;
  cost_of = λ v. get_or costs (v - 1) 0;
  loss = size.loss;
  clauses = size.clauses;
  clause = λ k. clause_of (positives masks k) (negatives masks k);
}

-- the row of the literal c has clause k
abbrev pub in_row : List ℕ → ℕ → ℕ → Bool
in_row rows c k = has (get_or rows (64 * (c - 2) + (k - 1) / 64) 0) ((k - 1) % 64 + 1)

-- variables from 1 to n, none both ways
pub record FineClause (n a b : ℕ) : Type 0 where
  pub positives : (v : ℕ) → has a v ≡ true → Among n v
  pub negatives : (v : ℕ) → has b v ≡ true → Among n v
  pub one_way : (v : ℕ) → has a v ≡ true → has b v ≡ true → ⊥

-- the clauses are in form
pub record FineMasks (size : Size) (masks : List ℕ) : Type 0 where
  pub variables : size.variables ≤ 64
  pub clauses : size.clauses ≤ 4096
  pub each : (k : ℕ) → Among size.clauses k → FineClause size.variables (positives masks k) (negatives masks k)

-- each row has the clauses that have its literal, and no number that is not a clause's
pub record FineRows (size : Size) (masks rows : List ℕ) : Type 0 where
  pub complete : (k : ℕ) → Among size.clauses k → (c : ℕ) → clause_of (positives masks k) (negatives masks k) c ≡ true
      → in_row rows c k ≡ true
  pub sound : (k : ℕ) → Among size.clauses k → (c : ℕ) → Among 64 (variable_of c) → in_row rows c k ≡ true
      → clause_of (positives masks k) (negatives masks k) c ≡ true
  pub inside : (c k : ℕ) → Among 64 (variable_of c) → Among 4096 k → in_row rows c k ≡ true → k ≤ size.clauses

-- each cost has 32 bits
abbrev pub Small : List ℕ → Type 0
Small costs = (v : ℕ) → get_or costs v 0 < 2 ^ 32

-- and the loss too
pub record FineCosts (size : Size) (costs : List ℕ) : Type 0 where
  pub loss : size.loss < 2 ^ 32
  pub each : Small costs

-- all tables
pub record FineTables (size : Size) (costs masks rows : List ℕ) : Type 0 where
  pub clauses : FineMasks size masks
  pub literals : FineRows size masks rows
  pub prices : FineCosts size costs

-- ---- the tables of a sheet s

-- the costs of variables 1 to n
abbrev pub Costed : List ℕ → List ℕ → ℕ → Type 0
Costed s costs n = (v : ℕ) → Among n v → get_or costs (v - 1) 0 ≡ cost_of s v

-- the sets of clauses 1 to k
abbrev pub Masked : List ℕ → List ℕ → ℕ → Type 0
Masked s masks k = (j : ℕ) → Among k j → (v : ℕ)
    → (has (positives masks j) v ≡ holds (clause s j) (positive v)) × (has (negatives masks j) v ≡ holds (clause s j) (negative v))

-- the rows with clauses 1 to k
abbrev pub Rowed : List ℕ → List ℕ → ℕ → Type 0
Rowed s rows k = (c j : ℕ) → Among 64 (variable_of c) → Among 4096 j → in_row rows c j ≡ leb j k && holds (clause s j) c
