-- What each refusal is told of: the last column of document 01's table of refusals, which document 02 goes on with. It is some
-- clause, or some step; which one is said by the tests (Order.antt). And when a step of kind 3, 4 or 5 is refused by one of
-- the numbers of its kind, said as facts, without the tests.
-- Assumes nothing.
use Rattle.std.specs.Prelude.{ℕ, ◌≤◌, ◌<◌, ◌≡◌, Bool, true, false, ◌||◌, List, [], ◌∷◌, ◌≢◌, ◌⊎◌, get_or, eqb}
use Rattle.judgement.specs.Meaning.{variable_of, is_positive, opposite, Includes}
use Rattle.judgement.specs.Sheet.{clauses}
use Rattle.judgement.specs.Record.{steps, step}
use Rattle.judgement.specs.Step.{cited_clause, bound, literals, stated, tail, cited_count, divisor, entry_count, weight}
use Rattle.judgement.specs.Kinds.{independent_cost}
use Rattle.judgement.specs.Facts.{Among, In, Mentions, BeforeSteps, StepLayout, Inference}
use Rattle.judgement.specs.Facts.{OpenYet, PositiveYet, Free, Unsettled, Pivots, resolvent_of, Weighted, BoundedByTotal}

-- what a refusal can be told of
pub data Subject : Type 0 where
  whole : Subject
  a_clause : Subject
  clause_or_whole : Subject
  a_step : Subject
  the_last : Subject
  nothing : Subject

-- p is the place of it: 0; a clause; a clause, or 0 if m is 0; a step; t
abbrev pub IsPlaceOf : Subject → List ℕ → List ℕ → ℕ → Type 0
IsPlaceOf whole s r p = p ≡ 0
IsPlaceOf a_clause s r p = Among (clauses s) p
IsPlaceOf clause_or_whole s r p = Among (clauses s) p ⊎ ((clauses s ≡ 0) × (p ≡ 0))
IsPlaceOf a_step s r p = Among (steps r) p
IsPlaceOf the_last s r p = (p ≡ steps r) × (1 ≤ p)
IsPlaceOf nothing s r p = ⊥

-- the table, by number, from 0, which no refusal has; its last line is the greatest number
abbrev pub subjects : List Subject
subjects =
    nothing
    ∷ whole  -- 1, oversize
    ∷ whole  -- 2, sheet head
    ∷ clause_or_whole  -- 3, sheet pairs
    ∷ a_clause  -- 4, rule form
    ∷ whole  -- 5, record head
    ∷ whole  -- 6, stray bit
    ∷ a_step  -- 7, record pairs
    ∷ a_step  -- 8, step form
    ∷ a_step  -- 9, citation
    ∷ a_clause  -- 10, broken rule
    ∷ whole  -- 11, claimed cost
    ∷ a_step  -- 12, copy
    ∷ a_step  -- 13, cost bound
    ∷ a_step  -- 14, dependence
    ∷ a_step  -- 15, independent bound
    ∷ a_step  -- 16, pivot
    ∷ a_step  -- 17, resolvent
    ∷ a_step  -- 18, lesser bound
    ∷ the_last  -- 19, close
    ∷ a_step  -- 20, unsettled shut
    ∷ a_step  -- 21, all settled
    ∷ a_step  -- 22, shared paddle
    ∷ a_step  -- 23, weights
    ∷ a_step  -- 24, linear bound
    ∷ []

-- refusal `number` may be told at p; only a number of the table has a place (`numbered` in proofs/Order/Shape.antt)
abbrev pub ToldAt : List ℕ → List ℕ → ℕ → ℕ → Type 0
ToldAt s r number p = IsPlaceOf (get_or subjects number nothing) s r p

-- ---- refusals 14, 20, 21 and 22, said as facts of C, the j-th clause that b cites, where D is falsified

-- a variable of C that stands in a clause cited before is settled
abbrev pub DisjointBefore : List ℕ → List ℕ → ℕ → List ℕ → List ℕ → Type 0
DisjointBefore s b j D C =
    (h : ℕ) → 1 ≤ h → h < j → (v : ℕ) → Mentions (cited_clause s b h) v → Mentions C v → Mentions D v

-- none of them applies
abbrev pub Fits : List ℕ → List ℕ → ℕ → List ℕ → List ℕ → Type 0
Fits s b j D C = OpenYet D C × PositiveYet D C × Unsettled D C × DisjointBefore s b j D C

-- `number` is the first of them that applies
pub data Dependent (s b : List ℕ) (j : ℕ) (D C : List ℕ) (number : ℕ) : Type 0 where
  -- a literal is made true
  made_true : number ≡ 14 → (c : ℕ) → In C c → In D (opposite c) → Dependent s b j D C number
  -- none is, and one that is not settled is negative
  negative_yet : number ≡ 20 → OpenYet D C → (c : ℕ) → In C c → Free D (variable_of c) → is_positive c ≡ false
      → Dependent s b j D C number
  -- none is made true, and every variable is settled
  all_settled : number ≡ 21 → OpenYet D C → ((v : ℕ) → Mentions C v → Mentions D v) → Dependent s b j D C number
  -- none is made true, those that are not settled are positive, and the variable of one of them stands in a clause cited before
  shared_yet : number ≡ 22 → OpenYet D C → PositiveYet D C → (v h : ℕ) → Mentions C v → Free D v → 1 ≤ h → h < j
      → Mentions (cited_clause s b h) v → Dependent s b j D C number

-- it is so of the first clause that b cites to which one of them applies
abbrev pub FirstDependent : List ℕ → List ℕ → ℕ → Type 0
FirstDependent s b number =
    (j : ℕ) × Among (cited_count b) j
    × ((h : ℕ) → 1 ≤ h → h < j → Fits s b h (literals b) (cited_clause s b h))
    × Dependent s b j (literals b) (cited_clause s b j) number

-- nothing is wrong before the tail of step k: the layouts, the assignment, the steps before it and its own layout
pub record Reached (s r : List ℕ) (k : ℕ) : Type 0 where
  pub stored : BeforeSteps s r
  pub among : Among (steps r) k
  pub forms : (h : ℕ) → 1 ≤ h → h ≤ k → StepLayout s (step s r h)
  pub inferences : (h : ℕ) → 1 ≤ h → h < k → Inference s r h

-- what a step of kind 3 with the body b is refused by: one of the four; or 15, where all clauses that it cites fit and its bound is not the
-- cost
abbrev pub RefusedIndependent : List ℕ → List ℕ → ℕ → Type 0
RefusedIndependent s b number =
    FirstDependent s b number
    ⊎ ((number ≡ 15)
    × ((j : ℕ) → Among (cited_count b) j → Fits s b j (literals b) (cited_clause s b j))
    × (bound b ≢ independent_cost s b))

-- the number is one of those of kind 3
abbrev pub is_of_independent : ℕ → Bool
is_of_independent number = eqb number 14 || eqb number 15 || eqb number 20 || eqb number 21 || eqb number 22

-- ---- refusals 16, 17 and 18, said as facts of the step with the body b, which resolves the steps with the bodies x and y

pub data RefusedResolution (x y b : List ℕ) (number : ℕ) : Type 0 where
  -- x has not p, or y has not "not p"
  no_pivot : number ≡ 16 → (Pivots x y b → ⊥) → RefusedResolution x y b number
  -- both have, and a literal of the resolvent is missing
  literal_missing : number ≡ 17 → Pivots x y b → (c : ℕ) → (resolvent_of x y b).literals c ≡ true → (stated b).literals c ≡ false
      → RefusedResolution x y b number
  -- none is missing, and the bound is above the resolvent's, the lesser one
  bound_above : number ≡ 18 → Pivots x y b → Includes (stated b).literals (resolvent_of x y b).literals
      → (resolvent_of x y b).bound < bound b → RefusedResolution x y b number

-- the number is one of those of kind 4
abbrev pub is_of_resolution : ℕ → Bool
is_of_resolution number = eqb number 16 || eqb number 17 || eqb number 18

-- ---- refusals 23 and 24, said as facts of the step with the body b

pub data RefusedLinear (s b : List ℕ) (number : ℕ) : Type 0 where
  -- the divisor is 0
  no_divisor : number ≡ 23 → divisor (tail b) ≡ 0 → RefusedLinear s b number
  -- a weight is 0
  no_weight : number ≡ 23 → (j : ℕ) → Among (entry_count (tail b)) j → weight (tail b) j ≡ 0 → RefusedLinear s b number
  -- none is, and the bound is not the total divided by d and rounded up, plus the loss
  other_bound : number ≡ 24 → Weighted (tail b) → (BoundedByTotal s b → ⊥) → RefusedLinear s b number

-- the number is one of those of kind 5
abbrev pub is_of_linear : ℕ → Bool
is_of_linear number = eqb number 23 || eqb number 24
