-- What is promised of the search's answer, over all assignments.
-- Assumes nothing.
use Rattle.std.specs.Prelude.{ℕ, ◌≤◌, ◌<◌, ◌≡◌, true, false, List, ◌↔◌, ◌≢◌, ◌⊎◌}
use Rattle.judgement.specs.Meaning.{Assignment, Problem, cost, Model, Least, Unsatisfiable, none}
use Rattle.judgement.specs.Sheet.{variables, problem_of}
use Rattle.judgement.specs.Facts.{Among, ValidSheet}
use Rattle.search.specs.declared.Found.{Found}
use Rattle.search.specs.Node.{has}
use Rattle.search.specs.Answer.{most_searched}

-- ---- the search's order of assignments

-- the two say the same of variables 1 to n
abbrev pub Agree : ℕ → Assignment → Assignment → Type 0
Agree n α β = (v : ℕ) → Among n v → α v ≡ β v

-- α comes before β: at the lowest variable where they differ α has false
abbrev pub Before : ℕ → Assignment → Assignment → Type 0
Before n α β = (v : ℕ) × Among n v × ((u : ℕ) → 1 ≤ u → u < v → α u ≡ β u) × (α v ≡ false) × (β v ≡ true)

-- ---- the promises

-- when a sheet is refused, and by what
pub record RefusedWhen (s : List ℕ) (a : Found) : Type 0 where
  -- a valid sheet of at most 64 variables is searched
  pub searched : (a.number ≡ 0) ↔ (ValidSheet s × (variables s ≤ most_searched))
  -- one of more is refused with 26
  pub too_many : (a.number ≡ 26) ↔ (ValidSheet s × (most_searched < variables s))
  -- what is no valid sheet with 1 to 4
  pub unfit : Among 4 a.number ↔ (ValidSheet s → ⊥)
  pub place : ValidSheet s → a.place ≡ 0

-- what a refusal shows
abbrev pub ShowsNothing : Found → Type 0
ShowsNothing a = (a.found ≡ false) × (a.plan ≡ 0) × (a.choices ≡ 0) × (a.ended ≡ false) × (a.floor ≡ 0)

-- a plan that is given is a model of variables 1 to n
pub record GoodPlan (P : Problem) (plan : ℕ) : Type 0 where
  pub model : Model P (has plan)
  pub variables : (v : ℕ) → has plan v ≡ true → Among P.variables v

-- the budget is kept, and spent where the search has not ended
pub record KeepsBudget (budget : ℕ) (a : Found) : Type 0 where
  pub kept : a.choices ≤ budget
  pub spent : a.ended ≡ false → a.choices ≡ budget

-- the plan is the first of those of least cost, and the floor is that cost
pub record FirstLeast (P : Problem) (a : Found) : Type 0 where
  pub costs : cost P (has a.plan) ≡ a.floor
  pub least : Least P a.floor
  pub first : (β : Assignment) → Model P β → cost P β ≡ a.floor
      → Agree P.variables (has a.plan) β ⊎ Before P.variables (has a.plan) β

-- an ended search
pub record Ended (P : Problem) (a : Found) : Type 0 where
  -- gives a plan exactly if there is one
  pub exists : (a.found ≡ true) ↔ ((α : Assignment) × Model P α)
  -- the first of the least ones
  pub plan : a.found ≡ true → FirstLeast P a
  -- and has "none" as the floor where there is none
  pub none_exists : a.found ≡ false → Unsatisfiable P × (a.floor ≡ none)

-- all of it, where the sheet is searched
pub record Searched (P : Problem) (budget : ℕ) (a : Found) : Type 0 where
  pub plan : a.found ≡ true → GoodPlan P a.plan
  pub no_plan : a.found ≡ false → a.plan ≡ 0
  pub budget_kept : KeepsBudget budget a
  -- no model costs less than the floor
  pub floor : (α : Assignment) → Model P α → a.floor ≤ cost P α
  pub ended : a.ended ≡ true → Ended P a

-- the promises of the answer to the sheet s
pub record Promised (s : List ℕ) (budget : ℕ) (a : Found) : Type 0 where
  pub refused : a.number ≢ 0 → ShowsNothing a
  pub searched : a.number ≡ 0 → Searched (problem_of s) budget a
