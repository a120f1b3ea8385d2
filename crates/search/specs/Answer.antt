-- The answer of the search to a sheet s and a budget.
-- Assumes nothing.
use Rattle.std.specs.Prelude.{ℕ, ◌-◌, min, false, not, List, eqb, leb, Ok, Err}
use Rattle.judgement.specs.Finding.{Finding, need, ◌then◌}
use Rattle.judgement.specs.Meaning.{none}
use Rattle.judgement.specs.Sheet.{variables, problem_of, alone_finding}
use Rattle.search.specs.declared.Progress.{Progress}
use Rattle.search.specs.declared.Found.{Found}
use Rattle.search.specs.Search.{searched}

-- refusal 26's, on n
abbrev pub most_searched : ℕ
most_searched = 64

-- 26, more variables than the search takes
unfoldable pub too_many : List ℕ → Finding
too_many s = need (leb (variables s) most_searched) 26 0

-- 1 to 4 of the sheet alone, then 26
unfoldable pub search_finding : List ℕ → Finding
search_finding s = alone_finding s then too_many s

-- a refusal: no plan, not ended, zeros
abbrev pub refused : ℕ → ℕ → Found
refused number place = record { number = number; place = place; found = false; plan = 0; choices = 0; ended = false; floor = 0 }

-- where the search came to S: the floor is the least of the best plan's cost and the costs at the branches that are untried
abbrev pub answered : ℕ → Progress → Found
answered budget S = record {
  number = 0;
  place = 0;
  found = not (eqb S.cost none);
  plan = S.plan;
  choices = budget - S.left;
  ended = not S.stopped;
  floor = min S.floor S.cost;
}

abbrev pub answer_after : List ℕ → ℕ → Finding → Found
answer_after s budget (Ok _) = answered budget (searched (problem_of s) budget)
answer_after s budget (Err x) = refused x.number x.place

-- the answer
unfoldable pub found : List ℕ → ℕ → Found
found s budget = answer_after s budget (search_finding s)
