-- Answers of the definitions to small problems and sheets, each with what it fixes.
-- Assumes nothing.
use Prim.Native.Nat.{ℕ, ◌-◌}
use mathlib.Core.Path.{◌≡◌, refl}
use mathlib.Core.Bool.{Bool, true, false, ◌||◌}
use mathlib.Core.List.{List, [], ◌∷◌}
use lib.ListN.{get_or, length, replicate}
use lib.Dec.{eqb}
use Rattle.judgement.specs.Scan.{all_of, any_of, sum_of}
use Rattle.judgement.specs.Meaning.{positive, negative, Problem, cost_of_true, cost, none}
use Rattle.judgement.specs.Finding.{over_all}
use Rattle.judgement.specs.Number.{number_at}
use Rattle.judgement.specs.Pairs.{body, body_start, pair_finding, pairs_finding}
use Rattle.judgement.specs.Literals.{holds, rises_at, rises, literals_fine}
use Rattle.judgement.specs.Sheet.{marked, variables, loss_size, loss, sheet_head, sheet_pairs, clause_form, sheet_finding, alone_finding}
use Rattle.judgement.specs.Writer.{bytes_of, numbers_of, pairs_of, joined, file_of, sheet_of}
use Rattle.judgement.proofs.Cases.Starred.{sheet_a}
use Rattle.search.specs.declared.Found.{Found}
use Rattle.search.specs.First.{or_else, first_of}
use Rattle.search.specs.Node.{has, add, unsettled, settled_false, settle, next_variable, falsified, forces, forced_by}
use Rattle.search.specs.Search.{forced, forcing, dead, leaves, spend, stop, improve, branch, branches, visit, explore, searched}
use Rattle.search.specs.Answer.{too_many, search_finding, refused, answered, found}

-- ---- problems and answers

abbrev listed : List ℕ → ℕ → Bool
listed [] c = false
listed (x ∷ l) c = eqb x c || listed l c

-- this loss, a cost for each variable, and the literals of each clause
abbrev problem : ℕ → List ℕ → List (List ℕ) → Problem
problem lost costs clauses = record {
  variables = length costs;
  cost_of = λ v. get_or costs (v - 1) 0;
  loss = lost;
  clauses = length clauses;
  clause = λ k. listed (get_or clauses (k - 1) []);
}

-- a plan, the choices made, whether the search has ended, the floor
abbrev plan : ℕ → ℕ → Bool → ℕ → Found
plan set choices ended floor =
    record { number = 0; place = 0; found = true; plan = set; choices = choices; ended = ended; floor = floor }

abbrev no_plan : ℕ → Bool → ℕ → Found
no_plan choices ended floor =
    record { number = 0; place = 0; found = false; plan = 0; choices = choices; ended = ended; floor = floor }

-- the answer; who unfolds this unfolds the whole search
unfoldable answer : Problem → ℕ → Found
unfolding all_of any_of sum_of cost_of_true cost none or_else first_of has add unsettled settled_false settle next_variable falsified forces forced_by forced forcing dead leaves spend stop improve branch branches visit explore searched
answer P budget = answered budget (searched P budget)

-- ---- forcing

-- it goes before the first choice and costs no unit: a budget of 0 is enough, and the loss is in the floor
all_forced : answer (problem 2 (7 ∷ []) ((positive 1 ∷ []) ∷ [])) 0 ≡ plan 1 0 true 9
unfolding answer
all_forced = refl

-- it goes on until nothing is forced, back to lower-numbered clauses too: 1 by the third, 2 by the second, 3 by the first
forced_in_turn :
    answer
    (problem 0 (1 ∷ 2 ∷ 3 ∷ []) ((negative 2 ∷ positive 3 ∷ []) ∷ (negative 1 ∷ positive 2 ∷ []) ∷ (positive 1 ∷ []) ∷ []))
    0
    ≡ plan 7 0 true 6
unfolding answer
forced_in_turn = refl

-- a variable may be forced to be false; a plan without a true variable is a plan
forced_false : answer (problem 0 (7 ∷ []) ((negative 1 ∷ []) ∷ [])) 0 ≡ plan 0 0 true 0
unfolding answer
forced_false = refl

-- a clause with a true literal forces none: of 1 or 2, where 1 is true, 2 stays to be chosen
true_forces_none : answer (problem 0 (1 ∷ 1 ∷ []) ((positive 1 ∷ positive 2 ∷ []) ∷ (positive 1 ∷ []) ∷ [])) 0 ≡ no_plan 0 false 1
unfolding answer
true_forces_none = refl

-- ---- a false clause

-- it is left at once, with a variable unsettled: no choice is made
false_clause : answer (problem 3 (1 ∷ 1 ∷ []) ((positive 1 ∷ []) ∷ (negative 1 ∷ []) ∷ [])) 9 ≡ no_plan 0 true none
unfolding answer
false_clause = refl

-- the empty clause is false from the beginning
empty_clause : answer (problem 3 (1 ∷ 1 ∷ []) ([] ∷ [])) 0 ≡ no_plan 0 true none
unfolding answer
empty_clause = refl

-- four clauses that no plan keeps, and that force nothing before a choice is made
abbrev square : Problem
square =
    problem
    3
    (1 ∷ 1 ∷ [])
    ((positive 1 ∷ positive 2 ∷ [])
    ∷ (positive 1 ∷ negative 2 ∷ [])
    ∷ (negative 1 ∷ positive 2 ∷ [])
    ∷ (negative 1 ∷ negative 2 ∷ [])
    ∷ [])

-- both choices made: none exists, and the floor says so though the budget is spent too
none_exists : answer square 2 ≡ no_plan 2 true none
unfolding answer
none_exists = refl

-- one choice made: the other branch counts with the loss, and not with what it would choose
none_yet : answer square 1 ≡ no_plan 1 false 3
unfolding answer
none_yet = refl

-- ---- a choice is due

-- and no unit is there: the floor has the loss and what was forced before
choice_due : answer (problem 5 (3 ∷ 4 ∷ []) ((positive 1 ∷ []) ∷ [])) 0 ≡ no_plan 0 false 8
unfolding answer
choice_due = refl

-- the second branch takes a unit, though the node is no cheaper than the plan found on the first
second_branch_counts : answer (problem 0 (7 ∷ []) []) 9 ≡ plan 0 2 true 0
unfolding answer
second_branch_counts = refl

-- without that unit it is untried
second_branch_untried : answer (problem 0 (7 ∷ []) []) 1 ≡ plan 0 1 false 0
unfolding answer
second_branch_untried = refl

-- 1, or 2 and 3: either way costs 2
abbrev even : Problem
even = problem 0 (2 ∷ 1 ∷ 1 ∷ []) ((positive 1 ∷ positive 2 ∷ []) ∷ (positive 1 ∷ positive 3 ∷ []) ∷ [])

-- false comes first, and the choice of the last unit is forced and tried to its end: both clauses force. The branch that stays
-- untried counts without its own choice
last_unit : answer even 1 ≡ plan 6 1 false 0
unfolding answer
last_unit = refl

-- of equal cost the first is kept, and where nothing is untried the search has ended, though the budget is spent
equal_cost : answer even 2 ≡ plan 6 2 true 2
unfolding answer
equal_cost = refl

-- what is left of the budget is no choice
units_left : answer even 99 ≡ plan 6 2 true 2
unfolding answer
units_left = refl

-- ---- deeper

-- 2 or 3, and 1 is free: the plans in order are 3, at 6, and 2, at 4
abbrev deep : Problem
deep = problem 0 (1 ∷ 4 ∷ 6 ∷ []) ((positive 2 ∷ positive 3 ∷ []) ∷ [])

-- the lowest variable first: 1 false, 2 false, and 3 is forced
by_number : answer deep 2 ≡ plan 4 2 false 0
unfolding answer
by_number = refl

-- all with 1 false is tried, a cheaper plan found: the second branch of the root counts with what the root costs
top_untried : answer deep 5 ≡ plan 2 5 false 0
unfolding answer
top_untried = refl

-- it is begun, and the first branch below it tried: the second one counts with 1, and with neither 4 nor 5
below_untried : answer deep 7 ≡ plan 2 7 false 1
unfolding answer
below_untried = refl

cheapest : answer deep 8 ≡ plan 2 8 true 4
unfolding answer
cheapest = refl

-- with 1 false, 4 is forced and costs 20; with 1 true, 2 is
abbrev dear : Problem
dear = problem 0 (1 ∷ 4 ∷ 0 ∷ 20 ∷ []) ((negative 1 ∷ positive 2 ∷ []) ∷ (positive 1 ∷ positive 4 ∷ []) ∷ [])

-- a branch is left where it costs no less than the plan: with 3 true, which costs nothing more; and with 2 true, before 3 is chosen
no_less : answer dear 5 ≡ plan 8 5 false 0
unfolding answer
no_less = refl

-- below the choice of 1, forcing counts in the floor: 1 and 4
forced_counts : answer dear 6 ≡ plan 8 6 false 5
unfolding answer
forced_counts = refl

-- ---- larger ones

-- with a loss of 7
abbrev six : Problem
six =
    problem
    7
    (1 ∷ 2 ∷ 3 ∷ 4 ∷ 5 ∷ 6 ∷ [])
    ((positive 1 ∷ positive 3 ∷ positive 5 ∷ [])
    ∷ (positive 2 ∷ positive 4 ∷ positive 5 ∷ negative 6 ∷ [])
    ∷ (negative 1 ∷ negative 2 ∷ [])
    ∷ [])

six_begun : answer six 5 ≡ plan 16 5 false 7
unfolding answer
six_begun = refl

six_ended : answer six 99 ≡ plan 1 22 true 8
unfolding answer
six_ended = refl

-- with clauses that force in many ways
abbrev eight : Problem
eight =
    problem
    0
    (1 ∷ 2 ∷ 3 ∷ 4 ∷ 5 ∷ 6 ∷ [])
    ((positive 2 ∷ positive 4 ∷ [])
    ∷ (positive 2 ∷ negative 5 ∷ [])
    ∷ (positive 4 ∷ negative 5 ∷ [])
    ∷ (positive 5 ∷ positive 6 ∷ [])
    ∷ (positive 1 ∷ positive 3 ∷ negative 6 ∷ [])
    ∷ (negative 1 ∷ positive 3 ∷ negative 6 ∷ [])
    ∷ (positive 2 ∷ positive 3 ∷ positive 5 ∷ negative 6 ∷ [])
    ∷ (positive 2 ∷ negative 3 ∷ positive 5 ∷ negative 6 ∷ [])
    ∷ [])

eight_begun : answer eight 10 ≡ plan 26 10 false 1
unfolding answer
eight_begun = refl

eight_ended : answer eight 99 ≡ plan 26 18 true 11
unfolding answer
eight_ended = refl

-- ---- sheets

-- the answer to a sheet; who unfolds this unfolds the writer, the sheet's tests and the whole search
unfoldable of_sheet : List ℕ → ℕ → Found
unfolding answer over_all number_at body body_start pair_finding pairs_finding holds rises_at rises literals_fine marked variables loss_size loss sheet_head sheet_pairs clause_form sheet_finding alone_finding bytes_of numbers_of pairs_of joined file_of sheet_of too_many search_finding found
of_sheet s budget = found s budget

-- document 01's sheet A: 1 false is tried in vain, 1 true and 2 false is the plan, and both true costs more
sheet_a_lem : of_sheet sheet_a 9 ≡ plan 1 4 true 3
unfolding of_sheet sheet_a
sheet_a_lem = refl

-- the loss of a marked sheet, here 4, is in the floor
sheet_loss : of_sheet (sheet_of 4 (3 ∷ 5 ∷ []) ((2 ∷ 0 ∷ 4 ∷ 0 ∷ []) ∷ (2 ∷ 0 ∷ 5 ∷ 0 ∷ []) ∷ [])) 2 ≡ no_plan 2 false 7
unfolding of_sheet
sheet_loss = refl

-- no clauses: nothing true costs least
sheet_no_clauses : of_sheet (sheet_of 4 (3 ∷ 5 ∷ []) []) 9 ≡ plan 0 4 true 4
unfolding of_sheet
sheet_no_clauses = refl

-- 64 variables are searched
sheet_64 : of_sheet (sheet_of 0 (replicate 64 1) []) 0 ≡ no_plan 0 false 0
unfolding of_sheet
sheet_64 = refl

-- 65 are not
sheet_65 : of_sheet (sheet_of 0 (replicate 65 1) []) 0 ≡ refused 26 0
unfolding of_sheet
sheet_65 = refl

-- what is wrong with the sheet comes first: costs cut short
sheet_cut : of_sheet (65 ∷ 0 ∷ 0 ∷ 0 ∷ []) 9 ≡ refused 2 0
unfolding of_sheet
sheet_cut = refl

-- and a clause out of form, with its number as the place
sheet_form : of_sheet (sheet_of 0 (replicate 65 1) ([] ∷ (0 ∷ []) ∷ [])) 9 ≡ refused 4 2
unfolding of_sheet
sheet_form = refl
