-- The search: forcing, leaving, choosing. It takes variables by number, false before true.
-- Assumes nothing.
use Rattle.std.specs.Prelude.{ℕ, zero, suc, ◌+◌, ◌-◌, min, Bool, true, false, ◌||◌, eqb, leb}
use Rattle.judgement.specs.Scan.{any_of}
use Rattle.judgement.specs.Meaning.{positive, negative, Problem, none}
use Rattle.search.specs.declared.Node.{Node}
use Rattle.search.specs.declared.Progress.{Progress}
use Rattle.search.specs.First.{first_of}
use Rattle.search.specs.Node.{settle, root, node_cost, next_variable, falsified, forced_by}

-- ---- forcing

-- the literal forced by the lowest-numbered clause that forces one, 0 where none does
unfoldable pub forced : Problem → Node → ℕ
forced P p = first_of (λ k. forced_by P.variables p (P.clause k)) P.clauses

-- forced literals settled one after the other, until none is forced, or for so many steps
unfoldable pub forcing : Problem → ℕ → Node → Node
forcing P zero p = p
forcing P (suc steps) p = elim (eqb (forced P p) 0) [
  | true ↦ p
  | false ↦ forcing P steps (settle p (forced P p))
]

-- each step settles a variable, so that n steps are enough
abbrev pub after_forcing : Problem → Node → Node
after_forcing P p = forcing P P.variables p

-- ---- leaving a branch

-- some clause is false
unfoldable pub dead : Problem → Node → Bool
dead P p = any_of (λ k. falsified P.variables p (P.clause k)) P.clauses

-- some clause is false, or the node costs no less than the best plan
unfoldable pub leaves : Problem → Node → Progress → Bool
leaves P p S = dead P p || leb S.cost (node_cost P p)

-- ---- choosing

-- before the first choice there is no plan, and no branch that stays untried
abbrev pub begin : ℕ → Progress
begin budget = record { cost = none; plan = 0; floor = none; left = budget; stopped = false }

-- a choice is made: a unit of the budget
unfoldable pub spend : Progress → Progress
spend S = record { cost = S.cost; plan = S.plan; floor = S.floor; left = S.left - 1; stopped = S.stopped }

-- a branch of a node of this cost stays untried, since the budget is spent
unfoldable pub stop : ℕ → Progress → Progress
stop price S = record { cost = S.cost; plan = S.plan; floor = min S.floor price; left = S.left; stopped = true }

-- the node, where every variable is settled, is the new best plan
unfoldable pub improve : Problem → Node → Progress → Progress
improve P p S = record { cost = node_cost P p; plan = p.trues; floor = S.floor; left = S.left; stopped = S.stopped }

-- one branch of p, on which the literal c is chosen; `below` explores what lies there
unfoldable pub branch : Problem → (Node → Progress → Progress) → Node → ℕ → Progress → Progress
branch P below p c S = elim (eqb S.left 0) [
  | true ↦ stop (node_cost P p) S
  | false ↦ below (settle p c) (spend S)
]

-- both branches, false before true
unfoldable pub branches : Problem → (Node → Progress → Progress) → Node → ℕ → Progress → Progress
branches P below p v S = branch P below p (positive v) (branch P below p (negative v) S)

-- a node after forcing: it is left, it is a plan, or it has two branches
unfoldable pub visit : Problem → (Node → Progress → Progress) → Node → Progress → Progress
visit P below p S = elim (leaves P p S) [
  | true ↦ S
  | false ↦ elim (eqb (next_variable P p) 0) [
    | true ↦ improve P p S
    | false ↦ branches P below p (next_variable P p) S
  ]
]

-- ---- the search

-- all that lies below p, up to so many nodes deep
unfoldable pub explore : Problem → ℕ → Node → Progress → Progress
explore P zero p S = S
explore P (suc deep) p S = visit P (explore P deep) (after_forcing P p) S

-- from the root; each choice settles a variable, so that n + 1 nodes are as deep as it goes
unfoldable pub searched : Problem → ℕ → Progress
searched P budget = explore P (P.variables + 1) root (begin budget)
