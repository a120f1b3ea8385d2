-- The order of plans that the search goes by: their costs. Nothing else of its theory knows what the rank is.
-- Assumes nothing.
use Prim.Native.Nat.{ℕ, ◌≤◌, ◌<◌}
use mathlib.Core.Path.{◌≡◌}
use mathlib.Core.Bool.{true, false}
use mathlib.Core.Logic.{◌⊎◌, inl, inr}
use lib.Dec.{leb}
use borrow.Author.Tests.{leb-true, leb-false}
use Rattle.judgement.specs.Meaning.{Assignment, Problem, cost}
use Rattle.judgement.proofs.Laws.Scan.{or_e, or_none_l, or_none_r}
use Rattle.search.specs.declared.Node.{Node}
use Rattle.search.specs.declared.Progress.{Progress}
use Rattle.search.specs.Node.{has, node_cost}
use Rattle.search.specs.Search.{dead, leaves}
use Rattle.search.proofs.Nodes.{Within, within_cost}

-- what an assignment of this cost is compared by
unfoldable pub rank : Problem → ℕ → Assignment → ℕ
rank P c α = c

abbrev pub rank_of : Problem → Assignment → ℕ
rank_of P α = rank P (cost P α) α

-- the best plan's
abbrev pub best_rank : Problem → Progress → ℕ
best_rank P S = rank P S.cost (has S.plan)

-- more true variables do not rank below
pub rank_mono : (P : Problem) (α β : Assignment) → Within P.variables α β → rank_of P α ≤ rank_of P β
unfolding rank
rank_mono P α β w = within_cost P α β w

-- cost comes first
pub rank_cost : (P : Problem) (c d : ℕ) (α β : Assignment) → rank P c α ≤ rank P d β → c ≤ d
unfolding rank
rank_cost P c d α β l = l

-- and nothing after it
pub same_rank : (P : Problem) (c d : ℕ) (α β : Assignment) → c ≡ d → rank P c α ≡ rank P d β
unfolding rank
same_rank P c d α β e = e

-- a node is left at a false clause, or where it ranks no lower than the best plan
pub leaves_by : (P : Problem) (p : Node) (S : Progress) → leaves P p S ≡ true
    → (dead P p ≡ true) ⊎ (best_rank P S ≤ rank_of P (has p.trues))
unfolding leaves rank
leaves_by P p S e = elim (or_e (dead P p) (leb S.cost (node_cost P p)) e) [
  | inl d ↦ inl d
  | inr l ↦ inr (leb-true S.cost (node_cost P p) l)
]

pub stays_by : (P : Problem) (p : Node) (S : Progress) → leaves P p S ≡ false
    → (dead P p ≡ false) × (rank_of P (has p.trues) < best_rank P S)
unfolding leaves rank
stays_by P p S e = (
  or_none_l (dead P p) (leb S.cost (node_cost P p)) e,
  leb-false S.cost (node_cost P p) (or_none_r (dead P p) (leb S.cost (node_cost P p)) e),
)
