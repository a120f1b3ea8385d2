-- The search's definitions, one equation for each case: what its theory and its code's proofs cite.
-- Assumes nothing.
use Prim.Native.Nat.{ℕ, zero, suc}
use mathlib.Core.Path.{◌≡◌, refl}
use mathlib.Core.Bool.{true, false}
use lib.Dec.{eqb}
use Rattle.judgement.specs.Meaning.{positive, negative, Problem}
use Rattle.search.specs.declared.Node.{Node}
use Rattle.search.specs.declared.Progress.{Progress}
use Rattle.search.specs.Node.{settle, node_cost, next_variable}
use Rattle.search.specs.Search.{forced, forcing, after_forcing, leaves, spend, stop, improve, branch, branches, visit, explore}

-- ---- forcing

module _ (P : Problem) (p : Node) where
  -- where nothing is forced, any number of steps
  pub forcing_none : (steps : ℕ) → eqb (forced P p) 0 ≡ true → forcing P steps p ≡ p
  unfolding forcing
  forcing_none zero e = refl
  forcing_none (suc steps) e = rw (e, forcing)

  pub forcing_some : (steps : ℕ) → eqb (forced P p) 0 ≡ false → forcing P (suc steps) p ≡ forcing P steps (settle p (forced P p))
  unfolding forcing
  forcing_some steps e = rw (e, forcing)

-- ---- one node

module _ (P : Problem) (p : Node) (S : Progress) where
  pub explore_visit : (deep : ℕ) → explore P (suc deep) p S ≡ visit P (explore P deep) (after_forcing P p) S
  unfolding explore
  explore_visit deep = refl

  module _ (below : Node → Progress → Progress) where
    pub visit_left : leaves P p S ≡ true → visit P below p S ≡ S
    unfolding visit
    visit_left e = rw (e, visit)

    pub visit_plan : leaves P p S ≡ false → eqb (next_variable P p) 0 ≡ true → visit P below p S ≡ improve P p S
    unfolding visit
    visit_plan e z = rw (e, visit, z)

    pub visit_both : leaves P p S ≡ false → eqb (next_variable P p) 0 ≡ false
        → visit P below p S ≡ branches P below p (next_variable P p) S
    unfolding visit
    visit_both e z = rw (e, visit, z)

    pub branches_are : (v : ℕ) → branches P below p v S ≡ branch P below p (positive v) (branch P below p (negative v) S)
    unfolding branches
    branches_are v = refl

    pub branch_stop : (c : ℕ) → eqb S.left 0 ≡ true → branch P below p c S ≡ stop (node_cost P p) S
    unfolding branch
    branch_stop c e = rw (e, branch)

    pub branch_below : (c : ℕ) → eqb S.left 0 ≡ false → branch P below p c S ≡ below (settle p c) (spend S)
    unfolding branch
    branch_below c e = rw (e, branch)
