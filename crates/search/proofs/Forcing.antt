-- What forcing comes to: it keeps exactly the models, n steps are enough, and after them nothing is forced.
-- Assumes nothing.
use Prim.Native.Nat.{ℕ, zero, suc, ◌≤◌}
use mathlib.Core.Path.{◌≡◌}
use mathlib.Core.Bool.{Bool, true, false}
use mathlib.Core.Logic.{◌⊎◌, inl, inr}
use native.Mathlib.Omega.{arith}
use lib.Dec.{eqb}
use borrow.Author.Tests.{eqb-false}
use Rattle.judgement.specs.Scan.{sum_of, one, count_of}
use Rattle.judgement.specs.Meaning.{Assignment, Problem, Model}
use Rattle.judgement.proofs.Laws.Scan.{which}
use Rattle.search.specs.declared.Node.{Node}
use Rattle.search.specs.Node.{unsettled, settle}
use Rattle.search.specs.Search.{forced, forcing, after_forcing}
use Rattle.search.specs.Work.{unsettled_count}
use Rattle.search.proofs.Nodes.{Bounded, Extends, FineNode, settle_fine, settle_counts, settle_extends, forced_unsettled, forced_among, forced_keeps}
use Rattle.search.proofs.Steps.{forcing_none, forcing_some}

pub one_most : (b : Bool) → one b ≤ 1
one_most true = omega arith
one_most false = omega arith

pub count_most : (n : ℕ) (p : Node) → unsettled_count n p ≤ n
unfolding sum_of unsettled_count
count_most n p = go n
  where
    go : (n : ℕ) → count_of (unsettled p) n ≤ n
    go zero = omega arith
    go (suc n) = omega (arith, go n, one_most (unsettled p (suc n)))

-- q has what p has, and more that is true in every model that extends p
pub record Narrows (P : Problem) (p q : Node) : Type 0 where
  pub fine : FineNode P.variables p → FineNode P.variables q
  pub count : unsettled_count P.variables q ≤ unsettled_count P.variables p
  pub keeps : (α : Assignment) → Model P α → Extends P p α → Extends P q α
  pub back : (α : Assignment) → Extends P q α → Extends P p α

narrows_itself : (P : Problem) (p : Node) → Narrows P p p
narrows_itself P p = record { fine = λ f. f; count = omega arith; keeps = λ α m x. x; back = λ α x. x }

module _ (P : Problem) (bounded : Bounded P) where
  -- ---- one step

  pub some : (p : Node) → eqb (forced P p) 0 ≡ false → 1 ≤ forced P p
  some p e = omega (arith, eqb-false (forced P p) 0 e)

  step_counts : (p : Node) → eqb (forced P p) 0 ≡ false
      → unsettled_count P.variables p ≡ suc (unsettled_count P.variables (settle p (forced P p)))
  step_counts p e =
      settle_counts P.variables p (forced P p) (forced_among P bounded p (some p e)) (forced_unsettled P bounded p (some p e))

  step_narrows : (p q : Node) → eqb (forced P p) 0 ≡ false → Narrows P (settle p (forced P p)) q → Narrows P p q
  step_narrows p q e x =
      let w = forced_among P bounded p (some p e) in
      let u = forced_unsettled P bounded p (some p e) in
      record {
        fine = λ f. x.fine (settle_fine P.variables p (forced P p) w u f);
        count = omega (arith, x.count, step_counts p e);
        keeps = λ α m y. x.keeps α m (forced_keeps P bounded p (some p e) α m y);
        back = λ α y. settle_extends P p α (forced P p) w.0 (x.back α y);
      }

  -- ---- any number of steps

  forcing_narrows : (steps : ℕ) (p : Node) → Narrows P p (forcing P steps p)
  unfolding forcing
  forcing_narrows zero p = narrows_itself P p
  forcing_narrows (suc steps) p = go (which (eqb (forced P p) 0)) (forcing_narrows steps)
    where
      go : (eqb (forced P p) 0 ≡ true) ⊎ (eqb (forced P p) 0 ≡ false) → ((q : Node) → Narrows P q (forcing P steps q))
          → Narrows P p (forcing P (suc steps) p)
      go (inl e) ih = rw (forcing_none P p (suc steps) e) (narrows_itself P p)
      go (inr e) ih = rw (forcing_some P p steps e) (step_narrows p _ e (ih (settle p (forced P p))))

  -- one step for each unsettled variable is enough: nothing is forced then, and more steps change nothing
  forcing_ends : (steps : ℕ) (p : Node) → unsettled_count P.variables p ≤ steps → eqb (forced P (forcing P steps p)) 0 ≡ true
  unfolding forcing
  forcing_ends zero p l = elim (which (eqb (forced P p) 0)) [
    | inl e ↦ e
    | inr e ↦ absurd (omega (arith, step_counts p e, l))
  ]
  forcing_ends (suc steps) p l = go (which (eqb (forced P p) 0)) (forcing_ends steps)
    where
      go : (eqb (forced P p) 0 ≡ true) ⊎ (eqb (forced P p) 0 ≡ false)
          → ((q : Node) → unsettled_count P.variables q ≤ steps → eqb (forced P (forcing P steps q)) 0 ≡ true)
          → eqb (forced P (forcing P (suc steps) p)) 0 ≡ true
      go (inl e) ih = rw (forcing_none P p (suc steps) e) e
      go (inr e) ih = rw (forcing_some P p steps e) (ih (settle p (forced P p)) (omega (arith, step_counts p e, l)))

  -- ---- until none is forced

  pub after_ends : (p : Node) → eqb (forced P (after_forcing P p)) 0 ≡ true
  after_ends p = forcing_ends P.variables p (count_most P.variables p)

  pub after_narrows : (p : Node) → Narrows P p (after_forcing P p)
  after_narrows p = forcing_narrows P.variables p
