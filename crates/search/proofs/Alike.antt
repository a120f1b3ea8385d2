-- Two problems that say the same of variables 1 to n and clauses 1 to m are searched alike: so a sheet and the tables made of it.
-- Assumes nothing.
use Prim.Native.Nat.{ℕ, zero, suc, ◌+◌}
use mathlib.Core.Path.{◌≡◌, refl, sym, ap, ap₂, ◌∙◌}
use mathlib.Core.Bool.{Bool, true, false, not, ◌&&◌, ◌||◌}
use mathlib.Core.Logic.{◌⊎◌, inl, inr}
use native.Mathlib.Omega.{arith}
use lib.Dec.{eqb, leb}
use Rattle.judgement.specs.Scan.{all_of, any_of}
use Rattle.judgement.specs.Meaning.{positive, negative, variable_of, Literals, Problem}
use Rattle.judgement.specs.Facts.{Among, Alike}
use Rattle.judgement.proofs.Laws.Scan.{which}
use Rattle.judgement.proofs.Laws.Cost.{same_cost}
use Rattle.search.specs.declared.Node.{Node}
use Rattle.search.specs.declared.Progress.{Progress}
use Rattle.search.specs.Node.{has, unsettled, settled_false, settle, root, next_variable, last_code, falsified, forces, forced_by}
use Rattle.search.specs.Search.{forced, forcing, after_forcing, dead, leaves, begin, spend, stop, improve, branch, branches, visit, explore, searched}
use Rattle.search.proofs.First.{first_same, lowest_same}
use Rattle.search.proofs.Steps.{forcing_none, forcing_some, explore_visit, visit_left, visit_plan, visit_both, branches_are, branch_stop, branch_below}

pub record AllAlike (P Q : Problem) : Type 0 where
  pub costs : Alike P Q
  pub clauses : P.clauses ≡ Q.clauses
  pub clause : (k : ℕ) → Among Q.clauses k → (c : ℕ) → Among (last_code Q.variables) c → P.clause k c ≡ Q.clause k c

-- ---- tests that agree

all_same : (f g : ℕ → Bool) (n : ℕ) → ((k : ℕ) → Among n k → f k ≡ g k) → all_of f n ≡ all_of g n
unfolding all_of
all_same f g zero h = refl
all_same f g (suc n) h = ap₂ ◌&&◌ (all_same f g n (λ k w. h k (w.0, omega (arith, w.1)))) (h (suc n) (omega arith, omega arith))

any_same : (f g : ℕ → Bool) (n : ℕ) → ((k : ℕ) → Among n k → f k ≡ g k) → any_of f n ≡ any_of g n
unfolding any_of
any_same f g zero h = refl
any_same f g (suc n) h = ap₂ ◌||◌ (any_same f g n (λ k w. h k (w.0, omega (arith, w.1)))) (h (suc n) (omega arith, omega arith))

-- ---- one clause

module _ (n : ℕ) (p : Node) (C D : Literals) (same : (c : ℕ) → Among (last_code n) c → C c ≡ D c) where
  same_falsified : falsified n p C ≡ falsified n p D
  unfolding falsified
  same_falsified = all_same _ _ (last_code n) (λ c w. ap (λ b. not b || settled_false p c) (same c w))

  same_forces : (c : ℕ) → Among (last_code n) c → forces n p C c ≡ forces n p D c
  unfolding forces
  same_forces c w =
      ap₂ (λ x y. x && unsettled p (variable_of c) && y) (same c w)
      (all_same _ _ (last_code n) (λ d u. ap (λ b. not b || eqb d c || settled_false p d) (same d u)))

  same_forced_by : forced_by n p C ≡ forced_by n p D
  unfolding forced_by
  same_forced_by = lowest_same (forces n p C) (forces n p D) (last_code n) same_forces

-- ---- one node

module _ (P Q : Problem) (alike : AllAlike P Q) where
  same_forced : (p : Node) → forced P p ≡ forced Q p
  unfolding forced
  same_forced p =
      rw (alike.costs.same_variables, alike.clauses)
      (first_same _ _ Q.clauses (λ k w. same_forced_by Q.variables p (P.clause k) (Q.clause k) (alike.clause k w)))

  same_forcing : (steps : ℕ) (p : Node) → forcing P steps p ≡ forcing Q steps p
  unfolding forcing
  same_forcing zero p = refl
  same_forcing (suc steps) p = go (which (eqb (forced Q p) 0)) (same_forcing steps)
    where
      f : eqb (forced P p) 0 ≡ eqb (forced Q p) 0
      f = ap (λ (c : ℕ). eqb c 0) (same_forced p)

      go : (eqb (forced Q p) 0 ≡ true) ⊎ (eqb (forced Q p) 0 ≡ false) → ((q : Node) → forcing P steps q ≡ forcing Q steps q)
          → forcing P (suc steps) p ≡ forcing Q (suc steps) p
      go (inl e) ih = forcing_none P p (suc steps) (f ∙ e) ∙ sym (forcing_none Q p (suc steps) e)
      go (inr e) ih =
          forcing_some P p steps (f ∙ e) ∙ rw (same_forced p) (ih (settle p (forced Q p))) ∙ sym (forcing_some Q p steps e)

  same_after : (p : Node) → after_forcing P p ≡ after_forcing Q p
  same_after p = same_forcing P.variables p ∙ ap (λ (n : ℕ). forcing Q n p) alike.costs.same_variables

  same_dead : (p : Node) → dead P p ≡ dead Q p
  unfolding dead
  same_dead p =
      rw (alike.costs.same_variables, alike.clauses)
      (any_same _ _ Q.clauses (λ k w. same_falsified Q.variables p (P.clause k) (Q.clause k) (alike.clause k w)))

  same_leaves : (p : Node) (S : Progress) → leaves P p S ≡ leaves Q p S
  unfolding leaves
  same_leaves p S = ap₂ ◌||◌ (same_dead p) (ap (leb S.cost) (same_cost P Q alike.costs (has p.trues)))

  same_next : (p : Node) → next_variable P p ≡ next_variable Q p
  unfolding next_variable
  same_next p = rw alike.costs.same_variables

  same_improve : (p : Node) (S : Progress) → improve P p S ≡ improve Q p S
  unfolding improve
  same_improve p S = rw (same_cost P Q alike.costs (has p.trues))

  -- ---- and what lies below it

  module _ (f g : Node → Progress → Progress) (below : (q : Node) (T : Progress) → f q T ≡ g q T) where
    same_branch : (p : Node) (c : ℕ) (S : Progress) → branch P f p c S ≡ branch Q g p c S
    same_branch p c S = elim (which (eqb S.left 0)) [
      | inl e ↦
          branch_stop P p S f c e ∙ ap (λ (k : ℕ). stop k S) (same_cost P Q alike.costs (has p.trues)) ∙ sym (branch_stop Q p S g c e)
      | inr e ↦ branch_below P p S f c e ∙ below (settle p c) (spend S) ∙ sym (branch_below Q p S g c e)
    ]

    same_branches : (p : Node) (v : ℕ) (S : Progress) → branches P f p v S ≡ branches Q g p v S
    same_branches p v S =
        branches_are P p S f v
        ∙ ap (branch P f p (positive v)) (same_branch p (negative v) S)
        ∙ same_branch p (positive v) (branch Q g p (negative v) S)
        ∙ sym (branches_are Q p S g v)

    same_visit : (p : Node) (S : Progress) → visit P f p S ≡ visit Q g p S
    same_visit p S = go (which (leaves Q p S)) (which (eqb (next_variable Q p) 0))
      where
        l : leaves P p S ≡ leaves Q p S
        l = same_leaves p S

        n : eqb (next_variable P p) 0 ≡ eqb (next_variable Q p) 0
        n = ap (λ (v : ℕ). eqb v 0) (same_next p)

        go : (leaves Q p S ≡ true) ⊎ (leaves Q p S ≡ false) → (eqb (next_variable Q p) 0 ≡ true) ⊎ (eqb (next_variable Q p) 0 ≡ false)
            → visit P f p S ≡ visit Q g p S
        go (inl e) z = visit_left P p S f (l ∙ e) ∙ sym (visit_left Q p S g e)
        go (inr e) (inl z) = visit_plan P p S f (l ∙ e) (n ∙ z) ∙ same_improve p S ∙ sym (visit_plan Q p S g e z)
        go (inr e) (inr z) =
            visit_both P p S f (l ∙ e) (n ∙ z)
            ∙ rw (same_next p) (same_branches p (next_variable Q p) S)
            ∙ sym (visit_both Q p S g e z)

  same_explore : (deep : ℕ) (p : Node) (S : Progress) → explore P deep p S ≡ explore Q deep p S
  unfolding explore
  same_explore zero p S = refl
  same_explore (suc deep) p S =
      explore_visit P p S deep
      ∙ rw (same_after p) (same_visit (explore P deep) (explore Q deep) (same_explore deep) (after_forcing Q p) S)
      ∙ sym (explore_visit Q p S deep)

  pub same_search : (budget : ℕ) → searched P budget ≡ searched Q budget
  unfolding searched
  same_search budget =
      same_explore (P.variables + 1) root (begin budget)
      ∙ ap (λ (n : ℕ). explore Q (n + 1) root (begin budget)) alike.costs.same_variables
