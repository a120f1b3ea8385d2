-- A search that has ended answers the same to every larger budget.
-- Assumes nothing.
use Prim.Native.Nat.{ℕ, zero, suc, ◌+◌, ◌-◌, ◌≤◌}
use mathlib.Core.Path.{◌≡◌, refl, sym, ap, ◌∙◌}
use mathlib.Core.Bool.{Bool, true, false}
use mathlib.Core.List.{List}
use native.Mathlib.Omega.{arith}
use lib.Dec.{eqb}
use borrow.Author.Tests.{eqb-false, ne_eqb, not-true}
use Rattle.std.specs.Prelude.{Ok, Err}
use Rattle.judgement.specs.Finding.{Finding}
use Rattle.judgement.specs.Sheet.{problem_of}
use Rattle.judgement.specs.Meaning.{positive, negative, Problem}
use Rattle.judgement.proofs.Laws.Scan.{clash}
use Rattle.search.specs.declared.Node.{Node}
use Rattle.search.specs.declared.Progress.{Progress}
use Rattle.search.specs.Node.{settle, root, node_cost, next_variable}
use Rattle.search.specs.Search.{after_forcing, leaves, begin, spend, stop, improve, branch, branches, visit, explore, searched}
use Rattle.search.specs.Answer.{search_finding, answered, answer_after, found}
use Rattle.search.proofs.Steps.{visit_left, visit_plan, visit_both, branch_stop, branch_below}

-- with d units more
abbrev pub lend : ℕ → Progress → Progress
lend d S = record { cost = S.cost; plan = S.plan; floor = S.floor; left = S.left + d; stopped = S.stopped }

-- where it does not stop, it does the same with d units more
abbrev Goes : ℕ → (Progress → Progress) → Type 0
Goes d f = (S : Progress) → (f S).stopped ≡ false → (S.stopped ≡ false) × (f (lend d S) ≡ lend d (f S))

spend_lend : (d : ℕ) (S : Progress) → 1 ≤ S.left → spend (lend d S) ≡ lend d (spend S)
unfolding spend
spend_lend d S h =
    let e : S.left + d - 1 ≡ S.left - 1 + d = omega (arith, h) in
    ap (λ (l : ℕ). record { cost = S.cost; plan = S.plan; floor = S.floor; left = l; stopped = S.stopped }) e

stop_stops : (price : ℕ) (S : Progress) → (stop price S).stopped ≡ true
unfolding stop
stop_stops price S = refl

spend_stopped : (S : Progress) → (spend S).stopped ≡ S.stopped
unfolding spend
spend_stopped S = refl

leaves_lend : (P : Problem) (p : Node) (d : ℕ) (S : Progress) → leaves P p (lend d S) ≡ leaves P p S
unfolding leaves
leaves_lend P p d S = refl

improve_lend : (P : Problem) (p : Node) (d : ℕ) (S : Progress) → improve P p (lend d S) ≡ lend d (improve P p S)
unfolding improve
improve_lend P p d S = refl

improve_stopped : (P : Problem) (p : Node) (S : Progress) → (improve P p S).stopped ≡ S.stopped
unfolding improve
improve_stopped P p S = refl

module _ (P : Problem) (d : ℕ) (below : Node → Progress → Progress) (goes : (p : Node) → Goes d (below p)) (p : Node) where
  branch_goes : (c : ℕ) → Goes d (branch P below p c)
  branch_goes c S h = go (eqb S.left 0) refl
    where
      go : (b : Bool) → eqb S.left 0 ≡ b → (S.stopped ≡ false) × (branch P below p c (lend d S) ≡ lend d (branch P below p c S))
      go true e = absurd (clash (ap (λ (T : Progress). T.stopped) (branch_stop P p S below c e) ∙ stop_stops (node_cost P p) S) h)
      go false e =
          let z = eqb-false S.left 0 e in
          let q = branch_below P p S below c e in
          let r = branch_below P p (lend d S) below c (ne_eqb (S.left + d) 0 (λ x. omega (arith, x, z))) in
          let (s, t) = goes (settle p c) (spend S) (sym (ap (λ (T : Progress). T.stopped) q) ∙ h) in (
            sym (spend_stopped S) ∙ s,
            r ∙ ap (below (settle p c)) (spend_lend d S (omega (arith, z))) ∙ t ∙ sym (ap (lend d) q),
          )

  branches_goes : (v : ℕ) → Goes d (branches P below p v)
  unfolding branches
  branches_goes v S h =
      let (s, t) = branch_goes (positive v) (branch P below p (negative v) S) h in
      let (r, u) = branch_goes (negative v) S s in
      (r, ap (branch P below p (positive v)) u ∙ t)

  visit_goes : Goes d (visit P below p)
  visit_goes S h = go (leaves P p S) refl (eqb (next_variable P p) 0) refl
    where
      go : (a : Bool) → leaves P p S ≡ a → (b : Bool) → eqb (next_variable P p) 0 ≡ b
          → (S.stopped ≡ false) × (visit P below p (lend d S) ≡ lend d (visit P below p S))
      go true e b f =
          let q = visit_left P p S below e in
          (sym (ap (λ (T : Progress). T.stopped) q) ∙ h, visit_left P p (lend d S) below (leaves_lend P p d S ∙ e) ∙ sym (ap (lend d) q))
      go false e true f =
          let q = visit_plan P p S below e f in (
            sym (ap (λ (T : Progress). T.stopped) q ∙ improve_stopped P p S) ∙ h,
            visit_plan P p (lend d S) below (leaves_lend P p d S ∙ e) f ∙ improve_lend P p d S ∙ sym (ap (lend d) q),
          )
      go false e false f =
          let q = visit_both P p S below e f in
          let (s, t) = branches_goes (next_variable P p) S (sym (ap (λ (T : Progress). T.stopped) q) ∙ h) in
          (s, visit_both P p (lend d S) below (leaves_lend P p d S ∙ e) f ∙ t ∙ sym (ap (lend d) q))

explore_goes : (P : Problem) (d deep : ℕ) (p : Node) → Goes d (explore P deep p)
unfolding explore
explore_goes P d zero p S h = (h, refl)
explore_goes P d (suc deep) p S h = visit_goes P d (explore P deep) (explore_goes P d deep) (after_forcing P p) S h

pub searched_more : (P : Problem) (budget d : ℕ) → (searched P budget).stopped ≡ false → searched P (budget + d) ≡ lend d (searched P budget)
unfolding searched
searched_more P budget d h = (explore_goes P d (P.variables + 1) root (begin budget) h).1

answered_lend : (budget d : ℕ) (S : Progress) → answered (budget + d) (lend d S) ≡ answered budget S
answered_lend budget d S =
    let e : budget + d - (S.left + d) ≡ budget - S.left = omega arith in
    rw e

pub found_more : (s : List ℕ) (budget d : ℕ) → (found s budget).ended ≡ true → found s (budget + d) ≡ found s budget
unfolding found
found_more s budget d = go (search_finding s)
  where
    go : (f : Finding) → (answer_after s budget f).ended ≡ true → answer_after s (budget + d) f ≡ answer_after s budget f
    go (Ok _) h =
        let e = searched_more (problem_of s) budget d (not-true (searched (problem_of s) budget).stopped h) in
        ap (answered (budget + d)) e ∙ answered_lend budget d (searched (problem_of s) budget)
    go (Err x) h = refl
