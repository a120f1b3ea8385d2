-- What is promised of the search's answer, from what exploring the root finds: for a problem, and for the bytes of a sheet.
-- Assumes nothing.
use Prim.Native.Nat.{ℕ, ◌+◌, ◌≤◌, ◌<◌, min}
use mathlib.Core.Path.{◌≡◌, refl, sym, ap, ◌∙◌}
use mathlib.Core.Bool.{true, false, not}
use mathlib.Core.List.{List}
use mathlib.Core.Logic.{◌⊎◌, inl, inr}
use native.Mathlib.Omega.{arith}
use lib.Dec.{eqb, leb}
use borrow.Author.Tests.{eq-eqb, ne_eqb, not-true, not-false}
use Rattle.std.specs.Prelude.{Ok, Err}
use Rattle.judgement.specs.Finding.{Finding, fault, is_fine}
use Rattle.judgement.specs.Meaning.{Assignment, Problem, cost, Model, Breaks, none}
use Rattle.judgement.specs.Sheet.{variables, clause, problem_of, alone_finding}
use Rattle.judgement.specs.Facts.{ValidSheet}
use Rattle.judgement.specs.Demands.{IsBytes}
use Rattle.judgement.proofs.Laws.Scan.{clash}
use Rattle.judgement.proofs.Laws.Findings.{then_l, then_found, need_faults, fault_has}
use Rattle.judgement.proofs.Laws.Membership.{holds_in, in_mention}
use Rattle.judgement.proofs.Laws.Truth.{model_or_breaks}
use Rattle.judgement.proofs.Laws.Cost.{cost_below_none}
use Rattle.judgement.proofs.Facts.Layouts.{alone_valid, alone_number}
use Rattle.search.specs.declared.Progress.{Progress}
use Rattle.search.specs.Node.{has, root}
use Rattle.search.specs.Search.{begin, searched}
use Rattle.search.specs.Answer.{most_searched, too_many, search_finding, answered, answer_after, found}
use Rattle.search.specs.Promises.{KeepsBudget, FirstLeast, Searched, Promised}
use Rattle.search.proofs.Nodes.{Bounded, root_fine, root_extends}
use Rattle.search.proofs.Forcing.{count_most}
use Rattle.search.proofs.Rank.{rank_cost, same_rank}
use Rattle.search.proofs.Explored.{Same, NoEarlier, Beats, Better, Explored, explored}

module _ (P : Problem) (fits : (α : Assignment) → cost P α < none) (decide : (α : Assignment) → Model P α ⊎ Breaks P α)
    (budget : ℕ) (T : Progress) (x : Explored P root (begin budget) T) where
  -- ---- whether there is a plan or not

  cost_most : (α : Assignment) → Beats P T (begin budget) α → T.cost ≤ cost P α
  cost_most α b = rank_cost P T.cost (cost P α) (has T.plan) α (elim b [
    | inl l ↦ omega (arith, l)
    | inr (e, why) ↦ omega (arith, e)
  ])

  floor_most : (α : Assignment) → Model P α → min T.floor T.cost ≤ cost P α
  floor_most α m = elim (x.models α m (root_extends P α)) [
    | inl l ↦ omega (arith, l)
    | inr b ↦ omega (arith, cost_most α b)
  ]

  keeps : KeepsBudget budget (answered budget T)
  keeps = record {
    kept = omega arith;
    spent = λ e. let z = x.spent (λ s. absurd (clash s refl)) (not-false T.stopped e) in omega (arith, z);
  }

  -- where no branch is left untried, every model is beaten
  floor_none : not T.stopped ≡ true → T.floor ≡ none
  floor_none e = (x.ended (not-true T.stopped e)).1

  beaten : T.floor ≡ none → (α : Assignment) → Model P α → Beats P T (begin budget) α
  beaten z α m = elim (x.models α m (root_extends P α)) [
    | inl l ↦ absurd (omega (arith, l, z, fits α))
    | inr b ↦ b
  ]

  -- ---- no plan

  without : Same T (begin budget) → Searched P budget (answered budget T)
  without (c, p) = record {
    plan = λ f. absurd (clash f not_found);
    no_plan = λ f. p;
    budget_kept = keeps;
    floor = floor_most;
    ended = λ e. record {
      exists = (λ f. absurd (clash f not_found), λ (α, m). absurd (no_model (floor_none e) α m));
      plan = λ f. absurd (clash f not_found);
      none_exists = λ f. (
        λ α. elim (decide α) [
          | inl m ↦ absurd (no_model (floor_none e) α m)
          | inr b ↦ b
        ],
        (let z = floor_none e in omega (arith, z, c)),
      );
    };
  }
    where
      not_found : not (eqb T.cost none) ≡ false
      not_found = rw (eq-eqb T.cost none c)

      no_model : T.floor ≡ none → (α : Assignment) → Model P α → ⊥
      no_model z α m = omega (arith, cost_most α (beaten z α m), fits α, c)

  -- ---- a plan

  with_plan : Better P root (begin budget) T → Searched P budget (answered budget T)
  with_plan b = record {
    plan = λ f. record { model = b.model; variables = b.inside };
    no_plan = λ f. absurd (clash is_found f);
    budget_kept = keeps;
    floor = floor_most;
    ended = λ e. record {
      exists = (λ f. (has T.plan, b.model), λ m. is_found);
      plan = λ f. first_least (floor_none e);
      none_exists = λ f. absurd (clash is_found f);
    };
  }
    where
      below_none : T.cost < none
      below_none = omega (arith, b.costs, fits (has T.plan))

      is_found : not (eqb T.cost none) ≡ true
      is_found = rw (ne_eqb T.cost none (λ e. omega (arith, e, below_none)))

      first_least : T.floor ≡ none → FirstLeast P (answered budget T)
      first_least z =
          let e : min T.floor T.cost ≡ T.cost = omega (arith, z, below_none) in
          record {
            costs = sym b.costs ∙ sym e;
            least = record { reached = (has T.plan, b.model, sym b.costs ∙ sym e); below = floor_most };
            first = λ β m q. no_later β (q ∙ e) (beaten z β m);
          }
        where
          no_later : (β : Assignment) → cost P β ≡ T.cost → Beats P T (begin budget) β → NoEarlier P T β
          no_later β q (inl l) =
              let r = same_rank P (cost P β) T.cost β (has T.plan) q in
              absurd (omega (arith, l, r))
          no_later β q (inr (r, inl (c, p))) = absurd (omega (arith, c, below_none))
          no_later β q (inr (r, inr w)) = w

module _ (P : Problem) (bounded : Bounded P) (budget : ℕ) where
  whole : Explored P root (begin budget) (searched P budget)
  unfolding searched
  whole =
      explored P bounded (P.variables + 1) root (begin budget)
      (let l = count_most P.variables root in omega (arith, l)) (root_fine P.variables)

  pub left_most : (searched P budget).left ≤ budget
  left_most = whole.left_falls

  pub promised : ((α : Assignment) → cost P α < none) → ((α : Assignment) → Model P α ⊎ Breaks P α)
      → Searched P budget (answered budget (searched P budget))
  promised fits decide = elim whole.best [
    | inl s ↦ without P fits decide budget _ whole s
    | inr b ↦ with_plan P fits decide budget _ whole b
  ]

-- ---- the bytes of a sheet

pub sheet_bounded : (s : List ℕ) → ValidSheet s → Bounded (problem_of s)
sheet_bounded s valid k w c e =
    let (i, a, q) = in_mention (clause s k) c (holds_in (clause s k) c e) in
    rw q at ((valid.lists k w).variables.range i a)

pub fine_valid : (s : List ℕ) → search_finding s ≡ Ok tt → ValidSheet s
unfolding search_finding
fine_valid s e = alone_valid s (then_l (alone_finding s) (too_many s) (ap is_fine e))

-- a refusal has a number
refused_by : (s : List ℕ) (N P : ℕ) → search_finding s ≡ fault N P → 1 ≤ N
unfolding search_finding too_many
refused_by s N P e = elim (then_found (alone_finding s) (too_many s) N P e) [
  | inl f ↦ (alone_number s N P f).0
  | inr (a, f) ↦ fault_has (λ N P. 1 ≤ N) (too_many s) (need_faults (λ N P. 1 ≤ N) (leb (variables s) most_searched) 26 0 (omega arith)) f
]

pub sheet_promised : (s : List ℕ) → IsBytes s → (budget : ℕ) → Promised s budget (found s budget)
unfolding found
sheet_promised s bytes budget = go (search_finding s) refl
  where
    go : (f : Finding) → search_finding s ≡ f → Promised s budget (answer_after s budget f)
    go (Ok _) e =
        let valid = fine_valid s e in
        record {
          refused = λ z. absurd (z refl);
          searched = λ z.
              promised (problem_of s) (sheet_bounded s valid) budget (cost_below_none s bytes valid.n.1) (model_or_breaks s);
        }
    go (Err x) e = record {
      refused = λ z. (refl, refl, refl, refl, refl);
      searched = λ z. absurd (omega (arith, refused_by s x.number x.place e, z));
    }
