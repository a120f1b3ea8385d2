-- What the facts of acceptance mean, and those of "within": every step is entailed, so the claim is true, or no model costs less
-- than the last bound.
-- Assumes nothing.
use Prim.Native.Nat.{ℕ, zero, suc, ◌*◌, ◌≤◌, ◌<◌}
use mathlib.Core.Path.{◌≡◌}
use mathlib.Core.List.{List}
use mathlib.Core.Logic.{inl, inr, ◌≢◌}
use native.Mathlib.Omega.{arith}
use lib.ListN.{drop, length-take}
use Rattle.judgement.specs.Meaning.{Assignment, cost, Model, Falsifies, Entailed, Unsatisfiable, none}
use Rattle.judgement.specs.Literals.{holds}
use Rattle.judgement.specs.Sheet.{problem_of}
use Rattle.judgement.specs.Record.{claim, steps, assigned, step, last_step}
use Rattle.judgement.specs.Step.{literal_count, bound, literals, stated, cited, pivot_of}
use Rattle.judgement.specs.Facts.{Among, premise, resolvent_of, Inference, copies, costs, independent, resolution, linear, BeforeClose, Acceptable, WithinTolerance}
use Rattle.judgement.specs.Demands.{IsBytes}
use Rattle.judgement.proofs.Laws.Membership.{holds_in}
use Rattle.judgement.proofs.Laws.Truth.{model_or_breaks}
use Rattle.judgement.proofs.Laws.Cost.{cost_below_none}
use Rattle.judgement.proofs.Sound.Entail.{copy_entailed, cost_entailed, independent_entailed, resolvent_entailed, weaker_entailed}
use Rattle.judgement.proofs.Sound.LeastWeighed.{linear_entailed}

-- ---- every step

abbrev StepEntailed : List ℕ → List ℕ → ℕ → Type 0
StepEntailed s r k = Entailed (problem_of s) (stated (step s r k))

-- an inference from entailed steps is entailed
inferred : (s r : List ℕ) → BeforeClose s r → (k : ℕ) → Among (steps r) k → Inference s r k
    → ((j : ℕ) → 1 ≤ j → j < k → StepEntailed s r j) → StepEntailed s r k
inferred s r facts k w (copies f) earlier = copy_entailed s (step s r k) f
inferred s r facts k w (costs f) earlier = cost_entailed s (step s r k) (facts.forms k w).list f
inferred s r facts k w (independent f) earlier = independent_entailed s (step s r k) facts.stored.sheet (facts.forms k w).list f
inferred s r facts k w (resolution f) earlier =
    let x = premise s r k 1 in
    let y = premise s r k 2 in
    let b = step s r k in
    let from-x = earlier (cited b 1) f.citing.some_x f.citing.earlier_x in
    let from-y = earlier (cited b 2) f.citing.some_y f.citing.earlier_y in
    let resolvent = resolvent_entailed (problem_of s) (stated x) (stated y) (pivot_of b) from-x from-y in
    weaker_entailed (problem_of s) (stated b) (resolvent_of x y b) f.resolves.weakens resolvent
inferred s r facts k w (linear f) earlier = linear_entailed s (step s r k) facts.stored.sheet f

-- the steps below `top`, each from earlier ones
entailed_below : (s r : List ℕ) → BeforeClose s r → (top k : ℕ) → k < top → Among (steps r) k → StepEntailed s r k
entailed_below s r facts zero k h w = absurd (omega arith)
entailed_below s r facts (suc top) k h w =
    inferred s r facts k w (facts.inferences k w) λ j l m. entailed_below s r facts top j (omega arith) (l, omega (arith, w.1))

entailed : (s r : List ℕ) → BeforeClose s r → (k : ℕ) → Among (steps r) k → StepEntailed s r k
entailed s r facts k w = entailed_below s r facts (suc k) k (omega arith) w

-- ---- the claim

-- a list of no literals is false
empty_false : (b : List ℕ) (α : Assignment) → literal_count b ≡ 0 → Falsifies α (holds (literals b))
empty_false b α e c held =
    let (i, w, q) = holds_in (literals b) c held in
    let h = length-take (2 * literal_count b) (drop 12 b) in
    absurd (omega (arith, w.0, w.1))

-- where step t has no literals, its bound is one on every model
last_bound : (s r : List ℕ) → BeforeClose s r → literal_count (last_step s r) ≡ 0 → (β : Assignment) → Model (problem_of s) β
    → bound (last_step s r) ≤ cost (problem_of s) β
last_bound s r facts empty β model =
    let last : Among (steps r) (steps r) = (facts.stored.layout.t, omega arith) in
    entailed s r facts (steps r) last β model (empty_false (last_step s r) β empty)

pub bound_holds : (s r : List ℕ) → Acceptable s r → (β : Assignment) → Model (problem_of s) β → claim r ≤ cost (problem_of s) β
bound_holds s r (facts, closes) β model =
    let h = last_bound s r facts closes.empty β model in
    let e = closes.reaches in
    omega arith

-- a cost is the least of any model, and "none" is true
pub sound_facts : (s r : List ℕ) → IsBytes s → Acceptable s r
    → (claim r ≢ none
    → Model (problem_of s) (assigned r) × (cost (problem_of s) (assigned r) ≡ claim r)
    × ((β : Assignment) → Model (problem_of s) β → claim r ≤ cost (problem_of s) β))
    × (claim r ≡ none → Unsatisfiable (problem_of s))
sound_facts s r bytes (facts, closes) = (λ some. (facts.stored.model some, facts.stored.cost_is some, bound_holds s r (facts, closes)), unsatisfiable)
  where
    unsatisfiable : claim r ≡ none → Unsatisfiable (problem_of s)
    unsatisfiable e α = elim (model_or_breaks s α) [
      | inl model ↦
          let low = bound_holds s r (facts, closes) α model in
          let high = cost_below_none s bytes facts.stored.sheet.n.1 α in
          absurd (omega arith)
      | inr breaks ↦ breaks
    ]

-- a cost that the last bound falls short of is that of a model, and every model costs the bound at least
pub within_facts : (s r : List ℕ) → WithinTolerance s r
    → Model (problem_of s) (assigned r) × (cost (problem_of s) (assigned r) ≡ claim r)
    × ((β : Assignment) → Model (problem_of s) β → bound (last_step s r) ≤ cost (problem_of s) β)
within_facts s r (facts, short) = (facts.stored.model short.some, facts.stored.cost_is short.some, last_bound s r facts short.empty)
