-- What an old record shows stays true beside a sheet with clauses added at its end, also where the record itself becomes 10: who
-- satisfies all clauses of the longer sheet satisfies those of the shorter one, at the same cost.
-- Assumes nothing.
use Prim.Native.Nat.{ℕ, ◌-◌, ◌≤◌}
use mathlib.Core.Path.{◌≡◌}
use mathlib.Core.Bool.{true}
use mathlib.Core.List.{List}
use mathlib.Core.Logic.{◌≢◌, inl, inr}
use native.Mathlib.Omega.{arith}
use Rattle.judgement.specs.Meaning.{Assignment, cost, Model, Unsatisfiable, none}
use Rattle.judgement.specs.Sheet.{clause, problem_of}
use Rattle.judgement.specs.Record.{claim}
use Rattle.judgement.specs.Judgement.{judgement, passes, accepts}
use Rattle.judgement.specs.Demands.{IsBytes}
use Rattle.judgement.specs.Longer.{ExtendedBy}
use Rattle.judgement.proofs.Laws.Membership.{members_sym}
use Rattle.judgement.proofs.Laws.Models.{same_satisfied}
use Rattle.judgement.proofs.Laws.Cost.{same_cost}
use Rattle.judgement.proofs.Order.Shape.{shape}
use Rattle.judgement.proofs.Promised.{sound, sound_within}

module _ (s t : List ℕ) (longer : ExtendedBy s t) where
  pub old_model : (β : Assignment) → Model (problem_of t) β → Model (problem_of s) β
  old_model β m k l u =
      same_satisfied β (clause t k) (clause s k) (members_sym (clause s k) (clause t k) (longer.same k (l, u)))
      (m k l (omega (arith, u, longer.more)))

  module _ (bytes : IsBytes s) (r : List ℕ) where
    -- no model of the longer sheet costs less than the claim minus the gap
    pub bound_stays : passes (judgement s r) ≡ true → claim r ≢ none → (β : Assignment) → Model (problem_of t) β
        → (judgement s r).cost - (judgement s r).gap ≤ cost (problem_of t) β
    bound_stays ok some β m =
        let e = same_cost (problem_of s) (problem_of t) longer.alike β in
        let c = ((shape s r).passed ok).1 in
        elim ((shape s r).one_of ok) [
          | inl accepted ↦ omega (arith, e, c, ((sound s r bytes).least accepted some).2 β (old_model β m))
          | inr short ↦ omega (arith, e, (sound_within s r short).3 β (old_model β m))
        ]

    -- where there was no model, there is none
    pub none_stays : accepts (judgement s r) ≡ true → claim r ≡ none → Unsatisfiable (problem_of t)
    none_stays ok nothing β =
        let (k, l, u, out) = (sound s r bytes).none_exists ok nothing β in
        (k, l, omega (arith, u, longer.more), λ h. out (same_satisfied β (clause t k) (clause s k) (members_sym (clause s k) (clause t k) (longer.same k (l, u))) h))
