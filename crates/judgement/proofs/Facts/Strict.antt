-- What was accepted, or within, when a step of kind 4 had to state the cost resolvent itself still is. And the facts of then ask no more
-- than that, so that the promise is not an empty one.
-- Assumes nothing.
use Prim.Native.Nat.{ℕ}
use mathlib.Core.Path.{◌≡◌, sym, ◌∙◌}
use mathlib.Core.List.{List}
use mathlib.Core.Logic.{◌↔◌, inl, inr}
use native.Mathlib.Omega.{arith}
use Rattle.judgement.specs.Meaning.{Weakens}
use Rattle.judgement.specs.Number.{number_at}
use Rattle.judgement.specs.Record.{steps, step}
use Rattle.judgement.specs.declared.Kind.TheVariants.{Resolvent}
use Rattle.judgement.specs.Step.{kind_number, stated}
use Rattle.judgement.specs.Judgement.{judgement}
use Rattle.judgement.specs.Facts.{Among, premise, resolvent_of, Resolves, Inference, copies, costs, independent, resolution, linear, BeforeClose}
use Rattle.judgement.specs.Facts.{IsResolvent, StrictInference, StrictBeforeClose}
use Rattle.judgement.specs.Demands.{StillPasses}
use Rattle.judgement.proofs.Laws.Scan.{true_same}
use Rattle.judgement.proofs.Facts.Resolvent.{strict_resolves}
use Rattle.judgement.proofs.Facts.Accepted.{exactly_when}

strict_inference : (s r : List ℕ) (k : ℕ) → StrictInference s r k → Inference s r k
strict_inference s r k (inl strict) =
    resolution record {
      citing = strict.citing;
      resolves = strict_resolves (premise s r k 1) (premise s r k 2) (step s r k) strict.is_resolvent;
    }
strict_inference s r k (inr (other, inference)) = inference

strict_before : (s r : List ℕ) → StrictBeforeClose s r → BeforeClose s r
strict_before s r strict = record {
  stored = strict.stored;
  forms = strict.forms;
  inferences = λ k w. strict_inference s r k (strict.inferences k w);
}

pub still_passes : (s r : List ℕ) → StillPasses s r (judgement s r)
still_passes s r = record {
  accepted = λ strict closes. (exactly_when s r).accepted.1 (strict_before s r strict, closes);
  within = λ strict short. (exactly_when s r).within.1 (strict_before s r strict, short);
}

-- ---- the facts of then, exactly: the step weakens the resolvent, and the resolvent the step

pub strict_exactly : (x y b : List ℕ) → IsResolvent x y b ↔ (Resolves x y b × Weakens (resolvent_of x y b) (stated b))
strict_exactly x y b = (
  λ h. (strict_resolves x y b h, record { literals = λ c held. sym (h.literals_are c) ∙ held; bound = omega (arith, h.bound_is) }),
  λ (wide, back). record {
    pivots = wide.pivots;
    literals_are = λ c. true_same _ _ (back.literals c) (wide.weakens.literals c);
    bound_is = omega (arith, back.bound, wide.weakens.bound);
  },
)

-- step k, where it is of kind 4, states no less than the resolvent
abbrev pub StatesAll : List ℕ → List ℕ → ℕ → Type 0
StatesAll s r k =
    number_at (step s r k) 0 1 ≡ kind_number Resolvent
    → Weakens (resolvent_of (premise s r k 1) (premise s r k 2) (step s r k)) (stated (step s r k))

inference_strict : (s r : List ℕ) (k : ℕ) → Inference s r k → StatesAll s r k → StrictInference s r k
inference_strict s r k (resolution f) back =
    inl record {
      citing = f.citing;
      is_resolvent = (strict_exactly (premise s r k 1) (premise s r k 2) (step s r k)).1 (f.resolves, back f.citing.kind);
    }
inference_strict s r k (copies f) back = inr (λ e. omega (arith, e, f.kind), copies f)
inference_strict s r k (costs f) back = inr (λ e. omega (arith, e, f.kind), costs f)
inference_strict s r k (independent f) back = inr (λ e. omega (arith, e, f.citing.kind), independent f)
inference_strict s r k (linear f) back = inr (λ e. omega (arith, e, f.citing.kind), linear f)

-- so what passes now with no less than the resolvent in any step passed then
pub before_strict : (s r : List ℕ) → BeforeClose s r → ((k : ℕ) → Among (steps r) k → StatesAll s r k) → StrictBeforeClose s r
before_strict s r facts back = record {
  stored = facts.stored;
  forms = facts.forms;
  inferences = λ k w. inference_strict s r k (facts.inferences k w) (back k w);
}
