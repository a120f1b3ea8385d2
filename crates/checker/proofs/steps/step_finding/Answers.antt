-- `checker::steps::step_finding` meets its contract: the findings of each kind are the step's, and
-- the marks that a kind does not touch are below those of the next step too.
-- Assumes nothing.
use Rattle.std.proofs.Common.{sym, ◌∙◌}
use Rattle.checker.proofs.Known.{step_within, step_at, copy_is, cost_is, independent_is, linear_is, unknown_is}
use Rattle.checker.proofs.steps.step_finding.Goals as goal

pub body_at-b-requires : goal.body_at-b-requires
body_at-b-requires c =
    let h = c.requires in
    step_within _ _ _ h.0.layout h.0.among h.3

pub returns-in-Copy-clause-finding : goal.returns-in-Copy-clause-finding
returns-in-Copy-clause-finding c =
    copy_is _ _ _ _ (step_at _ _ _ c.requires.3 c.body_at-b.ensures) (sym c.kind_of-kind.ensures ∙ c.in-Copy.is) c.copy_finding.ensures

pub returns-in-Cost-clause-finding : goal.returns-in-Cost-clause-finding
returns-in-Cost-clause-finding c =
    cost_is _ _ _ _ (step_at _ _ _ c.requires.3 c.body_at-b.ensures) (sym c.kind_of-kind.ensures ∙ c.in-Cost.is) c.cost_finding.ensures

pub returns-in-IndependentSet-clause-finding : goal.returns-in-IndependentSet-clause-finding
returns-in-IndependentSet-clause-finding c =
    independent_is _ _ _ _ (step_at _ _ _ c.requires.3 c.body_at-b.ensures) (sym c.kind_of-kind.ensures ∙ c.in-IndependentSet.is)
    c.independent_finding.ensures.finding

pub returns-in-WeightedSet-clause-finding : goal.returns-in-WeightedSet-clause-finding
returns-in-WeightedSet-clause-finding c =
    linear_is _ _ _ _ (step_at _ _ _ c.requires.3 c.body_at-b.ensures) (sym c.kind_of-kind.ensures ∙ c.in-WeightedSet.is)
    c.linear_finding.ensures.finding

pub returns-in-Unknown-clause-finding : goal.returns-in-Unknown-clause-finding
returns-in-Unknown-clause-finding c =
    rw c.at.ensures (unknown_is _ _ _ _ (step_at _ _ _ c.requires.3 c.body_at-b.ensures) (sym c.kind_of-kind.ensures ∙ c.in-Unknown.is))
