-- `checker::independent::clause_finding` meets its contract: no mark has reached t, so that from there on those of the step's list are
-- all that there is.
-- Assumes nothing.
use Rattle.checker.proofs.Cited.{list_within}
use Rattle.checker.proofs.independent.clause_finding.Goals as goal

pub returns : goal.returns
returns c =
    let list = list_within _ 1024 c.args.priced.now.valid.n.1 c.requires.1 in
    c.first_condition.ensures _ list c.mark_settled.ensures.marked
