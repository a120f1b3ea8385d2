-- `turns::turn` meets its contract: all of it follows from the answer and the buffers.
-- Assumes nothing.
use Rattle.turns.specs.Turning.{lent}
use Rattle.turns.proofs.When.{turned_when}
use Rattle.turns.proofs.Promised.{when_done_is}
use mathlib.Core.Path.{◌∙◌}
use Rattle.turns.proofs.turn.Goals as goal

pub returns-in-Ok-clause-when : goal.returns-in-Ok-clause-when
returns-in-Ok-clause-when c = let a = c.args in turned_when _ _ (lent a.assignment.now a.index.now a.counts.now) _ _ c.in-Ok.ensures.0 c.in-Ok.ensures.1

pub returns-in-Ok-clause-done : goal.returns-in-Ok-clause-done
returns-in-Ok-clause-done c = let a = c.args in when_done_is _ _ (lent a.assignment.now a.index.now a.counts.now) _ _ c.in-Ok.ensures.0 c.in-Ok.ensures.1

pub returns-in-Err-clause-when : goal.returns-in-Err-clause-when
returns-in-Err-clause-when c = let a = c.args in turned_when _ _ (lent a.assignment.now a.index.now a.counts.now) _ _ (c.into.ensures ∙ c.in-Err.ensures.0) c.in-Err.ensures.1

pub returns-in-Err-clause-done : goal.returns-in-Err-clause-done
returns-in-Err-clause-done c = let a = c.args in when_done_is _ _ (lent a.assignment.now a.index.now a.counts.now) _ _ (c.into.ensures ∙ c.in-Err.ensures.0) c.in-Err.ensures.1
