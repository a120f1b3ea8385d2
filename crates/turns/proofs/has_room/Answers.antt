-- `turns::has_room` meets its contract.
-- Assumes nothing.
use Rattle.turns.proofs.Answers.{room_counts}
use native.Mathlib.Omega.{arith}
use Rattle.turns.proofs.has_room.Goals as goal

pub returns : goal.returns
returns c =
    room_counts c.args.s.now _ _ _ _ _ _ c.variable_count-n.ensures.0 c.requires.1 c.clause_count-m.ensures.0 (omega arith) (omega arith)
