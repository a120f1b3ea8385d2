-- `turns::walk::turn_one` meets its contract. Turned twice is not turned, so the counts are those of the assignment turned back.
-- Assumes nothing.
use Rattle.turns.proofs.Coding.{counted_back, long_turned}
use Rattle.turns.proofs.walk.turn_one.Goals as goal

pub walk-requires : goal.walk-requires
walk-requires c =
    let a = c.args in
    (c.requires.0, long_turned a.a.now _ _ a.v c.flip.ensures c.requires.1, counted_back a.x.sheet.now a.a.now a.v a.total _ _ c.flip.ensures c.requires.2)
