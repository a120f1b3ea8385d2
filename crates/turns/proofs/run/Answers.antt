-- `turns::run` meets its contract: index, counts, turns, and the index without its signs.
-- Assumes nothing.
use Rattle.turns.proofs.Answers.{run_done}
use Rattle.turns.proofs.Room.{size_is}
use native.Mathlib.Omega.{arith}
use mathlib.Core.Path.{◌∙◌}
use Rattle.turns.proofs.run.Goals as goal

pub build-requires : goal.build-requires
build-requires c =
    let z = size_is c.args.s.now c.requires.0 in
    (c.requires.0, omega (arith, z, c.requires.3.index))

pub clear_signs-requires : goal.clear_signs-requires
clear_signs-requires c = (c.requires.0, c.requires.1 ∙ size_is c.args.s.now c.requires.0, c.build.ensures.0)

pub returns : goal.returns
returns c =
    let a = c.args in
    let t = c.turn_all-total.ensures in
    run_done a.s.now a.turns.now a.a.now a.index.now a.counts.now _ _ _ _ _ _ c.build.ensures.1 c.clear_signs.ensures t.0 t.1 c.count_afresh-afresh.ensures.1 t.2
