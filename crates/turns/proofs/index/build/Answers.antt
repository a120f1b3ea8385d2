-- `turns::index::build` meets its contract: the three passes.
-- Assumes nothing.
use native.Mathlib.Omega.{arith}
use Rattle.judgement.proofs.Laws.Patch.{kept_next, kept_more}
use Rattle.turns.proofs.Clauses.{pairs_within}
use Rattle.turns.proofs.index.build.Goals as goal

pub count_sizes-requires : goal.count_sizes-requires
count_sizes-requires c =
    let w = pairs_within c.args.s.now in
    (c.requires.0, omega (arith, w))

pub returns : goal.returns
returns c =
    let a = c.args in
    let w = pairs_within a.s.now in
    let x = c.count_sizes.ensures.1 in
    let y = c.place_lists.ensures.1 in
    let z = c.fill.ensures in
    (z.0, kept_next _ _ _ _ (kept_more _ _ _ _ w (kept_next _ _ _ _ x y)) z.1)
