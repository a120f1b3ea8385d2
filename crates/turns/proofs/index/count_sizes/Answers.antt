use Rattle.judgement.proofs.Laws.Patch.{kept_same}
use Rattle.turns.proofs.Clauses.{sized_zero, sizes_as}
use Rattle.turns.proofs.index.count_sizes.Goals as goal

pub loop-k-init : goal.loop-k-init
loop-k-init c =
    let a = c.args in
    (sized_zero a.s.now _ (sizes_as _ _ (λ v. 0) _ c.variable_count.ensures.0 c.clear_sizes.ensures.0), kept_same _ _)
