use mathlib.Core.Path.{sym, ◌∙◌, ap}
use mathlib.Core.Bool.{not}
use native.Mathlib.Omega.{arith}
use Rattle.layout.proofs.Loops.{all_stop}
use Rattle.claims.proofs.is_clear.Goals as goal

pub returns-then-is_true : goal.returns-then-is_true
returns-then-is_true c =
    let l = c.loop-i in
    sym (all_stop _ l.i _ (omega arith) (ap not (sym c.is_true.ensures ∙ c.if-is_true.true)))
