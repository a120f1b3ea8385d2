use mathlib.Core.Path.{sym, ◌∙◌}
use native.Mathlib.Omega.{arith}
use Rattle.layout.proofs.Rise.{rises_stop}
use Rattle.layout.proofs.Codes.few_rise.Goals as goal

pub returns-then-not-rise_run : goal.returns-then-not-rise_run
returns-then-not-rise_run c =
    let a = c.args in
    let e = sym c.rise_run.ensures ∙ c.if-not-rise_run.true in
    sym (rises_stop a.self.part.now 0 a.self.after c.loop-i.i 1 (omega arith) (omega arith) e)
