-- `layout::Codes::few_rise` meets its contract. The invariant: i literals after the first rise.
-- Assumes nothing.
use mathlib.Core.Path.{◌≡◌}
use mathlib.Core.Bool.{true}
use Rattle.layout.specs.Rise.{rises_from}
use Rattle.layout.proofs.Codes.few_rise.Given as goal

abbrev pub invariant-loop-i : goal.invariant-loop-i
invariant-loop-i l = rises_from l.self.part.now 0 l.i ≡ true
