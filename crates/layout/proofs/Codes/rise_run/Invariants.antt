-- `layout::Codes::rise_run` meets its contract. The invariant: `fine` says whether the first j literals rise.
-- Assumes nothing.
use mathlib.Core.Path.{◌≡◌}
use Rattle.layout.specs.Rise.{rises_from}
use Rattle.layout.proofs.Codes.rise_run.Given as goal

abbrev pub invariant-loop-j : goal.invariant-loop-j
invariant-loop-j g l = l.fine ≡ rises_from l.self.part.now l.i l.j
