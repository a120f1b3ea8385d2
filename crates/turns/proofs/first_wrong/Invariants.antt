-- `turns::first_wrong` meets its contract. The invariant: none of i turns is wrong.
-- Assumes nothing.
use mathlib.Core.Path.{◌≡◌}
use Rattle.std.specs.Prelude.{Ok}
use Rattle.judgement.specs.Finding.{over_all}
use Rattle.turns.specs.Turning.{wrong_turn}
use Rattle.turns.proofs.first_wrong.Given as goal

abbrev pub invariant-loop-i : goal.invariant-loop-i
invariant-loop-i l = over_all (wrong_turn l.n l.turns) l.i ≡ Ok tt
