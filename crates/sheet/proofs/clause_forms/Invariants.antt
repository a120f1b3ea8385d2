-- `sheet::clause_forms` meets its contract. The invariant: k clauses are in form.
-- Assumes nothing.
use mathlib.Core.Path.{◌≡◌}
use Rattle.std.specs.Prelude.{Ok}
use Rattle.judgement.specs.Finding.{over_all}
use Rattle.judgement.specs.Sheet.{clause_form}
use Rattle.sheet.proofs.clause_forms.Given as goal

abbrev pub invariant-loop-k : goal.invariant-loop-k
invariant-loop-k l = over_all (clause_form l.s) l.k ≡ Ok tt
