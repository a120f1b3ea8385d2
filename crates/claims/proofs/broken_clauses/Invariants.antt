-- `claims::broken_clauses` meets its contract. The invariant: k clauses are satisfied.
-- Assumes nothing.
use mathlib.Core.Path.{◌≡◌}
use Rattle.std.specs.Prelude.{Ok}
use Rattle.judgement.specs.Finding.{over_all}
use Rattle.judgement.specs.Record.{broken_clause}
use Rattle.claims.proofs.broken_clauses.Given as goal

abbrev pub invariant-loop-k : goal.invariant-loop-k
invariant-loop-k l = over_all (broken_clause l.s l.r) l.k ≡ Ok tt
