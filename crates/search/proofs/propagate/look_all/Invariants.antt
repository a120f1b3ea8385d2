-- `search::propagate::look_all` meets its contract.
-- Assumes nothing.
use Rattle.std.specs.Prelude.{Some}
use Rattle.search.proofs.Walking.{AllUpTo}
use Rattle.search.proofs.propagate.look_all.Given as goal

-- clauses 1 to k have been looked at
abbrev pub invariant-loop-k : goal.invariant-loop-k
invariant-loop-k l = AllUpTo l.tables l.initial.out l.k (Some l.out)
