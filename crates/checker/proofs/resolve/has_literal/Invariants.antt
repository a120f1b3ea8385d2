-- `checker::resolve::has_literal` meets its contract. The invariant: it is none of the first i.
-- Assumes nothing.
use Rattle.std.proofs.Common.{◌≡◌, false}
use Rattle.checker.proofs.Marking.{held_to}
use Rattle.checker.proofs.resolve.has_literal.Given as goal

abbrev pub invariant-loop-i : goal.invariant-loop-i
invariant-loop-i l = held_to l.list.part.now l.i l.c ≡ false
