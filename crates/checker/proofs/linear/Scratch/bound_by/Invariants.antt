-- `checker::linear::Scratch::bound_by` meets its contract. The invariant: the sum is the total of j entries, and the numbers go with their
-- remainders.
-- Assumes nothing.
use Rattle.std.proofs.Common.{◌≡◌, ◌+◌, ◌*◌, ◌^◌, ◌≤◌, nat_abs}
use Rattle.judgement.specs.Sheet.{variables}
use Rattle.judgement.specs.Linear.{remainder, total_of}
use Rattle.checker.specs.Weighing.{Weighing, full_of}
use Rattle.checker.proofs.linear.Scratch.bound_by.Given as goal

abbrev pub invariant-loop-j : goal.invariant-loop-j
invariant-loop-j l =
    let s = l.priced.sheet.now in
    (nat_abs l.sum ≤ 2 ^ 58 + 2 ^ 28 * l.j)
    × Weighing (variables s) l.list (full_of s l.tail) (remainder s l.tail l.j) l.t l.self.marks l.self.rest
    × (l.sum ≡ total_of s l.list l.tail l.j)
