-- `checker::linear::Scratch::add_entry` meets its contract. The invariant: i literals of the clause are met, the numbers go with the
-- remainders that these move, and the sum is the clause's weight and what they add.
-- Assumes nothing.
use Rattle.std.proofs.Common.{ℕ, ◌+◌, ◌*◌, ◌≤◌, List, nat_abs}
use Rattle.judgement.specs.Sheet.{variables}
use Rattle.judgement.specs.Linear.{remainder}
use Rattle.checker.specs.Weighing.{Weighing, full_of}
use Rattle.checker.proofs.Entries.{Added}
use Rattle.checker.proofs.linear.Scratch.add_entry.Given as goal

abbrev pub invariant-loop-i : goal.invariant-loop-i
invariant-loop-i l =
    let s = l.priced.sheet.now in
    (nat_abs l.sum ≤ 65536 + 131072 * l.i)
    × ((D : List ℕ) → Weighing (variables s) D (full_of s l.tail) (remainder s l.tail l.j) l.t l.initial.self.marks l.initial.self.rest
    → Added D s l.tail l.j l.t l.clause l.y l.self.marks l.self.rest l.sum l.i)
