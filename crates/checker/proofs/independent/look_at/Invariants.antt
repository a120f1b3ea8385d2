-- `checker::independent::look_at` meets its contract. The invariant: i literals fit, their variables are marked as used, and
-- `least` is 1 more than what the unsettled ones cost at least; or one does not fit, and `wrong` or `least` tells.
-- Assumes nothing.
use Rattle.std.proofs.Common.{ℕ, ◌+◌, Bool, List}
use Rattle.judgement.specs.Sheet.{variables}
use Rattle.judgement.specs.Facts.{LiteralList}
use Rattle.judgement.specs.Demands.{IsBytes}
use Rattle.checker.specs.Marks.{Stale, IndependentMarks}
use Rattle.checker.specs.Prices.{UnsettledCosts}
use Rattle.checker.proofs.Conditions.{Looked}
use Rattle.checker.proofs.independent.look_at.Given as goal

abbrev pub invariant-loop-i : goal.invariant-loop-i
invariant-loop-i l =
    Stale 1024 l.marks (l.t + 4096)
    × ((s D : List ℕ) (used : ℕ → Bool) → IsBytes s → UnsettledCosts s l.costs → LiteralList (variables s) l.clause → IndependentMarks D used l.t l.initial.marks
    → Looked s D used l.t l.clause l.marks l.wrong l.least l.i)
