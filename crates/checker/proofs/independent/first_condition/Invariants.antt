-- `checker::independent::first_condition` meets its contract. The invariant: the three tests are those of i literals.
-- Assumes nothing.
use Rattle.std.proofs.Common.{ℕ, false, List}
use Rattle.judgement.specs.Facts.{LiteralList}
use Rattle.checker.specs.Marks.{IndependentMarks}
use Rattle.checker.proofs.FirstCondition.{Asked}
use Rattle.checker.proofs.independent.first_condition.Given as goal

abbrev pub invariant-loop-i : goal.invariant-loop-i
invariant-loop-i l =
    (D : List ℕ) → LiteralList 1024 D → IndependentMarks D (λ v. false) l.t l.marks → Asked D l.clause l.none_true l.positive l.some_unsettled l.i
