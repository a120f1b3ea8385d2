-- `checker::form::is_rising` meets its contract. The invariant: j cited clauses rise from 1 and stay within m, and `before`
-- is the last of them, or 0.
-- Assumes nothing.
use Rattle.std.proofs.Common.{◌≡◌, ◌+◌, true}
use Rattle.judgement.specs.Scan.{all_of}
use Rattle.judgement.specs.Literals.{rises_at}
use Rattle.judgement.specs.Sheet.{clauses}
use Rattle.layout.proofs.Literals.{previous}
use Rattle.checker.proofs.Rising.{numbered}
use Rattle.checker.proofs.form.is_rising.Given as goal

abbrev pub invariant-loop-j : goal.invariant-loop-j
invariant-loop-j l =
    (l.before ≡ previous (numbered l.tail l.from l.apart) (l.j + 1)) × (all_of (rises_at (numbered l.tail l.from l.apart) (clauses l.s)) l.j ≡ true)
