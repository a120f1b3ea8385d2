-- `layout::literals_fine` meets its contract. What it refuses has a first variable below 1 or a last one above n, each by a lemma over
-- what is read: no answer names a test, so that a test of the wrong numbers is refused for what it gets wrong.
-- Assumes nothing.
use Prim.Native.Nat.{◌≤◌}
use mathlib.Core.Path.{sym, ◌∙◌}
use native.Mathlib.Omega.{arith}
use lib.ListN.{length}
use borrow.Author.Tests.{eqb-false}
use Rattle.layout.proofs.Rise.{none_first, beyond_last}
use Rattle.layout.proofs.literals_fine.Goals as goal

pub returns-then-whole-lt1 : goal.returns-then-whole-lt1
returns-then-whole-lt1 c =
    let p = c.args.part.now in
    let e = eqb-false (length p) 0 (sym c.is_empty.ensures ∙ c.if-is_empty.false) in
    let some : 1 ≤ length p = omega arith in
    let even = c.if-part-ne0.false in
    let b = c.then-whole-lt1.branch in
    grind (arith, none_first, beyond_last)
