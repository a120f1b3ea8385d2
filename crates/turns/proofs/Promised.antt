-- What the buffers hold when the turns are done, from the two equations of `turn`.
-- Assumes nothing.
use Prim.Native.Nat.{ℕ}
use mathlib.Core.Path.{◌≡◌}
use mathlib.Core.List.{List}
use native.Mathlib.Omega.{arith}
use Rattle.judgement.proofs.Facts.Layouts.{alone_number}
use Rattle.turns.specs.Promises.{Turning, WhenDone}
use Rattle.turns.specs.declared.Turned.{Turned}
use Rattle.turns.specs.Turning.{Lent, left, turn_finding, turning}
use Rattle.turns.proofs.Done.{turning_done}
use Rattle.turns.proofs.When.{Case, done, short, wrong, unfit, case_of}

pub when_done_is : (s turns : List ℕ) (b l : Lent) (r : Turned) → r ≡ turning s turns b → l ≡ left s turns b → WhenDone s turns b r l
unfolding turning left
when_done_is s turns b l r er el z = by_case (case_of s turns b)
  where
    by_case : Case s turns b (turn_finding s turns b) → Turning s turns b l r.total
    by_case (done v h all e) = rw (er, el, e) (turning_done s turns b v h all)
    by_case (short v none e) = absurd (let q = rw (er, e) at z in omega (arith, q))
    by_case (wrong v h i w e) = absurd (let q = rw (er, e) at z in omega (arith, q))
    by_case (unfit N P u a e) = absurd (let q = rw (er, e) at z in let n = alone_number s N P a in omega (arith, q, n.0))
