-- Writing behind what stands in a buffer, at any place of it.
-- Assumes nothing.
use Prim.Native.Nat.{ℕ, ◌-◌, ◌≤◌}
use mathlib.Core.Path.{◌≡◌, sym}
use mathlib.Core.List.{List, ◌++◌}
use native.Mathlib.Omega.{arith}
use lib.ListN.{length, take, drop, length-append, length-drop, take-append-drop}
use lib.Seq.{length-take-le, take_at, drop_at}
use Rattle.judgement.specs.Buffer.{over}
use Rattle.judgement.proofs.Laws.Buffer.{part_from, part_put, put_next}

over_self : (a : ℕ) (l : List ℕ) → a ≤ length l → l ≡ over (take a l) l
over_self a l h = rw (length-take-le a l h) (sym (take-append-drop a l))

-- w put at a
pub behind_written : (a : ℕ) (l w p : List ℕ) → a ≤ length l → p ≡ over w (part_from a l) → part_put a l p ≡ over (take a l ++ w) l
behind_written a l w p h e = put_next a l l (take a l) w p (over_self a l h) (length-take-le a l h) e

-- ---- a part that was lent on, when p stands in it

module _ (a : ℕ) (l p : List ℕ) (low : a ≤ length l) (size : length p ≡ length l - a) where
  pub part_length : length (part_put a l p) ≡ length l
  part_length =
      let b = length-append (take a l) (p ++ drop (length l - a) (drop a l)) in
      let c = length-append p (drop (length l - a) (drop a l)) in
      let d = length-take-le a l low in
      let f = length-drop (length l - a) (drop a l) in
      let g = length-drop a l in
      omega (arith, b, c, d, f, g)

  pub part_is : part_from a (part_put a l p) ≡ p
  part_is =
      rw (part_length, drop_at (take a l) (p ++ drop (length l - a) (drop a l)) a (length-take-le a l low))
      (take_at p (drop (length l - a) (drop a l)) (length l - a) size)
