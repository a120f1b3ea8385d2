-- Writing over the beginning of a lent buffer, piece after piece, and into a part of it. Nothing here knows what is written.
-- Assumes nothing.
use Prim.Native.Nat.{ℕ, ◌+◌, ◌-◌, ◌≤◌, ◌<◌}
use mathlib.Core.Path.{◌≡◌, refl, ◌∙◌}
use mathlib.Core.List.{List, ◌++◌, append_assoc, append-nil}
use native.Mathlib.Omega.{arith}
use borrow.Author.Tests.{le-leb, lt-leb}
use lib.ListN.{length, take, drop, length-append, length-drop, drop_of_length-le}
use lib.Seq.{take_all, take_at, drop_at, drop-append-add, drop-drop}
use Rattle.judgement.specs.Buffer.{over, put}

-- where v stands over the beginning of l₀, w behind it
pub over_next : (v w l₀ l : List ℕ) (a : ℕ) → l ≡ over v l₀ → length v ≡ a → over (take a l ++ w) l ≡ over (v ++ w) l₀
over_next v w l₀ l a e h =
    rw (
      e,
      take_at v (drop (length v) l₀) a h,
      length-append v w,
      drop-append-add v (drop (length v) l₀) (length w),
      drop-drop (length w) (length v) l₀,
    )

pub length_over : (w l : List ℕ) → length w ≤ length l → length (over w l) ≡ length l
length_over w l h = rw (length-append, length-drop) (omega arith)

-- what begins with w stays as it is when w is put there again
pub over_again : (w l : List ℕ) → over w (w ++ l) ≡ w ++ l
over_again w l = rw (drop_at w l (length w) refl)

-- ---- where there is room, and where there is none

pub put_room : (w l : List ℕ) → length w ≤ length l → put w l ≡ over w l
unfolding put
put_room w l h = rw (le-leb (length w) (length l) h)

pub put_short : (w l : List ℕ) → length l < length w → put w l ≡ l
unfolding put
put_short w l h = rw (lt-leb (length w) (length l) h)

-- ---- a part that is lent on, from a on to the end of the buffer

abbrev pub part_from : ℕ → List ℕ → List ℕ
part_from a l = take (length l - a) (drop a l)

-- the buffer l when that part has become p
abbrev pub part_put : ℕ → List ℕ → List ℕ → List ℕ
part_put a l p = take a l ++ (p ++ drop (length l - a) (drop a l))

part_is : (a : ℕ) (l : List ℕ) → part_from a l ≡ drop a l
part_is a l = let z = length-drop a l in take_all (length l - a) (drop a l) (omega (arith, z))

pub length_from : (a : ℕ) (l : List ℕ) → length (part_from a l) ≡ length l - a
length_from a l = rw (part_is a l) (length-drop a l)

put_behind : (a : ℕ) (l w : List ℕ) → part_put a l (over w (part_from a l)) ≡ take a l ++ (w ++ drop (a + length w) l)
put_behind a l w =
    let z = length-drop a l in
    rw (part_is a l, drop_of_length-le (drop a l) {i = length l - a} (omega (arith, z)), append-nil, drop-drop (length w) a l)

-- where v stands over the beginning of l₀, w put behind it
pub put_next : (a : ℕ) (l₀ l v w p : List ℕ) → l ≡ over v l₀ → length v ≡ a → p ≡ over w (part_from a l)
    → part_put a l p ≡ over (v ++ w) l₀
put_next a l₀ l v w p e h q =
    rw q (put_behind a l w
    ∙ rw (
      e,
      take_at v (drop (length v) l₀) a h,
      ← h,
      drop-append-add v (drop (length v) l₀) (length w),
      drop-drop (length w) (length v) l₀,
      append_assoc,
      length-append v w,
    ))
