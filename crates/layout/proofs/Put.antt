-- Stored numbers byte by byte, and where there is no room for them.
-- Assumes nothing.
use Prim.Native.Nat.{ℕ, ◌/◌, ◌≤◌, ◌<◌}
use mathlib.Core.Path.{◌≡◌, sym, ap, ◌∙◌}
use mathlib.Core.List.{List, ◌++◌}
use native.Mathlib.Omega.{arith}
use lib.ListN.{length, length-append}
use Rattle.std.specs.Int.{w32, to_le_bytes}
use Rattle.judgement.specs.Writer.{bytes_of}
use Rattle.judgement.specs.Buffer.{over, put}
use Rattle.judgement.proofs.Complete.Bytes.{length_bytes}
use Rattle.judgement.proofs.Laws.Buffer.{put_room, put_short, length_over, length_from, part_from, part_put, put_next}

pub four_bytes : (x : ℕ) → to_le_bytes w32 x ≡ bytes_of 4 x
unfolding bytes_of
four_bytes x =
    let e : x / 256 / 256 ≡ x / 65536 = omega arith in
    let f : x / 65536 / 256 ≡ x / 16777216 = omega arith in
    rw (e, f)

-- what is too short stays
pub too_short : (width x : ℕ) (l : List ℕ) → length l < width → l ≡ put (bytes_of width x) l
too_short width x l h = let z = length_bytes width x in sym (put_short (bytes_of width x) l (omega (arith, z)))

room_for : (width x : ℕ) (l : List ℕ) → width ≤ length l → put (bytes_of width x) l ≡ over (bytes_of width x) l
room_for width x l h = let z = length_bytes width x in put_room (bytes_of width x) l (omega (arith, z))

-- ---- two numbers of 4 bytes

pub length_pair : (x y : ℕ) → length (bytes_of 4 x ++ bytes_of 4 y) ≡ 8
length_pair x y = length-append (bytes_of 4 x) (bytes_of 4 y) ∙ rw (length_bytes 4 x, length_bytes 4 y)

pub no_pair : (x y : ℕ) (l : List ℕ) → length l < 8 → l ≡ put (bytes_of 4 x ++ bytes_of 4 y) l
no_pair x y l h = let z = length_pair x y in sym (put_short (bytes_of 4 x ++ bytes_of 4 y) l (omega (arith, z)))

pub pair_put : (x y : ℕ) (l₀ l p : List ℕ) → 8 ≤ length l₀ → l ≡ put (bytes_of 4 x) l₀ → p ≡ put (bytes_of 4 y) (part_from 4 l)
    → part_put 4 l p ≡ put (bytes_of 4 x ++ bytes_of 4 y) l₀
pair_put x y l₀ l p h e f =
    let z = length_pair x y in
    let b = length_bytes 4 x in
    let first : l ≡ over (bytes_of 4 x) l₀ = e ∙ room_for 4 x l₀ (omega arith) in
    let same = ap length first ∙ length_over (bytes_of 4 x) l₀ (omega (arith, b)) in
    let k = length_from 4 l in
    put_next 4 l₀ l (bytes_of 4 x) (bytes_of 4 y) p first (length_bytes 4 x) (f ∙ room_for 4 y (part_from 4 l) (omega (arith, k, same)))
    ∙ sym (put_room (bytes_of 4 x ++ bytes_of 4 y) l₀ (omega (arith, z)))
