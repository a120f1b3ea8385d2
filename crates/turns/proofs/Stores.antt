-- Stores at a place of a buffer; bytes stored one by one are one write.
-- Assumes nothing.
use Prim.Native.Nat.{ℕ, suc, ◌+◌, ◌/◌, ◌%◌, ◌≤◌}
use mathlib.Core.Path.{◌≡◌, ◌∙◌, refl}
use mathlib.Core.List.{List, [], ◌∷◌, append_assoc}
use native.Mathlib.Omega.{arith}
use borrow.Rule.Slice.PartMut.{put_mid}
use lib.ListN.{length, set, take, drop}
use lib.Seq.{sets-eq, take-length}
use Rattle.std.specs.Int.{w16, w32, to_le_bytes}
use Rattle.std.proofs.lemmas.Slice.{put_mid-paste}
use Rattle.judgement.specs.Writer.{bytes_of}
use Rattle.judgement.specs.Buffer.{patch}

pub two_bytes : (x : ℕ) → to_le_bytes w16 x ≡ bytes_of 2 x
unfolding bytes_of
two_bytes x = refl

pub four_bytes : (x : ℕ) → to_le_bytes w32 x ≡ bytes_of 4 x
unfolding bytes_of
four_bytes x =
    let e : x / 256 / 256 ≡ x / 65536 = omega arith in
    let f : x / 65536 / 256 ≡ x / 16777216 = omega arith in
    rw (e, f)

-- a part of the buffer with these bytes in its place
pub part_patch : (a k : ℕ) (l w y : List ℕ) → y ≡ w → length w ≡ k → put_mid a k l y ≡ patch a w l
unfolding patch
part_patch a k l w y e n = put_mid-paste a k l y w (length w) e n refl ∙ rw (take-length w, append_assoc)

pub two_put : (x at : ℕ) (l : List ℕ) → at + 2 ≤ length l
    → set (set l at (x % 256)) (at + 1) (x / 256 % 256) ≡ patch at (bytes_of 2 x) l
unfolding patch bytes_of
two_put x at l h =
    let e1 : at + 1 ≡ suc at = omega arith in
    rw e1
    (sets-eq (x % 256 ∷ x / 256 % 256 ∷ []) l at h ∙ append_assoc (take at l) (x % 256 ∷ x / 256 % 256 ∷ []) (drop (at + 2) l))

pub four_put : (x at : ℕ) (l : List ℕ) → at + 4 ≤ length l
    → set (set (set (set l at (x % 256)) (at + 1) (x / 256 % 256)) (at + 2) (x / 256 / 256 % 256)) (at + 3) (x / 256 / 256 / 256 % 256)
    ≡ patch at (bytes_of 4 x) l
unfolding patch bytes_of
four_put x at l h =
    let e1 : at + 1 ≡ suc at = omega arith in
    let e2 : at + 2 ≡ suc (suc at) = omega arith in
    let e3 : at + 3 ≡ suc (suc (suc at)) = omega arith in
    rw (e1, e2, e3)
    (sets-eq (x % 256 ∷ x / 256 % 256 ∷ x / 256 / 256 % 256 ∷ x / 256 / 256 / 256 % 256 ∷ []) l at h
    ∙ append_assoc (take at l) (x % 256 ∷ x / 256 % 256 ∷ x / 256 / 256 % 256 ∷ x / 256 / 256 / 256 % 256 ∷ []) (drop (at + 4) l))
