-- Stored numbers: how great they are, and that what is read and written again is what stood there.
-- Assumes nothing.
use Prim.Native.Nat.{ℕ, zero, suc, ◌+◌, ◌-◌, ◌*◌, ◌/◌, ◌%◌, ◌^◌, ◌≤◌, ◌<◌}
use mathlib.Core.Path.{◌≡◌, refl, ◌∙◌}
use mathlib.Core.List.{List, [], ◌∷◌, ◌++◌, append_assoc, append-nil}
use native.Mathlib.Omega.{arith}
use native.Mathlib.Nat.{zero-add, mul-zero}
use native.Mathlib.Numerals.{add-one}
use native.Mathlib.Decide.{dec_lt}
use lib.ListN.{length, get_or, take, drop, length-take, get_or-eq_default}
use lib.Seq.{take-add, take_all, drop-cons, drop-drop, get_or-take, get_or-drop}
use Rattle.judgement.specs.Scan.{list_of}
use Rattle.judgement.specs.Number.{number_at}
use Rattle.judgement.specs.Literals.{count, code, codes_in}
use Rattle.judgement.specs.Writer.{bytes_of, numbers_of}
use Rattle.judgement.specs.Demands.{IsBytes}
use Rattle.judgement.proofs.Laws.Scan.{list_same}

pub number_below : (width : ℕ) (s : List ℕ) → IsBytes s → (at : ℕ) → number_at s at width < 256 ^ width
unfolding number_at
number_below zero s h at = omega arith
number_below (suc width) s h at =
    let a = h at in
    let b = number_below width s h (at + 1) in
    omega arith

-- a part of a file is bytes too
pub part_bytes : (s : List ℕ) → IsBytes s → (n a : ℕ) → IsBytes (take n (drop a s))
part_bytes s b n a i = go (dec_lt i n)
  where
    go : Dec (i < n) → get_or (take n (drop a s)) i 0 < 256
    go (yes h) = rw (get_or-take n (drop a s) i 0 h, get_or-drop a s i 0) (b (a + i))
    go (no h) =
        let l = length-take n (drop a s) in
        rw (get_or-eq_default (take n (drop a s)) 0 {n = i} (omega (arith, l))) (omega arith)

-- ---- read and written again

pub bytes_again : (w : ℕ) (s : List ℕ) → IsBytes s → (at : ℕ) → at + w ≤ length s → bytes_of w (number_at s at w) ≡ take w (drop at s)
unfolding bytes_of number_at
bytes_again zero s b at h = refl
bytes_again (suc w) s b at h =
    let g = b at in
    let lo : (get_or s at 0 + 256 * number_at s (at + 1) w) % 256 ≡ get_or s at 0 = omega arith in
    let hi : (get_or s at 0 + 256 * number_at s (at + 1) w) / 256 ≡ number_at s (at + 1) w = omega arith in
    rw (lo, hi, bytes_again w s b (at + 1) (omega arith), drop-cons s at 0 (omega arith), add-one)

pub numbers_end : (w : ℕ) (l : List ℕ) (x : ℕ) → numbers_of w (l ++ (x ∷ [])) ≡ numbers_of w l ++ bytes_of w x
unfolding numbers_of
numbers_end w [] x = append-nil (bytes_of w x)
numbers_end w (y ∷ l) x = rw (numbers_end w l x, append_assoc)

pub numbers_again : (w : ℕ) (s : List ℕ) → IsBytes s → (at n : ℕ) → at + w * n ≤ length s
    → numbers_of w (list_of (λ k. number_at s (at + w * (k - 1)) w) n) ≡ take (w * n) (drop at s)
unfolding numbers_of list_of
numbers_again w s b at zero h = rw mul-zero
numbers_again w s b at (suc n) h =
    let e : suc n - 1 ≡ n = omega arith in
    let m : w * suc n ≡ w * n + w = omega arith in
    rw (
      numbers_end w (list_of (λ k. number_at s (at + w * (k - 1)) w) n) (number_at s (at + w * (suc n - 1)) w),
      numbers_again w s b at n (omega arith),
      e,
      bytes_again w s b (at + w * n) (omega arith),
      m,
      take-add (w * n) w (drop at s),
      drop-drop (w * n) at s,
    )

-- a list of whole codes
pub body_again : (part : List ℕ) → IsBytes part → length part ≡ 2 * count part → numbers_of 2 (codes_in part) ≡ part
body_again part b e =
    let z : codes_in part ≡ list_of (λ k. number_at part (0 + 2 * (k - 1)) 2) (count part) =
    list_same (code part) (λ k. number_at part (0 + 2 * (k - 1)) 2) (count part) (λ k w. rw zero-add) in
    rw z (numbers_again 2 part b 0 (count part) (omega arith) ∙ take_all (2 * count part) part (omega arith))
