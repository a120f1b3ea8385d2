-- What stands where in a buffer, before and after a write at any place.
-- Assumes nothing.
use Prim.Native.Nat.{ℕ, suc, ◌+◌, ◌-◌, ◌*◌, ◌^◌, ◌≤◌, ◌<◌}
use mathlib.Core.Path.{◌≡◌, refl, sym, ap, ◌∙◌}
use mathlib.Core.List.{List, [], ◌++◌, append_assoc}
use mathlib.Core.Logic.{◌⊎◌, inl, inr}
use native.Mathlib.Nat.{add-zero, add_assoc, mul-le-mul, le_refl}
use native.Mathlib.Omega.{arith}
use lib.ListN.{length, get_or, take, drop, length-append, length-drop, take-append-drop}
use lib.Seq.{take-add, drop-drop, take_at, drop_at, take-append-le, drop-append-le, drop-cons, take-take, length-take-le, take-append_seam, drop-append-add, drop-append_seam}
use Rattle.std.proofs.lemmas.List.{drop-take}
use Rattle.judgement.specs.Number.{number_at}
use Rattle.judgement.specs.Writer.{bytes_of, numbers_of}
use Rattle.judgement.specs.Buffer.{over, At, patch, Kept}
use Rattle.judgement.proofs.Complete.Bytes.{length_bytes, number_drop, number_of, length_numbers, drop_numbers}

-- ---- what stands

pub at_append : (l : List ℕ) (a : ℕ) (w u : List ℕ) → At l a w → At l (a + length w) u → At l a (w ++ u)
at_append l a w u p q =
    record { is = rw (length-append w u, take-add (length w) (length u) (drop a l), drop-drop (length w) a l, p.is, q.is) }

pub at_left : (l : List ℕ) (a : ℕ) (w u : List ℕ) → At l a (w ++ u) → At l a w
at_left l a w u p =
    record {
      is =
          (let e = ap (take (length w)) p.is in
          let z : length w ≤ length (w ++ u) = rw length-append (omega arith) in
          sym (take-take (length w) (length (w ++ u)) (drop a l) z) ∙ e ∙ take-append_seam w u);
    }

-- what stands there, and what follows it
pub at_split : (l : List ℕ) (a : ℕ) (w : List ℕ) → At l a w → drop a l ≡ w ++ drop (a + length w) l
at_split l a w p = sym (take-append-drop (length w) (drop a l)) ∙ rw (p.is, drop-drop (length w) a l)

split_at : (l : List ℕ) (a : ℕ) (w r : List ℕ) → drop a l ≡ w ++ r → At l a w
split_at l a w r e = record { is = rw e (take-append_seam w r) }

pub at_right : (l : List ℕ) (a : ℕ) (w u : List ℕ) → At l a (w ++ u) → At l (a + length w) u
at_right l a w u p =
    split_at l (a + length w) u (drop (a + length (w ++ u)) l)
    (sym (drop-drop (length w) a l)
    ∙ ap (drop (length w)) (at_split l a (w ++ u) p ∙ append_assoc w u (drop (a + length (w ++ u)) l))
    ∙ drop-append_seam w (u ++ drop (a + length (w ++ u)) l))

pub at_nothing : (l : List ℕ) (a : ℕ) → At l a []
at_nothing l a = record { is = refl }

-- the number that stands there
pub at_number : (l : List ℕ) (a width x : ℕ) → At l a (bytes_of width x) → x < 256 ^ width → number_at l a width ≡ x
at_number l a width x p h =
    number_of width x a l (drop (a + length (bytes_of width x)) l) (at_split l a (bytes_of width x) p) h

-- number j, from 0, of those that stand there
pub at_numbers : (width : ℕ) (l : List ℕ) (a : ℕ) (list : List ℕ) (j : ℕ) → At l a (numbers_of width list) → j < length list
    → get_or list j 0 < 256 ^ width → number_at l (a + width * j) width ≡ get_or list j 0
unfolding numbers_of
at_numbers width l a list j p h f =
    let z = length_numbers width list in
    let r = drop (a + length (numbers_of width list)) l in
    number_of width (get_or list j 0) (a + width * j) l (numbers_of width (drop (suc j) list) ++ r)
    (sym (drop-drop (width * j) a l)
    ∙ ap (drop (width * j)) (at_split l a (numbers_of width list) p)
    ∙ drop-append-le (width * j) (numbers_of width list) r (rw z (mul-le-mul (le_refl width) (omega arith)))
    ∙ rw (drop_numbers width j list, drop-cons list j 0 h)
    (append_assoc (bytes_of width (get_or list j 0)) (numbers_of width (drop (suc j) list)) r))
    f

-- what stands at the beginning, with the rest as it was, is written over it
pub at_over : (l₀ l w : List ℕ) → At l 0 w → Kept (length w) l₀ l → l ≡ over w l₀
at_over l₀ l w p k = sym (take-append-drop (length w) l) ∙ rw (p.is, k.behind)

-- a number that stands behind what was written
pub number_behind : (l m : List ℕ) (a width : ℕ) → drop a l ≡ drop a m → number_at l a width ≡ number_at m a width
number_behind l m a width e = number_drop l a width ∙ rw e (sym (number_drop m a width))

-- ---- what is kept

pub kept_same : (size : ℕ) (l : List ℕ) → Kept size l l
kept_same size l = record { long = refl; behind = refl }

pub kept_next : (size : ℕ) (l₀ l m : List ℕ) → Kept size l₀ l → Kept size l m → Kept size l₀ m
kept_next size l₀ l m p q = record { long = q.long ∙ p.long; behind = q.behind ∙ p.behind }

pub kept_more : (size more : ℕ) (l₀ l : List ℕ) → size ≤ more → Kept size l₀ l → Kept more l₀ l
kept_more size more l₀ l h k =
    let e : more ≡ size + (more - size) = omega arith in
    record {
      long = k.long;
      behind = rw (e, ← drop-drop (more - size) size l, ← drop-drop (more - size) size l₀, k.behind);
    }

-- ---- a write

module _ (a : ℕ) (w l : List ℕ) (fits : a + length w ≤ length l) where
  before : length (take a l) ≡ a
  before = length-take-le a l (omega arith)

  pub length_patch : length (patch a w l) ≡ length l
  unfolding patch
  length_patch = rw (length-append, length-append, before, length-drop) (omega arith)

  pub patch_same : At (patch a w l) a w
  unfolding patch
  patch_same = split_at (patch a w l) a w (drop (a + length w) l) (drop_at (take a l) (w ++ drop (a + length w) l) a before)

  pub patch_behind : (b : ℕ) → a + length w ≤ b → drop b (patch a w l) ≡ drop b l
  unfolding patch
  patch_behind b h =
      let e : b ≡ a + (length w + (b - (a + length w))) = omega arith in
      let z : a + length w + (b - (a + length w)) ≡ b = omega arith in
      rw e (
      sym (drop-drop (length w + (b - (a + length w))) a (take a l ++ (w ++ drop (a + length w) l)))
      ∙ rw (
        drop_at (take a l) (w ++ drop (a + length w) l) a before,
        drop-append-add w (drop (a + length w) l) (b - (a + length w)),
        drop-drop (b - (a + length w)) (a + length w) l,
        z,
        ← e,
      )
      )

  patch_before : (n : ℕ) → n ≤ a → take n (patch a w l) ≡ take n l
  unfolding patch
  patch_before n h = take-append-le n (take a l) (w ++ drop (a + length w) l) (rw before h) ∙ take-take n a l h

  -- what stands elsewhere stays
  pub patch_other : (b : ℕ) (u : List ℕ) → (b + length u ≤ a) ⊎ (a + length w ≤ b) → At l b u → At (patch a w l) b u
  patch_other b u (inr h) p = record { is = rw (patch_behind b h) p.is }
  patch_other b u (inl h) p =
      record {
        is =
            sym (drop-take b (length u) (patch a w l))
            ∙ rw (patch_before (b + length u) h) (drop-take b (length u) l ∙ p.is);
      }

  pub patch_kept : (size : ℕ) (l₀ : List ℕ) → a + length w ≤ size → Kept size l₀ l → Kept size l₀ (patch a w l)
  patch_kept size l₀ h k = record { long = length_patch ∙ k.long; behind = patch_behind size h ∙ k.behind }

-- no write
pub patch_none : (a : ℕ) (l : List ℕ) → patch a [] l ≡ l
unfolding patch
patch_none a l = rw (add-zero a) (take-append-drop a l)

-- a write behind another
pub patch_next : (a : ℕ) (w u l : List ℕ) → a + length w ≤ length l → patch (a + length w) u (patch a w l) ≡ patch a (w ++ u) l
unfolding patch
patch_next a w u l h =
    let e : length (take a l ++ w) ≡ a + length w = length-append (take a l) w ∙ rw (length-take-le a l (omega arith)) in
    let z : a + length w + length u ≡ length (take a l ++ w) + length u = omega (arith, e) in
    rw (
      ← append_assoc (take a l) w (drop (a + length w) l),
      take_at (take a l ++ w) (drop (a + length w) l) (a + length w) e,
      z,
      drop-append-add (take a l ++ w) (drop (a + length w) l) (length u),
      drop-drop (length u) (a + length w) l,
      length-append w u,
      append_assoc (take a l) w (u ++ drop (a + length w + length u) l),
      ← add_assoc a (length w) (length u),
      append_assoc w u (drop (a + length w + length u) l),
    )

-- ---- a number written

module _ (width a x : ℕ) (l : List ℕ) (fits : a + width ≤ length l) where
  pub number_there : At (patch a (bytes_of width x) l) a (bytes_of width x)
  number_there = patch_same a (bytes_of width x) l (rw (length_bytes width x) fits)

  pub number_long : length (patch a (bytes_of width x) l) ≡ length l
  number_long = length_patch a (bytes_of width x) l (rw (length_bytes width x) fits)

  pub number_clear : (b : ℕ) (u : List ℕ) → (b + length u ≤ a) ⊎ (a + width ≤ b) → At l b u → At (patch a (bytes_of width x) l) b u
  number_clear b u d p = patch_other a (bytes_of width x) l (rw (length_bytes width x) fits) b u (rw (length_bytes width x) d) p

  pub number_kept : (size : ℕ) (l₀ : List ℕ) → a + width ≤ size → Kept size l₀ l → Kept size l₀ (patch a (bytes_of width x) l)
  number_kept size l₀ d k = patch_kept a (bytes_of width x) l (rw (length_bytes width x) fits) size l₀ (rw (length_bytes width x) d) k
