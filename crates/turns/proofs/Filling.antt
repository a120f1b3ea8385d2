-- Lists that are filled one number at a time.
-- Assumes nothing.
use Prim.Native.Nat.{◌*◌, ◌+◌, ◌-◌, ◌<◌, ◌^◌, ◌≤◌, ℕ}
use mathlib.Core.Path.{◌∙◌, ◌≡◌, ap}
use mathlib.Core.List.{List, ◌++◌, ◌∷◌, []}
use mathlib.Core.Logic.{◌≢◌, ◌⊎◌, inl, inr}
use native.Mathlib.Decide.{dec_lt}
use native.Mathlib.Omega.{arith}
use lib.ListN.{length, length-append}
use Rattle.judgement.specs.Buffer.{At, Kept, patch}
use Rattle.judgement.specs.Facts.{Among}
use Rattle.judgement.specs.Number.{number_at}
use Rattle.judgement.specs.Writer.{bytes_of, numbers_of}
use Rattle.judgement.proofs.Complete.Bytes.{length_bytes, length_numbers}
use Rattle.judgement.proofs.Laws.Patch.{at_append, at_left, at_number, at_right, length_patch, patch_kept, patch_other, patch_same}
use Rattle.judgement.proofs.Laws.Scan.{sum_last, sum_part}
use Rattle.judgement.proofs.Laws.Stored.{numbers_end}
use Rattle.turns.specs.Index.{Lists, Takes, filed, start_of}
use Rattle.turns.proofs.Lists.{either}

-- ---- where lists begin

-- a list begins after the pairs, and after the room of each one before it
pub start_after : (n : ℕ) (size : ℕ → ℕ) (v : ℕ) → 8 * n ≤ start_of n size v
unfolding start_of
start_after n size v = omega arith

pub start_next : (n : ℕ) (size : ℕ → ℕ) (u v : ℕ) → 1 ≤ u → u < v → start_of n size u + 4 * size u ≤ start_of n size v
unfolding start_of
start_next n size u v l h =
    let a = sum_part size (v - 1) u (omega arith) in
    let b = sum_last size u l in
    omega arith

pub lists_same : (n : ℕ) (size : ℕ → ℕ) (f g : ℕ → List ℕ) (l : List ℕ) → Lists n size f l
    → ((v : ℕ) → Among n v → g v ≡ f v) → Lists n size g l
lists_same n size f g l s e =
    record {
      pairs = λ v w. rw (e v w) (s.pairs v w);
      numbers = λ v w. rw (e v w) (s.numbers v w);
      fits = λ v w. rw (e v w) (s.fits v w);
      room = s.room;
    }

-- ---- one number more

module _ (n : ℕ) (size : ℕ → ℕ) (f : ℕ → List ℕ) (l : List ℕ) (s : Lists n size f l) (small : start_of n size (n + 1) < 2 ^ 32)
    (v y : ℕ) (w : Among n v) (free : length (f v) < size v) where
  end : start_of n size v + 4 * size v ≤ start_of n size (n + 1)
  end = start_next n size v (n + 1) w.0 (omega (arith, w.1))

  start_is : number_at l (8 * (v - 1)) 4 ≡ start_of n size v
  start_is =
      let e = end in
      at_number l (8 * (v - 1)) 4 (start_of n size v)
      (at_left l (8 * (v - 1)) (bytes_of 4 (start_of n size v)) (bytes_of 4 (4 * length (f v))) (s.pairs v w)) (omega arith)

  size_at : At l (8 * (v - 1) + 4) (bytes_of 4 (4 * length (f v)))
  size_at =
      rw (length_bytes 4 (start_of n size v)) at
      (at_right l (8 * (v - 1)) (bytes_of 4 (start_of n size v)) (bytes_of 4 (4 * length (f v))) (s.pairs v w))

  size_is : number_at l (8 * (v - 1) + 4) 4 ≡ 4 * length (f v)
  size_is =
      let e = end in
      at_number l (8 * (v - 1) + 4) 4 (4 * length (f v)) size_at (omega arith)

  pub takes : Takes v l
  takes =
      let e = end in
      let r = s.room in
      let a = start_after n size v in
      record {
        variable = w.0;
        pair = omega (arith, w.1);
        place = rw (start_is, size_is) (omega arith);
        raised = rw size_is (omega arith);
      }

  -- the two writes
  abbrev at1 : ℕ
  at1 = start_of n size v + 4 * length (f v)

  abbrev at2 : ℕ
  at2 = 8 * (v - 1) + 4

  abbrev w1 : List ℕ
  w1 = bytes_of 4 y

  abbrev w2 : List ℕ
  w2 = bytes_of 4 (4 * length (f v) + 4)

  abbrev l1 : List ℕ
  l1 = patch at1 w1 l

  abbrev l2 : List ℕ
  l2 = patch at2 w2 l1

  filed_is : filed v y l ≡ l2
  unfolding filed
  filed_is = rw (start_is, size_is)

  fits1 : at1 + length w1 ≤ length l
  fits1 =
      let e = end in
      let r = s.room in
      rw (length_bytes 4 y) (omega arith)

  fits2 : at2 + length w2 ≤ length l1
  fits2 =
      let e = end in
      let r = s.room in
      let a = start_after n size v in
      rw (length_bytes 4 (4 * length (f v) + 4), length_patch at1 w1 l fits1) (omega (arith, w.0, w.1))

  pub filed_kept : (l₀ : List ℕ) → Kept (start_of n size (n + 1)) l₀ l → Kept (start_of n size (n + 1)) l₀ (filed v y l)
  filed_kept l₀ h =
      let e = end in
      let a = start_after n size v in
      rw filed_is
      (patch_kept at2 w2 l1 fits2 (start_of n size (n + 1)) l₀ (rw (length_bytes 4 (4 * length (f v) + 4)) (omega (arith, w.0, w.1)))
      (patch_kept at1 w1 l fits1 (start_of n size (n + 1)) l₀ (rw (length_bytes 4 y) (omega arith)) h))

  -- what stands clear of both
  clear : (b : ℕ) (u : List ℕ) → (b + length u ≤ at1) ⊎ (at1 + 4 ≤ b) → (b + length u ≤ at2) ⊎ (at2 + 4 ≤ b) → At l b u → At l2 b u
  clear b u c d p =
      patch_other at2 w2 l1 fits2 b u (rw (length_bytes 4 (4 * length (f v) + 4)) d)
      (patch_other at1 w1 l fits1 b u (rw (length_bytes 4 y) c) p)

  own_pair : At l2 (8 * (v - 1)) (bytes_of 4 (start_of n size v) ++ w2)
  own_pair =
      let a = start_after n size v in
      at_append l2 (8 * (v - 1)) (bytes_of 4 (start_of n size v)) w2
      (clear (8 * (v - 1)) (bytes_of 4 (start_of n size v))
      (inl (rw (length_bytes 4 (start_of n size v)) (omega (arith, w.0, w.1))))
      (inl (rw (length_bytes 4 (start_of n size v)) (omega arith)))
      (at_left l (8 * (v - 1)) (bytes_of 4 (start_of n size v)) (bytes_of 4 (4 * length (f v))) (s.pairs v w)))
      (rw (length_bytes 4 (start_of n size v)) (patch_same at2 w2 l1 fits2))

  own_numbers : At l2 (start_of n size v) (numbers_of 4 (f v) ++ w1)
  own_numbers =
      let a = start_after n size v in
      let z = length_numbers 4 (f v) in
      patch_other at2 w2 l1 fits2 (start_of n size v) (numbers_of 4 (f v) ++ w1)
      (inr (rw (length_bytes 4 (4 * length (f v) + 4)) (omega (arith, w.0, w.1))))
      (at_append l1 (start_of n size v) (numbers_of 4 (f v)) w1
      (patch_other at1 w1 l fits1 (start_of n size v) (numbers_of 4 (f v)) (inl (omega arith)) (s.numbers v w))
      (rw z (patch_same at1 w1 l fits1)))

  apart : (u : ℕ) → u ≢ v → (u < v) ⊎ (v < u)
  apart u d = go (dec_lt u v)
    where
      go : Dec (u < v) → (u < v) ⊎ (v < u)
      go (yes h) = inl h
      go (no h) = inr (omega (arith, d, h))

  length_pair : (u : ℕ) → length (bytes_of 4 (start_of n size u) ++ bytes_of 4 (4 * length (f u))) ≡ 8
  length_pair u = rw (length-append, length_bytes 4 (start_of n size u), length_bytes 4 (4 * length (f u)))

  other_pair : (u : ℕ) → Among n u → (u < v) ⊎ (v < u) → At l2 (8 * (u - 1)) (bytes_of 4 (start_of n size u) ++ bytes_of 4 (4 * length (f u)))
  other_pair u x d =
      let a = start_after n size v in
      clear (8 * (u - 1)) (bytes_of 4 (start_of n size u) ++ bytes_of 4 (4 * length (f u)))
      (inl (rw (length_pair u) (omega (arith, x.0, x.1)))) (side d) (s.pairs u x)
    where
      side : (u < v) ⊎ (v < u)
          → (8 * (u - 1) + length (bytes_of 4 (start_of n size u) ++ bytes_of 4 (4 * length (f u))) ≤ at2) ⊎ (at2 + 4 ≤ 8 * (u - 1))
      side (inl h) = inl (rw (length_pair u) (omega (arith, x.0, x.1)))
      side (inr h) = inr (omega (arith, w.0, w.1))

  other_numbers : (u : ℕ) → Among n u → (u < v) ⊎ (v < u) → At l2 (start_of n size u) (numbers_of 4 (f u))
  other_numbers u x d =
      let a = start_after n size u in
      clear (start_of n size u) (numbers_of 4 (f u)) (side d) (inr (omega (arith, w.0, w.1))) (s.numbers u x)
    where
      side : (u < v) ⊎ (v < u) → (start_of n size u + length (numbers_of 4 (f u)) ≤ at1) ⊎ (at1 + 4 ≤ start_of n size u)
      side (inl h) =
          let z = length_numbers 4 (f u) in
          let c = s.fits u x in
          let b = start_next n size u v x.0 h in
          inl (omega arith)
      side (inr h) = let b = start_next n size v u w.0 h in inr (omega arith)

  pub filed_lists : (g : ℕ → List ℕ) → g v ≡ f v ++ (y ∷ []) → ((u : ℕ) → Among n u → u ≢ v → g u ≡ f u) → Lists n size g (filed v y l)
  filed_lists g own other = rw filed_is (record { pairs = pairs; numbers = numbers; fits = fits; room = room })
    where
      longer : length (g v) ≡ length (f v) + 1
      longer = ap length own ∙ length-append (f v) (y ∷ [])

      pairs : (u : ℕ) → Among n u → At l2 (8 * (u - 1)) (bytes_of 4 (start_of n size u) ++ bytes_of 4 (4 * length (g u)))
      pairs u x =
          either u v
          (λ e. (let z : 4 * length (g v) ≡ 4 * length (f v) + 4 = omega (arith, longer) in rw (e, z) own_pair))
          (λ d. rw (other u x d) (other_pair u x (apart u d)))

      numbers : (u : ℕ) → Among n u → At l2 (start_of n size u) (numbers_of 4 (g u))
      numbers u x =
          either u v
          (λ e. rw (e, own, numbers_end 4 (f v) y) own_numbers)
          (λ d. rw (other u x d) (other_numbers u x (apart u d)))

      fits : (u : ℕ) → Among n u → length (g u) ≤ size u
      fits u x = either u v (λ e. rw e (omega (arith, longer))) (λ d. rw (other u x d) (s.fits u x))

      room : start_of n size (n + 1) ≤ length l2
      room = rw (length_patch at2 w2 l1 fits2, length_patch at1 w1 l fits1) s.room

-- ---- the two writes as the code makes them

pub filed_by : (v y start size : ℕ) (l q r : List ℕ) → start ≡ number_at l (8 * (v - 1)) 4 → size ≡ number_at l (8 * (v - 1) + 4) 4
    → q ≡ patch (start + size) (bytes_of 4 y) l → r ≡ patch (8 * (v - 1) + 4) (bytes_of 4 (size + 4)) q → r ≡ filed v y l
unfolding filed
filed_by v y start size l q r ea es eq er = er ∙ rw (eq, ea, es)
