-- The lengths of the pairs, counted, and the pairs placed.
-- Assumes nothing.
use Prim.Native.Nat.{◌*◌, ◌+◌, ◌-◌, ◌<◌, ◌^◌, ◌≤◌, ℕ}
use mathlib.Core.Path.{◌∙◌, ◌≡◌}
use mathlib.Core.List.{List, ◌++◌, []}
use mathlib.Core.Logic.{◌≢◌, ◌⊎◌, inl, inr}
use native.Mathlib.Decide.{dec_lt}
use native.Mathlib.Omega.{arith}
use lib.ListN.{length, length-append}
use Rattle.judgement.specs.Buffer.{At, Kept, patch}
use Rattle.judgement.specs.Facts.{Among}
use Rattle.judgement.specs.Number.{number_at}
use Rattle.judgement.specs.Writer.{bytes_of, numbers_of}
use Rattle.judgement.proofs.Complete.Bytes.{length_bytes}
use Rattle.judgement.proofs.Laws.Patch.{at_append, at_nothing, at_number, number_clear, number_kept, number_long, number_there}
use Rattle.judgement.proofs.Laws.Scan.{sum_last}
use Rattle.turns.specs.Index.{Lists, PlacedTo, Raises, Sizes, raised, start_of}
use Rattle.turns.proofs.Lists.{either}

pub sizes_same : (n : ℕ) (f g : ℕ → ℕ) (l : List ℕ) → Sizes n f l → ((v : ℕ) → Among n v → g v ≡ f v) → Sizes n g l
sizes_same n f g l s e = record { sizes = λ v w. rw (e v w) (s.sizes v w); room = s.room }

-- ---- one length raised

module _ (n : ℕ) (f : ℕ → ℕ) (l : List ℕ) (s : Sizes n f l) (v : ℕ) (w : Among n v) (small : 4 * f v + 4 < 2 ^ 32) where
  size_is : number_at l (8 * (v - 1) + 4) 4 ≡ 4 * f v
  size_is = at_number l (8 * (v - 1) + 4) 4 (4 * f v) (s.sizes v w) (omega arith)

  fits : 8 * (v - 1) + 4 + 4 ≤ length l
  fits = let r = s.room in omega (arith, w.0, w.1)

  pub raises : Raises v l
  raises = let r = s.room in record { variable = w.0; pair = omega (arith, w.1); size = rw size_is small }

  pub raised_kept : (l₀ : List ℕ) → Kept (8 * n) l₀ l → Kept (8 * n) l₀ (raised v l)
  unfolding raised
  raised_kept l₀ k = number_kept 4 (8 * (v - 1) + 4) (number_at l (8 * (v - 1) + 4) 4 + 4) l fits (8 * n) l₀ (omega (arith, w.0, w.1)) k

  pub raised_sizes : (g : ℕ → ℕ) → g v ≡ f v + 1 → ((u : ℕ) → Among n u → u ≢ v → g u ≡ f u) → Sizes n g (raised v l)
  unfolding raised
  raised_sizes g own other =
      record {
        sizes = λ u x.
            either u v
            (λ e.
            (let z : number_at l (8 * (v - 1) + 4) 4 + 4 ≡ 4 * g v = omega (arith, size_is, own) in
            rw (e, z) (number_there 4 (8 * (v - 1) + 4) (4 * g v) l fits)))
            (λ d.
            number_clear 4 (8 * (v - 1) + 4) (number_at l (8 * (v - 1) + 4) 4 + 4) l fits (8 * (u - 1) + 4) (bytes_of 4 (4 * g u))
            (apart u x d) (rw (other u x d) (s.sizes u x)));
        room = rw (number_long 4 (8 * (v - 1) + 4) (number_at l (8 * (v - 1) + 4) 4 + 4) l fits) s.room;
      }
    where
      apart : (u : ℕ) → Among n u → u ≢ v
          → (8 * (u - 1) + 4 + length (bytes_of 4 (4 * g u)) ≤ 8 * (v - 1) + 4) ⊎ (8 * (v - 1) + 4 + 4 ≤ 8 * (u - 1) + 4)
      apart u x d = rw (length_bytes 4 (4 * g u)) (go (dec_lt u v))
        where
          go : Dec (u < v) → (8 * (u - 1) + 4 + 4 ≤ 8 * (v - 1) + 4) ⊎ (8 * (v - 1) + 4 + 4 ≤ 8 * (u - 1) + 4)
          go (yes h) = inl (omega (arith, x.0))
          go (no h) = inr (omega (arith, d, h, w.0))

pub raised_by : (v size : ℕ) (l r : List ℕ) → size ≡ number_at l (8 * (v - 1) + 4) 4 → r ≡ patch (8 * (v - 1) + 4) (bytes_of 4 (size + 4)) l
    → r ≡ raised v l
unfolding raised
raised_by v size l r e q = q ∙ rw e

-- ---- all lengths at 0

-- the first v lengths are 0
pub record ClearTo (n v : ℕ) (l₀ l : List ℕ) : Type 0 where
  pub within : v ≤ n
  pub clear : (u : ℕ) → Among v u → At l (8 * (u - 1) + 4) (bytes_of 4 0)
  pub kept : Kept (8 * n) l₀ l

pub clear_turn : (n v : ℕ) (l₀ l r : List ℕ) → 8 * n ≤ length l₀ → v < n → ClearTo n v l₀ l → r ≡ patch (8 * v + 4) (bytes_of 4 0) l
    → ClearTo n (v + 1) l₀ r
clear_turn n v l₀ l r room h c e =
    let z = c.kept.long in
    let f : 8 * v + 4 + 4 ≤ length l = omega arith in
    rw e (record {
      within = omega arith;
      clear = λ u w.
          either u (v + 1)
          (λ q. (let y : 8 * (v + 1 - 1) + 4 ≡ 8 * v + 4 = omega arith in rw (q, y) (number_there 4 (8 * v + 4) 0 l f)))
          (λ d.
          number_clear 4 (8 * v + 4) 0 l f (8 * (u - 1) + 4) (bytes_of 4 0)
          (inl (rw (length_bytes 4 0) (omega (arith, w.0, w.1, d)))) (c.clear u (w.0, omega (arith, w.1, d))));
      kept = number_kept 4 (8 * v + 4) 0 l f (8 * n) l₀ (omega arith) c.kept;
    })

-- ---- pairs placed

pub placed_start : (n : ℕ) (size : ℕ → ℕ) (l : List ℕ) → Sizes n size l → PlacedTo n size 0 l
placed_start n size l s =
    record {
      placed = λ u w. absurd (omega (arith, w.0, w.1));
      sized = λ u h w. s.sizes u (omega arith, w);
      within = omega arith;
    }

start_step : (n : ℕ) (size : ℕ → ℕ) (v : ℕ) → start_of n size (v + 1) + 4 * size (v + 1) ≡ start_of n size (v + 1 + 1)
unfolding start_of
start_step n size v =
    let a = sum_last size (v + 1) (omega arith) in
    let e : v + 1 + 1 - 1 ≡ v + 1 = omega arith in
    rw e (omega arith)

module _ (n : ℕ) (size : ℕ → ℕ) (v : ℕ) (l : List ℕ) (room : 8 * n ≤ length l) (h : v < n) (p : PlacedTo n size v l)
    (x next : ℕ) (q r : List ℕ) (ex : x ≡ number_at l (8 * v + 4) 4) (en : next ≡ start_of n size (v + 1))
    (eq : q ≡ patch (8 * v) (bytes_of 4 next) l) (er : r ≡ patch (8 * v + 4) (bytes_of 4 0) q) (small : 4 * size (v + 1) < 2 ^ 32) where
  pub placed_size : x ≡ 4 * size (v + 1)
  placed_size =
      let e : 8 * (v + 1 - 1) + 4 ≡ 8 * v + 4 = omega arith in
      ex ∙ at_number l (8 * v + 4) 4 (4 * size (v + 1)) (rw e at (p.sized (v + 1) (omega arith) (omega arith))) small

  pub placed_next : next + x ≡ start_of n size (v + 1 + 1)
  placed_next = let e = start_step n size v in omega (arith, placed_size, en, e)

  f1 : 8 * v + 4 ≤ length l
  f1 = omega arith

  f2 : 8 * v + 4 + 4 ≤ length q
  f2 = rw (eq, number_long 4 (8 * v) next l f1) (omega arith)

  pub placed_kept : (l₀ : List ℕ) → Kept (8 * n) l₀ l → Kept (8 * n) l₀ r
  placed_kept l₀ k =
      rw er (number_kept 4 (8 * v + 4) 0 q f2 (8 * n) l₀ (omega arith) (rw eq (number_kept 4 (8 * v) next l f1 (8 * n) l₀ (omega arith) k)))

  both : (b : ℕ) (u : List ℕ) → (b + length u ≤ 8 * v) ⊎ (8 * v + 8 ≤ b) → At l b u → At r b u
  both b u d z =
      rw er (number_clear 4 (8 * v + 4) 0 q f2 b u (second d) (rw eq (number_clear 4 (8 * v) next l f1 b u (first d) z)))
    where
      first : (b + length u ≤ 8 * v) ⊎ (8 * v + 8 ≤ b) → (b + length u ≤ 8 * v) ⊎ (8 * v + 4 ≤ b)
      first (inl g) = inl g
      first (inr g) = inr (omega arith)

      second : (b + length u ≤ 8 * v) ⊎ (8 * v + 8 ≤ b) → (b + length u ≤ 8 * v + 4) ⊎ (8 * v + 4 + 4 ≤ b)
      second (inl g) = inl (omega arith)
      second (inr g) = inr (omega arith)

  here : At r (8 * v) (bytes_of 4 next ++ bytes_of 4 0)
  here =
      at_append r (8 * v) (bytes_of 4 next) (bytes_of 4 0)
      (rw er (number_clear 4 (8 * v + 4) 0 q f2 (8 * v) (bytes_of 4 next) (inl (rw (length_bytes 4 next) (omega arith))) (rw eq (number_there 4 (8 * v) next l f1))))
      (rw (length_bytes 4 next, er) (number_there 4 (8 * v + 4) 0 q f2))

  pub placed_turn : PlacedTo n size (v + 1) r
  placed_turn =
      record {
        placed = λ u w.
            either u (v + 1)
            (λ e. (let y : 8 * (v + 1 - 1) ≡ 8 * v = omega arith in rw (e, y, ← en) here))
            (λ d.
            both (8 * (u - 1)) (bytes_of 4 (start_of n size u) ++ bytes_of 4 0)
            (inl (rw (length-append, length_bytes 4 (start_of n size u), length_bytes 4 0) (omega (arith, w.0, w.1, d))))
            (p.placed u (w.0, omega (arith, w.1, d))));
        sized = λ u g w.
            both (8 * (u - 1) + 4) (bytes_of 4 (4 * size u)) (inr (omega arith)) (p.sized u (omega arith) w);
        within = omega arith;
      }

pub placed_done : (n : ℕ) (size : ℕ → ℕ) (v : ℕ) (l : List ℕ) (f : ℕ → List ℕ) → n ≤ v → PlacedTo n size v l
    → ((u : ℕ) → f u ≡ []) → start_of n size (n + 1) ≤ length l → Lists n size f l
unfolding numbers_of
placed_done n size v l f h p none room =
    let i = p.within in
    record {
      pairs = λ u w. rw (none u) (p.placed u (w.0, omega (arith, w.1)));
      numbers = λ u w. rw (none u) (at_nothing l (start_of n size u));
      fits = λ u w. rw (none u) (omega arith);
      room = room;
    }
