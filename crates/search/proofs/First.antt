-- Laws of the first of things that are numbered from 1, and of the lowest number that passes a test.
-- Assumes nothing.
use Prim.Native.Nat.{ℕ, zero, suc, ◌≤◌, ◌<◌}
use mathlib.Core.Path.{◌≡◌, refl, sym, ap, ap₂, ◌∙◌}
use mathlib.Core.Bool.{Bool, true, false, cond}
use native.Mathlib.Omega.{arith}
use native.Mathlib.Decide.{dec_lt}
use Rattle.judgement.specs.Facts.{Among}
use Rattle.judgement.proofs.Laws.Scan.{last_or}
use Rattle.search.specs.First.{or_else, first_of, lowest}

-- ---- one of two numbers

or_else_l : (a b : ℕ) → or_else a b ≡ 0 → a ≡ 0
unfolding or_else
or_else_l zero b e = refl
or_else_l (suc a) b e = absurd (omega (arith, e))

or_else_zero : (a b : ℕ) → a ≡ 0 → or_else a b ≡ b
unfolding or_else
or_else_zero a b e = rw e

or_else_some : (a b : ℕ) → 1 ≤ a → or_else a b ≡ a
unfolding or_else
or_else_some zero b h = absurd (omega (arith, h))
or_else_some (suc a) b h = refl

-- ---- the first that is not 0

pub first_none : (f : ℕ → ℕ) (n : ℕ) → first_of f n ≡ 0 → (k : ℕ) → Among n k → f k ≡ 0
unfolding first_of
first_none f zero e k w = absurd (omega (arith, w.0, w.1))
first_none f (suc n) e k w =
    let z = or_else_l (first_of f n) (f (suc n)) e in
    last_or n k w (λ q. rw q (sym (or_else_zero (first_of f n) (f (suc n)) z) ∙ e)) (first_none f n z k)

-- f k is the first of f 1 to f n that is not 0
abbrev pub FirstAt : (ℕ → ℕ) → ℕ → ℕ → Type 0
FirstAt f n k = Among n k × (1 ≤ f k) × ((u : ℕ) → 1 ≤ u → u < k → f u ≡ 0)

pub first_some : (f : ℕ → ℕ) (n : ℕ) → 1 ≤ first_of f n → (k : ℕ) × FirstAt f n k × (first_of f n ≡ f k)
unfolding first_of
first_some f zero h = absurd (omega (arith, h))
first_some f (suc n) h = go (dec_lt 0 (first_of f n)) (first_some f n)
  where
    go : Dec (0 < first_of f n) → (1 ≤ first_of f n → (k : ℕ) × FirstAt f n k × (first_of f n ≡ f k))
        → (k : ℕ) × FirstAt f (suc n) k × (or_else (first_of f n) (f (suc n)) ≡ f k)
    go (yes p) ih =
        let (k, (w, l, b), e) = ih p in
        (k, ((w.0, omega (arith, w.1)), l, b), or_else_some (first_of f n) (f (suc n)) p ∙ e)
    go (no p) ih =
        let z : first_of f n ≡ 0 = omega (arith, p) in
        let e = or_else_zero (first_of f n) (f (suc n)) z in
        (suc n, ((omega arith, omega arith), omega (arith, e, h), λ u l b. first_none f n z u (l, omega (arith, b))), e)

-- a loop that has passed n of them without one, and looks at the next
pub first_more : (f : ℕ → ℕ) (n : ℕ) → first_of f n ≡ 0 → first_of f (suc n) ≡ f (suc n)
unfolding first_of
first_more f n e = or_else_zero (first_of f n) (f (suc n)) e

pub first_zero : (f : ℕ → ℕ) (n : ℕ) → ((k : ℕ) → Among n k → f k ≡ 0) → first_of f n ≡ 0
unfolding first_of
first_zero f zero h = refl
first_zero f (suc n) h =
    first_more f n (first_zero f n (λ k w. h k (w.0, omega (arith, w.1)))) ∙ h (suc n) (omega arith, omega arith)

pub first_found : (f : ℕ → ℕ) (n v : ℕ) → FirstAt f n v → first_of f n ≡ f v
first_found f n v (w, l, b) = go (dec_lt 0 (first_of f n))
  where
    at : (k : ℕ) → FirstAt f n k → first_of f n ≡ f k → Dec (k < v) → Dec (v < k) → first_of f n ≡ f v
    at k (u, m, d) e (yes q) r = absurd (omega (arith, m, b k u.0 q))
    at k (u, m, d) e (no q) (yes r) = absurd (omega (arith, l, d v w.0 r))
    at k (u, m, d) e (no q) (no r) = let z : k ≡ v = omega (arith, q, r) in e ∙ ap f z

    go : Dec (0 < first_of f n) → first_of f n ≡ f v
    go (yes q) = let (k, x, e) = first_some f n q in at k x e (dec_lt k v) (dec_lt v k)
    go (no q) = absurd (omega (arith, l, first_none f n (omega (arith, q)) v w))

pub first_same : (f g : ℕ → ℕ) (n : ℕ) → ((k : ℕ) → Among n k → f k ≡ g k) → first_of f n ≡ first_of g n
unfolding first_of
first_same f g zero h = refl
first_same f g (suc n) h =
    ap₂ or_else (first_same f g n (λ k w. h k (w.0, omega (arith, w.1)))) (h (suc n) (omega arith, omega arith))

-- ---- the lowest that passes

abbrev number : (ℕ → Bool) → ℕ → ℕ
number test k = cond (test k) k 0

fails : (b : Bool) (k : ℕ) → 1 ≤ k → cond b k 0 ≡ 0 → b ≡ false
fails true k l e = absurd (omega (arith, l, e))
fails false k l e = refl

passes : (b : Bool) (k : ℕ) → 1 ≤ cond b k 0 → (b ≡ true) × (cond b k 0 ≡ k)
passes true k h = (refl, refl)
passes false k h = absurd (omega (arith, h))

-- k passes, and no lower number does
pub record LowestAt (test : ℕ → Bool) (n k : ℕ) : Type 0 where
  pub among : Among n k
  pub passes : test k ≡ true
  pub before : (u : ℕ) → 1 ≤ u → u < k → test u ≡ false

pub lowest_none : (test : ℕ → Bool) (n : ℕ) → lowest test n ≡ 0 → (k : ℕ) → Among n k → test k ≡ false
lowest_none test n e k w = fails (test k) k w.0 (first_none (number test) n e k w)

pub lowest_some : (test : ℕ → Bool) (n : ℕ) → 1 ≤ lowest test n → LowestAt test n (lowest test n)
lowest_some test n h =
    let (k, (w, l, b), e) = first_some (number test) n h in
    let (t, q) = passes (test k) k l in
    rw (e ∙ q) (record { among = w; passes = t; before = λ u i j. fails (test u) u i (b u i j) })

pub lowest_zero : (test : ℕ → Bool) (n : ℕ) → ((k : ℕ) → Among n k → test k ≡ false) → lowest test n ≡ 0
lowest_zero test n h = first_zero (number test) n (λ k w. rw (h k w))

pub lowest_found : (test : ℕ → Bool) (n k : ℕ) → LowestAt test n k → lowest test n ≡ k
lowest_found test n k a =
    first_found (number test) n k (a.among, rw a.passes a.among.0, λ u l b. rw (a.before u l b)) ∙ rw a.passes

pub lowest_same : (f g : ℕ → Bool) (n : ℕ) → ((k : ℕ) → Among n k → f k ≡ g k) → lowest f n ≡ lowest g n
lowest_same f g n h = first_same (number f) (number g) n (λ k w. rw (h k w))
