-- The steps that are kept, computed backwards from step t, are the least set that has step t and each step that one of its own cites;
-- there is one such set.
-- Assumes nothing.
use Prim.Native.Nat.{ℕ, zero, suc, ◌+◌, ◌-◌, ◌≤◌, ◌<◌}
use mathlib.Core.Path.{◌≡◌, refl}
use mathlib.Core.Bool.{Bool, true, ◌&&◌}
use mathlib.Core.Logic.{◌⊎◌, inl, inr}
use native.Mathlib.Omega.{arith}
use native.Mathlib.Nat.{zero-add, suc-add, add-zero}
use lib.Dec.{leb}
use borrow.Author.Tests.{eq-eqb, eqb-true, le-leb, leb-true}
use Rattle.judgement.specs.Facts.{Among}
use Rattle.judgement.proofs.Laws.Scan.{and_i, and_l, and_r, or_l, or_r, or_e, true_same}
use Rattle.trimmer.specs.Trim.{kept_after}
use Rattle.trimmer.specs.Promises.{LeastClosed}

-- two such sets have the same steps
pub least_only : (cites : ℕ → ℕ → Bool) (t : ℕ) (K L : ℕ → Bool) → LeastClosed cites t K → LeastClosed cites t L
    → (k : ℕ) → K k ≡ L k
least_only cites t K L a b k =
    true_same (K k) (L k) (a.least L b.last (λ k j w. b.closed k j) k) (b.least K a.last (λ k j w. a.closed k j) k)

module _ (cites : ℕ → ℕ → Bool) (t : ℕ) where
  -- one more step is looked at
  kept_cited : (n j : ℕ) → kept_after cites t n (t - n) ≡ true → cites (t - n) j ≡ true → kept_after cites t (suc n) j ≡ true
  unfolding kept_after
  kept_cited n j h c = search (h, c, or_r, and_i)

  kept_more : (m n j : ℕ) → kept_after cites t n j ≡ true → kept_after cites t (m + n) j ≡ true
  unfolding kept_after
  kept_more zero n j h = rw zero-add h
  kept_more (suc m) n j h = rw suc-add (search (kept_more m n j h, or_l))

  -- whatever set has t and what its steps cite has those kept so far
  kept_least : (P : ℕ → Bool) → P t ≡ true → ((k j : ℕ) → Among t k → P k ≡ true → cites k j ≡ true → P j ≡ true)
      → (n : ℕ) → n ≤ t → (j : ℕ) → kept_after cites t n j ≡ true → P j ≡ true
  unfolding kept_after
  kept_least P p closed zero h j e = rw (eqb-true j t e) p
  kept_least P p closed (suc n) h j e =
      go (or_e (kept_after cites t n j) (kept_after cites t n (t - n) && cites (t - n) j) e) (kept_least P p closed n (omega arith))
    where
      go : (kept_after cites t n j ≡ true) ⊎ (kept_after cites t n (t - n) && cites (t - n) j ≡ true)
          → ((j : ℕ) → kept_after cites t n j ≡ true → P j ≡ true) → P j ≡ true
      go (inl q) r = r j q
      go (inr q) r = closed (t - n) j (omega arith, omega arith) (r (t - n) (search (q, and_l))) (search (q, and_r))

  -- where steps cite only earlier ones
  module _ (some : 1 ≤ t) (earlier : (k j : ℕ) → Among t k → cites k j ≡ true → (1 ≤ j) × (j < k)) where
    -- whether a step is kept is settled once those behind it have been looked at
    kept_settled : (m n j : ℕ) → n + m ≤ t → t - n ≤ j → kept_after cites t (m + n) j ≡ true → kept_after cites t n j ≡ true
    unfolding kept_after
    kept_settled zero n j h l e = rw zero-add at e
    kept_settled (suc m) n j h l e =
        go (or_e (kept_after cites t (m + n) j) (kept_after cites t (m + n) (t - (m + n)) && cites (t - (m + n)) j) (rw suc-add at e))
        (kept_settled m n j (omega arith) l)
      where
        go : (kept_after cites t (m + n) j ≡ true) ⊎ (kept_after cites t (m + n) (t - (m + n)) && cites (t - (m + n)) j ≡ true)
            → (kept_after cites t (m + n) j ≡ true → kept_after cites t n j ≡ true) → kept_after cites t n j ≡ true
        go (inl q) r = r q
        go (inr q) r =
            let c = earlier (t - (m + n)) j (omega arith, omega arith) (search (q, and_r)) in
            absurd (omega (arith, c.1))

    kept_last : kept_after cites t t t ≡ true
    unfolding kept_after
    kept_last = rw add-zero at (kept_more t 0 t (eq-eqb t t refl))

    kept_among : (k : ℕ) → kept_after cites t t k ≡ true → Among t k
    kept_among k e =
        let z = kept_least (λ j. leb 1 j && leb j t) (among t (some, omega arith)) closed t (omega arith) k e in
        (leb-true 1 k (search (z, and_l)), leb-true k t (search (z, and_r)))
      where
        among : (j : ℕ) → Among t j → leb 1 j && leb j t ≡ true
        among j w = and_i (leb 1 j) (leb j t) (le-leb 1 j w.0) (le-leb j t w.1)

        closed : (k j : ℕ) → Among t k → leb 1 k && leb k t ≡ true → cites k j ≡ true → leb 1 j && leb j t ≡ true
        closed k j w q c =
            let h = earlier k j w c in
            among j (h.0, omega (arith, h.1, w.1))

    kept_closed : (k j : ℕ) → kept_after cites t t k ≡ true → cites k j ≡ true → kept_after cites t t j ≡ true
    kept_closed k j e c =
        let w = kept_among k e in
        let a : k + (t - k) ≡ t = omega (arith, w.1) in
        let b : t - (t - k) ≡ k = omega (arith, w.1) in
        let d : k - 1 + suc (t - k) ≡ t = omega (arith, w.0, w.1) in
        let here : kept_after cites t (t - k) k ≡ true = kept_settled k (t - k) k (omega (arith, w.1)) (omega (arith, w.1)) (rw a e) in
        rw d at (kept_more (k - 1) (suc (t - k)) j (kept_cited (t - k) j (rw b here) (rw b c)))

    pub kept_closed_least : LeastClosed cites t (kept_after cites t t)
    kept_closed_least =
        record {
          among = kept_among;
          last = kept_last;
          closed = kept_closed;
          least = λ P p closed k e. kept_least P p closed t (omega arith) k e;
        }
