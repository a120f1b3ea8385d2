-- Chosen numbers, walked from the first to the last: none lies between two that follow each other.
-- Assumes nothing.
use Prim.Native.Nat.{◌-◌, ◌<◌, ◌≤◌, suc, zero, ℕ}
use mathlib.Core.Path.{◌≡◌, refl}
use mathlib.Core.Bool.{Bool, cond, false, true}
use mathlib.Core.List.{List, ◌++◌, ◌∷◌, map, []}
use mathlib.Core.Logic.{◌≢◌, ◌⊎◌, inl, inr}
use native.Mathlib.Decide.{dec_lt}
use native.Mathlib.Omega.{arith}
use borrow.Author.Tests.{eqb-false, eqb-true}
use lib.Dec.{eqb}
use lib.ListN.{get_or-append, get_or, length, length-append}
use lib.Seq.{get_or_at}
use Rattle.turns.specs.Listed.{chosen}
use Rattle.turns.proofs.Chosen.{chosen_left, chosen_taken, count_grows, count_rises, length_chosen}
use Rattle.judgement.proofs.Laws.Scan.{last_or, which}

-- the same number, or another
pub either : {A : Type 0} (u v : ℕ) → (u ≡ v → A) → (u ≢ v → A) → A
either {A} u v p q = go (which (eqb u v))
  where
    go : (eqb u v ≡ true) ⊎ (eqb u v ≡ false) → A
    go (inl e) = p (eqb-true u v e)
    go (inr e) = q (eqb-false u v e)

pub mapped : (g : ℕ → ℕ) (l : List ℕ) (j : ℕ) → j < length l → get_or (map g l) j 0 ≡ g (get_or l j 0)
mapped g [] j h = absurd (omega arith)
mapped g (k ∷ l) zero h = refl
mapped g (k ∷ l) (suc j) h = mapped g l j (omega arith)

-- ---- how many

pub chosen_last : (f : ℕ → Bool) (k : ℕ) → 1 ≤ k → chosen f k ≡ chosen f (k - 1) ++ cond (f k) (k ∷ []) []
unfolding chosen
chosen_last f zero h = absurd (omega arith)
chosen_last f (suc k) h = let e : suc k - 1 ≡ k = omega arith in rw e

-- before a chosen one there are fewer than in all
pub chosen_room : (f : ℕ → Bool) (n k : ℕ) → 1 ≤ k → k ≤ n → f k ≡ true → length (chosen f (k - 1)) < length (chosen f n)
chosen_room f n k l h e =
    let a = count_rises f (k - 1) k (omega arith) e in
    let b = count_grows f k n h in
    rw (length_chosen f (k - 1), length_chosen f n) (omega (arith, a, b))

-- ---- which come one after the other

-- the number before place j, and 0 before the first
abbrev pub previous : List ℕ → ℕ → ℕ
previous l zero = 0
previous l (suc j) = get_or l j 0

-- number j from 0: it passes, it lies above the one before, and none between the two passes
pub record Next (f : ℕ → Bool) (n low e : ℕ) : Type 0 where
  pub above : low < e
  pub within : e ≤ n
  pub passes : f e ≡ true
  pub between : (k : ℕ) → low < k → k < e → f k ≡ false

-- after the last none passes
pub record Rest (f : ℕ → Bool) (n low : ℕ) : Type 0 where
  pub within : low ≤ n
  pub between : (k : ℕ) → low < k → k ≤ n → f k ≡ false

previous_append : (l r : List ℕ) (j : ℕ) → j ≤ length l → previous (l ++ r) j ≡ previous l j
previous_append l r zero h = refl
previous_append l r (suc j) h = get_or-append l r 0 j (omega arith)

pub chosen_rest : (f : ℕ → Bool) (n : ℕ) → Rest f n (previous (chosen f n) (length (chosen f n)))
unfolding chosen
chosen_rest f zero = record { within = omega arith; between = λ k l h. absurd (omega arith) }
chosen_rest f (suc n) = go (which (f (suc n))) (chosen_rest f n)
  where
    go : (f (suc n) ≡ true) ⊎ (f (suc n) ≡ false) → Rest f n (previous (chosen f n) (length (chosen f n)))
        → Rest f (suc n) (previous (chosen f (suc n)) (length (chosen f (suc n))))
    go (inl e) r =
        let z : length (chosen f n ++ (suc n ∷ [])) ≡ suc (length (chosen f n)) = rw length-append (omega arith) in
        let v : previous (chosen f (suc n)) (length (chosen f (suc n))) ≡ suc n =
        rw (chosen_taken f n e, z) (get_or_at (chosen f n) (suc n) [] 0 (length (chosen f n)) refl) in
        rw v (record { within = omega arith; between = λ k l h. absurd (omega arith) })
    go (inr e) r =
        let b = r.between in
        let w = r.within in
        rw (chosen_left f n e) (record {
          within = omega arith;
          between = λ k l h. last_or n k (omega arith, h) (λ q. rw q e) (λ i. b k l i.1);
        })

pub chosen_next : (f : ℕ → Bool) (n j : ℕ) → j < length (chosen f n) → Next f n (previous (chosen f n) j) (get_or (chosen f n) j 0)
unfolding chosen
chosen_next f zero j h = absurd (omega arith)
chosen_next f (suc n) j h = go (which (f (suc n))) (dec_lt j (length (chosen f n))) (chosen_next f n j) (chosen_rest f n)
  where
    go : (f (suc n) ≡ true) ⊎ (f (suc n) ≡ false) → Dec (j < length (chosen f n))
        → (j < length (chosen f n) → Next f n (previous (chosen f n) j) (get_or (chosen f n) j 0))
        → Rest f n (previous (chosen f n) (length (chosen f n)))
        → Next f (suc n) (previous (chosen f (suc n)) j) (get_or (chosen f (suc n)) j 0)
    go (inl e) (yes l) r t =
        let x = r l in
        let p = x.above in
        let q = x.within in
        rw (chosen_taken f n e, previous_append (chosen f n) (suc n ∷ []) j (omega arith), get_or-append (chosen f n) (suc n ∷ []) 0 j l)
        (record { above = p; within = omega arith; passes = x.passes; between = x.between })
    go (inl e) (no l) r t =
        let z : length (chosen f n ++ (suc n ∷ [])) ≡ suc (length (chosen f n)) = rw length-append (omega arith) in
        let g = rw (chosen_taken f n e, z) at h in
        let q : j ≡ length (chosen f n) = omega (arith, g, l) in
        let w = t.within in
        let b = t.between in
        rw (
          chosen_taken f n e,
          previous_append (chosen f n) (suc n ∷ []) j (omega (arith, q)),
          q,
          get_or_at (chosen f n) (suc n) [] 0 (length (chosen f n)) refl,
        )
        (record { above = omega arith; within = omega arith; passes = e; between = λ k x y. b k x (omega arith) })
    go (inr e) d r t =
        let g = rw (chosen_left f n e) at h in
        let x = r g in
        let q = x.within in
        rw (chosen_left f n e) (record { above = x.above; within = omega arith; passes = x.passes; between = x.between })

-- they rise
pub chosen_rises : (f : ℕ → Bool) (n j i : ℕ) → i < j → j < length (chosen f n) → get_or (chosen f n) i 0 < get_or (chosen f n) j 0
chosen_rises f n zero i h l = absurd (omega arith)
chosen_rises f n (suc j) i h l = go (dec_lt i j) (λ m. chosen_rises f n j i m (omega arith)) (chosen_next f n (suc j) l).above
  where
    go : Dec (i < j) → (i < j → get_or (chosen f n) i 0 < get_or (chosen f n) j 0) → get_or (chosen f n) j 0 < get_or (chosen f n) (suc j) 0
        → get_or (chosen f n) i 0 < get_or (chosen f n) (suc j) 0
    go (yes m) r a = let x = r m in omega (arith, x, a)
    go (no m) r a = let e : i ≡ j = omega (arith, m, h) in rw e a
