-- Those of 1 to n that pass a test: how many, where each of them stands in their list, and the size of their bodies.
-- Assumes nothing.
use Prim.Native.Nat.{ℕ, zero, suc, ◌+◌, ◌-◌, ◌≤◌, ◌<◌}
use mathlib.Core.Path.{◌≡◌, refl, ap, ◌∙◌}
use mathlib.Core.Bool.{Bool, true, false, cond}
use mathlib.Core.List.{List, [], ◌∷◌, ◌++◌, map, map-append, append-nil}
use mathlib.Core.Logic.{◌⊎◌, inl, inr}
use native.Mathlib.Omega.{arith}
use lib.ListN.{length, get_or, length-append, get_or-append}
use lib.Seq.{get_or_at}
use Rattle.judgement.specs.Scan.{sum_of, count_of}
use Rattle.turns.specs.Listed.{list_of, chosen}
use Rattle.judgement.specs.Writer.{joined}
use Rattle.judgement.specs.Facts.{Among}
use Rattle.judgement.proofs.Laws.Scan.{which, last_or, count_join}
use Rattle.judgement.proofs.Laws.Table.{joined_end}

module _ (f : ℕ → Bool) where
  -- ---- how many

  count_taken : (n : ℕ) → f (suc n) ≡ true → count_of f (suc n) ≡ count_of f n + 1
  unfolding sum_of
  count_taken n e = rw e

  count_left : (n : ℕ) → f (suc n) ≡ false → count_of f (suc n) ≡ count_of f n
  unfolding sum_of
  count_left n e = rw e (omega arith)

  pub count_grows : (k n : ℕ) → k ≤ n → count_of f k ≤ count_of f n
  count_grows k n h =
      let e : k + (n - k) ≡ n = omega arith in
      let z = rw e at (count_join f k (n - k)) in
      omega (arith, z)

  pub count_at_most : (n : ℕ) → count_of f n ≤ n
  unfolding sum_of
  count_at_most zero = omega arith
  count_at_most (suc n) = let a = count_at_most n in elim (which (f (suc n))) [ inl e ↦ rw e (omega arith) | inr e ↦ rw e (omega arith) ]

  -- up to a chosen one there are more than up to any before it
  pub count_rises : (j k : ℕ) → j < k → f k ≡ true → count_of f j < count_of f k
  count_rises j zero h e = absurd (omega arith)
  count_rises j (suc k) h e = omega (arith, count_taken k e, count_grows j k (omega arith))

  pub count_all : (n : ℕ) → ((k : ℕ) → Among n k → f k ≡ true) → count_of f n ≡ n
  unfolding sum_of
  count_all zero h = refl
  count_all (suc n) h =
      let a = count_all n (λ k w. h k (w.0, omega (arith, w.1))) in
      rw (h (suc n) (omega arith, omega arith)) (omega arith)

  -- a chosen one of 1 to n has the number j
  abbrev Numbered : ℕ → ℕ → Type 0
  Numbered n j = (k : ℕ) × Among n k × (f k ≡ true) × (count_of f k ≡ j)

  -- each number up to the count is a chosen one's
  pub count_from : (n j : ℕ) → Among (count_of f n) j → (k : ℕ) × Among n k × (f k ≡ true) × (count_of f k ≡ j)
  unfolding sum_of
  count_from zero j w = absurd (omega (arith, w.0, w.1))
  count_from (suc n) j w = go (which (f (suc n))) (count_from n j)
    where
      later : Numbered n j → Numbered (suc n) j
      later (k, a, e, z) = (k, (a.0, omega (arith, a.1)), e, z)

      go : (f (suc n) ≡ true) ⊎ (f (suc n) ≡ false) → (Among (count_of f n) j → Numbered n j) → Numbered (suc n) j
      go (inl e) r =
          let a = count_taken n e in
          last_or (count_of f n) j (w.0, omega (arith, a, w.1))
          (λ z. (suc n, (omega arith, omega arith), e, omega (arith, a, z)))
          (λ v. later (r v))
      go (inr e) r = later (r (w.0, omega (arith, count_left n e, w.1)))

  -- ---- where they stand

  pub chosen_taken : (n : ℕ) → f (suc n) ≡ true → chosen f (suc n) ≡ chosen f n ++ (suc n ∷ [])
  unfolding chosen
  chosen_taken n e = rw e

  pub chosen_left : (n : ℕ) → f (suc n) ≡ false → chosen f (suc n) ≡ chosen f n
  unfolding chosen
  chosen_left n e = rw e (append-nil (chosen f n))

  pub length_chosen : (n : ℕ) → length (chosen f n) ≡ count_of f n
  unfolding chosen sum_of
  length_chosen zero = refl
  length_chosen (suc n) = let l = length_chosen n in elim (which (f (suc n))) [
    | inl e ↦ rw (e, length-append, l)
    | inr e ↦ rw (e, length-append, l)
  ]

  -- a chosen one stands at its number
  pub chosen_at : (n k : ℕ) → Among n k → f k ≡ true → get_or (chosen f n) (count_of f k - 1) 0 ≡ k
  chosen_at zero k w e = absurd (omega (arith, w.0, w.1))
  chosen_at (suc n) k w e = last_or n k w here (λ v. there (which (f (suc n))) v (chosen_at n k v e))
    where
      l : length (chosen f n) ≡ count_of f n
      l = length_chosen n

      here : k ≡ suc n → get_or (chosen f (suc n)) (count_of f k - 1) 0 ≡ k
      here z =
          let e : f (suc n) ≡ true = rw z at e in
          let a : count_of f (suc n) - 1 ≡ count_of f n = omega (arith, count_taken n e) in
          rw (z, a, chosen_taken n e) (get_or_at (chosen f n) (suc n) [] 0 (count_of f n) l)

      there : (f (suc n) ≡ true) ⊎ (f (suc n) ≡ false) → Among n k → get_or (chosen f n) (count_of f k - 1) 0 ≡ k
          → get_or (chosen f (suc n)) (count_of f k - 1) 0 ≡ k
      there (inl q) v r =
          let a = count_grows k n v.1 in
          let b = count_rises 0 k v.0 e in
          rw (chosen_taken n q) (get_or-append (chosen f n) (suc n ∷ []) 0 (count_of f k - 1) (omega (arith, l, a, b)) ∙ r)
      there (inr q) v r = rw (chosen_left n q) r

  pub chosen_all : (n : ℕ) → ((k : ℕ) → Among n k → f k ≡ true) → chosen f n ≡ list_of (λ k. k) n
  unfolding chosen list_of
  chosen_all zero h = refl
  chosen_all (suc n) h = rw (h (suc n) (omega arith, omega arith), chosen_all n (λ k w. h k (w.0, omega (arith, w.1))))

  -- ---- the bytes of their bodies

  -- one more adds its body where it is chosen
  pub chosen_joined : (g : ℕ → List ℕ) (n : ℕ)
      → joined (map g (chosen f (suc n))) ≡ joined (map g (chosen f n)) ++ cond (f (suc n)) (g (suc n)) []
  chosen_joined g n = elim (which (f (suc n))) [
    | inl e ↦ rw (chosen_taken n e, e, map-append g (chosen f n) (suc n ∷ []), joined_end (map g (chosen f n)) (g (suc n)))
    | inr e ↦ rw (chosen_left n e, e, append-nil)
  ]

  pub chosen_size : (g : ℕ → List ℕ) (n : ℕ) → length (joined (map g (chosen f n))) ≡ sum_of (λ k. cond (f k) (length (g k)) 0) n
  unfolding chosen sum_of joined
  chosen_size g zero = refl
  chosen_size g (suc n) =
      let l = chosen_size g n in
      let a = ap length (chosen_joined g n) in
      let b = length-append (joined (map g (chosen f n))) (cond (f (suc n)) (g (suc n)) []) in
      elim (which (f (suc n))) [ inl e ↦ rw e (rw e at (a ∙ b) ∙ omega (arith, l)) | inr e ↦ rw e (rw e at (a ∙ b) ∙ omega (arith, l)) ]
