-- Laws of lists whose variables rise, looked at by several literals at a time, at some of them twice.
-- Assumes nothing.
use Prim.Native.Nat.{ℕ, suc, ◌+◌, ◌-◌, ◌*◌, ◌/◌, ◌%◌, ◌≤◌, ◌<◌}
use mathlib.Core.Path.{◌≡◌, refl, sym, ap, ◌∙◌}
use mathlib.Core.Bool.{Bool, true, false, ◌&&◌, and-true, and-false}
use mathlib.Core.List.{List}
use native.Mathlib.Nat.{zero-add}
use native.Mathlib.Numerals.{add-one}
use native.Mathlib.Omega.{arith}
use native.Mathlib.Decide.{dec_lt}
use lib.Dec.{leb, ltb}
use lib.ListN.{length}
use borrow.Author.Tests.{eq-eqb, lt-ltb, le-ltb, le-leb, lt-leb}
use Rattle.judgement.specs.Number.{number_at}
use Rattle.judgement.specs.Scan.{all_of}
use Rattle.judgement.specs.Literals.{count, variable, literals_fine}
use Rattle.judgement.proofs.Laws.Scan.{clash, false_i, and_i, all_each, all_of_lem}
use Rattle.layout.proofs.Literals.{variable_next, rises_ends}
use Rattle.layout.specs.Rise.{is_rise, rises_from}

-- ---- literal by literal

rise_each : (part : List ℕ) (i k : ℕ) → rises_from part i k ≡ true → (m : ℕ) → i < m → m ≤ i + k → is_rise part m ≡ true
unfolding rises_from
rise_each part i k p m l h =
    let e : i + (m - i) ≡ m = omega arith in
    rw e at (all_each (λ j. is_rise part (i + j)) k p (m - i) (omega arith, omega arith))

rise_of : (part : List ℕ) (i k : ℕ) → ((m : ℕ) → i < m → m ≤ i + k → is_rise part m ≡ true) → rises_from part i k ≡ true
unfolding rises_from
rise_of part i k h = all_of_lem (λ j. is_rise part (i + j)) k (λ j w. h (i + j) (omega (arith, w.0)) (omega (arith, w.1)))

-- literal i + j + 1 is one more, x the code of the one before it and y its own
pub rises_more : (part : List ℕ) (i j : ℕ) {x y : ℕ} {fine : Bool} → fine ≡ rises_from part i j → x ≡ number_at part (2 * (i + j)) 2
    → y ≡ number_at part (2 * (i + j + 1)) 2 → fine && ltb (x / 2) (y / 2) ≡ rises_from part i (j + 1)
unfolding rises_from all_of
rises_more part i j e a b =
    let k : i + j + 1 ≡ i + (j + 1) = omega arith in
    let next : j + 1 ≡ suc j = add-one j in
    rw (e, variable_next part (i + j) a, variable_next part (i + j + 1) b)
    (ap (λ m. rises_from part i j && is_rise part m) k ∙ rw next)

-- ---- parts of a list

module _ (part : List ℕ) (i k a c : ℕ) where
  -- where a list rises, a part of it does
  pub rises_part : i ≤ a → a + c ≤ i + k → rises_from part i k ≡ true → rises_from part a c ≡ true
  rises_part l h p = rise_of part a c (λ m b e. rise_each part i k p m (omega arith) (omega arith))

  -- a part does not rise, and so the list does not
  pub rises_stop : i ≤ a → a + c ≤ i + k → rises_from part a c ≡ false → rises_from part i k ≡ false
  rises_stop l h q = false_i (rises_from part i k) (λ p. clash (rises_part l h p) q)

  -- two parts with nothing left out between them make a longer one, and may lie one over the other
  pub rises_join : (n : ℕ) → a ≤ i + k → i + n ≤ a + c → rises_from part i k ≡ true → rises_from part a c ≡ true
      → rises_from part i n ≡ true
  rises_join n l h p q = rise_of part i n (λ m b e. go m b e (dec_lt (i + k) m))
    where
      go : (m : ℕ) → i < m → m ≤ i + n → Dec (i + k < m) → is_rise part m ≡ true
      go m b e (yes d) = rise_each part a c q m (omega arith) (omega arith)
      go m b e (no d) = rise_each part i k p m b (omega arith)

-- ---- the last c and the first c of k literals

-- both hold exactly where the whole does
both : (x y whole : Bool) → (x ≡ true → y ≡ true → whole ≡ true) → (whole ≡ true → x ≡ true) → (whole ≡ true → y ≡ true)
    → x && y ≡ whole
both true true whole f g h = sym (f refl refl)
both true false true f g h = h refl
both true false false f g h = refl
both false y true f g h = g refl
both false y false f g h = refl

module _ (part : List ℕ) (k c : ℕ) (l : c ≤ k) where
  ends_last : rises_from part 0 k ≡ true → rises_from part (k - c) c ≡ true
  ends_last = rises_part part 0 k (k - c) c (omega arith) (omega arith)

  ends_first : rises_from part 0 k ≡ true → rises_from part 0 c ≡ true
  ends_first = rises_part part 0 k 0 c (omega arith) (omega arith)

  pub ends_fail : rises_from part (k - c) c && rises_from part 0 c ≡ false → rises_from part 0 k ≡ false
  ends_fail e = false_i (rises_from part 0 k) (λ p. clash (and_i _ _ (ends_last p) (ends_first p)) e)

  -- where they overlap, they are all
  pub ends_rise : k ≤ 2 * c → rises_from part (k - c) c && rises_from part 0 c ≡ rises_from part 0 k
  ends_rise h =
      both (rises_from part (k - c) c) (rises_from part 0 c) (rises_from part 0 k)
      (λ p q. rises_join part 0 c (k - c) c k (omega arith) (omega arith) q p) ends_last ends_first

-- ---- a whole list: the first literal, and k after it

module _ (n : ℕ) (part : List ℕ) (k : ℕ) (z : length part ≡ 2 * (k + 1)) where
  literals_ends : literals_fine n part ≡ (ltb 0 (variable part 1) && rises_from part 0 k) && leb (variable part (k + 1)) n
  unfolding literals_fine rises_from
  literals_ends =
      let q : count part ≡ suc k = omega arith in
      rw (eq-eqb (length part % 2) 0 (omega arith), q, rises_ends (variable part) n k, add-one) (simp zero-add)

  pub first_none : {x : ℕ} → x ≡ number_at part 0 2 → x / 2 < 1 → literals_fine n part ≡ false
  first_none e h = rw (literals_ends, le-ltb 0 (variable part 1) (omega arith))

  pub last_beyond : {x : ℕ} → x ≡ number_at part (2 * k) 2 → n < x / 2 → literals_fine n part ≡ false
  last_beyond e h = rw (literals_ends, lt-leb (variable part (k + 1)) n (rw (← variable_next part k e) h), and-false)

  pub rises_within : {x y : ℕ} → x ≡ number_at part 0 2 → 1 ≤ x / 2 → y ≡ number_at part (2 * k) 2 → y / 2 ≤ n
      → literals_fine n part ≡ rises_from part 0 k
  rises_within e l d h =
      let f = lt-ltb 0 (variable part 1) (omega arith) in
      let t = le-leb (variable part (k + 1)) n (rw (← variable_next part k d) h) in
      rw (literals_ends, f, t, and-true)

-- the first variable is held against 1
pub none_first : (n : ℕ) (part : List ℕ) → length part % 2 ≡ 0 → 1 ≤ length part → number_at part 0 2 / 2 < 1 → literals_fine n part ≡ false
none_first n part even some h = first_none n part (length part / 2 - 1) (omega arith) refl h

-- the last variable is held against n
pub beyond_last : (n : ℕ) (part : List ℕ) → length part % 2 ≡ 0 → 1 ≤ length part → n < number_at part (2 * (length part / 2 - 1)) 2 / 2
    → literals_fine n part ≡ false
beyond_last n part even some h = last_beyond n part (length part / 2 - 1) (omega arith) refl h
