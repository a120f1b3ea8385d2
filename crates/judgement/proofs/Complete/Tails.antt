-- The tails of kinds 3 and 5: of a tail as it is written the clauses, the divisor, the weights and how many there are are read back. The
-- bytes of a step of kind 5 as it is written stand in Cases/Weights.antt (`writes_weighted`).
-- Assumes nothing.
use Prim.Native.Nat.{ℕ, ◌+◌, ◌-◌, ◌*◌, ◌^◌, ◌<◌}
use mathlib.Core.Path.{◌≡◌, refl, ◌∙◌}
use mathlib.Core.List.{List, [], ◌∷◌, ◌++◌, append_assoc}
use native.Mathlib.Omega.{arith}
use lib.ListN.{length, get_or, drop, length-append}
use Rattle.judgement.specs.Writer.{bytes_of, numbers_of, entries_of, weighted_tail}
use Rattle.judgement.specs.Step.{tail, cited, cited_count, divisor, entry_count, entry_cites, weight}
use Rattle.judgement.proofs.Complete.Bytes.{length_bytes, length_numbers, number_of, nth_number, drop_past}

-- ---- kind 3

pub reads_cited : (b l : List ℕ) (j : ℕ) → tail b ≡ numbers_of 4 l → j < length l → get_or l j 0 < 256 ^ 4 → cited b (j + 1) ≡ get_or l j 0
reads_cited b l j e less h =
    let place : j + 1 - 1 ≡ j = omega arith in
    rw (place, e) (nth_number 4 j l less h)

pub reads_cited_count : (b l : List ℕ) → tail b ≡ numbers_of 4 l → cited_count b ≡ length l
reads_cited_count b l e =
    let size = length_numbers 4 l in
    rw e (omega (arith, size))

-- ---- kind 5

length_entries : (l : List (ℕ × ℕ)) → length (entries_of l) ≡ 6 * length l
unfolding entries_of
length_entries [] = refl
length_entries (x ∷ l) =
    let e = length-append (bytes_of 4 x.0) (bytes_of 2 x.1 ++ entries_of l) in
    let f = length-append (bytes_of 2 x.1) (entries_of l) in
    omega (arith, e, f, length_bytes 4 x.0, length_bytes 2 x.1, length_entries l)

join_entries : (l after : List (ℕ × ℕ)) → entries_of (l ++ after) ≡ entries_of l ++ entries_of after
unfolding entries_of
join_entries [] after = refl
join_entries (x ∷ l) after =
    rw (join_entries l after, append_assoc (bytes_of 4 x.0) (bytes_of 2 x.1 ++ entries_of l) (entries_of after), append_assoc (bytes_of 2 x.1) (entries_of l) (entries_of after))

-- the tail from the entry behind `before` on
entries_past : (d : ℕ) (before after : List (ℕ × ℕ)) → drop (2 + 6 * length before) (weighted_tail d (before ++ after)) ≡ entries_of after
unfolding weighted_tail
entries_past d before after =
    drop_past (weighted_tail d (before ++ after)) 2 (6 * length before) (entries_of before) (entries_of after)
    (drop_past (weighted_tail d (before ++ after)) 0 2 (bytes_of 2 d) (entries_of (before ++ after)) refl (length_bytes 2 d) ∙ join_entries before after)
    (length_entries before)

pub reads_divisor : (d : ℕ) (l : List (ℕ × ℕ)) → d < 256 ^ 2 → divisor (weighted_tail d l) ≡ d
unfolding weighted_tail
reads_divisor d l h = number_of 2 d 0 (weighted_tail d l) (entries_of l) refl h

pub reads_count : (d : ℕ) (l : List (ℕ × ℕ)) → entry_count (weighted_tail d l) ≡ length l
unfolding weighted_tail
reads_count d l =
    let e = length-append (bytes_of 2 d) (entries_of l) in
    omega (arith, e, length_bytes 2 d, length_entries l)

module _ (d c y : ℕ) (before after : List (ℕ × ℕ)) where
  abbrev written : List ℕ
  written = weighted_tail d (before ++ ((c, y) ∷ after))

  here : drop (2 + 6 * length before) written ≡ bytes_of 4 c ++ (bytes_of 2 y ++ entries_of after)
  unfolding entries_of
  here = entries_past d before ((c, y) ∷ after)

  pub reads_clause : c < 256 ^ 4 → entry_cites written (length before + 1) ≡ c
  reads_clause h =
      let e : length before + 1 - 1 ≡ length before = omega arith in
      rw e (number_of 4 c (2 + 6 * length before) written (bytes_of 2 y ++ entries_of after) here h)

  pub reads_weight : y < 256 ^ 2 → weight written (length before + 1) ≡ y
  reads_weight h =
      let e : length before + 1 - 1 ≡ length before = omega arith in
      rw e (number_of 2 y (2 + 6 * length before + 4) written (entries_of after)
      (drop_past written (2 + 6 * length before) 4 (bytes_of 4 c) (bytes_of 2 y ++ entries_of after) here (length_bytes 4 c)) h)
