-- The entries halved, and the index is the sheet's.
-- Assumes nothing.
use Prim.Native.Nat.{◌*◌, ◌+◌, ◌-◌, ◌/◌, ◌<◌, ◌^◌, ◌≤◌, suc, zero, ℕ}
use mathlib.Core.Path.{◌∙◌, ◌≡◌, ap, refl, sym}
use mathlib.Core.Bool.{Bool, cond, false, true}
use mathlib.Core.List.{List, ◌++◌, ◌∷◌, append_assoc, map, map-append, []}
use mathlib.Core.Logic.{inl}
use native.Mathlib.Decide.{dec_lt}
use native.Mathlib.Omega.{arith}
use lib.ListN.{get_or-append, get_or-eq_default, get_or-map, drop, get_or, length, length-append, length-map}
use lib.Seq.{ext_get_or, get_or-append-add}
use Rattle.judgement.specs.Buffer.{At, over, patch}
use Rattle.judgement.specs.Facts.{ValidSheet}
use Rattle.judgement.specs.Literals.{holds, mentions}
use Rattle.judgement.specs.Meaning.{positive}
use Rattle.judgement.specs.Number.{number_at}
use Rattle.judgement.specs.Scan.{sum_of}
use Rattle.turns.specs.Listed.{list_of}
use Rattle.judgement.specs.Sheet.{clause, clauses, variables}
use Rattle.judgement.specs.Writer.{bytes_of, joined, numbers_of, pairs_of}
use Rattle.judgement.proofs.Complete.Bytes.{length_numbers}
use Rattle.judgement.proofs.Complete.Tables.{length_pairs}
use Rattle.judgement.proofs.Laws.Patch.{at_numbers, kept_same, length_patch, number_behind, patch_behind, patch_kept, patch_next, patch_none, patch_other, patch_same}
use Rattle.turns.proofs.Listed.{length_list, list_at, list_same}
use Rattle.judgement.proofs.Laws.Stored.{numbers_end}
use Rattle.judgement.proofs.Laws.Table.{joined_end}
use Rattle.turns.specs.Index.{FilledTo, entry, index_end, start_of, uses}
use Rattle.turns.specs.Turning.{index_of, mentioning}
use Rattle.turns.proofs.Filling.{start_after}
use Rattle.turns.proofs.Lists.{chosen_next, mapped}
use Rattle.turns.proofs.Whole.{bodies, bodies_at, index_whole, joined_size, pairs_alike, pairs_at}

-- ---- lists one behind the other

abbrev flat : (ℕ → List ℕ) → ℕ → List ℕ
flat f n = joined (list_of f n)

numbers_append : (l r : List ℕ) → numbers_of 4 (l ++ r) ≡ numbers_of 4 l ++ numbers_of 4 r
unfolding numbers_of
numbers_append [] r = refl
numbers_append (x ∷ l) r = rw (numbers_append l r, append_assoc)

flat_numbers : (f : ℕ → List ℕ) (n : ℕ) → numbers_of 4 (flat f n) ≡ joined (bodies f n)
unfolding list_of joined numbers_of
flat_numbers f zero = refl
flat_numbers f (suc n) =
    rw (
      joined_end (list_of f n) (f (suc n)),
      numbers_append (flat f n) (f (suc n)),
      flat_numbers f n,
      joined_end (bodies f n) (numbers_of 4 (f (suc n))),
    )

flat_map : (g : ℕ → ℕ) (f : ℕ → List ℕ) (n : ℕ) → map g (flat f n) ≡ flat (λ v. map g (f v)) n
unfolding list_of joined
flat_map g f zero = refl
flat_map g f (suc n) =
    rw (
      joined_end (list_of f n) (f (suc n)),
      map-append g (flat f n) (f (suc n)),
      flat_map g f n,
      joined_end (list_of (λ v. map g (f v)) n) (map g (f (suc n))),
    )

flat_size : (f : ℕ → List ℕ) (n : ℕ) → length (flat f n) ≡ sum_of (λ v. length (f v)) n
unfolding list_of joined sum_of
flat_size f zero = refl
flat_size f (suc n) = rw (joined_end (list_of f n) (f (suc n)), length-append, flat_size f n)

append_below : (b : ℕ) (l r : List ℕ) → ((j : ℕ) → get_or l j 0 < b) → ((j : ℕ) → get_or r j 0 < b) → (j : ℕ) → get_or (l ++ r) j 0 < b
append_below b l r p q j = go (dec_lt j (length l))
  where
    go : Dec (j < length l) → get_or (l ++ r) j 0 < b
    go (yes h) = rw (get_or-append l r 0 j h) (p j)
    go (no h) =
        let e : length l + (j - length l) ≡ j = omega (arith, h) in
        rw (← e, get_or-append-add l r (j - length l) 0) (q (j - length l))

flat_below : (b : ℕ) (f : ℕ → List ℕ) → 0 < b → ((v j : ℕ) → get_or (f v) j 0 < b) → (n j : ℕ) → get_or (flat f n) j 0 < b
unfolding list_of joined
flat_below b f z h zero j = z
flat_below b f z h (suc n) j =
    rw (joined_end (list_of f n) (f (suc n))) (append_below b (flat f n) (f (suc n)) (flat_below b f z h n) (h (suc n)) j)

-- ---- entries

abbrev entries : List ℕ → ℕ → List ℕ
entries s v = map (entry s v) (mentioning s v)

abbrev half : ℕ → ℕ
half x = x / 2

pub half_entry : (s : List ℕ) (v k : ℕ) → half (entry s v k) ≡ k
half_entry s v k = go (holds (clause s k) (positive v))
  where
    go : (b : Bool) → half (2 * k + cond b 0 1) ≡ k
    go true = omega arith
    go false = omega arith

entries_half : (s : List ℕ) (v : ℕ) (l : List ℕ) → map half (map (entry s v) l) ≡ l
entries_half s v [] = refl
entries_half s v (k ∷ l) = rw (half_entry s v k, entries_half s v l)

pub entry_below : (s : List ℕ) → ValidSheet s → (v j : ℕ) → get_or (map (entry s v) (mentioning s v)) j 0 < 2 ^ 32
entry_below s valid v j = go (dec_lt j (uses s v))
  where
    go : Dec (j < uses s v) → get_or (entries s v) j 0 < 2 ^ 32
    go (yes h) =
        let m = valid.m in
        let k = get_or (mentioning s v) j 0 in
        let w = (chosen_next (λ k. mentions (clause s k) v) (clauses s) j h).within in
        rw (mapped (entry s v) (mentioning s v) j h) (most (holds (clause s (get_or (mentioning s v) j 0)) (positive v)) (get_or (mentioning s v) j 0) (omega (arith, w, m)))
      where
        most : (b : Bool) (k : ℕ) → k ≤ 4096 → 2 * k + cond b 0 1 < 2 ^ 32
        most true k l = omega arith
        most false k l = omega arith
    go (no h) =
        let l = length-map (mentioning s v) (entry s v) in
        rw (get_or-eq_default (entries s v) 0 {n = j} (omega (arith, h, l))) (omega arith)

-- ---- the pass

-- number j of those that stand from the end of the pairs on, halved
abbrev halved : List ℕ → List ℕ → ℕ → ℕ
halved s l j = number_at l (8 * variables s + 4 * (j - 1)) 4 / 2

-- i of them are halved when the pass is at `at`
pub record ClearedTo (s l : List ℕ) (at : ℕ) (r : List ℕ) : Type 0 where
  pub done : ℕ
  pub at_is : at ≡ 8 * variables s + 4 * done
  pub within : at ≤ index_end s
  pub is : r ≡ patch (8 * variables s) (numbers_of 4 (list_of (halved s l) done)) l

pub cleared_start : (s l : List ℕ) (n : ℕ) → n ≡ variables s → ClearedTo s l (8 * n) l
unfolding list_of numbers_of
cleared_start s l n e =
    record {
      done = 0;
      at_is = omega (arith, e);
      within = rw e (start_after (variables s) (uses s) (variables s + 1));
      is = sym (patch_none (8 * variables s) l);
    }

-- the next ends within the index, too
pub next_within : (s : List ℕ) (at done : ℕ) → at ≡ 8 * variables s + 4 * done → at < index_end s → at + 4 ≤ index_end s
unfolding start_of
next_within s at done e h = omega (arith, e, h)

module _ (s l : List ℕ) (room : index_end s ≤ length l) (at : ℕ) (r : List ℕ) (h : ClearedTo s l at r) where
  written_size : length (numbers_of 4 (list_of (halved s l) h.done)) ≡ 4 * h.done
  written_size = length_numbers 4 (list_of (halved s l) h.done) ∙ rw (length_list (halved s l) h.done)

  fits : 8 * variables s + length (numbers_of 4 (list_of (halved s l) h.done)) ≤ length l
  fits = let a = h.at_is in let b = h.within in rw written_size (omega arith)

  pub cleared_long : length r ≡ length l
  cleared_long = rw h.is (length_patch (8 * variables s) (numbers_of 4 (list_of (halved s l) h.done)) l fits)

  pub cleared_turn : (x : ℕ) (q : List ℕ) → at < index_end s → x ≡ number_at r at 4 → q ≡ patch at (bytes_of 4 (x / 2)) r → ClearedTo s l (at + 4) q
  unfolding list_of
  cleared_turn x q more ex eq =
      let a = h.at_is in
      let e : suc h.done - 1 ≡ h.done = omega arith in
      let place : 8 * variables s + length (numbers_of 4 (list_of (halved s l) h.done)) ≡ at = omega (arith, a, written_size) in
      let same : drop at r ≡ drop at l =
      rw h.is (patch_behind (8 * variables s) (numbers_of 4 (list_of (halved s l) h.done)) l fits at (omega (arith, place))) in
      let read : x / 2 ≡ halved s l (suc h.done) =
      rw (ex ∙ number_behind r l at 4 same, a, e) in
      record {
        done = suc h.done;
        at_is = omega (arith, a);
        within = next_within s at h.done a more;
        is =
            eq ∙ rw (
              read,
              h.is,
              ← place,
              patch_next (8 * variables s) (numbers_of 4 (list_of (halved s l) h.done)) (bytes_of 4 (halved s l (suc h.done))) l fits,
              ← numbers_end 4 (list_of (halved s l) h.done) (halved s l (suc h.done)),
            );
      }

-- the clauses of all lists, one behind the other
module _ (s : List ℕ) (valid : ValidSheet s) (l : List ℕ) (h : FilledTo s (clauses s) l) where
  full : (v : ℕ) → length (entries s v) ≡ uses s v
  full v = length-map (mentioning s v) (entry s v)

  stand : At l (8 * variables s) (numbers_of 4 (flat (entries s) (variables s)))
  stand = rw (flat_numbers (entries s) (variables s)) (bodies_at (variables s) (uses s) (entries s) full l h)

  total : ℕ
  total = length (flat (mentioning s) (variables s))

  clean : map half (flat (entries s) (variables s)) ≡ flat (mentioning s) (variables s)
  clean =
      flat_map half (entries s) (variables s)
      ∙ ap joined (list_same (λ v. map half (entries s v)) (mentioning s) (variables s) (λ v w. entries_half s v (mentioning s v)))

  as_many : length (flat (entries s) (variables s)) ≡ length (flat (mentioning s) (variables s))
  as_many = sym (length-map (flat (entries s) (variables s)) half) ∙ ap length clean

  halves : list_of (halved s l) (length (flat (mentioning s) (variables s))) ≡ flat (mentioning s) (variables s)
  halves =
      ext_get_or 0 (list_of (halved s l) (length (flat (mentioning s) (variables s)))) (flat (mentioning s) (variables s))
      (length_list (halved s l) (length (flat (mentioning s) (variables s))))
      (λ j b. each j (rw (length_list (halved s l) (length (flat (mentioning s) (variables s)))) at b))
    where
      each : (j : ℕ) → j < length (flat (mentioning s) (variables s))
          → get_or (list_of (halved s l) (length (flat (mentioning s) (variables s)))) j 0 ≡ get_or (flat (mentioning s) (variables s)) j 0
      each j b =
          let e : suc j - 1 ≡ j = omega arith in
          let a = list_at (halved s l) (length (flat (mentioning s) (variables s))) (suc j) (omega arith, omega arith) in
          let z = rw e at a in
          let n = at_numbers 4 l (8 * variables s) (flat (entries s) (variables s)) j stand (rw as_many b)
          (flat_below (2 ^ 32) (entries s) (omega arith) (λ v i. entry_below s valid v i) (variables s) j) in
          z ∙ rw (n) (sym (get_or-map half (flat (entries s) (variables s)) j 0) ∙ rw clean)

  pub cleared_done : (at : ℕ) (r : List ℕ) → index_end s ≤ at → ClearedTo s l at r → r ≡ over (index_of s) l
  unfolding start_of
  cleared_done at r d c =
      let n = variables s in
      let e : variables s + 1 - 1 ≡ variables s = omega arith in
      let a = c.at_is in
      let w = c.within in
      let f = flat_size (mentioning s) (variables s) in
      let all : c.done ≡ length (flat (mentioning s) (variables s)) = omega (arith, a, rw e at w, rw e at d, f) in
      let is : r ≡ patch (8 * variables s) (joined (bodies (mentioning s) (variables s))) l =
      c.is ∙ rw (all, halves, flat_numbers (mentioning s) (variables s)) in
      let size = joined_size (mentioning s) (variables s) in
      let fits : 8 * variables s + length (joined (bodies (mentioning s) (variables s))) ≤ length l = (let r = rw e at h.room in omega (arith, size, r)) in
      rw is
      (index_whole s l (patch (8 * variables s) (joined (bodies (mentioning s) (variables s))) l)
      (patch_other (8 * variables s) (joined (bodies (mentioning s) (variables s))) l fits 0 (pairs_of (8 * variables s) (bodies (mentioning s) (variables s)))
      (inl (rw (length_pairs (8 * variables s) (bodies (mentioning s) (variables s)), length_list (λ v. numbers_of 4 (mentioning s v)) (variables s)) (omega arith)))
      (rw (← pairs_alike (8 * variables s) (variables s) (entries s) (mentioning s) full) (pairs_at (variables s) (uses s) (entries s) full l h)))
      (patch_same (8 * variables s) (joined (bodies (mentioning s) (variables s))) l fits)
      (patch_kept (8 * variables s) (joined (bodies (mentioning s) (variables s))) l fits (index_end s) l (rw e (omega (arith, size))) (kept_same (index_end s) l)))
