-- A valid sheet whose clauses stand in order and whose mark, if it has one, tells of a loss is its own canonical sheet: the pair
-- rule leaves no byte of it free.
-- Assumes nothing.
use Prim.Native.Nat.{ℕ, zero, suc, ◌+◌, ◌-◌, ◌*◌, ◌≤◌, ◌<◌}
use mathlib.Core.Path.{◌≡◌, refl, sym, ap, ◌∙◌}
use mathlib.Core.List.{List, [], ◌∷◌, ◌++◌, map, append_assoc}
use mathlib.Core.Logic.{◌⊎◌, inl, inr}
use native.Mathlib.Omega.{arith}
use native.Mathlib.Decide.{dec_lt}
use lib.ListN.{length, take, drop, length-take, length-drop, take-append-drop, drop_of_length-le}
use lib.Seq.{take-add, drop-drop}
use Rattle.judgement.specs.Pairs.{pair_offset, pair_length, body}
use Rattle.judgement.specs.Sheet.{first_field, variables, clauses, clause_pairs_at, loss}
use Rattle.judgement.specs.Writer.{bytes_of, pairs_of, joined, file_of, mark_of}
use Rattle.judgement.specs.Facts.{OneOf, PairRule, ValidSheet}
use Rattle.judgement.specs.Demands.{IsBytes}
use Rattle.judgement.proofs.Laws.Stored.{number_below, bytes_again}
use Rattle.judgement.proofs.Laws.Mark.{WithMark, NoMark, mark_or, variables_are}
use Rattle.judgement.proofs.Complete.Bytes.{length_bytes}
use Rattle.judgement.proofs.Facts.Shown.{body_ends}
use Rattle.writer.specs.Order.{Leads, Rises, clause_codes, InPlace}
use Rattle.writer.specs.Canonical.{canonical}
use Rattle.writer.specs.Promises.{NoIdleMark}
use Rattle.writer.specs.Words.{word_of, number_of, codes_of, body_of, Words, SortedRange, head_end, head_bytes}
use Rattle.writer.proofs.Merging.{words_wider}
use Rattle.writer.proofs.SheetBack.{Lossless, Lossy, loss_or}
use Rattle.writer.proofs.Raw.{range_inside, range_sorted, raw_canonical}

-- ---- a file with a table of pairs, from its pairs on

-- bodies k + 1 to k + q
bodies_from : List ℕ → ℕ → ℕ → ℕ → List (List ℕ)
bodies_from f at k zero = []
bodies_from f at k (suc q) = body f at (suc k) ∷ bodies_from f at (suc k) q

bodies_length : (f : List ℕ) (at k q : ℕ) → length (bodies_from f at k q) ≡ q
unfolding bodies_from
bodies_length f at k zero = refl
bodies_length f at k (suc q) = rw (bodies_length f at (suc k) q)

split_at : (f : List ℕ) (a n : ℕ) → drop a f ≡ take n (drop a f) ++ drop (a + n) f
split_at f a n = sym (take-append-drop n (drop a f)) ∙ rw (drop-drop n a f)

module _ (f : List ℕ) (bytes : IsBytes f) (at m : ℕ) (room : at + 8 * m ≤ length f) (rule : PairRule f at m) where
  size : (k : ℕ) → k < m → length (body f at (suc k)) ≡ pair_length f at (suc k)
  unfolding body
  size k h =
      let e = body_ends f at m rule (suc k) (omega arith, omega arith) in
      let t = length-take (pair_length f at (suc k)) (drop (pair_offset f at (suc k)) f) in
      let d = length-drop (pair_offset f at (suc k)) f in
      omega (arith, e, t, d)

  -- where the next body begins
  next_start : (k start : ℕ) → pair_offset f at (suc k) ≡ start → suc k < m
      → pair_offset f at (suc (suc k)) ≡ start + pair_length f at (suc k)
  next_start k start o n =
      let z : suc k + 1 ≡ suc (suc k) = omega arith in
      let r = rw z at (rule.later (suc k) (omega arith) n) in
      r ∙ rw o

  next_offset : (k start : ℕ) → k < m → pair_offset f at (suc k) ≡ start → suc k < m
      → pair_offset f at (suc (suc k)) ≡ start + length (body f at (suc k))
  next_offset k start l o n = next_start k start o n ∙ rw (size k l)

  last_end : (k start : ℕ) → pair_offset f at (suc k) ≡ start → suc k ≡ m → start + pair_length f at (suc k) ≡ length f
  last_end k start o n =
      let r = rw (← n) at (rule.last (omega arith)) in
      rw (← o) r

  -- one pair
  pair_is : (k : ℕ) → k < m
      → drop (at + 8 * k) f ≡ bytes_of 4 (pair_offset f at (suc k)) ++ (bytes_of 4 (length (body f at (suc k))) ++ drop (at + 8 * suc k) f)
  pair_is k h =
      let e : suc k - 1 ≡ k = omega arith in
      let z : at + 8 * k + 4 + 4 ≡ at + 8 * suc k = omega arith in
      let a = bytes_again 4 f bytes (at + 8 * k) (omega arith) in
      let b = bytes_again 4 f bytes (at + 8 * k + 4) (omega arith) in
      rw (size k h, e, a, b)
      (split_at f (at + 8 * k) 4 ∙ ap (λ (x : List ℕ). take 4 (drop (at + 8 * k) f) ++ x) (split_at f (at + 8 * k + 4) 4 ∙ rw z))

  -- the pairs of the last q bodies
  pairs_are : (k q start : ℕ) → k + q ≡ m → (k < m → pair_offset f at (suc k) ≡ start)
      → drop (at + 8 * k) f ≡ pairs_of start (bodies_from f at k q) ++ drop (at + 8 * m) f
  unfolding pairs_of bodies_from
  pairs_are k zero start e h = let z : k ≡ m = omega arith in rw z
  pairs_are k (suc q) start e h =
      let l : k < m = omega arith in
      let o = h l in
      let r = pairs_are (suc k) q (start + length (body f at (suc k))) (omega arith) (next_offset k start l o) in
      pair_is k l ∙ rw (o, r) (simp append_assoc)

  -- the last q bodies
  bodies_are : (k q start : ℕ) → k + q ≡ m → (k < m → pair_offset f at (suc k) ≡ start) → (k ≡ m → start ≡ length f)
      → drop start f ≡ joined (bodies_from f at k q)
  unfolding joined bodies_from body
  bodies_are k zero start e h g = let z = g (omega arith) in drop_of_length-le f {i = start} (omega arith)
  bodies_are k (suc q) start e h g =
      let l : k < m = omega arith in
      let o = h l in
      let r = bodies_are (suc k) q (start + pair_length f at (suc k)) (omega arith) (next_start k start o) (last_end k start o) in
      split_at f start (pair_length f at (suc k)) ∙ rw (o, r)

  first_offset : 0 < m → pair_offset f at 1 ≡ at + 8 * m
  first_offset h = rule.first h

  from_pairs : drop at f ≡ pairs_of (at + 8 * m) (bodies_from f at 0 m) ++ joined (bodies_from f at 0 m)
  from_pairs =
      let z : at + 8 * 0 ≡ at = omega arith in
      let p = rw z at (pairs_are 0 m (at + 8 * m) (omega arith) first_offset) in
      p ∙ rw (bodies_are 0 m (at + 8 * m) (omega arith) first_offset no_bodies)
    where
      no_bodies : 0 ≡ m → at + 8 * m ≡ length f
      no_bodies e = let r = rule.empty (sym e) in omega arith

-- ---- the clauses of a sheet, as they stand

-- the words of clauses k + 1 to k + q
words_from : List ℕ → ℕ → ℕ → List ℕ
words_from s k zero = []
words_from s k (suc q) = word_of s (suc k) ∷ words_from s (suc k) q

word_number : (s : List ℕ) (k : ℕ) → k < 65536 → number_of (word_of s k) ≡ k
word_number s k h = omega arith

from_bodies : (s : List ℕ) (k q : ℕ) → k + q < 65536 → map (body_of s) (words_from s k q) ≡ bodies_from s (clause_pairs_at s) k q
unfolding words_from bodies_from
from_bodies s k zero h = refl
from_bodies s k (suc q) h = rw (word_number s (suc k) (omega arith), from_bodies s (suc k) q (omega arith))

from_length : (s : List ℕ) (k q : ℕ) → length (words_from s k q) ≡ q
unfolding words_from
from_length s k zero = refl
from_length s k (suc q) = rw (from_length s (suc k) q)

module _ (s : List ℕ) (few : clauses s < 65536) (order : InPlace s) where
  from_words : (k q : ℕ) → k + q ≤ clauses s → Words s k (k + q) (words_from s k q)
  unfolding words_from
  from_words k zero h = tt
  from_words k (suc q) h =
      let n = word_number s (suc k) (omega arith) in (
        omega (arith, n),
        omega (arith, n),
        ap (word_of s) (sym n),
        words_wider s (suc k) (suc k + q) k (k + suc q) (words_from s (suc k) q) (omega arith) (omega arith) (from_words (suc k) q (omega arith)),
      )

  from_members : (k q : ℕ) → k + q ≤ clauses s → (b : List ℕ) → OneOf b (map (codes_of s) (words_from s k q))
      → (j : ℕ) × (k < j) × (j ≤ k + q) × (clause_codes s j ≡ b)
  unfolding words_from
  from_members k zero h b m = absurd m
  from_members k (suc q) h b (inl e) = (suc k, omega arith, omega arith, sym (rw (word_number s (suc k) (omega arith)) at e))
  from_members k (suc q) h b (inr m) =
      let (j, l, u, e) = from_members (suc k) q (omega arith) b m in
      (j, omega arith, omega arith, e)

  from_rises : (k q : ℕ) → k + q ≤ clauses s → Rises (map (codes_of s) (words_from s k q))
  unfolding words_from
  from_rises k zero h = tt
  from_rises k (suc q) h = (leads, from_rises (suc k) q (omega arith))
    where
      leads : Leads (codes_of s (word_of s (suc k))) (map (codes_of s) (words_from s (suc k) q))
      leads c m =
          let (j, l, u, e) = from_members (suc k) q (omega arith) c m in
          rw (word_number s (suc k) (omega arith), ← e) (order (suc k) j (omega arith) l (omega arith))

  from_every : (k q j : ℕ) → k + q ≤ clauses s → k < j → j ≤ k + q → OneOf (clause_codes s j) (map (codes_of s) (words_from s k q))
  unfolding words_from
  from_every k zero j h l u = absurd (omega arith)
  from_every k (suc q) j h l u = go (dec_lt (suc k) j) (from_every (suc k) q j)
    where
      go : Dec (suc k < j) → (suc k + q ≤ clauses s → suc k < j → j ≤ suc k + q → OneOf (clause_codes s j) (map (codes_of s) (words_from s (suc k) q)))
          → OneOf (clause_codes s j) (codes_of s (word_of s (suc k)) ∷ map (codes_of s) (words_from s (suc k) q))
      go (yes a) r = inr (r (omega arith) a (omega arith))
      go (no a) r = let z : j ≡ suc k = omega arith in inl (rw (word_number s (suc k) (omega arith), z))

  stands : SortedRange s 0 (clauses s) (words_from s 0 (clauses s))
  stands = record {
    words = from_words 0 (clauses s) (omega arith);
    rises = from_rises 0 (clauses s) (omega arith);
    every = λ k l u. from_every 0 (clauses s) k (omega arith) l u;
  }

-- ---- what stands before the pairs of a sheet without an idle mark

-- it has mark and loss, or neither
mark_stands : (s : List ℕ) → NoIdleMark s → (WithMark s × Lossy (loss s)) ⊎ (NoMark s × Lossless (loss s))
mark_stands s due = go (mark_or s) (loss_or (loss s))
  where
    go : WithMark s ⊎ NoMark s → Lossless (loss s) ⊎ Lossy (loss s) → (WithMark s × Lossy (loss s)) ⊎ (NoMark s × Lossless (loss s))
    go (inl m) (inl o) = absurd (due m.is o.is)
    go (inl m) (inr o) = inl (m, o)
    go (inr m) (inl o) = inr (m, o)
    go (inr m) (inr o) = absurd (o.is m.lost)

-- its pairs begin where those of the written sheet do
end_stands : (s : List ℕ) → NoIdleMark s → head_end s ≡ clause_pairs_at s
unfolding head_end
end_stands s due = elim (mark_stands s due) [
  | inl (m, o) ↦ rw (o.bytes_are, m.size, length_bytes 4 (loss s))
  | inr (m, o) ↦ rw (o.bytes_are, m.size)
]

-- and its first field is theirs
field_stands : (s : List ℕ) → IsBytes s → NoIdleMark s → mark_of (loss s) + variables s ≡ first_field s
field_stands s bytes due =
    let v = variables_are s in
    let b = number_below 2 s bytes 0 in
    elim (mark_stands s due) [
      | inl (m, o) ↦ omega (arith, o.mark_is, m.field, v, b)
      | inr (m, o) ↦ omega (arith, o.mark_is, m.field, v)
    ]

head_stands : (s : List ℕ) (table : ℕ) → IsBytes s → 4 ≤ table → table ≤ length s → head_end s ≡ table
    → mark_of (loss s) + variables s ≡ first_field s → head_bytes s (clauses s) ≡ take table s
unfolding head_bytes
head_stands s table bytes four h end field =
    let z : table ≡ 2 + (2 + (table - 4)) = omega arith in
    rw (end, field, bytes_again 2 s bytes 0 (omega arith), bytes_again 2 s bytes 2 (omega arith))
    (sym (ap (λ (n : ℕ). take n s) z
    ∙ rw (take-add 2 (2 + (table - 4)) s, take-add 2 (table - 4) (drop 2 s), drop-drop 2 2 s, append_assoc)))

pub in_place : (s : List ℕ) → ValidSheet s → IsBytes s → InPlace s → NoIdleMark s → canonical s ≡ s
unfolding file_of
in_place s valid bytes order due =
    let w = words_from s 0 (clauses s) in
    let room = valid.room in
    let h = head_stands s (clause_pairs_at s) bytes (omega arith) (omega arith) (end_stands s due) (field_stands s bytes due) in
    let l : length (take (clause_pairs_at s) s) ≡ clause_pairs_at s = length-take (clause_pairs_at s) s ∙ omega arith in
    let b = from_bodies s 0 (clauses s) (omega arith) in
    let p = from_pairs s bytes (clause_pairs_at s) (clauses s) room valid.pairs in
    let r = stands s (omega arith) order in
    raw_canonical s (clause_pairs_at s) (record { valid = valid; pairs = refl }) bytes w (range_inside s w r) (range_sorted s w r)
    ∙ rw (from_length s 0 (clauses s), h, b, l, bodies_length s (clause_pairs_at s) 0 (clauses s), append_assoc, ← p)
    (take-append-drop (clause_pairs_at s) s)
