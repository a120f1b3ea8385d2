-- The canonical sheet as the bytes that the writer puts: parts of the sheet, pairs, and bodies as they stand.
-- Assumes nothing.
use Prim.Native.Nat.{ℕ, suc, ◌+◌, ◌-◌, ◌*◌, ◌≤◌}
use mathlib.Core.Path.{◌≡◌, refl, sym, ap, ◌∙◌}
use mathlib.Core.List.{List, [], ◌∷◌, ◌++◌, map, append_assoc, append-nil}
use mathlib.Core.Logic.{inl, inr}
use native.Mathlib.Omega.{arith}
use lib.ListN.{length, take, drop, length-append, length-take, length-drop, length-map}
use lib.Seq.{take-add, drop-drop}
use lib.Dec.{eqb}
use Rattle.std.specs.Prelude.{not}
use Rattle.std.specs.Int.{from_bool}
use Rattle.judgement.specs.Scan.{list_of}
use Rattle.judgement.specs.Number.{number_at}
use Rattle.judgement.specs.Pairs.{pair_offset, pair_length, body}
use Rattle.judgement.specs.Sheet.{variables, clauses, loss_at, clause_pairs_at, cost_of, loss, clause}
use Rattle.judgement.specs.Writer.{bytes_of, numbers_of, pairs_of, joined, file_of, mark_of, loss_of, sheet_of}
use Rattle.judgement.specs.Buffer.{over, put}
use Rattle.judgement.specs.Facts.{Among, OneOf, ValidSheet}
use Rattle.judgement.specs.Demands.{IsBytes}
use Rattle.judgement.proofs.Laws.Scan.{length_list}
use Rattle.judgement.proofs.Laws.Mark.{mark_or}
use Rattle.judgement.proofs.Laws.Stored.{part_bytes, bytes_again, numbers_again, body_again}
use Rattle.judgement.proofs.Laws.Buffer.{length_over, put_room, part_from, part_put, length_from, put_next}
use Rattle.judgement.proofs.Complete.Bytes.{length_bytes}
use Rattle.judgement.proofs.Laws.Table.{file_written}
use Rattle.judgement.proofs.Complete.Tables.{length_file}
use Rattle.writer.specs.Order.{clause_codes}
use Rattle.writer.specs.Canonical.{ordered, canonical}
use Rattle.writer.specs.Words.{Known, number_of, codes_of, body_of, EachWord, Words, SortedRange, head_end, head_bytes}
use Rattle.writer.proofs.Order.{one_order}
use Rattle.writer.proofs.Merging.{words_at}
use Rattle.writer.proofs.SheetBack.{Lossy, loss_or, loss_length, head_of, length_head}

-- a body is not longer than the file
pub clause_size : (s : List ℕ) (k : ℕ) → length (clause s k) ≤ length s
unfolding body
clause_size s k =
    let a = length-take (pair_length s (clause_pairs_at s) k) (drop (pair_offset s (clause_pairs_at s) k) s) in
    let b = length-drop (pair_offset s (clause_pairs_at s) k) s in
    omega (arith, a, b)

-- ---- what stands before the pairs

-- they begin behind n and m
pub end_some : (s : List ℕ) → 4 ≤ head_end s
unfolding head_end
end_some s = omega arith

-- and where the code counts
pub end_is : (s : List ℕ) {lost at : ℕ} → lost ≡ from_bool (not (eqb (loss s) 0)) → at ≡ loss_at s → at + 4 * lost ≡ head_end s
unfolding head_end
end_is s p q = rw (p, q, loss_length (loss s))

pub head_written : (s : List ℕ) (end count : ℕ) {field : ℕ} (out₀ out p q : List ℕ) → 4 ≤ end → end ≤ length s → end ≤ length out₀
    → end ≡ head_end s → field ≡ mark_of (loss s) + variables s
    → out ≡ put (bytes_of 2 field) out₀ → p ≡ put (bytes_of 2 count) (part_from 2 out)
    → q ≡ put (take (end - 4) (drop 4 s)) (part_from 4 (part_put 2 out p))
    → part_put 4 (part_put 2 out p) q ≡ over (head_bytes s count) out₀
unfolding head_bytes
head_written s end count {field} out₀ out p q four h room end_is field_is eo ep eq =
    let l = length_bytes 2 field in
    let m : length (bytes_of 2 field ++ bytes_of 2 count) ≡ 4 = rw (length-append, l, length_bytes 2 count) in
    let b = length_bytes 2 count in
    let first : out ≡ over (bytes_of 2 field) out₀ = eo ∙ put_room (bytes_of 2 field) out₀ (omega arith) in
    let size : length out ≡ length out₀ = ap length first ∙ length_over (bytes_of 2 field) out₀ (omega arith) in
    let from = length_from 2 out in
    let second : part_put 2 out p ≡ over (bytes_of 2 field ++ bytes_of 2 count) out₀ =
    put_next 2 out₀ out (bytes_of 2 field) (bytes_of 2 count) p first l (ep ∙ put_room (bytes_of 2 count) (part_from 2 out) (omega (arith, from, size, b))) in
    let size-2 : length (part_put 2 out p) ≡ length out₀ =
    ap length second ∙ length_over (bytes_of 2 field ++ bytes_of 2 count) out₀ (omega (arith, m)) in
    let from_2 = length_from 4 (part_put 2 out p) in
    let rest = length-take (end - 4) (drop 4 s) in
    rw (← end_is, ← field_is)
    (put_next 4 out₀ (part_put 2 out p) (bytes_of 2 field ++ bytes_of 2 count) (take (end - 4) (drop 4 s)) q second m
    (eq ∙ put_room (take (end - 4) (drop 4 s)) (part_from 4 (part_put 2 out p)) (omega (arith, from_2, size-2, rest))))

-- ---- the clauses

-- what stands for a list of codes is a word of one of the clauses
words_from : (s : List ℕ) (high : ℕ) (l b : List ℕ) → Words s 0 high l → OneOf b (map (codes_of s) l)
    → (k : ℕ) × Among high k × (clause_codes s k ≡ b)
words_from s high [] b r m = absurd m
words_from s high (w ∷ l) b r (inl e) = (number_of w, (r.0, r.1), sym e)
words_from s high (w ∷ l) b r (inr m) = words_from s high l b r.3 m

clause_again : (s : List ℕ) → IsBytes s → ValidSheet s → (k : ℕ) → Among (clauses s) k → numbers_of 2 (clause_codes s k) ≡ clause s k
unfolding body
clause_again s b v k w =
    body_again (clause s k) (part_bytes s b (pair_length s (clause_pairs_at s) k) (pair_offset s (clause_pairs_at s) k)) (v.lists k w).whole

clauses_again : (s : List ℕ) → IsBytes s → ValidSheet s → (l : List ℕ) → Words s 0 (clauses s) l
    → map (numbers_of 2) (map (codes_of s) l) ≡ map (body_of s) l
clauses_again s b v [] r = refl
clauses_again s b v (w ∷ l) r = rw (clause_again s b v (number_of w) (r.0, r.1), clauses_again s b v l r.3)

zero_more : (s l : List ℕ) → Words s 0 (0 + clauses s) l → Words s 0 (clauses s) l
zero_more s l r = let e : 0 + clauses s ≡ clauses s = omega arith in rw e at r

-- ---- what stands in s of a loss that is written

pub lossy_marked : (s : List ℕ) → Lossy (loss s) → (clause_pairs_at s ≡ loss_at s + 4) × (loss s ≡ number_at s (loss_at s) 4)
lossy_marked s o = elim (mark_or s) [
  | inl m ↦ (rw m.size, m.lost)
  | inr m ↦ absurd (o.is m.lost)
]

-- ---- the canonical sheet

-- a sorted range of all of them is in the one order
pub range_sorted : (s order : List ℕ) → SortedRange s 0 (clauses s) order → map (codes_of s) order ≡ ordered s
range_sorted s order range =
    (one_order s).only (map (codes_of s) order)
    (record {
      rises = range.rises;
      every = λ k w. range.every k w.0 (omega (arith, w.1));
      no_other = λ b m. words_from s (clauses s) order b (zero_more s order range.words) m;
    })

pub range_inside : (s order : List ℕ) → SortedRange s 0 (clauses s) order → EachWord s order
range_inside s order range i h = words_at s order i (zero_more s order range.words) h

words_all : (s l : List ℕ) → EachWord s l → Words s 0 (clauses s) l
words_all s [] f = tt
words_all s (w ∷ l) f =
    let h = f 0 (omega arith) in
    (h.0.0, h.0.1, h.1, words_all s l (λ i k. f (suc i) (omega arith)))

module _ (s : List ℕ) (table : ℕ) (known : Known s table) (bytes : IsBytes s) (order : List ℕ) (inside : EachWord s order)
    (order_is : map (codes_of s) order ≡ ordered s) where
  bodies_are : map (numbers_of 2) (ordered s) ≡ map (body_of s) order
  bodies_are = ap (map (numbers_of 2)) (sym order_is) ∙ clauses_again s bytes known.valid order (words_all s order inside)

  costs : List ℕ
  costs = list_of (cost_of s) (variables s)

  costs_count : length costs ≡ variables s
  unfolding costs
  costs_count = length_list (cost_of s) (variables s)

  costs_again : numbers_of 4 costs ≡ take (4 * variables s) (drop 4 s)
  unfolding costs
  costs_again = let r = known.valid.room in numbers_again 4 s bytes 4 (variables s) (omega arith)

  -- costs and loss are written as they stand: where something is lost, s has four bytes for it
  costs_are : numbers_of 4 costs ++ loss_of (loss s) ≡ take (head_end s - 4) (drop 4 s)
  unfolding head_end
  costs_are = elim (loss_or (loss s)) [
    | inl o ↦
        let e : loss_at s + 0 - 4 ≡ 4 * variables s = omega arith in
        rw (o.bytes_are, append-nil, e) costs_again
    | inr o ↦
        let (m, r) = lossy_marked s o in
        let room = known.valid.room in
        let e : loss_at s + 4 - 4 ≡ 4 * variables s + 4 = omega arith in
        rw (o.bytes_are, length_bytes 4 (loss s), e, costs_again, take-add (4 * variables s) 4 (drop 4 s), drop-drop (4 * variables s) 4 s)
        (ap (λ (l : List ℕ). take (4 * variables s) (drop 4 s) ++ l) (rw r (bytes_again 4 s bytes (loss_at s) (omega (arith, m)))))
  ]

  head_is : head_of (loss s) costs (length order) ≡ head_bytes s (length order)
  unfolding head_bytes
  head_is =
      append_assoc (bytes_of 2 (mark_of (loss s) + length costs) ++ bytes_of 2 (length order)) (numbers_of 4 costs) (loss_of (loss s))
      ∙ rw (costs_are, costs_count)

  length_head_bytes : length (head_bytes s (length order)) ≡ head_end s
  unfolding head_end
  length_head_bytes = rw (← head_is) (length_head (loss s) costs (length order) ∙ rw costs_count)

  pub raw_canonical : canonical s ≡ file_of (head_bytes s (length order)) (map (body_of s) order)
  unfolding canonical sheet_of costs
  raw_canonical = rw (bodies_are, length-map order (body_of s), head_is)

  pub raw_size : length (canonical s) ≡ head_end s + 8 * length order + length (joined (map (body_of s) order))
  raw_size =
      rw raw_canonical
      (length_file (head_bytes s (length order)) (map (body_of s) order) ∙ rw (length_head_bytes, length-map order (body_of s)))

  -- three writes one behind the other
  pub written_all : (end : ℕ) → end ≡ head_end s → (out₀ out p q : List ℕ) → out ≡ over (head_bytes s (length order)) out₀
      → p ≡ over (pairs_of (end + 8 * length order) (map (body_of s) order)) (part_from end out)
      → q ≡ over (joined (map (body_of s) order)) (part_from (end + 8 * length order) (part_put end out p))
      → part_put (end + 8 * length order) (part_put end out p) q ≡ over (canonical s) out₀
  written_all end e out₀ out p q eo ep eq =
      file_written (head_bytes s (length order)) (map (body_of s) order) end (end + 8 * length order) out₀ out p q
      (length_head_bytes ∙ sym e) (rw (length-map order (body_of s))) eo ep eq
      ∙ rw raw_canonical

-- the size that the code counts is that of the canonical sheet
pub counted_size : (s order : List ℕ) → ValidSheet s → IsBytes s → EachWord s order → map (codes_of s) order ≡ ordered s
    → length (joined (map (body_of s) order)) + 8 * length order + head_end s ≡ length (canonical s)
counted_size s order valid bytes inside sorted =
    omega (arith, raw_size s (clause_pairs_at s) (record { valid = valid; pairs = refl }) bytes order inside sorted)
