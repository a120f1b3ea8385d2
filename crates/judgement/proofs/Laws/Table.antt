-- A table of pairs and its bodies: those that keep the pair rule fill their file; and such a table written one entry after the
-- other, where g gives the body for each entry of a list `order`.
-- Assumes nothing.
use Prim.Native.Nat.{ℕ, zero, suc, ◌+◌, ◌*◌, ◌≤◌, ◌<◌}
use mathlib.Core.Path.{◌≡◌, refl, sym, ap, ◌∙◌}
use mathlib.Core.List.{List, [], ◌∷◌, ◌++◌, map, map-append, append_assoc, append-nil}
use native.Mathlib.Omega.{arith}
use native.Mathlib.Numerals.{add-one}
use native.Mathlib.Nat.{add-zero}
use lib.ListN.{length, get_or, take, drop, length-append, length-map, take-append-drop}
use lib.Seq.{take-suc, length-take-le}
use Rattle.std.proofs.lemmas.List.{get_or-map}
use Rattle.judgement.specs.Scan.{sum_of}
use Rattle.judgement.specs.Pairs.{pair_offset, pair_length}
use Rattle.judgement.specs.Facts.{PairRule}
use Rattle.judgement.specs.Writer.{bytes_of, pairs_of, joined, file_of}
use Rattle.judgement.specs.Buffer.{over, put}
use Rattle.judgement.proofs.Laws.Buffer.{length_over, put_room, part_from, part_put, length_from, put_next}
use Rattle.judgement.proofs.Complete.Bytes.{length_bytes}
use Rattle.judgement.proofs.Complete.Tables.{length_pairs}

-- ---- where the pairs keep their rule, the bodies fill the file

module _ (f : List ℕ) (at count : ℕ) (rule : PairRule f at count) where
  -- a body ends where the lengths up to it say
  ends_sum : (k : ℕ) → suc k ≤ count
      → pair_offset f at (suc k) + pair_length f at (suc k) ≡ at + 8 * count + sum_of (pair_length f at) (suc k)
  unfolding sum_of
  ends_sum zero h = omega (arith, rule.first h)
  ends_sum (suc k) h =
      let e = rw add-one at (rule.later (suc k) (omega arith) h) in
      omega (arith, e, ends_sum k (omega arith))

pub lengths_fill : (f : List ℕ) (at count : ℕ) → PairRule f at count → at + 8 * count + sum_of (pair_length f at) count ≡ length f
unfolding sum_of
lengths_fill f at zero rule = omega (arith, rule.empty refl)
lengths_fill f at (suc k) rule = sym (ends_sum f at (suc k) rule k (omega arith)) ∙ rule.last (omega arith)

-- ---- one more body

pub joined_append : (l m : List (List ℕ)) → joined (l ++ m) ≡ joined l ++ joined m
unfolding joined
joined_append [] m = refl
joined_append (b ∷ l) m = rw (joined_append l m, append_assoc)

pub joined_end : (l : List (List ℕ)) (b : List ℕ) → joined (l ++ (b ∷ [])) ≡ joined l ++ b
unfolding joined
joined_end l b = joined_append l (b ∷ []) ∙ rw append-nil

pub pairs_end : (start : ℕ) (l : List (List ℕ)) (b : List ℕ)
    → pairs_of start (l ++ (b ∷ [])) ≡ pairs_of start l ++ (bytes_of 4 (start + length (joined l)) ++ bytes_of 4 (length b))
unfolding pairs_of joined
pairs_end start [] b = rw (append-nil, add-zero)
pairs_end start (c ∷ l) b =
    let e : start + length c + length (joined l) ≡ start + (length c + length (joined l)) = omega arith in
    rw (pairs_end (start + length c) l b, length-append c (joined l), e) (simp append_assoc)

-- the body of the entry at a place
pub map_at : (g : ℕ → List ℕ) (l : List ℕ) (i : ℕ) → i < length l → get_or (map g l) i [] ≡ g (get_or l i 0)
map_at g l i h = get_or-map g l i 0 [] h

-- the bodies of the first i entries
abbrev pub firsts : (ℕ → List ℕ) → List ℕ → ℕ → List (List ℕ)
firsts g order i = map g (take i order)

firsts_next : (g : ℕ → List ℕ) (order : List ℕ) (i : ℕ) → i < length order
    → firsts g order (i + 1) ≡ firsts g order i ++ (g (get_or order i 0) ∷ [])
firsts_next g order i h = rw (add-one, take-suc order i 0 h) (map-append g (take i order) (get_or order i 0 ∷ []))

firsts_count : (g : ℕ → List ℕ) (order : List ℕ) (i : ℕ) → i ≤ length order → length (firsts g order i) ≡ i
firsts_count g order i h = length-map (take i order) g ∙ length-take-le i order h

-- the size of the first i
abbrev pub size_to : (ℕ → List ℕ) → List ℕ → ℕ → ℕ
size_to g order i = length (joined (firsts g order i))

pub size_next : (g : ℕ → List ℕ) (order : List ℕ) (i : ℕ) → i < length order
    → size_to g order (i + 1) ≡ size_to g order i + length (g (get_or order i 0))
size_next g order i h = rw (firsts_next g order i h, joined_end) (length-append (joined (firsts g order i)) (g (get_or order i 0)))

size_within : (g : ℕ → List ℕ) (order : List ℕ) (i : ℕ) → size_to g order i ≤ length (joined (map g order))
size_within g order i =
    let e : map g order ≡ firsts g order i ++ map g (drop i order) =
    ap (map g) (sym (take-append-drop i order)) ∙ map-append g (take i order) (drop i order) in
    rw (e, joined_append, length-append) (omega arith)

-- there is room for one more
pub size_room : (g : ℕ → List ℕ) (order : List ℕ) (i : ℕ) → i < length order
    → size_to g order i + length (g (get_or order i 0)) ≤ length (joined (map g order))
size_room g order i h =
    let a = size_next g order i h in
    let b = size_within g order (i + 1) in
    omega arith

-- ---- the state of a loop that writes for each entry: `next` is `start` and the size of the bodies so far, and w is written

pub record Progress (g : ℕ → List ℕ) (order : List ℕ) (start i next : ℕ) (w out₀ out : List ℕ) : Type 0 where
  pub within : i ≤ length order
  pub next_is : next ≡ start + size_to g order i
  pub done : out ≡ over w out₀
  pub size : length out ≡ length out₀

-- ---- pairs

abbrev pub pairs_to : (ℕ → List ℕ) → List ℕ → ℕ → ℕ → List ℕ
pairs_to g order start i = pairs_of start (firsts g order i)

length_pairs_to : (g : ℕ → List ℕ) (order : List ℕ) (start i : ℕ) → i ≤ length order → length (pairs_to g order start i) ≡ 8 * i
length_pairs_to g order start i h = length_pairs start (firsts g order i) ∙ rw (firsts_count g order i h)

pub pairs_start : (g : ℕ → List ℕ) (order : List ℕ) (start : ℕ) (out : List ℕ) → Progress g order start 0 start (pairs_to g order start 0) out out
unfolding pairs_of joined
pairs_start g order start out = record { within = omega arith; next_is = omega arith; done = refl; size = refl }

pub pairs_turn : (g : ℕ → List ℕ) (order : List ℕ) (start i next : ℕ) (out₀ out p b : List ℕ)
    → Progress g order start i next (pairs_to g order start i) out₀ out → i < length order → 8 * length order ≤ length out₀
    → b ≡ g (get_or order i 0) → p ≡ put (bytes_of 4 next ++ bytes_of 4 (length b)) (part_from (8 * i) out)
    → Progress g order start (i + 1) (next + length b) (pairs_to g order start (i + 1)) out₀ (part_put (8 * i) out p)
pairs_turn g order start i next out₀ out p b s h room eb ep =
    let n = s.next_is in
    let z = size_next g order i h in
    let l = length_pairs_to g order start (i + 1) (omega arith) in
    let x : pairs_to g order start i ++ (bytes_of 4 next ++ bytes_of 4 (length b)) ≡ pairs_to g order start (i + 1) =
    rw (n, eb) (sym (ap (pairs_of start) (firsts_next g order i h) ∙ pairs_end start (firsts g order i) (g (get_or order i 0)))) in
    let o = s.size in
    let f = length_from (8 * i) out in
    let w : length (bytes_of 4 next ++ bytes_of 4 (length b)) ≡ 8 =
    length-append (bytes_of 4 next) (bytes_of 4 (length b)) ∙ rw (length_bytes 4 next, length_bytes 4 (length b)) in
    let d : part_put (8 * i) out p ≡ over (pairs_to g order start (i + 1)) out₀ =
    put_next (8 * i) out₀ out (pairs_to g order start i) (bytes_of 4 next ++ bytes_of 4 (length b)) p s.done
    (length_pairs_to g order start i s.within) (ep ∙ put_room (bytes_of 4 next ++ bytes_of 4 (length b)) (part_from (8 * i) out) (omega (arith, f, w, o)))
    ∙ ap (λ (x : List ℕ). over x out₀) x in
    record {
      within = omega arith;
      next_is = rw eb (omega (arith, n, z));
      done = d;
      size = ap length d ∙ length_over (pairs_to g order start (i + 1)) out₀ (omega (arith, l));
    }

-- ---- bodies

abbrev pub bodies_to : (ℕ → List ℕ) → List ℕ → ℕ → List ℕ
bodies_to g order i = joined (firsts g order i)

pub bodies_start : (g : ℕ → List ℕ) (order out : List ℕ) → Progress g order 0 0 0 (bodies_to g order 0) out out
unfolding joined
bodies_start g order out = record { within = omega arith; next_is = refl; done = refl; size = refl }

pub bodies_turn : (g : ℕ → List ℕ) (order : List ℕ) (i at : ℕ) (out₀ out p b : List ℕ)
    → Progress g order 0 i at (bodies_to g order i) out₀ out → i < length order → length (joined (map g order)) ≤ length out₀
    → b ≡ g (get_or order i 0) → p ≡ put b (part_from at out)
    → Progress g order 0 (i + 1) (at + length b) (bodies_to g order (i + 1)) out₀ (part_put at out p)
bodies_turn g order i at out₀ out p b s h room eb ep =
    let n = s.next_is in
    let z = size_next g order i h in
    let l = size_room g order i h in
    let x : bodies_to g order i ++ b ≡ bodies_to g order (i + 1) =
    rw eb (sym (ap joined (firsts_next g order i h) ∙ joined_end (firsts g order i) (g (get_or order i 0)))) in
    let o = s.size in
    let f = length_from at out in
    let fits : length b ≤ length (part_from at out) = rw eb (omega (arith, f, o, l, n)) in
    let d : part_put at out p ≡ over (bodies_to g order (i + 1)) out₀ =
    put_next at out₀ out (bodies_to g order i) b p s.done (omega arith) (ep ∙ put_room b (part_from at out) fits)
    ∙ ap (λ (x : List ℕ). over x out₀) x in
    record {
      within = omega arith;
      next_is = rw eb (omega (arith, n, z));
      done = d;
      size = ap length d ∙ length_over (bodies_to g order (i + 1)) out₀ (omega (arith, l, z));
    }

-- ---- a file: what stands before the pairs, the pairs, the bodies, one behind the other

pub file_written : (head : List ℕ) (bodies : List (List ℕ)) (table start : ℕ) (out₀ out p q : List ℕ)
    → length head ≡ table → start ≡ table + 8 * length bodies → out ≡ over head out₀
    → p ≡ over (pairs_of start bodies) (part_from table out) → q ≡ over (joined bodies) (part_from start (part_put table out p))
    → part_put start (part_put table out p) q ≡ over (file_of head bodies) out₀
unfolding file_of
file_written head bodies table start out₀ out p q et es eo ep eq =
    let l : length (head ++ pairs_of start bodies) ≡ start = rw (length-append, length_pairs start bodies) (omega (arith, et, es)) in
    let z : start ≡ length head + 8 * length bodies = omega arith in
    rw (← z)
    (put_next start out₀ (part_put table out p) (head ++ pairs_of start bodies) (joined bodies) q
    (put_next table out₀ out head (pairs_of start bodies) p eo et ep) l eq)
