-- The index of a sheet, filled clause by clause.
-- Assumes nothing.
use Prim.Native.Nat.{◌%◌, ◌*◌, ◌+◌, ◌-◌, ◌/◌, ◌<◌, ◌^◌, ◌≤◌, suc, ℕ}
use mathlib.Core.Path.{◌∙◌, ◌≡◌, ap, refl, sym}
use mathlib.Core.Bool.{Bool, cond, false, true}
use mathlib.Core.List.{List, ◌++◌, ◌∷◌, append-nil, map, map-append, []}
use mathlib.Core.Logic.{◌≢◌, ◌⊎◌, inl, inr}
use native.Mathlib.Nat.{mul-le-mul}
use native.Mathlib.Numerals.{add-one}
use native.Mathlib.Omega.{arith}
use borrow.Author.Tests.{eq-eqb, eqb-false, eqb-true, ne_eqb}
use lib.Dec.{eqb}
use lib.ListN.{length, length-append, length-map}
use Rattle.judgement.specs.Buffer.{Kept, patch}
use Rattle.judgement.specs.Facts.{Among, ValidSheet}
use Rattle.judgement.specs.Literals.{count, mentions, variable}
use Rattle.judgement.specs.Meaning.{is_positive}
use Rattle.judgement.specs.Number.{number_at}
use Rattle.judgement.specs.Scan.{any_of, sum_of}
use Rattle.turns.specs.Listed.{chosen}
use Rattle.judgement.specs.Sheet.{clause, clauses, variables}
use Rattle.judgement.specs.Writer.{bytes_of}
use Rattle.turns.proofs.Chosen.{count_at_most, length_chosen}
use Rattle.judgement.proofs.Laws.Patch.{kept_same}
use Rattle.judgement.proofs.Laws.Scan.{any_at, any_some, false_i, sum_bound, which}
use Rattle.turns.specs.Index.{FilledTo, Lists, PlacedTo, Raises, SizedTo, Sizes, Takes, entry, filed, index_end, mentioned_to, raised, start_of, uses}
use Rattle.turns.proofs.Counting.{or_false, or_true, positive_at}
use Rattle.turns.proofs.Filling.{filed_kept, filed_lists, lists_same, start_after, start_next, takes}
use Rattle.turns.proofs.Lists.{chosen_last, chosen_room}
use Rattle.turns.proofs.Sizing.{placed_done, placed_kept, placed_next, placed_size, placed_start, placed_turn, raised_kept, raised_sizes, raises, sizes_same}

pub uses_most : (s : List ℕ) (v : ℕ) → uses s v ≤ clauses s
uses_most s v =
    let a = length_chosen (λ k. mentions (clause s k) v) (clauses s) in
    let b = count_at_most (λ k. mentions (clause s k) v) (clauses s) in
    omega (arith, a, b)

-- the index is short
pub end_small : (s : List ℕ) → ValidSheet s → index_end s < 2 ^ 32
unfolding start_of
end_small s valid =
    let e : variables s + 1 - 1 ≡ variables s = omega arith in
    let n = valid.n in
    let m = valid.m in
    let b = sum_bound (uses s) (clauses s) (variables s) (uses_most s) in
    let c = product (clauses s) (variables s) m n.1 in
    rw e (omega (arith, b, c, n.1))
  where
    product : (a b : ℕ) → a ≤ 4096 → b ≤ 1024 → a * b ≤ 4096 * 1024
    product a b h l = mul-le-mul h l

sign_of : (c : ℕ) → cond (is_positive c) 0 1 ≡ c % 2
sign_of c = go (which (is_positive c))
  where
    go : (is_positive c ≡ true) ⊎ (is_positive c ≡ false) → cond (is_positive c) 0 1 ≡ c % 2
    go (inl e) = let z = eqb-true (c % 2) 0 e in rw e (omega (arith, z))
    go (inr e) = let z = eqb-false (c % 2) 0 e in rw e (omega (arith, z))

-- one of the first i literals is of v
abbrev pub amid : List ℕ → ℕ → ℕ → Bool
amid part i v = any_of (λ j. eqb (variable part j) v) i

-- the entries of the first m clauses in list v
abbrev entries : List ℕ → ℕ → ℕ → List ℕ
entries s m v = map (entry s v) (mentioned_to s m v)

-- the lists after k - 1 clauses and i literals of clause k
abbrev pub reached : List ℕ → ℕ → ℕ → ℕ → List ℕ
reached s k i v = entries s (k - 1) v ++ cond (amid (clause s k) i v) (entry s v k ∷ []) []

pub record FillingAt (s : List ℕ) (k i : ℕ) (l₀ l : List ℕ) : Type 0 where
  pub within : i ≤ count (clause s k)
  pub lists : Lists (variables s) (uses s) (reached s k i) l
  pub kept : Kept (index_end s) l₀ l

-- the lengths after k - 1 clauses and i literals of clause k
pub record CountingAt (s : List ℕ) (k i : ℕ) (l₀ l : List ℕ) : Type 0 where
  pub within : i ≤ count (clause s k)
  pub sizes : Sizes (variables s) (λ v. length (reached s k i v)) l
  pub kept : Kept (8 * variables s) l₀ l

pub counting_start : (s : List ℕ) (k : ℕ) (l : List ℕ) → SizedTo s (k - 1) l → CountingAt s k 0 l l
unfolding any_of
counting_start s k l h =
    record {
      within = omega arith;
      sizes = sizes_same (variables s) (λ v. length (mentioned_to s (k - 1) v)) (λ v. length (reached s k 0 v)) l h
          (λ v w. ap length (append-nil (entries s (k - 1) v)) ∙ length-map (mentioned_to s (k - 1) v) (entry s v));
      kept = kept_same (8 * variables s) l;
    }

pub filling_start : (s : List ℕ) (k : ℕ) (l : List ℕ) → FilledTo s (k - 1) l → FillingAt s k 0 l l
unfolding any_of
filling_start s k l h =
    record {
      within = omega arith;
      lists = lists_same (variables s) (uses s) (entries s (k - 1)) (reached s k 0) l h (λ v w. append-nil (entries s (k - 1) v));
      kept = kept_same (index_end s) l;
    }

-- literal i + 1 of clause k
module _ (s : List ℕ) (valid : ValidSheet s) (k : ℕ) (among : Among (clauses s) k) (i : ℕ) (more : i < count (clause s k))
    (c v : ℕ) (code_is : c ≡ number_at (clause s k) (2 * i) 2) (of : v ≡ c / 2) where
  is : v ≡ number_at (clause s k) (2 * i) 2 / 2
  is = of ∙ ap (λ (x : ℕ). x / 2) code_is

  v_is : variable (clause s k) (i + 1) ≡ v
  v_is = let e : i + 1 - 1 ≡ i = omega arith in rw e (sym is)

  v_among : Among (variables s) v
  v_among = rw v_is at ((valid.lists k among).variables.range (i + 1) (omega arith, omega arith))

  -- no earlier literal is of v
  not_yet : amid (clause s k) i v ≡ false
  not_yet =
      false_i (amid (clause s k) i v)
      (λ e.
      (let (j, w, q) = any_some (λ j. eqb (variable (clause s k) j) v) i e in
      let r = eqb-true (variable (clause s k) j) v q in
      let d = (valid.lists k among).variables.rising j (i + 1) w.0 (omega (arith, w.1)) (omega arith) in
      omega (arith, r, d, v_is)))

  mentioned : mentions (clause s k) v ≡ true
  unfolding mentions
  mentioned =
      any_at (λ j. eqb (variable (clause s k) j) v) (count (clause s k)) (i + 1) (omega arith, omega arith)
      (eq-eqb (variable (clause s k) (i + 1)) v v_is)

  reached_is : reached s k i v ≡ entries s (k - 1) v
  reached_is = rw not_yet (append-nil (entries s (k - 1) v))

  free : length (reached s k i v) < uses s v
  free =
      rw (reached_is, length-map (mentioned_to s (k - 1) v) (entry s v))
      (chosen_room (λ k. mentions (clause s k) v) (clauses s) k among.0 among.1 mentioned)

  -- the literal's own bit is the sign
  pub entry_is : 2 * k + c % 2 ≡ entry s v k
  entry_is =
      let e : i + 1 - 1 ≡ i = omega arith in
      let p = rw (e, ← code_is) at (positive_at (variables s) (clause s k) (valid.lists k among) (i + 1) (omega arith, omega arith) v v_is) in
      let z = sign_of c in
      rw (p, z)

  own : reached s k (i + 1) v ≡ reached s k i v ++ (entry s v k ∷ [])
  unfolding any_of
  own =
      let e : eqb (variable (clause s k) (suc i)) v ≡ true = eq-eqb (variable (clause s k) (suc i)) v (rw add-one at v_is) in
      rw (reached_is, add-one, e, or_true)

  other : (u : ℕ) → Among (variables s) u → u ≢ v → reached s k (i + 1) u ≡ reached s k i u
  unfolding any_of
  other u w d =
      let e : eqb (variable (clause s k) (suc i)) u ≡ false =
      ne_eqb (variable (clause s k) (suc i)) u (λ q. d (sym q ∙ rw add-one at v_is)) in
      rw (add-one, e, or_false)

  pub filling_takes : (l₀ l : List ℕ) → FillingAt s k i l₀ l → Takes v l
  filling_takes l₀ l h = takes (variables s) (uses s) (reached s k i) l h.lists (end_small s valid) v (entry s v k) v_among free

  pub filling_turn : (l₀ l : List ℕ) → FillingAt s k i l₀ l → FillingAt s k (i + 1) l₀ (filed v (entry s v k) l)
  filling_turn l₀ l h =
      record {
        within = omega arith;
        lists =
            filed_lists (variables s) (uses s) (reached s k i) l h.lists (end_small s valid) v (entry s v k) v_among free
            (reached s k (i + 1)) own other;
        kept =
            filed_kept (variables s) (uses s) (reached s k i) l h.lists (end_small s valid) v (entry s v k) v_among free l₀ h.kept;
      }

  -- the same while the lengths alone are counted
  short : 4 * length (reached s k i v) + 4 < 2 ^ 32
  short =
      let e = free in
      let b = uses_most s v in
      let m = valid.m in
      omega arith

  pub counting_takes : (l₀ l : List ℕ) → CountingAt s k i l₀ l → Raises v l
  counting_takes l₀ l h = raises (variables s) (λ u. length (reached s k i u)) l h.sizes v v_among short

  pub counting_turn : (l₀ l : List ℕ) → CountingAt s k i l₀ l → CountingAt s k (i + 1) l₀ (raised v l)
  counting_turn l₀ l h =
      record {
        within = omega arith;
        sizes =
            raised_sizes (variables s) (λ u. length (reached s k i u)) l h.sizes v v_among short
            (λ u. length (reached s k (i + 1) u))
            (ap length own ∙ length-append (reached s k i v) (entry s v k ∷ []))
            (λ u w d. ap length (other u w d));
        kept = raised_kept (variables s) (λ u. length (reached s k i u)) l h.sizes v v_among short l₀ h.kept;
      }

reached_all : (s : List ℕ) (k i v : ℕ) → 1 ≤ k → count (clause s k) ≡ i → entries s k v ≡ reached s k i v
unfolding mentions
reached_all s k i v w q =
    rw (chosen_last (λ k. mentions (clause s k) v) k w, map-append (entry s v) (mentioned_to s (k - 1) v) (cond (mentions (clause s k) v) (k ∷ []) []), q)
    (ap (λ (x : List ℕ). entries s (k - 1) v ++ x) (go (amid (clause s k) i v)))
  where
    go : (b : Bool) → map (entry s v) (cond b (k ∷ []) []) ≡ cond b (entry s v k ∷ []) []
    go true = refl
    go false = refl

pub filling_done : (s : List ℕ) (k i : ℕ) (l₀ l : List ℕ) → 1 ≤ k → FillingAt s k i l₀ l → count (clause s k) ≤ i
    → FilledTo s k l × Kept (index_end s) l₀ l
filling_done s k i l₀ l w h d =
    let a = h.within in (
      lists_same (variables s) (uses s) (reached s k i) (entries s k) l h.lists (λ v x. reached_all s k i v w (omega arith)),
      h.kept,
    )

pub counting_done : (s : List ℕ) (k i : ℕ) (l₀ l : List ℕ) → 1 ≤ k → CountingAt s k i l₀ l → count (clause s k) ≤ i
    → SizedTo s k l × Kept (8 * variables s) l₀ l
counting_done s k i l₀ l w h d =
    let a = h.within in (
      sizes_same (variables s) (λ v. length (reached s k i v)) (λ v. length (mentioned_to s k v)) l h.sizes
          (λ v x. sym (length-map (mentioned_to s k v) (entry s v)) ∙ ap length (reached_all s k i v w (omega arith))),
      h.kept,
    )

-- ---- the pairs of a sheet placed

pub record PlacingAt (s : List ℕ) (v next : ℕ) (l₀ l : List ℕ) : Type 0 where
  pub placed : PlacedTo (variables s) (uses s) v l
  pub next_is : next ≡ start_of (variables s) (uses s) (v + 1)
  pub kept : Kept (8 * variables s) l₀ l

pub placing_start : (s l : List ℕ) (n : ℕ) → n ≡ variables s → SizedTo s (clauses s) l → PlacingAt s 0 (8 * n) l l
unfolding start_of sum_of
placing_start s l n e h =
    record { placed = placed_start (variables s) (uses s) l h; next_is = rw e (omega arith); kept = kept_same (8 * variables s) l }

module _ (s : List ℕ) (valid : ValidSheet s) (v next : ℕ) (l₀ l : List ℕ) (h : PlacingAt s v next l₀ l) (more : v < variables s) where
  -- the next list begins and ends within the index
  pub placing_small : next + 4 * uses s (v + 1) ≤ index_end s
  placing_small =
      let a = start_next (variables s) (uses s) (v + 1) (variables s + 1) (omega arith) (omega arith) in
      let e = h.next_is in
      omega arith

  pub placing_turn : (x : ℕ) (q r : List ℕ) → 8 * variables s ≤ length l₀ → x ≡ number_at l (8 * v + 4) 4 → q ≡ patch (8 * v) (bytes_of 4 next) l
      → r ≡ patch (8 * v + 4) (bytes_of 4 0) q → PlacingAt s (v + 1) (next + x) l₀ r × (next + x ≤ index_end s)
  placing_turn x q r room ex eq er =
      let z = h.kept.long in
      let room' : 8 * variables s ≤ length l = omega arith in
      let a = placing_small in
      let b = end_small s valid in
      let small : 4 * uses s (v + 1) < 2 ^ 32 = omega arith in
      let g = placed_size (variables s) (uses s) v l room' more h.placed x next q r ex h.next_is eq er small in (
        record {
          placed = placed_turn (variables s) (uses s) v l room' more h.placed x next q r ex h.next_is eq er small;
          next_is = placed_next (variables s) (uses s) v l room' more h.placed x next q r ex h.next_is eq er small;
          kept = placed_kept (variables s) (uses s) v l room' more h.placed x next q r ex h.next_is eq er small l₀ h.kept;
        },
        omega (arith, g),
      )

pub placing_done : (s : List ℕ) (v next : ℕ) (l₀ l : List ℕ) → index_end s ≤ length l₀ → variables s ≤ v → PlacingAt s v next l₀ l
    → FilledTo s 0 l × Kept (8 * variables s) l₀ l
unfolding chosen
placing_done s v next l₀ l room d h =
    let z = h.kept.long in
    (placed_done (variables s) (uses s) v l (entries s 0) d h.placed (λ u. refl) (omega arith), h.kept)

pub sized_zero : (s l : List ℕ) → Sizes (variables s) (λ v. 0) l → SizedTo s 0 l
unfolding chosen
sized_zero s l h = sizes_same (variables s) (λ v. 0) (λ v. length (mentioned_to s 0 v)) l h (λ v w. refl)

-- the pairs stand before the end
pub pairs_within : (s : List ℕ) → 8 * variables s ≤ index_end s
pairs_within s = start_after (variables s) (uses s) (variables s + 1)

pub sizes_as : (n j : ℕ) (f : ℕ → ℕ) (l : List ℕ) → n ≡ j → Sizes n f l → Sizes j f l
sizes_as n j f l e h = rw (sym e) h
