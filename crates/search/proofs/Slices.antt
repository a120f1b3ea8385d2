-- Numbers of four bits, 64 side by side in four words: one less and one more, modulo 16, and a copy.
-- Assumes nothing.
use Prim.Native.Nat.{ℕ, zero, suc, ◌+◌, ◌-◌, ◌*◌, ◌/◌, ◌%◌, ◌^◌, ◌≤◌, ◌<◌}
use mathlib.Core.Path.{◌≡◌, refl, sym, ap, ap₂, subst, ◌∙◌}
use mathlib.Core.Bool.{Bool, true, false, not, ◌&&◌, ◌||◌}
use mathlib.Core.List.{List}
use mathlib.Core.Logic.{inl, inr}
use native.Mathlib.Nat.{mod-lt}
use native.Mathlib.Omega.{arith}
use native.Mathlib.Numerals.{add-one}
use native.Mathlib.Decide.{ℕ_discrete}
use lib.Dec.{eqb, leb}
use lib.Bits.{bit_and, bit_or, bit_xor, xor_shr, xor_mod}
use lib.ListN.{length, get_or, set, length-set}
use lib.Seq.{get_or-set_same, get_or-set_other}
use borrow.Author.Tests.{le-leb}
use Rattle.judgement.specs.Scan.{sum_of, one, count_of}
use Rattle.judgement.specs.Facts.{Among}
use Rattle.search.specs.Node.{has}
use Rattle.search.specs.Tables.{in_row}
use Rattle.search.specs.Counts.{held, Wrote, CountedDown}
use Rattle.search.proofs.Sets.{digits, has_empty}
use Rattle.search.proofs.Masks.{has_or, has_and}

-- ---- one of two

unfoldable pub odd : Bool → Bool → Bool
odd a false = a
odd a true = not a

pub has_xor : (a b v : ℕ) → has (bit_xor a b) v ≡ odd (has a v) (has b v)
unfolding has odd
has_xor a b zero = refl
has_xor a b (suc i) =
    ap (λ (x : ℕ). eqb (x % 2) 1) (xor_shr a b i)
    ∙ ap (λ (x : ℕ). eqb x 1) (xor_mod (a / 2 ^ i) (b / 2 ^ i) 1)
    ∙ digits (λ a b. eqb (bit_xor a b) 1 ≡ odd (eqb a 1) (eqb b 1)) refl refl refl refl
    (a / 2 ^ i % 2) (b / 2 ^ i % 2) (mod-lt (a / 2 ^ i) (omega arith)) (mod-lt (b / 2 ^ i) (omega arith))

-- ---- the number of four bits

abbrev pub number : Bool → Bool → Bool → Bool → ℕ
number a b c d = one a + 2 * one b + 4 * one c + 8 * one d

-- one less, modulo 16: from a bit that becomes 1 it is taken off the next
less_bits : (r a b c d : Bool)
    → let i = r && odd a r in
    let j = i && odd b i in
    number (odd a r) (odd b i) (odd c j) (odd d (j && odd c j)) ≡ (number a b c d + 16 - one r) % 16
unfolding odd
less_bits false false false false false = refl
less_bits false false false false true = refl
less_bits false false false true false = refl
less_bits false false false true true = refl
less_bits false false true false false = refl
less_bits false false true false true = refl
less_bits false false true true false = refl
less_bits false false true true true = refl
less_bits false true false false false = refl
less_bits false true false false true = refl
less_bits false true false true false = refl
less_bits false true false true true = refl
less_bits false true true false false = refl
less_bits false true true false true = refl
less_bits false true true true false = refl
less_bits false true true true true = refl
less_bits true false false false false = refl
less_bits true false false false true = refl
less_bits true false false true false = refl
less_bits true false false true true = refl
less_bits true false true false false = refl
less_bits true false true false true = refl
less_bits true false true true false = refl
less_bits true false true true true = refl
less_bits true true false false false = refl
less_bits true true false false true = refl
less_bits true true false true false = refl
less_bits true true false true true = refl
less_bits true true true false false = refl
less_bits true true true false true = refl
less_bits true true true true false = refl
less_bits true true true true true = refl

-- 0 or 1
low_bits : (r a b c d : Bool) → odd r (r && (b || c || d)) ≡ r && leb (number a b c d) 1
unfolding odd
low_bits false a b c d = refl
low_bits true false false false false = refl
low_bits true false false false true = refl
low_bits true false false true false = refl
low_bits true false false true true = refl
low_bits true false true false false = refl
low_bits true false true false true = refl
low_bits true false true true false = refl
low_bits true false true true true = refl
low_bits true true false false false = refl
low_bits true true false false true = refl
low_bits true true false true false = refl
low_bits true true false true true = refl
low_bits true true true false false = refl
low_bits true true true false true = refl
low_bits true true true true false = refl
low_bits true true true true true = refl

-- one more, modulo 16
more_bits : (r a b c d : Bool)
    → number (odd a r) (odd b (r && a)) (odd c (r && a && b)) (odd d (r && a && b && c)) ≡ (number a b c d + one r) % 16
unfolding odd
more_bits false false false false false = refl
more_bits false false false false true = refl
more_bits false false false true false = refl
more_bits false false false true true = refl
more_bits false false true false false = refl
more_bits false false true false true = refl
more_bits false false true true false = refl
more_bits false false true true true = refl
more_bits false true false false false = refl
more_bits false true false false true = refl
more_bits false true false true false = refl
more_bits false true false true true = refl
more_bits false true true false false = refl
more_bits false true true false true = refl
more_bits false true true true false = refl
more_bits false true true true true = refl
more_bits true false false false false = refl
more_bits true false false false true = refl
more_bits true false false true false = refl
more_bits true false false true true = refl
more_bits true false true false false = refl
more_bits true false true false true = refl
more_bits true false true true false = refl
more_bits true false true true true = refl
more_bits true true false false false = refl
more_bits true true false false true = refl
more_bits true true false true false = refl
more_bits true true false true true = refl
more_bits true true true false false = refl
more_bits true true true false true = refl
more_bits true true true true false = refl
more_bits true true true true true = refl

-- ---- the words of the code

abbrev pub less0 : ℕ → ℕ → ℕ
less0 r p = bit_xor p r

-- the places at which one is taken off the second bit
abbrev from1 : ℕ → ℕ → ℕ
from1 r p = bit_and r (less0 r p)

abbrev pub less1 : ℕ → ℕ → ℕ → ℕ
less1 r p q = bit_xor q (from1 r p)

-- those at which one is taken off the third
abbrev from2 : ℕ → ℕ → ℕ → ℕ
from2 r p q = bit_and (from1 r p) (less1 r p q)

abbrev pub less2 : ℕ → ℕ → ℕ → ℕ → ℕ
less2 r p q s = bit_xor s (from2 r p q)

abbrev pub less3 : ℕ → ℕ → ℕ → ℕ → ℕ → ℕ
less3 r p q s t = bit_xor t (bit_and (from2 r p q) (less2 r p q s))

abbrev pub low : ℕ → ℕ → ℕ → ℕ → ℕ → ℕ
low r p q s t = bit_xor r (bit_and r (bit_or (bit_or (less1 r p q) (less2 r p q s)) (less3 r p q s t)))

abbrev pub more0 : ℕ → ℕ → ℕ
more0 r p = bit_xor p r

abbrev pub more1 : ℕ → ℕ → ℕ → ℕ
more1 r p q = bit_xor q (bit_and r p)

abbrev pub more2 : ℕ → ℕ → ℕ → ℕ → ℕ
more2 r p q s = bit_xor s (bit_and (bit_and r p) q)

abbrev pub more3 : ℕ → ℕ → ℕ → ℕ → ℕ → ℕ
more3 r p q s t = bit_xor t (bit_and (bit_and (bit_and r p) q) s)

-- the number at place v of four words
abbrev pub slice : ℕ → ℕ → ℕ → ℕ → ℕ → ℕ
slice p q s t v = number (has p v) (has q v) (has s v) (has t v)

same_four : {A : Type 0} (f : Bool → Bool → Bool → Bool → A) {a b c d e g h i : Bool} → a ≡ e → b ≡ g → c ≡ h → d ≡ i → f a b c d ≡ f e g h i
same_four f {a} {b} {c} {d} {e} {g} {h} {i} w x y z =
    ap (λ u. f u b c d) w ∙ ap (λ u. f e u c d) x ∙ ap (λ u. f e g u d) y ∙ ap (λ u. f e g h u) z

and_has : (a b v : ℕ) {x y : Bool} → has a v ≡ x → has b v ≡ y → has (bit_and a b) v ≡ x && y
and_has a b v e f = has_and a b v ∙ ap₂ ◌&&◌ e f

or_has : (a b v : ℕ) {x y : Bool} → has a v ≡ x → has b v ≡ y → has (bit_or a b) v ≡ x || y
or_has a b v e f = has_or a b v ∙ ap₂ ◌||◌ e f

xor_has : (a b v : ℕ) {y : Bool} → has b v ≡ y → has (bit_xor a b) v ≡ odd (has a v) y
xor_has a b v f = has_xor a b v ∙ ap (odd (has a v)) f

pub less_word : (r p q s t v : ℕ)
    → slice (less0 r p) (less1 r p q) (less2 r p q s) (less3 r p q s t) v ≡ (slice p q s t v + 16 - one (has r v)) % 16
less_word r p q s t v =
    let n0 = has_xor p r v in
    let h1 = and_has r (less0 r p) v refl n0 in
    let n1 = xor_has q (from1 r p) v h1 in
    let h2 = and_has (from1 r p) (less1 r p q) v h1 n1 in
    let n2 = xor_has s (from2 r p q) v h2 in
    let h3 = and_has (from2 r p q) (less2 r p q s) v h2 n2 in
    same_four number n0 n1 n2 (xor_has t (bit_and (from2 r p q) (less2 r p q s)) v h3)
    ∙ less_bits (has r v) (has p v) (has q v) (has s v) (has t v)

pub low_word : (r p q s t v : ℕ)
    → has (low r p q s t) v ≡ has r v && leb (slice (less0 r p) (less1 r p q) (less2 r p q s) (less3 r p q s t) v) 1
low_word r p q s t v =
    xor_has r _ v (and_has r (bit_or (bit_or (less1 r p q) (less2 r p q s)) (less3 r p q s t)) v refl
    (or_has (bit_or (less1 r p q) (less2 r p q s)) (less3 r p q s t) v (has_or (less1 r p q) (less2 r p q s) v) refl))
    ∙ low_bits (has r v) (has (less0 r p) v) (has (less1 r p q) v) (has (less2 r p q s) v) (has (less3 r p q s t) v)

pub more_word : (r p q s t v : ℕ)
    → slice (more0 r p) (more1 r p q) (more2 r p q s) (more3 r p q s t) v ≡ (slice p q s t v + one (has r v)) % 16
more_word r p q s t v =
    let h1 = and_has r p v refl refl in
    let h2 = and_has (bit_and r p) q v h1 refl in
    let h3 = and_has (bit_and (bit_and r p) q) s v h2 refl in
    same_four number (has_xor p r v) (xor_has q _ v h1) (xor_has s _ v h2) (xor_has t _ v h3)
    ∙ more_bits (has r v) (has p v) (has q v) (has s v) (has t v)

-- ---- a level of the table, one word of each plane after the other

abbrev pub cell : List ℕ → ℕ → ℕ → ℕ → ℕ
cell table at p j = get_or table (at + 64 * p + j) 0

-- what lies outside words 0 to i - 1 of the level is as it was
abbrev pub Kept : ℕ → List ℕ → List ℕ → ℕ → Type 0
Kept at before now i = (x : ℕ) → ((p j : ℕ) → p ≤ 4 → j < i → x ≡ at + 64 * p + j → ⊥) → get_or now x 0 ≡ get_or before x 0

pub wrote_four : (l : List ℕ) (at i w x y z a b c d : ℕ) → at + 320 ≤ length l → i < 64
    → w ≡ at + i → x ≡ at + 64 + i → y ≡ at + 128 + i → z ≡ at + 192 + i
    → Wrote at i l (set (set (set (set l w a) x b) y c) z d) a b c d (cell l at 4 i)
wrote_four l at i w x y z a b c d size m e f g h = record {
  first = moved 0 w (omega (arith, e)) (kept3 w (omega (arith, e, h)) ∙ kept2 w (omega (arith, e, g)) ∙ kept1 w (omega (arith, e, f)) ∙ get_or-set_same l w a 0 (omega (arith, e, size, m)));
  second = moved 1 x (omega (arith, f)) (kept3 x (omega (arith, f, h)) ∙ kept2 x (omega (arith, f, g)) ∙ get_or-set_same l1 x b 0 (rw (length-set l w a) (omega (arith, f, size, m))));
  third = moved 2 y (omega (arith, g)) (kept3 y (omega (arith, g, h)) ∙ get_or-set_same l2 y c 0 (rw (length-set l1 x b, length-set l w a) (omega (arith, g, size, m))));
  fourth = moved 3 z (omega (arith, h)) (get_or-set_same l3 z d 0 (rw (length-set l2 y c, length-set l1 x b, length-set l w a) (omega (arith, h, size, m))));
  fifth = away (at + 64 * 4 + i) (λ q. omega (arith, q, e, m)) (λ q. omega (arith, q, f, m)) (λ q. omega (arith, q, g, m)) (λ q. omega (arith, q, h, m));
  rest = λ u n. away u
      (λ q. n 0 (omega arith) (omega (arith, q, e))) (λ q. n 1 (omega arith) (omega (arith, q, f)))
      (λ q. n 2 (omega arith) (omega (arith, q, g))) (λ q. n 3 (omega arith) (omega (arith, q, h)));
}
  where
    l1 : List ℕ
    l1 = set l w a

    l2 : List ℕ
    l2 = set l1 x b

    l3 : List ℕ
    l3 = set l2 y c

    l4 : List ℕ
    l4 = set l3 z d

    kept1 : (u : ℕ) → u < x → get_or l2 u 0 ≡ get_or l1 u 0
    kept1 u n = get_or-set_other l1 x u b 0 (λ q. omega (arith, q, n))

    kept2 : (u : ℕ) → u < y → get_or l3 u 0 ≡ get_or l2 u 0
    kept2 u n = get_or-set_other l2 y u c 0 (λ q. omega (arith, q, n))

    kept3 : (u : ℕ) → u < z → get_or l4 u 0 ≡ get_or l3 u 0
    kept3 u n = get_or-set_other l3 z u d 0 (λ q. omega (arith, q, n))

    away : (u : ℕ) → (u ≡ w → ⊥) → (u ≡ x → ⊥) → (u ≡ y → ⊥) → (u ≡ z → ⊥) → get_or l4 u 0 ≡ get_or l u 0
    away u n o p q = get_or-set_other l3 z u d 0 q ∙ get_or-set_other l2 y u c 0 p ∙ get_or-set_other l1 x u b 0 o ∙ get_or-set_other l w u a 0 n

    moved : (p u : ℕ) {v : ℕ} → u ≡ at + 64 * p + i → get_or l4 u 0 ≡ v → cell l4 at p i ≡ v
    moved p u {v} q r = ap (λ (k : ℕ). get_or l4 k 0) (sym q) ∙ r

pub wrote_five : (l after : List ℕ) (at i u a b c d e f : ℕ) → at + 320 ≤ length after → i < 64 → u ≡ at + 256 + i
    → Wrote at i l after a b c d e → Wrote at i l (set after u f) a b c d f
wrote_five l after at i u a b c d e f size m q w = record {
  first = kept 0 (omega arith) ∙ w.first;
  second = kept 1 (omega arith) ∙ w.second;
  third = kept 2 (omega arith) ∙ w.third;
  fourth = kept 3 (omega arith) ∙ w.fourth;
  fifth = let g : at + 64 * 4 + i ≡ u = omega (arith, q) in ap (λ (k : ℕ). get_or (set after u f) k 0) g ∙ get_or-set_same after u f 0 (omega (arith, q, size, m));
  rest = λ x n. get_or-set_other after u x f 0 (λ z. n 4 (omega arith) (omega (arith, z, q))) ∙ w.rest x n;
}
  where
    kept : (p : ℕ) → p ≤ 3 → cell (set after u f) at p i ≡ cell after at p i
    kept p l = get_or-set_other after u (at + 64 * p + i) f 0 (λ z. omega (arith, z, q, m, l))

-- words 0 to i - 1 are what P says, and the rest is as it was
abbrev pub Done : (ℕ → ℕ → ℕ → ℕ → ℕ → ℕ → Type 0) → ℕ → List ℕ → List ℕ → ℕ → Type 0
Done P at before now i =
    ((j : ℕ) → j < i → P j (cell now at 0 j) (cell now at 1 j) (cell now at 2 j) (cell now at 3 j) (cell now at 4 j)) × Kept at before now i

pub done_more : (P : ℕ → ℕ → ℕ → ℕ → ℕ → ℕ → Type 0) (at i : ℕ) (before now after : List ℕ) (a b c d e : ℕ) → i < 64
    → Done P at before now i → Wrote at i now after a b c d e → P i a b c d e → Done P at before after (i + 1)
done_more P at i before now after a b c d e m old w new = (each, kept)
  where
    carry : (Q : ℕ → ℕ → ℕ → ℕ → ℕ → Type 0) {a b c d e f g h k l : ℕ} → a ≡ f → b ≡ g → c ≡ h → d ≡ k → e ≡ l → Q f g h k l → Q a b c d e
    carry Q {a} {b} {c} {d} {e} {f} {g} {h} {k} {l} x y z u v q =
        subst (λ n. Q n b c d e) (sym x) (subst (λ n. Q f n c d e) (sym y) (subst (λ n. Q f g n d e) (sym z) (subst (λ n. Q f g h n e) (sym u) (subst (λ n. Q f g h k n) (sym v) q))))

    each : (j : ℕ) → j < i + 1 → P j (cell after at 0 j) (cell after at 1 j) (cell after at 2 j) (cell after at 3 j) (cell after at 4 j)
    each j l = go (ℕ_discrete j i)
      where
        go : Dec (j ≡ i) → P j (cell after at 0 j) (cell after at 1 j) (cell after at 2 j) (cell after at 3 j) (cell after at 4 j)
        go (yes z) = subst (λ n. P n (cell after at 0 n) (cell after at 1 n) (cell after at 2 n) (cell after at 3 n) (cell after at 4 n)) (sym z)
            (carry (P i) w.first w.second w.third w.fourth w.fifth new)
        go (no z) = carry (P j) (same 0) (same 1) (same 2) (same 3) (same 4) (old.0 j (omega (arith, l, z)))
          where
            same : (p : ℕ) → cell after at p j ≡ cell now at p j
            same p = w.rest (at + 64 * p + j) (λ q s r. z (omega (arith, r, l, m)))

    kept : Kept at before after (i + 1)
    kept x n = w.rest x (λ p s r. n p i s (omega arith) r) ∙ old.1 x (λ p j s t r. n p j s (omega (arith, t)) r)

-- ---- the table, one less, one more and copied

-- a word that is not yet written
old_cell : (at i : ℕ) (before now : List ℕ) (p x : ℕ) {y : ℕ} → i < 64 → p ≤ 4 → Kept at before now i → x ≡ at + 64 * p + i → y ≡ get_or now x 0
    → y ≡ cell before at p i
old_cell at i before now p x m l kept e f =
    f ∙ ap (λ (k : ℕ). get_or now k 0) e ∙ kept (at + 64 * p + i) (λ q j s t r. omega (arith, r, m, t))

same_slice : (v : ℕ) {a b c d e f g h : ℕ} → a ≡ e → b ≡ f → c ≡ g → d ≡ h → slice a b c d v ≡ slice e f g h v
same_slice v w x y z = same_four number (ap (λ (n : ℕ). has n v) w) (ap (λ (n : ℕ). has n v) x) (ap (λ (n : ℕ). has n v) y) (ap (λ (n : ℕ). has n v) z)

-- the number at place v of word j
abbrev pub slice_at : List ℕ → ℕ → ℕ → ℕ → ℕ
slice_at l at j v = slice (cell l at 0 j) (cell l at 1 j) (cell l at 2 j) (cell l at 3 j) v

abbrev pub row_word : List ℕ → ℕ → ℕ → ℕ
row_word rows c j = get_or rows (64 * (c - 2) + j) 0

abbrev pub Less : List ℕ → ℕ → ℕ → List ℕ → ℕ → ℕ → ℕ → ℕ → ℕ → ℕ → Type 0
Less rows n at before j a b c d e = (v : ℕ)
    → (slice a b c d v ≡ (slice_at before at j v + 16 - one (has (row_word rows n j) v)) % 16) × (has e v ≡ has (row_word rows n j) v && leb (slice a b c d v) 1)

abbrev pub More : List ℕ → ℕ → List ℕ → ℕ → ℕ → ℕ → ℕ → ℕ → ℕ → Type 0
More rows n before j a b c d e = (v : ℕ) → slice a b c d v ≡ (slice_at before 0 j v + one (has (row_word rows n j) v)) % 16

abbrev pub Same : ℕ → List ℕ → ℕ → ℕ → ℕ → ℕ → ℕ → ℕ → Type 0
Same at before j a b c d e = (v : ℕ) → slice a b c d v ≡ slice_at before at j v

pub less_more : (rows before now middle : List ℕ) (n at i r p q s t : ℕ) → length middle ≡ 20800 → at + 320 ≤ 20800 → i < 64
    → r ≡ row_word rows n i → p ≡ cell now at 0 i → q ≡ cell now at 1 i → s ≡ cell now at 2 i → t ≡ cell now at 3 i
    → Wrote at i now middle (less0 r p) (less1 r p q) (less2 r p q s) (less3 r p q s t) (get_or now (at + 256 + i) 0)
    → Done (Less rows n at before) at before now i
    → Done (Less rows n at before) at before (set middle (at + 256 + i) (low r p q s t)) (i + 1)
less_more rows before now middle n at i r p q s t size room m er ep eq es et wrote old =
    done_more (Less rows n at before) at i before now _ (less0 r p) (less1 r p q) (less2 r p q s) (less3 r p q s t) (low r p q s t) m old
    (wrote_five now middle at i (at + 256 + i) (less0 r p) (less1 r p q) (less2 r p q s) (less3 r p q s t) _ (low r p q s t)
    (rw size room) m refl wrote)
    (λ v.
    let e = same_slice v (old_cell at i before now 0 _ m (omega arith) old.1 refl ep)
    (old_cell at i before now 1 _ m (omega arith) old.1 refl eq)
    (old_cell at i before now 2 _ m (omega arith) old.1 refl es)
    (old_cell at i before now 3 _ m (omega arith) old.1 refl et) in
    let f = ap (λ (x : ℕ). has x v) er in (
      less_word r p q s t v ∙ ap₂ (λ (x : ℕ) (b : Bool). (x + 16 - one b) % 16) e f,
      low_word r p q s t v ∙ ap (λ (b : Bool). b && leb (slice (less0 r p) (less1 r p q) (less2 r p q s) (less3 r p q s t) v) 1) f,
    ))

pub less_all : (rows before now : List ℕ) (n at words i : ℕ) → words ≤ 64 → words ≤ i → i ≤ words → Done (Less rows n at before) at before now i
    → CountedDown rows n (64 * words) at before now
less_all rows before now n at words i m l u old = record {
  less = λ k w. (old.0 ((k - 1) / 64) (omega (arith, w.0, w.1, l)) ((k - 1) % 64 + 1)).0;
  low = λ k w. (old.0 ((k - 1) / 64) (omega (arith, w.0, w.1, l)) ((k - 1) % 64 + 1)).1;
  outside = λ x h. old.1 x (λ p j s t e. elim h [
    | inl g ↦ omega (arith, g, e)
    | inr g ↦ omega (arith, g, e, s, t, u, m)
  ]);
}

pub more_more : (rows before now after : List ℕ) (n i r p q s t : ℕ) → i < 64
    → r ≡ row_word rows n i → p ≡ cell now 0 0 i → q ≡ cell now 0 1 i → s ≡ cell now 0 2 i → t ≡ cell now 0 3 i
    → Wrote 0 i now after (more0 r p) (more1 r p q) (more2 r p q s) (more3 r p q s t) (get_or now (0 + 256 + i) 0)
    → Done (More rows n before) 0 before now i → Done (More rows n before) 0 before after (i + 1)
more_more rows before now after n i r p q s t m er ep eq es et wrote old =
    done_more (More rows n before) 0 i before now _ (more0 r p) (more1 r p q) (more2 r p q s) (more3 r p q s t) _ m old wrote (λ v.
    let e = same_slice v (old_cell 0 i before now 0 _ m (omega arith) old.1 refl ep)
    (old_cell 0 i before now 1 _ m (omega arith) old.1 refl eq)
    (old_cell 0 i before now 2 _ m (omega arith) old.1 refl es)
    (old_cell 0 i before now 3 _ m (omega arith) old.1 refl et) in
    more_word r p q s t v ∙ ap₂ (λ (x : ℕ) (b : Bool). (x + one b) % 16) e (ap (λ (x : ℕ). has x v) er))

pub same_more : (before now after : List ℕ) (at i p q s t e : ℕ) → i < 64
    → p ≡ cell now at 0 i → q ≡ cell now at 1 i → s ≡ cell now at 2 i → t ≡ cell now at 3 i
    → Wrote (at + 320) i now after p q s t e
    → Done (Same at before) (at + 320) before now i → Done (Same at before) (at + 320) before after (i + 1)
same_more before now after at i p q s t e m ep eq es et wrote old =
    done_more (Same at before) (at + 320) i before now _ p q s t e m old wrote
    (λ v. same_slice v (low_cell 0 (omega arith) ep) (low_cell 1 (omega arith) eq) (low_cell 2 (omega arith) es) (low_cell 3 (omega arith) et))
  where
    low_cell : (p : ℕ) {y : ℕ} → p ≤ 3 → y ≡ cell now at p i → y ≡ cell before at p i
    low_cell p l f = f ∙ old.1 (at + 64 * p + i) (λ q j s t r. omega (arith, r, m, l))

-- ---- all rows

-- the numbers count the rows of codes 2 to c
abbrev pub Counted : List ℕ → ℕ → List ℕ → ℕ → Type 0
Counted rows words l c = (k : ℕ) → Among (64 * words) k → held l 0 k ≡ count_of (λ d. leb 2 d && in_row rows d k) c % 16

count_next : (f : ℕ → Bool) (c : ℕ) → count_of f (c + 1) ≡ count_of f c + one (f (c + 1))
unfolding sum_of
count_next f c = rw (add-one c)

pub counted_none : (rows l : List ℕ) (words : ℕ) → ((i : ℕ) → get_or l i 0 ≡ 0) → Counted rows words l 1
unfolding sum_of
counted_none rows l words z k w = same_four number (none 0) (none 1) (none 2) (none 3)
  where
    none : (p : ℕ) → has (cell l 0 p ((k - 1) / 64)) ((k - 1) % 64 + 1) ≡ false
    none p = ap (λ (x : ℕ). has x ((k - 1) % 64 + 1)) (z (0 + 64 * p + (k - 1) / 64)) ∙ has_empty ((k - 1) % 64 + 1)

pub counted_more : (rows now after : List ℕ) (words c : ℕ) → Counted rows words now (c + 1)
    → ((k : ℕ) → Among (64 * words) k → held after 0 k ≡ (held now 0 k + one (in_row rows (c + 2) k)) % 16)
    → Counted rows words after (c + 1 + 1)
counted_more rows now after words c old new k w =
    let a = old k w in
    let b = new k w in
    let e : leb 2 (c + 2) && in_row rows (c + 2) k ≡ in_row rows (c + 2) k = rw (le-leb 2 (c + 2) (omega arith)) in
    let f = ap one e in
    let two : c + 1 + 1 ≡ c + 2 = omega arith in
    let g = rw two at (count_next (λ d. leb 2 d && in_row rows d k) (c + 1)) in
    rw two (omega (arith, a, b, f, g))
