-- The tables of a sheet, filled one cost, one literal and one clause after the other.
-- Assumes nothing.
use Prim.Native.Nat.{ℕ, zero, suc, ◌+◌, ◌-◌, ◌*◌, ◌/◌, ◌%◌, ◌^◌, ◌≤◌, ◌<◌}
use mathlib.Core.Path.{◌≡◌, refl, sym, ap, ap₂, ◌∙◌}
use mathlib.Core.Bool.{Bool, true, false, ◌&&◌, ◌||◌, or-false, and-false}
use mathlib.Core.List.{List}
use native.Mathlib.Omega.{arith}
use native.Mathlib.Numerals.{add-one}
use native.Mathlib.Decide.{ℕ_discrete}
use lib.Dec.{eqb}
use lib.Bits.{bit_or}
use lib.ListN.{length, get_or, set, replicate}
use lib.Seq.{get_or-set_same, get_or-set_other}
use borrow.Author.Tests.{eq-eqb, ne_eqb, eqb-true, lt-leb}
use Rattle.judgement.specs.Scan.{any_of}
use Rattle.judgement.specs.Meaning.{variable_of}
use Rattle.judgement.specs.Number.{number_at}
use Rattle.judgement.specs.Literals.{count, code, holds}
use Rattle.judgement.specs.Sheet.{variables, clauses, clause}
use Rattle.judgement.specs.Facts.{Among, LiteralList, ValidSheet}
use Rattle.judgement.proofs.Laws.Scan.{and_i, and_l, and_r, true_same, false_i}
use Rattle.layout.proofs.Literals.{code_next, variable_next}
use Rattle.search.specs.Node.{has}
use Rattle.search.specs.Tables.{in_row, Rowed}
use Rattle.search.proofs.Sets.{has_empty}
use Rattle.search.proofs.Masks.{has_or, has_single, one_shifted}

-- ---- empty tables

-- also past the end
pub zeros : (n i : ℕ) → ◌≡◌ {A = ℕ} (get_or (replicate n 0) i 0) 0
zeros zero i = refl
zeros (suc n) zero = refl
zeros (suc n) (suc i) = zeros n i

-- ---- the literals of a list

-- clause k + 1 of a sheet of at most 64 variables
pub clause_list : (s : List ℕ) (k : ℕ) {part : List ℕ} → ValidSheet s → variables s ≤ 64 → k < clauses s → part ≡ clause s (k + 1)
    → LiteralList 64 part
clause_list s k valid small l e = rw e (widen (variables s) (clause s (k + 1)) small (valid.lists (k + 1) (omega arith, omega (arith, l))))
  where
    widen : (n : ℕ) (part : List ℕ) → n ≤ 64 → LiteralList n part → LiteralList 64 part
    widen n part l list = record {
      whole = list.whole;
      variables = record {
        range = λ i w. let r = list.variables.range i w in (r.0, omega (arith, r.1, l));
        rising = list.variables.rising;
      };
    }

pub next_among : (part : List ℕ) (i : ℕ) {c : ℕ} → LiteralList 64 part → i < count part → c ≡ number_at part (2 * i) 2 → Among 64 (c / 2)
next_among part i list l e = rw (variable_next part i e) (list.variables.range (i + 1) (omega arith, omega (arith, l)))

any_next : (f : ℕ → Bool) (i : ℕ) → any_of f i || f (i + 1) ≡ any_of f (i + 1)
unfolding any_of
any_next f i = rw (add-one i)

-- ---- a set with one literal more

pub literal_other : (held c odd v : ℕ) → odd ≤ 1 → (c % 2 ≡ odd → ⊥) → has held v ≡ has held v || eqb c (2 * v + odd)
literal_other held c odd v l h = rw (ne_eqb c (2 * v + odd) (λ e. h (omega (arith, e, l)))) (sym (or-false (has held v)))

single : (c odd : ℕ) → 1 ≤ c / 2 → odd ≤ 1 → c % 2 ≡ odd → (v : ℕ) → has (2 ^ (c / 2 - 1)) v ≡ eqb c (2 * v + odd)
unfolding has
single c odd w l e zero = sym (ne_eqb c (2 * 0 + odd) (λ q. omega (arith, q, l, w)))
single c odd w l e (suc i) =
    has_single (c / 2 - 1) (suc i) (omega arith)
    ∙ true_same (eqb (suc i) (c / 2 - 1 + 1)) (eqb c (2 * suc i + odd))
    (λ t. let q = eqb-true (suc i) (c / 2 - 1 + 1) t in eq-eqb c (2 * suc i + odd) (omega (arith, q, e, w)))
    (λ t. let q = eqb-true c (2 * suc i + odd) t in eq-eqb (suc i) (c / 2 - 1 + 1) (omega (arith, q, l, w)))

pub literal_this : (held c odd v : ℕ) → Among 64 (c / 2) → odd ≤ 1 → c % 2 ≡ odd
    → has (bit_or held (1 * 2 ^ (c / 2 - 1) % 18446744073709551616)) v ≡ has held v || eqb c (2 * v + odd)
literal_this held c odd v w l e =
    rw (one_shifted (c / 2 - 1) (omega (arith, w.0, w.1)))
    (has_or held (2 ^ (c / 2 - 1)) v ∙ ap (λ b. has held v || b) (single c odd w.0 l e v))

-- ---- the set of a list

-- the set has the variables of literals 1 to i of this kind
abbrev pub Gathered : List ℕ → ℕ → ℕ → ℕ → Type 0
Gathered part odd held i = (v : ℕ) → has held v ≡ any_of (λ j. eqb (code part j) (2 * v + odd)) i

pub gathered_none : (part : List ℕ) (odd : ℕ) → Gathered part odd 0 0
unfolding any_of
gathered_none part odd v = has_empty v

pub gathered_more : (part : List ℕ) (odd held next c i : ℕ) → Gathered part odd held i → c ≡ number_at part (2 * i) 2
    → ((v : ℕ) → has next v ≡ has held v || eqb c (2 * v + odd)) → Gathered part odd next (i + 1)
gathered_more part odd held next c i old e h v =
    h v ∙ ap₂ ◌||◌ (old v) (ap (λ (x : ℕ). eqb x (2 * v + odd)) (code_next part i e)) ∙ any_next (λ j. eqb (code part j) (2 * v + odd)) i

-- a literal enters the set of its kind
pub sets_more : (part sets : List ℕ) (c i : ℕ) → length sets ≡ 2 → Among 64 (c / 2) → c ≡ number_at part (2 * i) 2
    → ((odd : ℕ) → odd ≤ 1 → Gathered part odd (get_or sets odd 0) i) → (odd : ℕ) → odd ≤ 1
    → Gathered part odd
    (get_or (set sets (c % 2) (bit_or (get_or sets (c % 2) 0) (1 * 2 ^ (c / 2 - 1) % 18446744073709551616))) odd 0) (i + 1)
sets_more part sets c i size w e old odd l =
    gathered_more part odd (get_or sets odd 0) (get_or more odd 0) c i (old odd l) e (λ v. go v (ℕ_discrete odd (c % 2)))
  where
    more : List ℕ
    more = set sets (c % 2) (bit_or (get_or sets (c % 2) 0) (1 * 2 ^ (c / 2 - 1) % 18446744073709551616))

    go : (v : ℕ) → Dec (odd ≡ c % 2) → has (get_or more odd 0) v ≡ has (get_or sets odd 0) v || eqb c (2 * v + odd)
    go v (yes z) =
        ap (λ (x : ℕ). has (get_or more x 0) v) z
        ∙ ap (λ (x : ℕ). has x v) (get_or-set_same sets (c % 2) _ 0 (rw size (omega (arith, l, z))))
        ∙ ap (λ (x : ℕ). has (bit_or (get_or sets x 0) (1 * 2 ^ (c / 2 - 1) % 18446744073709551616)) v) (sym z)
        ∙ literal_this (get_or sets odd 0) c odd v w l (sym z)
    go v (no z) =
        ap (λ (x : ℕ). has x v) (get_or-set_other sets (c % 2) odd _ 0 z)
        ∙ literal_other (get_or sets odd 0) c odd v l (λ q. z (sym q))

pub gathered_all : (part : List ℕ) (odd held i : ℕ) → Gathered part odd held i → i ≡ count part
    → (v : ℕ) → has held v ≡ holds part (2 * v + odd)
unfolding holds
gathered_all part odd held i h e v = h v ∙ rw e

-- ---- the rows of literals

-- where clause k + 1 stands in the row of the literal a
abbrev place_of : ℕ → ℕ → ℕ
place_of a k = 64 * (a - 2) + k / 64

-- a bit at the same place is that of the same literal and clause exactly if it is the same bit
same_place : (a k c j : ℕ) → 1 ≤ variable_of a → k < 4096 → 1 ≤ variable_of c → Among 4096 j → place_of c (j - 1) ≡ place_of a k
    → eqb ((j - 1) % 64 + 1) (k % 64 + 1) ≡ eqb j (k + 1) && eqb a c
same_place a k c j u l w r z =
    true_same (eqb ((j - 1) % 64 + 1) (k % 64 + 1)) (eqb j (k + 1) && eqb a c)
    (λ t. let e = eqb-true ((j - 1) % 64 + 1) (k % 64 + 1) t in
    let d : j - 1 ≡ k = omega (arith, e, row) in
    and_i (eqb j (k + 1)) (eqb a c) (eq-eqb j (k + 1) (omega (arith, d, r.0))) (eq-eqb a c (omega (arith, z, row, u, w))))
    (λ t. let e = eqb-true j (k + 1) (and_l (eqb j (k + 1)) (eqb a c) t) in
    eq-eqb ((j - 1) % 64 + 1) (k % 64 + 1) (omega (arith, e)))
  where
    row : (j - 1) / 64 ≡ k / 64
    row = omega (arith, z, u, w, l, r.1)

other_place : (a k c j : ℕ) → (place_of c (j - 1) ≡ place_of a k → ⊥) → eqb j (k + 1) && eqb a c ≡ false
other_place a k c j z =
    false_i (eqb j (k + 1) && eqb a c)
    (λ t. let e = eqb-true j (k + 1) (and_l (eqb j (k + 1)) (eqb a c) t) in
    let d : j - 1 ≡ k = omega (arith, e) in
    z (rw (d, eqb-true a c (and_r (eqb j (k + 1)) (eqb a c) t))))

-- clause k + 1 enters the row of the literal a
row_more : (rows : List ℕ) (a k : ℕ) → length rows ≡ 8192 → Among 64 (variable_of a) → k < 4096
    → (c j : ℕ) → Among 64 (variable_of c) → Among 4096 j
    → in_row (set rows (place_of a k) (bit_or (get_or rows (place_of a k) 0) (2 ^ (k % 64)))) c j ≡ in_row rows c j || (eqb j (k + 1) && eqb a c)
row_more rows a k size u below c j w r = go (ℕ_discrete (place_of c (j - 1)) (place_of a k))
  where
    old : ℕ
    old = get_or rows (place_of a k) 0

    new : ℕ
    new = bit_or old (2 ^ (k % 64))

    bit : ℕ
    bit = (j - 1) % 64 + 1

    go : Dec (place_of c (j - 1) ≡ place_of a k) → in_row (set rows (place_of a k) new) c j ≡ in_row rows c j || (eqb j (k + 1) && eqb a c)
    go (yes z) =
        rw (z, get_or-set_same rows (place_of a k) new 0 (omega (arith, size, u.1, below)))
        (has_or old (2 ^ (k % 64)) bit
        ∙ ap (λ b. has old bit || b) (has_single (k % 64) bit (omega arith) ∙ same_place a k c j u.0 below w.0 r z))
    go (no z) =
        rw (get_or-set_other rows (place_of a k) (place_of c (j - 1)) new 0 z, other_place a k c j z) (sym (or-false (in_row rows c j)))

-- ---- a clause in the rows of its literals

-- clause k + 1 has entered the rows of literals 1 to i
abbrev pub Entered : List ℕ → ℕ → List ℕ → List ℕ → ℕ → Type 0
Entered part k before rows i = (c j : ℕ) → Among 64 (variable_of c) → Among 4096 j
    → in_row rows c j ≡ in_row before c j || (eqb j (k + 1) && any_of (λ h. eqb (code part h) c) i)

pub entered_none : (part : List ℕ) (k : ℕ) (rows : List ℕ) → Entered part k rows rows 0
unfolding any_of
entered_none part k rows c j w r = sym (ap (λ b. in_row rows c j || b) (and-false (eqb j (k + 1))) ∙ or-false (in_row rows c j))

pub entered_more : (part : List ℕ) (k : ℕ) (before rows : List ℕ) (a i : ℕ) → length rows ≡ 8192 → Among 64 (variable_of a) → k < 4096
    → a ≡ number_at part (2 * i) 2 → Entered part k before rows i
    → Entered part k before (set rows (place_of a k) (bit_or (get_or rows (place_of a k) 0) (1 * 2 ^ (k % 64) % 18446744073709551616))) (i + 1)
entered_more part k before rows a i size u l e old c j w r =
    rw (one_shifted (k % 64) (omega arith))
    (row_more rows a k size u l c j w r
    ∙ ap₂ (λ (x y : Bool). x || (eqb j (k + 1) && y)) (old c j w r) (ap (λ (x : ℕ). eqb x c) (code_next part i e))
    ∙ factor (in_row before c j) (eqb j (k + 1)) (any_of (λ h. eqb (code part h) c) i) (eqb (code part (i + 1)) c)
    ∙ ap (λ b. in_row before c j || (eqb j (k + 1) && b)) (any_next (λ h. eqb (code part h) c) i))
  where
    factor : (x y a b : Bool) → (x || (y && a)) || (y && b) ≡ x || (y && (a || b))
    factor true y a b = refl
    factor false false a b = refl
    factor false true a b = refl

pub entered_all : (part : List ℕ) (k : ℕ) (before rows : List ℕ) (i : ℕ) → Entered part k before rows i → i ≡ count part
    → (c j : ℕ) → Among 64 (variable_of c) → Among 4096 j → in_row rows c j ≡ in_row before c j || (eqb j (k + 1) && holds part c)
unfolding holds
entered_all part k before rows i h e c j w r = h c j w r ∙ rw e

-- ---- the rows of all clauses

pub rowed_none : (s rows : List ℕ) → ((i : ℕ) → get_or rows i 0 ≡ 0) → Rowed s rows 0
rowed_none s rows h c j w r =
    rw (h (64 * (c - 2) + (j - 1) / 64), lt-leb j 0 (omega (arith, r.0))) (has_empty ((j - 1) % 64 + 1))
