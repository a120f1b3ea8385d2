-- One bit the other way, one variable turned, and several.
-- Assumes nothing.
use Prim.Native.Nat.{◌%◌, ◌*◌, ◌+◌, ◌-◌, ◌/◌, ◌<◌, ◌^◌, ◌≤◌, suc, zero, ℕ}
use mathlib.Core.Path.{◌∙◌, ◌≡◌, ap, refl, sym}
use mathlib.Core.Bool.{cond, false, not, true}
use mathlib.Core.List.{List, ◌++◌, ◌∷◌, []}
use mathlib.Core.Logic.{◌≢◌, ◌⊎◌, inl, inr}
use native.Mathlib.Decide.{dec_lt}
use native.Mathlib.Nat.{div-div-eq-div-mul, div-eq_of_lt, pow-succ', zero-add}
use native.Mathlib.Omega.{arith}
use borrow.Author.Tests.{eq-eqb, eqb-false, eqb-true, ne_eqb}
use lib.Bits.{bit_xor, differ, xor_step, xor_zero_r}
use lib.ListN.{get_or, length, length-set, set}
use lib.Seq.{get_or-set_other, get_or-set_same, set_comm, set-get_or, set_out, set-set}
use Rattle.judgement.specs.Record.{bit}
use Rattle.judgement.proofs.Laws.Scan.{which}
use Rattle.turns.specs.Turning.{switched, turn, turned, value_in}
use Rattle.turns.proofs.Lists.{either}

-- ---- digits

abbrev digit : ℕ → ℕ → ℕ
digit x i = x / 2 ^ i % 2

digit_zero : (x : ℕ) → digit x 0 ≡ x % 2
digit_zero x = omega arith

digit_suc : (x i : ℕ) → digit x (suc i) ≡ digit (x / 2) i
digit_suc x i = rw (pow-succ' 2 i, div-div-eq-div-mul x 2 (2 ^ i))

-- by recursion on the place
flipped : ℕ → ℕ → ℕ
flipped x zero = x + 1 - 2 * (x % 2)
flipped x (suc i) = x % 2 + 2 * flipped (x / 2) i

digit_reaches : (x i : ℕ) → digit x i ≡ 1 → 2 ^ i ≤ x
digit_reaches x i e = go (dec_lt x (2 ^ i))
  where
    go : Dec (x < 2 ^ i) → 2 ^ i ≤ x
    go (yes h) = let z = div-eq_of_lt h in absurd (omega (arith, z, e))
    go (no h) = omega arith

switched_flipped : (x i : ℕ) → switched x i ≡ flipped x i
unfolding switched flipped
switched_flipped x zero = go (which (bit x 0))
  where
    go : (bit x 0 ≡ true) ⊎ (bit x 0 ≡ false) → cond (bit x 0) (x - 2 ^ 0) (x + 2 ^ 0) ≡ x + 1 - 2 * (x % 2)
    go (inl e) = let z = eqb-true (digit x 0) 1 e in rw e (omega (arith, z))
    go (inr e) = let z = eqb-false (digit x 0) 1 e in rw e (omega (arith, z))
switched_flipped x (suc i) = go (which (bit (x / 2) i)) (switched_flipped (x / 2) i)
  where
    go : (bit (x / 2) i ≡ true) ⊎ (bit (x / 2) i ≡ false) → cond (bit (x / 2) i) (x / 2 - 2 ^ i) (x / 2 + 2 ^ i) ≡ flipped (x / 2) i
        → cond (bit x (suc i)) (x - 2 ^ suc i) (x + 2 ^ suc i) ≡ x % 2 + 2 * flipped (x / 2) i
    go (inl e) r =
        let z = digit_reaches (x / 2) i (eqb-true (digit (x / 2) i) 1 e) in
        let r' = rw e at r in
        rw (digit_suc x i, e, pow-succ' 2 i, ← r') (omega (arith, z))
    go (inr e) r =
        let r' = rw e at r in
        rw (digit_suc x i, e, pow-succ' 2 i, ← r') (omega arith)

differ_one : (b : ℕ) → b < 2 → differ b 1 ≡ 1 - b
differ_one zero h = refl
differ_one (suc zero) h = refl
differ_one (suc (suc b)) h = absurd (omega arith)

differ_zero : (b : ℕ) → differ b 0 ≡ b
differ_zero zero = refl
differ_zero (suc b) = refl

-- the code's operation
xor_flipped : (x i : ℕ) → bit_xor x (2 ^ i) ≡ flipped x i
unfolding flipped
xor_flipped x zero =
    let a = xor_zero_r (x / 2) in
    let b = differ_one (x % 2) (omega arith) in
    xor_step x 1 ∙ rw (a, b) (omega arith)
xor_flipped x (suc i) =
    let e : 2 * 2 ^ i / 2 ≡ 2 ^ i = omega arith in
    let f : 2 * 2 ^ i % 2 ≡ 0 = omega arith in
    let r = xor_flipped (x / 2) i in
    let d = differ_zero (x % 2) in
    rw (pow-succ' 2 i) (xor_step x (2 * 2 ^ i) ∙ rw (e, f, d, r) (omega arith))

pub xor_switched : (x i : ℕ) → bit_xor x (2 ^ i) ≡ switched x i
xor_switched x i = xor_flipped x i ∙ sym (switched_flipped x i)

digit_other : (x i j : ℕ) → j ≢ i → digit (flipped x i) j ≡ digit x j
unfolding flipped
digit_other x zero zero d = absurd (d refl)
digit_other x zero (suc j) d =
    let e : (x + 1 - 2 * (x % 2)) / 2 ≡ x / 2 = omega arith in
    rw (digit_suc (x + 1 - 2 * (x % 2)) j, digit_suc x j, e)
digit_other x (suc i) zero d = omega arith
digit_other x (suc i) (suc j) d =
    let e : (x % 2 + 2 * flipped (x / 2) i) / 2 ≡ flipped (x / 2) i = omega arith in
    rw (digit_suc (x % 2 + 2 * flipped (x / 2) i) j, digit_suc x j, e)
    (digit_other (x / 2) i j (λ q. d (ap suc q)))

digit_same : (x i : ℕ) → digit (flipped x i) i + digit x i ≡ 1
unfolding flipped
digit_same x zero = omega arith
digit_same x (suc i) =
    let e : (x % 2 + 2 * flipped (x / 2) i) / 2 ≡ flipped (x / 2) i = omega arith in
    rw (digit_suc (x % 2 + 2 * flipped (x / 2) i) i, digit_suc x i, e) (digit_same (x / 2) i)

flipped_twice : (x i : ℕ) → flipped (flipped x i) i ≡ x
unfolding flipped
flipped_twice x zero = omega arith
flipped_twice x (suc i) =
    let e : (x % 2 + 2 * flipped (x / 2) i) / 2 ≡ flipped (x / 2) i = omega arith in
    rw (e, flipped_twice (x / 2) i) (omega arith)

lowest : (x y : ℕ) → (x + 1 - 2 * (x % 2)) % 2 + 2 * y ≡ x % 2 + 2 * y + 1 - 2 * ((x % 2 + 2 * y) % 2)
lowest x y =
    let p : (x % 2 + 2 * y) % 2 ≡ x % 2 = omega arith in
    let q : (x + 1 - 2 * (x % 2)) % 2 ≡ 1 - x % 2 = omega arith in
    rw (p, q) (omega arith)

flipped_swap : (x i j : ℕ) → flipped (flipped x i) j ≡ flipped (flipped x j) i
unfolding flipped
flipped_swap x zero zero = refl
flipped_swap x zero (suc j) =
    let e : (x + 1 - 2 * (x % 2)) / 2 ≡ x / 2 = omega arith in
    rw e (lowest x (flipped (x / 2) j))
flipped_swap x (suc i) zero =
    let e : (x + 1 - 2 * (x % 2)) / 2 ≡ x / 2 = omega arith in
    rw e (sym (lowest x (flipped (x / 2) i)))
flipped_swap x (suc i) (suc j) =
    let e : (x % 2 + 2 * flipped (x / 2) i) / 2 ≡ flipped (x / 2) i = omega arith in
    let f : (x % 2 + 2 * flipped (x / 2) j) / 2 ≡ flipped (x / 2) j = omega arith in
    rw (e, f, flipped_swap (x / 2) i j) (omega arith)

flipped_byte : (k x i : ℕ) → x < 2 ^ k → i < k → flipped x i < 2 ^ k
unfolding flipped
flipped_byte zero x i h l = absurd (omega arith)
flipped_byte (suc k) x zero h l = let e = pow-succ' 2 k in omega arith
flipped_byte (suc k) x (suc i) h l =
    let e = pow-succ' 2 k in
    let a = flipped_byte k (x / 2) i (omega arith) (omega arith) in
    omega arith

-- ---- the same of bits

pub switched_byte : (x i : ℕ) → x < 256 → i < 8 → switched x i < 256
switched_byte x i h l = rw (switched_flipped x i) (flipped_byte 8 x i h l)

switched_other : (x i j : ℕ) → j ≢ i → bit (switched x i) j ≡ bit x j
switched_other x i j d = rw (switched_flipped x i, digit_other x i j d)

switched_same : (x i : ℕ) → bit (switched x i) i ≡ not (bit x i)
switched_same x i = rw (switched_flipped x i) (go (which (bit x i)) (digit_same x i))
  where
    go : (bit x i ≡ true) ⊎ (bit x i ≡ false) → digit (flipped x i) i + digit x i ≡ 1 → bit (flipped x i) i ≡ not (bit x i)
    go (inl e) s = let z = eqb-true (digit x i) 1 e in rw e (ne_eqb (digit (flipped x i) i) 1 (omega (arith, z, s)))
    go (inr e) s = let z = eqb-false (digit x i) 1 e in rw e (eq-eqb (digit (flipped x i) i) 1 (omega (arith, z, s)))

switched_twice : (x i : ℕ) → switched (switched x i) i ≡ x
switched_twice x i = rw (switched_flipped x i, switched_flipped (flipped x i) i) (flipped_twice x i)

switched_swap : (x i j : ℕ) → switched (switched x i) j ≡ switched (switched x j) i
switched_swap x i j =
    rw (switched_flipped x i, switched_flipped x j, switched_flipped (flipped x i) j, switched_flipped (flipped x j) i) (flipped_swap x i j)

-- ---- one variable turned

pub value_is : (a : List ℕ) (v : ℕ) → value_in a v ≡ bit (get_or a ((v - 1) / 8) 0) ((v - 1) % 8)
unfolding value_in
value_is a v = rw (zero-add ((v - 1) / 8))

pub value_same : (a : List ℕ) (v : ℕ) → (v - 1) / 8 < length a → value_in (turn a v) v ≡ not (value_in a v)
unfolding turn
value_same a v h =
    rw (value_is (turn a v) v, value_is a v, get_or-set_same a ((v - 1) / 8) (switched (get_or a ((v - 1) / 8) 0) ((v - 1) % 8)) 0 h)
    (switched_same (get_or a ((v - 1) / 8) 0) ((v - 1) % 8))

pub value_other : (a : List ℕ) (u v : ℕ) → 1 ≤ u → 1 ≤ v → u ≢ v → (v - 1) / 8 < length a → value_in (turn a v) u ≡ value_in a u
unfolding turn
value_other a u v p q d h =
    rw (value_is (turn a v) u, value_is a u) (
    either ((u - 1) / 8) ((v - 1) / 8)
    (λ e.
    rw (e, get_or-set_same a ((v - 1) / 8) (switched (get_or a ((v - 1) / 8) 0) ((v - 1) % 8)) 0 h)
    (switched_other (get_or a ((v - 1) / 8) 0) ((v - 1) % 8) ((u - 1) % 8) (λ z. d (omega (arith, e, z, p, q)))))
    (λ n. rw (get_or-set_other a ((v - 1) / 8) ((u - 1) / 8) (switched (get_or a ((v - 1) / 8) 0) ((v - 1) % 8)) 0 n)))

pub length_turn : (a : List ℕ) (v : ℕ) → length (turn a v) ≡ length a
unfolding turn
length_turn a v = length-set a ((v - 1) / 8) (switched (get_or a ((v - 1) / 8) 0) ((v - 1) % 8))

-- twice is nothing
pub turn_twice : (a : List ℕ) (v : ℕ) → turn (turn a v) v ≡ a
unfolding turn
turn_twice a v = go (dec_lt ((v - 1) / 8) (length a))
  where
    i : ℕ
    i = (v - 1) / 8

    x : ℕ
    x = switched (get_or a ((v - 1) / 8) 0) ((v - 1) % 8)

    go : Dec ((v - 1) / 8 < length a) → turn (turn a v) v ≡ a
    go (yes h) =
        rw (
          get_or-set_same a ((v - 1) / 8) (switched (get_or a ((v - 1) / 8) 0) ((v - 1) % 8)) 0 h,
          switched_twice (get_or a ((v - 1) / 8) 0) ((v - 1) % 8),
          set-set a ((v - 1) / 8) (switched (get_or a ((v - 1) / 8) 0) ((v - 1) % 8)) (get_or a ((v - 1) / 8) 0),
        )
        (set-get_or a ((v - 1) / 8) 0)
    go (no h) =
        let o : (y : ℕ) → set a ((v - 1) / 8) y ≡ a = λ y. set_out a ((v - 1) / 8) y (omega arith) in
        rw (o (switched (get_or a ((v - 1) / 8) 0) ((v - 1) % 8))) (o (switched (get_or a ((v - 1) / 8) 0) ((v - 1) % 8)))

-- of two the order does not matter
pub turn_swap : (a : List ℕ) (u v : ℕ) → turn (turn a u) v ≡ turn (turn a v) u
unfolding turn
turn_swap a u v =
    either ((u - 1) / 8) ((v - 1) / 8) (λ e. same e (dec_lt ((v - 1) / 8) (length a))) apart
  where
    same : (u - 1) / 8 ≡ (v - 1) / 8 → Dec ((v - 1) / 8 < length a) → turn (turn a u) v ≡ turn (turn a v) u
    same e (yes h) =
        let g : (y : ℕ) → get_or (set a ((v - 1) / 8) y) ((v - 1) / 8) 0 ≡ y = λ y. get_or-set_same a ((v - 1) / 8) y 0 h in
        let x = get_or a ((v - 1) / 8) 0 in
        rw (
          e,
          g (switched (get_or a ((v - 1) / 8) 0) ((u - 1) % 8)),
          g (switched (get_or a ((v - 1) / 8) 0) ((v - 1) % 8)),
          set-set a ((v - 1) / 8) (switched (get_or a ((v - 1) / 8) 0) ((u - 1) % 8)) (switched (switched (get_or a ((v - 1) / 8) 0) ((u - 1) % 8)) ((v - 1) % 8)),
          set-set a ((v - 1) / 8) (switched (get_or a ((v - 1) / 8) 0) ((v - 1) % 8)) (switched (switched (get_or a ((v - 1) / 8) 0) ((v - 1) % 8)) ((u - 1) % 8)),
          switched_swap (get_or a ((v - 1) / 8) 0) ((u - 1) % 8) ((v - 1) % 8),
        )
    same e (no h) =
        let o : (y : ℕ) → set a ((v - 1) / 8) y ≡ a = λ y. set_out a ((v - 1) / 8) y (omega arith) in
        rw (
          e,
          o (switched (get_or a ((v - 1) / 8) 0) ((u - 1) % 8)),
          o (switched (get_or a ((v - 1) / 8) 0) ((v - 1) % 8)),
          o (switched (get_or a ((v - 1) / 8) 0) ((u - 1) % 8)),
        )

    apart : (u - 1) / 8 ≢ (v - 1) / 8 → turn (turn a u) v ≡ turn (turn a v) u
    apart d =
        let g = get_or-set_other a ((u - 1) / 8) ((v - 1) / 8) (switched (get_or a ((u - 1) / 8) 0) ((u - 1) % 8)) 0 (λ z. d (sym z)) in
        let h = get_or-set_other a ((v - 1) / 8) ((u - 1) / 8) (switched (get_or a ((v - 1) / 8) 0) ((v - 1) % 8)) 0 d in
        rw (g, h)
        (set_comm a ((u - 1) / 8) ((v - 1) / 8) (switched (get_or a ((u - 1) / 8) 0) ((u - 1) % 8)) (switched (get_or a ((v - 1) / 8) 0) ((v - 1) % 8)) d)

-- ---- several turns

pub turned_append : (a p q : List ℕ) → turned a (p ++ q) ≡ turned (turned a p) q
unfolding turned
turned_append a [] q = refl
turned_append a (v ∷ p) q = turned_append (turn a v) p q

pub turned_more : (a p : List ℕ) (v : ℕ) → turned a (p ++ (v ∷ [])) ≡ turn (turned a p) v
unfolding turned
turned_more a p v = turned_append a p (v ∷ [])

pub length_turned : (a vs : List ℕ) → length (turned a vs) ≡ length a
unfolding turned
length_turned a [] = refl
length_turned a (v ∷ vs) = length_turned (turn a v) vs ∙ length_turn a v
