-- What the code's steps come to.
-- Assumes nothing.
use Prim.Native.Nat.{◌%◌, ◌*◌, ◌+◌, ◌-◌, ◌/◌, ◌<◌, ◌^◌, ◌≤◌, ℕ}
use mathlib.Core.Path.{◌∙◌, ◌≡◌, ap, refl, sym}
use mathlib.Core.Bool.{Bool, cond, false, not, true}
use mathlib.Core.List.{List}
use native.Mathlib.Nat.{one-mul}
use native.Mathlib.Numerals.{add-one}
use native.Mathlib.Omega.{arith}
use borrow.Author.Tests.{eq-eqb, ne_eqb}
use mir.Val.{bool_byte}
use lib.Bits.{and_mask, bit_and, bit_xor}
use lib.Dec.{eqb}
use lib.ListN.{get_or, length, set, take}
use lib.Pow.{shl_exact}
use lib.Seq.{take-suc}
use Rattle.judgement.specs.Facts.{Among, ValidSheet}
use Rattle.judgement.specs.Literals.{code, count, holds}
use Rattle.judgement.specs.Meaning.{Assignment, literal_true, positive}
use Rattle.judgement.specs.Number.{number_at}
use Rattle.judgement.specs.Record.{assignment_size}
use Rattle.judgement.specs.Scan.{one, sum_of}
use Rattle.judgement.specs.Sheet.{clause, clauses, variables}
use Rattle.judgement.proofs.Laws.Scan.{sum_last}
use Rattle.turns.specs.Counts.{CountedFor, Steps, Touched, agrees, goes_up}
use Rattle.turns.specs.Index.{entry, uses}
use Rattle.turns.specs.Promises.{AllTurns}
use Rattle.turns.specs.Turning.{mentioning, true_in, turn, turned, value_in}
use Rattle.turns.proofs.Counting.{Turned}
use Rattle.turns.proofs.Signs.{half_entry}
use Rattle.turns.proofs.Switching.{length_turn, turn_twice, turned_more, value_is, value_other, value_same, xor_switched}
use Rattle.turns.proofs.Walking.{Listed, WalkAt, walk_steps, walk_turn}

-- ---- one bit

pub bit_read : (a : List ℕ) (v : ℕ) → eqb (bit_and (get_or a ((v - 1) / 8) 0 / 2 ^ ((v - 1) % 8)) 1) 1 ≡ value_in a v
bit_read a v = rw (value_is a v, and_mask (get_or a ((v - 1) / 8) 0 / 2 ^ ((v - 1) % 8)) 1)

pub bit_turned : (a : List ℕ) (v : ℕ)
    → set a ((v - 1) / 8) (bit_xor (get_or a ((v - 1) / 8) 0) (1 * 2 ^ ((v - 1) % 8) % 256)) ≡ turn a v
unfolding turn
bit_turned a v =
    let e : 1 * 2 ^ ((v - 1) % 8) % 256 ≡ 2 ^ ((v - 1) % 8) =
    shl_exact 1 ((v - 1) % 8) 8 (omega arith) (omega arith) ∙ one-mul (2 ^ ((v - 1) % 8)) in
    rw (e, xor_switched (get_or a ((v - 1) / 8) 0) ((v - 1) % 8))

pub in_bytes : (n v size : ℕ) → Among n v → assignment_size n ≤ size → (v - 1) / 8 < size
in_bytes n v size w h = omega (arith, w.0, w.1)

-- ---- counting afresh

-- a test as a number, as the code takes it
pub byte_one : {y : ℕ} (b : Bool) → y ≡ bool_byte b → (y ≡ one b) × (y ≤ 1)
byte_one true e = (e, omega (arith, e))
byte_one false e = (e, omega (arith, e))

pub record TrueTo (s : List ℕ) (α : Assignment) (k i sum : ℕ) : Type 0 where
  pub within : i ≤ count (clause s k)
  pub sum_is : sum ≡ sum_of (λ j. one (literal_true α (code (clause s k) j))) i
  pub most : sum ≤ i

pub true_start : (s : List ℕ) (α : Assignment) (k : ℕ) → TrueTo s α k 0 0
unfolding sum_of
true_start s α k = record { within = omega arith; sum_is = refl; most = omega arith }

pub true_turn : (s : List ℕ) (α : Assignment) (k i sum x y : ℕ) (b : Bool) (part : List ℕ) → part ≡ clause s k → TrueTo s α k i sum → i < count (clause s k)
    → x ≡ number_at part (2 * i) 2 → b ≡ literal_true α x → y ≡ one b → y ≤ 1 → TrueTo s α k (i + 1) (sum + y)
true_turn s α k i sum x y b part ep h more ex eb ey most =
    let e : i + 1 - 1 ≡ i = omega arith in
    let z = sum_last (λ j. one (literal_true α (code (clause s k) j))) (i + 1) (omega arith) in
    let z = rw e at z in
    let t : y ≡ one (literal_true α (number_at (clause s k) (2 * i) 2)) = ey ∙ ap one eb ∙ rw (ex, ep) in
    let m = h.most in
    let q = h.sum_is in
    record { within = omega arith; sum_is = omega (arith, z, t, q); most = omega arith }

pub true_done : (s : List ℕ) (α : Assignment) (k i sum : ℕ) → TrueTo s α k i sum → count (clause s k) ≤ i → sum ≡ true_in α (clause s k)
unfolding true_in
true_done s α k i sum h d =
    let w = h.within in
    let e : i ≡ count (clause s k) = omega arith in
    h.sum_is ∙ rw e

-- literal i + 1 of clause k can be looked up
pub true_among : (s : List ℕ) → ValidSheet s → (k : ℕ) → Among (clauses s) k → (i x : ℕ) (part : List ℕ) → part ≡ clause s k → i < count (clause s k)
    → x ≡ number_at part (2 * i) 2 → Among (variables s) (x / 2)
true_among s valid k w i x part ep more ex =
    let e : i + 1 - 1 ≡ i = omega arith in
    rw (ex, ep) (rw e at ((valid.lists k w).variables.range (i + 1) (omega arith, omega arith)))

-- ---- the walk

not_not : (b : Bool) → b ≡ not (not b)
not_not true = refl
not_not false = refl

pub values_turned : (a : List ℕ) (n v : ℕ) → Among n v → assignment_size n ≤ length a → Turned (value_in (turn a v)) (value_in a) v
values_turned a n v w h =
    record {
      here = not_not (value_in a v) ∙ ap not (sym (value_same a v (in_bytes n v (length a) w h)));
      elsewhere = λ u p d. sym (value_other a u v p w.0 d (in_bytes n v (length a) w h));
    }

sign_entry : (s : List ℕ) (v k : ℕ) → eqb (entry s v k % 2) 0 ≡ holds (clause s k) (positive v)
sign_entry s v k = go (holds (clause s k) (positive v))
  where
    go : (b : Bool) → eqb ((2 * k + cond b 0 1) % 2) 0 ≡ b
    go true = eq-eqb ((2 * k + 0) % 2) 0 (omega arith)
    go false = ne_eqb ((2 * k + 1) % 2) 0 (omega arith)

-- entry j of list v, as it was read
module _ (s : List ℕ) (valid : ValidSheet s) (v : ℕ) (index : List ℕ) (i : Listed s v index) (start x j : ℕ) (es : start ≡ number_at index (8 * (v - 1)) 4)
    (more : j < uses s v) (ex : x ≡ number_at index (start + 4 * j) 4) where
  x_is : x ≡ entry s v (get_or (mentioning s v) j 0)
  x_is = ex ∙ rw (es, i.start) (i.numbers j more)

  pub walk_clause : x / 2 ≡ get_or (mentioning s v) j 0
  walk_clause = rw x_is (half_entry s v (get_or (mentioning s v) j 0))

  sign : eqb (x % 2) 0 ≡ holds (clause s (x / 2)) (positive v)
  sign = rw (walk_clause, x_is) (sign_entry s v (get_or (mentioning s v) j 0))

  module _ (α β : Assignment) (t : Turned α β v) (total : ℕ) (l₀ l : List ℕ) (h : WalkAt s v α β j total l₀ l)
      (value up : Bool) (ev : value ≡ β v) (eu : up ≡ agrees (eqb (x % 2) 0) value) where
    up_is : up ≡ goes_up (clause s (x / 2)) v (β v)
    up_is = eu ∙ rw (sign, ev)

    pub walk_ready : Steps up (number_at l (2 * (x / 2 - 1)) 2) total
    walk_ready = rw up_is (walk_steps s valid v α β t j total l₀ l h more (x / 2) walk_clause)

    pub walk_touched : (total' : ℕ) (r : List ℕ) → Touched up (2 * (x / 2 - 1)) total total' l r → WalkAt s v α β (j + 1) total' l₀ r
    walk_touched total' r w =
        let w = rw up_is at w in
        walk_turn s valid v α β t j total l₀ l h more (x / 2) walk_clause _ _ total' r refl refl w.sum w.counts

-- ---- several turns

pub counted_back : (s a : List ℕ) (v total : ℕ) (l r : List ℕ) → r ≡ turn a v → CountedFor s (value_in a) total l
    → CountedFor s (value_in (turn r v)) total l
counted_back s a v total l r e c = rw (e, turn_twice a v) c

pub long_turned : (a r : List ℕ) (n v : ℕ) → r ≡ turn a v → n ≤ length a → n ≤ length r
long_turned a r n v e h = rw (e, length_turn a v) h

-- the turn at i, counted from 0
pub turn_among : (n : ℕ) (turns : List ℕ) (i : ℕ) → AllTurns n turns → i < length turns → Among n (get_or turns i 0)
turn_among n turns i all h = let e : i + 1 - 1 ≡ i = omega arith in rw e at (all (i + 1) (omega arith, omega arith))

pub turned_next : (a₀ a r turns : List ℕ) (i : ℕ) → i < length turns → a ≡ turned a₀ (take i turns) → r ≡ turn a (get_or turns i 0)
    → r ≡ turned a₀ (take (i + 1) turns)
turned_next a₀ a r turns i h ea er =
    er ∙ rw (ea, add-one, take-suc turns i 0 h) (sym (turned_more a₀ (take i turns) (get_or turns i 0)))
