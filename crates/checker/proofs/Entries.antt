-- Entry j + 1 of the tail e is weighed, one literal after the other, and then the next entry.
-- Assumes nothing.
use Rattle.std.proofs.Common.{◌≡◌, ℕ, zero, suc, ◌+◌, ◌-◌, ◌*◌, ◌%◌, ◌^◌, ◌<◌, ◌≤◌, Bool, true, false, cond, not, List, ℤ, pos, ◌+ℤ◌, ◌-ℤ◌, ◌*ℤ◌, neg_ℤ, nat_abs, sym, ◌∙◌, mul-zero, add-sub_cancel, add-one, arith, ne_eqb}
use Rattle.judgement.specs.Scan.{sum_of, one}
use Rattle.judgement.specs.Meaning.{positive, negative, variable_of, is_positive}
use Rattle.judgement.specs.Number.{number_at}
use Rattle.judgement.specs.Literals.{count, code, holds}
use Rattle.judgement.specs.Sheet.{variables, clause, cost_of}
use Rattle.judgement.specs.Step.{divisor, entry_cites, weight}
use Rattle.judgement.specs.Integers.{sum_of_ℤ}
use Rattle.judgement.specs.Linear.{entry_clause, weight_of, remainder, negatives, entry_sum, addend, addend_sum, total_of}
use Rattle.judgement.specs.Facts.{Among, LiteralList}
use Rattle.judgement.specs.Demands.{IsBytes}
use Rattle.judgement.proofs.Laws.Integers.{Diff, equal_parts, sum_parts, minus_parts, same_parts}
use Rattle.judgement.proofs.Laws.Scan.{sum_times}
use Rattle.judgement.proofs.Sound.Weighing.{entry_diff}
use Rattle.judgement.proofs.Laws.Stored.{number_below}
use Rattle.judgement.proofs.Laws.Cost.{cost_below}
use Rattle.checker.specs.Prices.{price_at, Prices}
use Rattle.checker.specs.Weighing.{shift, negative_weight, moved, Weighing, full_of}
use Rattle.checker.proofs.Bits.{add_size, neg_size, minus_size, product_small}
use Rattle.checker.proofs.Adding.{turned, rem_to, rem_to_turned, addends_moved, addends_same, addend_close}

-- ---- sizes

weights_small : (s e : List ℕ) → IsBytes e → (q c : ℕ) → weight_of s e q c ≤ 65536 * q
unfolding weight_of sum_of
weights_small s e b zero c = omega arith
weights_small s e b (suc q) c =
    let i = weights_small s e b q c in
    let l = go (holds (entry_clause s e (suc q)) c) in
    omega (arith, i, l)
  where
    go : (t : Bool) → cond t (weight e (suc q)) 0 ≤ 65536
    go true =
        let h = number_below 2 e b (2 + 6 * (suc q - 1) + 4) in
        omega (arith, h)
    go false = omega arith

pub remainder_small : (s e : List ℕ) → IsBytes s → IsBytes e → (q v : ℕ) → q ≤ 4096 → nat_abs (remainder s e q v) ≤ 2 ^ 50
unfolding remainder
remainder_small s e bs be q v l =
    let p = weights_small s e be q (positive v) in
    let n = weights_small s e be q (negative v) in
    let f = product_small (divisor e) (cost_of s v) (number_below 2 e be 0) (let below = cost_below s bs v in omega (arith, below)) in
    let a = minus_size (pos (divisor e * cost_of s v)) (pos (weight_of s e q (positive v))) in
    let b = add_size (pos (divisor e * cost_of s v) -ℤ pos (weight_of s e q (positive v))) (pos (weight_of s e q (negative v))) in
    omega (arith, p, n, f, a, b, l)

-- ---- the remainders after one more entry

remainder_turned : (s e : List ℕ) (j v : ℕ)
    → remainder s e (suc j) v
    ≡ turned (remainder s e j v) (holds (entry_clause s e (suc j)) (positive v)) (holds (entry_clause s e (suc j)) (negative v)) (weight e (suc j))
unfolding remainder weight_of sum_of
remainder_turned s e j v = go (divisor e * cost_of s v) (weight_of s e j (positive v)) (weight_of s e j (negative v)) (cond (holds (entry_clause s e (suc j)) (positive v)) (weight e (suc j)) 0) (cond (holds (entry_clause s e (suc j)) (negative v)) (weight e (suc j)) 0)
  where
    go : (x P N p n : ℕ) → pos x -ℤ pos (P + p) +ℤ pos (N + n) ≡ pos x -ℤ pos P +ℤ pos N -ℤ pos p +ℤ pos n
    go x P N p n =
        let a = minus_parts (pos x) (pos (P + p)) in
        let b = sum_parts (pos x -ℤ pos (P + p)) (pos (N + n)) in
        let c = minus_parts (pos x) (pos P) in
        let d = sum_parts (pos x -ℤ pos P) (pos N) in
        let f = minus_parts (pos x -ℤ pos P +ℤ pos N) (pos p) in
        let g = sum_parts (pos x -ℤ pos P +ℤ pos N -ℤ pos p) (pos n) in
        equal_parts (pos x -ℤ pos (P + p) +ℤ pos (N + n)) (pos x -ℤ pos P +ℤ pos N -ℤ pos p +ℤ pos n) (omega (arith, a, b, c, d, f, g))

rem_to_all : (s e : List ℕ) (j : ℕ) → LiteralList 1024 (entry_clause s e (suc j)) → (v : ℕ)
    → rem_to (remainder s e j) (entry_clause s e (suc j)) (weight e (suc j)) (count (entry_clause s e (suc j))) v ≡ remainder s e (suc j) v
unfolding holds
rem_to_all s e j list v =
    rem_to_turned (remainder s e j) (entry_clause s e (suc j)) (weight e (suc j)) list (count (entry_clause s e (suc j))) v (omega arith)
    ∙ sym (remainder_turned s e j v)

weighing_same : (n : ℕ) (D : List ℕ) (full : ℕ → ℕ) (rem rem' : ℕ → ℤ) (t : ℕ) (marks : List ℕ) (rest : List ℤ) → ((v : ℕ) → rem v ≡ rem' v)
    → Weighing n D full rem t marks rest → Weighing n D full rem' t marks rest
weighing_same n D full rem rem' t marks rest h w =
    record { stale = w.stale; size = w.size; kept = λ v a. rw (← h v) (w.kept v a) }

-- ---- i literals of the clause C of weight y have been met, and add `sum`, the clause's own weight among it

abbrev pub neg_to : List ℕ → ℕ → ℕ → ℕ
neg_to C y i = sum_of (λ h. negative_weight (code C h) y) i

pub record Added (D s e : List ℕ) (j t : ℕ) (C : List ℕ) (y : ℕ) (marks : List ℕ) (rest : List ℤ) (sum : ℤ) (i : ℕ) : Type 0 where
  pub state : Weighing (variables s) D (full_of s e) (rem_to (remainder s e j) C y i) t marks rest
  pub sum_is : addend_sum D (variables s) (remainder s e j) +ℤ sum +ℤ pos (neg_to C y i)
      ≡ addend_sum D (variables s) (rem_to (remainder s e j) C y i) +ℤ pos y

pub added_start : (D s e : List ℕ) (j t : ℕ) (C : List ℕ) (y : ℕ) (marks : List ℕ) (rest : List ℤ) (sum : ℤ) → sum ≡ pos y
    → Weighing (variables s) D (full_of s e) (remainder s e j) t marks rest → Added D s e j t C y marks rest sum 0
unfolding rem_to sum_of
added_start D s e j t C y marks rest sum q w = record { state = w; sum_is = rw q (go (addend_sum D (variables s) (remainder s e j))) }
  where
    go : (A : ℤ) → A +ℤ pos y +ℤ pos 0 ≡ A +ℤ pos y
    go A =
        let b = sum_parts (A +ℤ pos y) (pos 0) in
        equal_parts (A +ℤ pos y +ℤ pos 0) (A +ℤ pos y) (omega (arith, b))

-- one more
step_sum : (A B X sum r y : ℤ) (N w : ℕ) → A +ℤ sum +ℤ pos N ≡ B +ℤ y → r ≡ X -ℤ pos w
    → A +ℤ (sum +ℤ r) +ℤ pos (N + w) ≡ B +ℤ X +ℤ y
step_sum A B X sum r y N w h k =
    let (hu, hd) = same_parts h in
    let (ku, kd) = same_parts k in
    let a = sum_parts A sum in
    let b = sum_parts (A +ℤ sum) (pos N) in
    let c = sum_parts B y in
    let d = minus_parts X (pos w) in
    let f = sum_parts sum r in
    let g = sum_parts A (sum +ℤ r) in
    let i = sum_parts (A +ℤ (sum +ℤ r)) (pos (N + w)) in
    let l = sum_parts B X in
    let m = sum_parts (B +ℤ X) y in
    equal_parts (A +ℤ (sum +ℤ r) +ℤ pos (N + w)) (B +ℤ X +ℤ y) (omega (arith, hu, hd, ku, kd, a, b, c, d, f, g, i, l, m))

pub added_more : (D s e : List ℕ) (j t : ℕ) (C : List ℕ) (y : ℕ) (marks marks' : List ℕ) (rest rest' : List ℤ) (sum sum' r : ℤ) (i c : ℕ)
    → Added D s e j t C y marks rest sum i → LiteralList (variables s) C → i < count C → c ≡ code C (i + 1)
    → Weighing (variables s) D (full_of s e) (moved (rem_to (remainder s e j) C y i) (variable_of c) (shift c y)) t marks' rest'
    → r ≡ addend D (variable_of c) (rem_to (remainder s e j) C y i (variable_of c) +ℤ shift c y) -ℤ addend D (variable_of c) (rem_to (remainder s e j) C y i (variable_of c)) -ℤ pos (negative_weight c y)
    → sum' ≡ sum +ℤ r
    → Added D s e j t C y marks' rest' sum' (i + 1)
unfolding rem_to sum_of
added_more D s e j t C y marks marks' rest rest' sum sum' r i c so list l q w k f = rw add-one (go (rw add-one at q))
  where
    rem : ℕ → ℤ
    rem = rem_to (remainder s e j) C y i

    u : ℕ
    u = variable_of c

    go : c ≡ code C (suc i) → Added D s e j t C y marks' rest' sum' (suc i)
    go q =
        let range : Among (variables s) u = rw q (list.variables.range (suc i) (omega arith, omega (arith, l))) in
        let moves = addends_moved D (variables s) rem u (shift c y) range in
        let h = step_sum (addend_sum D (variables s) (remainder s e j)) (addend_sum D (variables s) rem) (addend D u (rem u +ℤ shift c y) -ℤ addend D u (rem u)) sum r (pos y) (neg_to C y i) (negative_weight c y) so.sum_is k in
        record { state = rw (← q) w; sum_is = rw (← q, f, moves) h }

-- all of them

neg_all : (C : List ℕ) (y : ℕ) → neg_to C y (count C) ≡ y * negatives C
unfolding negatives
neg_all C y = sym (sum_times y (λ h. one (not (is_positive (code C h)))) (λ h. negative_weight (code C h) y) (count C) (λ h. y_fold (is_positive (code C h))))
  where
    y_fold : (b : Bool) → y * one (not b) ≡ cond b 0 y
    y_fold true = mul-zero y
    y_fold false = omega arith

total_step : (E A B sum : ℤ) (y k N : ℕ) → N ≡ y * k → A +ℤ sum +ℤ pos N ≡ B +ℤ pos y → E +ℤ A +ℤ sum ≡ E +ℤ (pos y *ℤ (pos 1 -ℤ pos k)) +ℤ B
total_step E A B sum y k N m h = go (pos y *ℤ (pos 1 -ℤ pos k)) (entry_diff y k)
  where
    go : (z : ℤ) → Diff z y (y * k) → E +ℤ A +ℤ sum ≡ E +ℤ z +ℤ B
    go z dz =
        let (hu, hd) = same_parts h in
        let a = sum_parts A sum in
        let b = sum_parts (A +ℤ sum) (pos N) in
        let c = sum_parts B (pos y) in
        let d = sum_parts E A in
        let f = sum_parts (E +ℤ A) sum in
        let g = sum_parts E z in
        let i = sum_parts (E +ℤ z) B in
        equal_parts (E +ℤ A +ℤ sum) (E +ℤ z +ℤ B) (omega (arith, hu, hd, m, a, b, c, d, f, g, i, dz))

entry_all : (D s e : List ℕ) (j t : ℕ) (marks : List ℕ) (rest : List ℤ) (sum : ℤ) → LiteralList 1024 (entry_clause s e (suc j))
    → Added D s e j t (entry_clause s e (suc j)) (weight e (suc j)) marks rest sum (count (entry_clause s e (suc j)))
    → Weighing (variables s) D (full_of s e) (remainder s e (suc j)) t marks rest × (total_of s D e j +ℤ sum ≡ total_of s D e (suc j))
unfolding total_of entry_sum sum_of_ℤ
entry_all D s e j t marks rest sum form so = (
  weighing_same (variables s) D (full_of s e) rem (remainder s e (suc j)) t marks rest (rem_to_all s e j form) so.state,
  total_step (entry_sum s e j) (addend_sum D (variables s) (remainder s e j)) (addend_sum D (variables s) (remainder s e (suc j))) sum y (negatives C) (neg_to C y (count C)) (neg_all C y)
      (rw (← addends_same D (variables s) rem (remainder s e (suc j)) (λ v w. rem_to_all s e j form v)) so.sum_is),
)
  where
    C : List ℕ
    C = entry_clause s e (suc j)

    y : ℕ
    y = weight e (suc j)

    rem : ℕ → ℤ
    rem = rem_to (remainder s e j) C y (count C)

pub added_all : (D s e : List ℕ) (j t : ℕ) (C : List ℕ) (y : ℕ) (marks : List ℕ) (rest : List ℤ) (sum : ℤ) (i : ℕ)
    → LiteralList 1024 C → C ≡ entry_clause s e (j + 1) → y ≡ weight e (j + 1) → i ≡ count C
    → Added D s e j t C y marks rest sum i
    → Weighing (variables s) D (full_of s e) (remainder s e (j + 1)) t marks rest × (total_of s D e j +ℤ sum ≡ total_of s D e (j + 1))
added_all D s e j t C y marks rest sum i list p q l so = rw add-one (go (rw add-one at p) (rw add-one at q))
  where
    go : C ≡ entry_clause s e (suc j) → y ≡ weight e (suc j)
        → Weighing (variables s) D (full_of s e) (remainder s e (suc j)) t marks rest × (total_of s D e j +ℤ sum ≡ total_of s D e (suc j))
    go p q = entry_all D s e j t marks rest sum (rw p at list) (rw (l, p, q) at so)

-- ---- what one literal adds is small

pub gain_small : (D : List ℕ) (u : ℕ) (x r : ℤ) (c y : ℕ) → y < 2 ^ 16
    → r ≡ addend D u (x +ℤ shift c y) -ℤ addend D u x -ℤ pos (negative_weight c y) → nat_abs r ≤ 131072
gain_small D u x r c y h e = rw e (go (is_positive c))
  where
    go : (b : Bool) → nat_abs (addend D u (x +ℤ cond b (neg_ℤ (pos y)) (pos y)) -ℤ addend D u x -ℤ pos (cond b 0 y)) ≤ 131072
    go true =
        let a = addend_close D u x (neg_ℤ (pos y)) in
        let b = minus_size (addend D u (x +ℤ neg_ℤ (pos y)) -ℤ addend D u x) (pos 0) in
        let n = neg_size (pos y) in
        omega (arith, a, b, n, h)
    go false =
        let a = addend_close D u x (pos y) in
        let b = minus_size (addend D u (x +ℤ pos y) -ℤ addend D u x) (pos y) in
        omega (arith, a, b, h)

-- ---- what is read of an entry

pub cites_next : (e : List ℕ) (j : ℕ) {k : ℕ} → k ≡ number_at e (2 + 6 * j) 4 → k ≡ entry_cites e (j + 1)
cites_next e j h = rw add-sub_cancel h

pub weight_next : (e : List ℕ) (j : ℕ) {y : ℕ} → y ≡ number_at e (2 + 6 * j + 4) 2 → y ≡ weight e (j + 1)
weight_next e j h = rw add-sub_cancel h

pub clause_next : (s e : List ℕ) (j : ℕ) {k : ℕ} {r : List ℕ} → r ≡ clause s k → k ≡ number_at e (2 + 6 * j) 4 → r ≡ entry_clause s e (j + 1)
clause_next s e j h q = rw (h, cites_next e j q)

pub same_list : (n : ℕ) {C C' : List ℕ} → C ≡ C' → LiteralList n C' → LiteralList n C
same_list n e l = rw e l

-- ---- the next literal, and what its variable costs

pub next_variable : (n : ℕ) (C : List ℕ) (i : ℕ) {c : ℕ} → LiteralList n C → i < count C → c ≡ code C (i + 1) → Among n (variable_of c)
next_variable n C i list less e = rw e (list.variables.range (i + 1) (omega arith, omega arith))

module _ (s prices : List ℕ) (v : ℕ) (known : Prices s prices) (a : Among (variables s) v) where
  pub price_is : price_at prices (2 * v + 1) ≡ cost_of s v
  price_is =
      let own : variable_of (2 * v + 1) ≡ v = omega arith in
      let odd : (2 * v + 1) % 2 ≡ 0 → ⊥ = λ z. omega (arith, z) in
      rw (known.each (2 * v + 1) (rw own a), ne_eqb ((2 * v + 1) % 2) 0 odd, own)

pub price_full : (s prices e : List ℕ) (d v : ℕ) → d ≡ divisor e → Prices s prices → Among (variables s) v
    → d * price_at prices (2 * v + 1) ≡ full_of s e v
price_full s prices e d v h known a = rw (h, price_is s prices v known a)

pub full_small : (s e : List ℕ) (v : ℕ) → IsBytes s → IsBytes e → full_of s e v ≤ 2 ^ 48
full_small s e v bs be =
    let below = cost_below s bs v in
    product_small (divisor e) (cost_of s v) (number_below 2 e be 0) (omega (arith, below))
