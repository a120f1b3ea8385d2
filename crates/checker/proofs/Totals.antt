-- The total before all entries, and after each.
-- Assumes nothing.
use Rattle.std.specs.Prelude.{Ok}
use Rattle.std.proofs.Common.{◌≡◌, ℕ, zero, suc, ◌+◌, ◌*◌, ◌^◌, ◌<◌, ◌≤◌, Bool, true, false, cond, not, eqb, List, ℤ, pos, sym, refl, ap, ◌∙◌, mul-le-mul, mul-zero, arith, eq-eqb, ne_eqb}
use mathlib.Core.Bool.{and-false}
use lib.IntN.{+ℤ_idl}
use borrow.Author.Tests.{eqb-false, not-true}
use Rattle.judgement.specs.Scan.{all_of, sum_of}
use Rattle.judgement.specs.Finding.{Finding, fault, ◌then◌}
use Rattle.judgement.specs.Number.{number_at}
use Rattle.judgement.specs.Meaning.{negative, with_loss}
use Rattle.judgement.specs.Literals.{count, holds, mentions}
use Rattle.judgement.specs.Sheet.{variables, cost_of, problem_of}
use Rattle.judgement.specs.Kinds.{negative_cost}
use Rattle.judgement.specs.Step.{bound, literals, tail, divisor, entry_count, weight}
use Rattle.judgement.specs.Integers.{sum_of_ℤ, rounded_up}
use Rattle.judgement.specs.Linear.{weight_of, remainder, entry_sum, addend, addend_sum, total_of, total, linear_cost, is_weighted, weights_finding, linear_bound}
use Rattle.judgement.specs.Facts.{LiteralList}
use Rattle.judgement.proofs.Laws.Scan.{and_l, sum_times}
use Rattle.judgement.proofs.Laws.ByVariable.{negatives_by_variable}
use Rattle.checker.specs.Weighing.{Settling, Weighing, full_of, Weighable}
use Rattle.layout.proofs.Loops.{all_more, all_stop}
use Rattle.checker.proofs.Meeting.{weighing_settled}
use Rattle.checker.proofs.Entries.{weight_next}
use Rattle.checker.proofs.Adding.{turned_not}

-- ---- before all entries

full_remainder : (s e : List ℕ) (v : ℕ) → remainder s e 0 v ≡ pos (full_of s e v)
unfolding remainder weight_of sum_of
full_remainder s e v = turned_not (pos (divisor e * cost_of s v)) 0

pub weighing_start : (s D e : List ℕ) (t : ℕ) (marks : List ℕ) (rest : List ℤ) → variables s ≤ 1024 → LiteralList (variables s) D
    → Settling D (count D) t marks rest → Weighing (variables s) D (full_of s e) (remainder s e 0) t marks rest
weighing_start s D e t marks rest top list so =
    let w = weighing_settled (variables s) D (full_of s e) t marks rest top list so in
    record { stale = w.stale; size = w.size; kept = λ v a. rw (full_remainder s e v) (w.kept v a) }

sum_pos : (f : ℕ → ℤ) (g : ℕ → ℕ) (n : ℕ) → ((k : ℕ) → f k ≡ pos (g k)) → sum_of_ℤ f n ≡ pos (sum_of g n)
unfolding sum_of_ℤ sum_of
sum_pos f g zero h = refl
sum_pos f g (suc n) h = rw (sum_pos f g n h, h (suc n))

-- what D settles as true is paid in full
pub total_start : (s D e : List ℕ) → LiteralList (variables s) D → total_of s D e 0 ≡ pos (divisor e * negative_cost s D)
unfolding total_of entry_sum addend_sum sum_of_ℤ negative_cost addend
total_start s D e list =
    +ℤ_idl (addend_sum D (variables s) (remainder s e 0))
    ∙ sum_pos (λ v. addend D v (remainder s e 0 v)) (λ v. cond (holds D (negative v)) (full_of s e v) 0) (variables s) (λ v. rw (full_remainder s e v) (paid v))
    ∙ ap pos (sym (sum_times (divisor e) (λ v. cond (holds D (negative v)) (cost_of s v) 0) (λ v. cond (holds D (negative v)) (full_of s e v) 0) (variables s) (λ v. scaled v (holds D (negative v)))))
    ∙ ap (λ (x : ℕ). pos (divisor e * x)) (sym (negatives_by_variable (variables s) D (cost_of s) list))
  where
    scaled : (v : ℕ) (b : Bool) → divisor e * cond b (cost_of s v) 0 ≡ cond b (full_of s e v) 0
    scaled v true = refl
    scaled v false = mul-zero (divisor e)

    paid : (v : ℕ) → addend D v (pos (full_of s e v)) ≡ pos (cond (holds D (negative v)) (full_of s e v) 0)
    paid v = go (holds D (negative v)) (mentions D v)
      where
        go : (h m : Bool) → cond h (pos (full_of s e v)) (cond m (pos 0) (pos 0)) ≡ pos (cond h (full_of s e v) 0)
        go true m = refl
        go false true = refl
        go false false = refl

-- ---- the next entry

pub paid_small : (d x : ℕ) → d < 2 ^ 16 → x ≤ 2 ^ 42 → d * x ≤ 2 ^ 58
paid_small d x a b = mul-le-mul {n₁ = d} {m₁ = x} {n₂ = 2 ^ 16} {m₂ = 2 ^ 42} (omega arith) b

-- the first total, as it is computed
pub first_total : (s D e : List ℕ) (d x : ℕ) {sum : ℤ} → LiteralList (variables s) D → d ≡ divisor e → x ≡ negative_cost s D → sum ≡ pos (d * x)
    → sum ≡ total_of s D e 0
first_total s D e d x list h k q = rw (q, h, k) (sym (total_start s D e list))

-- ---- the weights

-- the weight of entry j is above 0
abbrev pub is_weight : List ℕ → ℕ → Bool
is_weight e j = not (eqb (weight e j) 0)

pub divisor_zero : (e : List ℕ) {x : ℕ} → x ≡ divisor e → x ≡ 0 → false ≡ is_weighted e
unfolding is_weighted
divisor_zero e h z = rw (← h, z)

pub weight_zero : (e : List ℕ) (j : ℕ) {x : ℕ} → x ≡ number_at e (2 + 6 * j + 4) 2 → x ≡ 0 → j < entry_count e → false ≡ is_weighted e
unfolding is_weighted
weight_zero e j h z l =
    let k : is_weight e (j + 1) ≡ false = rw (← weight_next e j h, z) in
    rw (all_stop (is_weight e) j (entry_count e) l k) (sym (and-false (not (eqb (divisor e) 0))))

pub weights_more : (e : List ℕ) (j : ℕ) {x : ℕ} → x ≡ number_at e (2 + 6 * j + 4) 2 → (x ≡ 0 → ⊥) → all_of (is_weight e) j ≡ true
    → all_of (is_weight e) (j + 1) ≡ true
weights_more e j {x} h z p =
    let k : is_weight e (j + 1) ≡ true = rw (← weight_next e j h, ne_eqb x 0 z) in
    all_more (is_weight e) j p k

pub weights_all : (e : List ℕ) {x j : ℕ} → x ≡ divisor e → (x ≡ 0 → ⊥) → j ≡ entry_count e → all_of (is_weight e) j ≡ true
    → true ≡ is_weighted e
unfolding is_weighted
weights_all e {x} h z end p = rw (← h, ne_eqb x 0 z, ← end, p)

-- ---- refusals 23 and 24

pub weights_fault : (s b : List ℕ) (k : ℕ) {e : List ℕ} {r : Bool} → e ≡ tail b → r ≡ is_weighted e → r ≡ false
    → fault 23 k ≡ (weights_finding b k then linear_bound s b k)
unfolding weights_finding
weights_fault s b k {r = r} p q h = rw (← p, ← q, h)

module _ (s b : List ℕ) (k : ℕ) {e D : List ℕ} {r : Bool} {x y : ℕ} (p : e ≡ tail b) (l : D ≡ literals b) (q : r ≡ is_weighted e)
    (h : r ≡ true) (x_is : x ≡ bound b) (y-is : y ≡ with_loss (problem_of s) (rounded_up (total_of s D e (entry_count e)) (divisor e))) where
  cost_is : y ≡ linear_cost s b
  unfolding linear_cost total
  cost_is = rw (y-is, p, l)

  pub bound_fault : (x ≡ y → ⊥) → fault 24 k ≡ (weights_finding b k then linear_bound s b k)
  unfolding weights_finding linear_bound
  bound_fault n = rw (← p, ← q, h, ← x_is, ← cost_is, ne_eqb x y n)

  pub bound_fine : x ≡ y → Path Finding (Ok tt) (weights_finding b k then linear_bound s b k)
  unfolding weights_finding linear_bound
  bound_fine e = rw (← p, ← q, h, ← x_is, ← cost_is, eq-eqb x y e)

-- ---- what the tests before the entries leave

pub divisor_some : (e : List ℕ) {r : Bool} → r ≡ is_weighted e → r ≡ true → 1 ≤ divisor e
unfolding is_weighted
divisor_some e {r} q h = go (eqb-false (divisor e) 0 (not-true (eqb (divisor e) 0) (and_l (not (eqb (divisor e) 0)) (all_of (is_weight e) (entry_count e)) (sym q ∙ h))))
  where
    go : (divisor e ≡ 0 → ⊥) → 1 ≤ divisor e
    go n = omega (arith, n)

pub weighable_as : (s D e : List ℕ) {D' e' : List ℕ} → D' ≡ D → e' ≡ e → Weighable s D e → Weighable s D' e'
weighable_as s D e p q w = rw (p, q) w
