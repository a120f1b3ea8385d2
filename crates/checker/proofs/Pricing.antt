-- What literals cost, in arrays: how these are filled, and what the prices of a list come to.
-- Assumes nothing.
use Rattle.std.specs.Prelude.{Ok}
use Rattle.std.proofs.Common.{◌≡◌, ℕ, ◌+◌, ◌-◌, ◌*◌, ◌^◌, ◌<◌, ◌≤◌, Bool, true, false, cond, List, arith, eq-eqb, ne_eqb, refl, ◌∙◌, w64, Fits}
use Rattle.judgement.specs.Scan.{sum_of}
use Rattle.judgement.specs.Meaning.{variable_of, is_positive, with_loss}
use Rattle.judgement.specs.Literals.{count, code, variable}
use Rattle.judgement.specs.Sheet.{variables, cost_of, problem_of}
use Rattle.judgement.specs.Finding.{Finding, fault}
use Rattle.judgement.specs.Step.{bound, literals}
use Rattle.judgement.specs.Kinds.{negative_cost, falsified_cost, cost_bound}
use Rattle.judgement.specs.Facts.{Among, LiteralList, ValidSheet}
use Rattle.judgement.specs.Demands.{IsBytes}
use Rattle.judgement.proofs.Laws.Scan.{sum_same}
use Rattle.judgement.proofs.Laws.Cost.{cost_below}
use Rattle.checker.specs.Prices.{price_at, Prices, price_sum, Cheap}
use Rattle.layout.proofs.Loops.{sum_more}
use Rattle.checker.proofs.Cited.{false_cost, rising_few}

-- ---- a list of the sheet's literals

price_is : (s prices part : List ℕ) → Prices s prices → LiteralList (variables s) part → (i : ℕ) → Among (count part) i
    → price_at prices (code part i) ≡ false_cost s part i
price_is s prices part p l i w = p.each (code part i) (l.variables.range i w)

pub price_sum_lem : (s prices part : List ℕ) → Prices s prices → LiteralList (variables s) part
    → price_sum prices part ≡ negative_cost s part
unfolding negative_cost
price_sum_lem s prices part p l =
    sum_same (λ i. price_at prices (code part i)) (false_cost s part) (count part) (price_is s prices part p l)

below : (b : Bool) (x : ℕ) → x ≤ 2 ^ 32 - 1 → cond b 0 x < 2 ^ 32
below true x h = omega arith
below false x h = omega arith

-- a variable costs less than 2 ^ 32, as its 4 bytes say
pub cheap : (s prices part : List ℕ) → IsBytes s → Prices s prices → LiteralList (variables s) part → Cheap prices part
cheap s prices part bytes p l i w =
    let v = variable part i in
    rw (price_is s prices part p l i w) (below (is_positive (code part i)) (cost_of s v) (cost_below s bytes v))

-- sum is what the first i literals cost, each of them less than 2 ^ 32
pub record Summed (prices part : List ℕ) (sum i : ℕ) : Type 0 where
  pub sum_is : sum ≡ sum_of (λ h. price_at prices (code part h)) i
  pub small : sum ≤ 2 ^ 32 * i

pub summed_none : (prices part : List ℕ) → Summed prices part 0 0
unfolding sum_of
summed_none prices part = record { sum_is = refl; small = omega arith }

-- c, the code of literal i + 1, is next
module _ {s prices part : List ℕ} {sum i : ℕ} (bytes : IsBytes s) (valid : ValidSheet s) (known : Prices s prices)
    (list : LiteralList (variables s) part) (so_far : Summed prices part sum i) where
  few : count part ≤ 1024
  few = omega (arith, rising_few _ _ _ list.variables, valid.n.1)

  module _ {c : ℕ} (less : i < count part) (e : c ≡ code part (i + 1)) where
    low : price_at prices c < 2 ^ 32
    low = rw e (cheap s prices part bytes known list (i + 1) (omega arith, omega arith))

    pub summed_fits : Fits w64 (sum + price_at prices c)
    summed_fits = record { fits = omega (arith, so_far.small, low, few) }

    pub summed_more : Summed prices part (sum + price_at prices c) (i + 1)
    summed_more =
        record {
          sum_is = sum_more (λ h. price_at prices (code part h)) i so_far.sum_is (rw e);
          small = omega (arith, so_far.small, low);
        }

  pub summed_all : i ≡ count part → (sum ≡ negative_cost s part) × (sum ≤ 2 ^ 42)
  summed_all end = (rw end at so_far.sum_is ∙ price_sum_lem s prices part known list, omega (arith, so_far.small, few, end))

-- ---- the step k with body b: `part` is its list, x its bound, p what the list costs, and y that with the loss

module _ (s b : List ℕ) (k : ℕ) {part : List ℕ} {x p y : ℕ} (part_is : part ≡ literals b) (x_is : x ≡ bound b)
    (p-is : p ≡ negative_cost s part) (y-is : y ≡ with_loss (problem_of s) p) where
  price : p ≡ negative_cost s (literals b)
  price = rw part_is at p-is

  pub cost_other : (x ≡ y → ⊥) → fault 13 k ≡ cost_bound s b k
  unfolding falsified_cost cost_bound
  cost_other h = rw (← x_is, ← price, ← y-is, ne_eqb x y h)

  pub cost_same : x ≡ y → Path Finding (Ok tt) (cost_bound s b k)
  unfolding falsified_cost cost_bound
  cost_same h = rw (← x_is, ← price, ← y-is, eq-eqb x y h)

-- ---- the arrays, filled for one variable after the other: a positive literal gets p of its variable, a negative one q of it

abbrev valued : (ℕ → ℕ) → (ℕ → ℕ) → ℕ → ℕ
valued p q c = cond (is_positive c) (p (variable_of c)) (q (variable_of c))

-- it is done for v variables
abbrev pub Filled : (ℕ → ℕ) → (ℕ → ℕ) → ℕ → List ℕ → Type 0
Filled p q v table = (c : ℕ) → Among v (variable_of c) → price_at table c ≡ valued p q c
