-- What a node costs while forcing goes on: the true variables that have been looked at; and when the loop over `todo` ends.
-- Assumes nothing.
use Prim.Native.Nat.{ℕ, zero, suc, ◌+◌, ◌-◌, ◌*◌, ◌/◌, ◌^◌, ◌≤◌, ◌<◌}
use mathlib.Core.Path.{◌≡◌, refl, sym, ap, ◌∙◌}
use mathlib.Core.Bool.{Bool, true, false, not, cond, ◌&&◌}
use mathlib.Core.List.{List}
use mathlib.Core.Logic.{◌⊎◌, inl, inr}
use Rattle.std.specs.Prelude.{None}
use native.Mathlib.Omega.{arith}
use native.Mathlib.Decide.{ℕ_discrete}
use lib.Dec.{eqb}
use lib.Bits.{bit_and, and_le_r}
use lib.Count.{count_trailing_zeros}
use lib.ListN.{get_or}
use borrow.Author.Tests.{eqb-true, eq-eqb, ne_eqb}
use Rattle.judgement.specs.Scan.{sum_of}
use Rattle.judgement.specs.Meaning.{Assignment, Problem, cost_of_true, cost}
use Rattle.judgement.specs.Facts.{Among}
use Rattle.judgement.proofs.Laws.Scan.{which, clash, and_l, sum_change, sum_more}
use Rattle.search.specs.declared.Node.{Node}
use Rattle.search.specs.declared.Size.{Size}
use Rattle.search.specs.declared.Work.{Work}
use Rattle.search.specs.Node.{has, node_cost}
use Rattle.search.specs.Search.{after_forcing, dead}
use Rattle.search.specs.Tables.{table_problem, FineCosts}
use Rattle.search.specs.Work.{node_of, Ready, Reached, nothing, counted, counted_cost, load, Onto, false_literal, looked_at, Outcome}
use Rattle.search.proofs.Sets.{has_empty}
use Rattle.search.proofs.Masks.{has_read, has_rest, lowest_in, lowest_small}
use Rattle.search.proofs.Nodes.{within_cost}

-- ---- one bit of a word

pub low_bit : (set v : ℕ) → bit_and (set / 2 ^ (v - 1)) 1 ≤ 1
low_bit set v = and_le_r (set / 2 ^ (v - 1)) 1

pub false_one : (w : Work) (v : ℕ) → 1 ≤ v → 2 * v + bit_and (w.trues / 2 ^ (v - 1)) 1 ≡ false_literal w v
false_one w v h = elim (which (has w.trues v)) [
  | inl t ↦ rw t (let e = eqb-true (bit_and (w.trues / 2 ^ (v - 1)) 1) 1 (has_read w.trues v h ∙ t) in omega (arith, e))
  | inr t ↦ rw t (zero (bit_and (w.trues / 2 ^ (v - 1)) 1) (low_bit w.trues v) (has_read w.trues v h ∙ t))
]
  where
    zero : (d : ℕ) → d ≤ 1 → eqb d 1 ≡ false → 2 * v + d ≡ 2 * v
    zero d l e = let n : d ≡ 1 → ⊥ = λ q. clash (eq-eqb d 1 q) e in omega (arith, l, n)

pub false_wide : (w : Work) (v c : ℕ) → Among 64 v → c ≡ false_literal w v → Among 64 (c / 2)
false_wide w v c a e = rw e (elim (which (has w.trues v)) [
  | inl t ↦ rw t (omega (arith, a.0), omega (arith, a.1))
  | inr t ↦ rw t (omega (arith, a.0), omega (arith, a.1))
])

pub share_none : (set v x : ℕ) → 1 ≤ v → bit_and (set / 2 ^ (v - 1)) 1 ≡ 0 → 0 ≡ cond (has set v) x 0
share_none set v x h z = let e = sym (has_read set v h) ∙ ne_eqb (bit_and (set / 2 ^ (v - 1)) 1) 1 (λ q. omega (arith, z, q)) in rw e

pub share_some : (set v x : ℕ) → 1 ≤ v → (bit_and (set / 2 ^ (v - 1)) 1 ≡ 0 → ⊥) → x ≡ cond (has set v) x 0
share_some set v x h nz = let e = sym (has_read set v h) ∙ eq-eqb (bit_and (set / 2 ^ (v - 1)) 1) 1 (omega (arith, nz, low_bit set v)) in rw e

-- ---- the lowest variable of `todo` is looked at

module _ (w : Work) (some : 1 ≤ w.todo) (word : w.todo < 2 ^ 64) where
  abbrev v : ℕ
  v = count_trailing_zeros 64 w.todo + 1

  pub todo_wide : Among 64 v
  todo_wide = let l = lowest_small w.todo word (λ e. omega (arith, e, some)) in (omega arith, omega (arith, l))

  pub todo_has : has w.todo v ≡ true
  todo_has = lowest_in w.todo (lowest_small w.todo word (λ e. omega (arith, e, some)))

  pub gone : has (looked_at w).todo v ≡ false
  gone = has_rest w.todo v some word (omega arith) ∙ go (has w.todo v) (eq-eqb v v refl)
    where
      go : (a : Bool) {e : Bool} → e ≡ true → a && not e ≡ false
      go true q = ap not q
      go false q = refl

  pub stays : (u : ℕ) → (u ≡ v → ⊥) → has (looked_at w).todo u ≡ has w.todo u
  unfolding has
  stays zero d = refl
  stays (suc u) d = has_rest w.todo (suc u) some word (omega arith) ∙ go (has w.todo (suc u)) (ne_eqb (suc u) v d)
    where
      go : (a : Bool) {e : Bool} → e ≡ false → a && not e ≡ a
      go true q = ap not q
      go false q = refl

  -- ---- its cost is counted now

  pub counted_more : (P : Problem) → Among P.variables v
      → counted_cost P w + cond (has w.trues v) (P.cost_of v) 0 ≡ counted_cost P (looked_at w)
  unfolding cost cost_of_true
  counted_more P a =
      let e = sum_change (λ u. cond (counted w u) (P.cost_of u) 0) (λ u. cond (counted (looked_at w) u) (P.cost_of u) 0) (cond (has w.trues v) (P.cost_of v) 0) P.variables v a other here in
      omega (arith, e)
    where
      here : cond (counted w v) (P.cost_of v) 0 + cond (has w.trues v) (P.cost_of v) 0 ≡ cond (counted (looked_at w) v) (P.cost_of v) 0
      here = rw (todo_has, gone) (go (has w.trues v))
        where
          go : (b : Bool) → cond (b && false) (P.cost_of v) 0 + cond b (P.cost_of v) 0 ≡ cond (b && true) (P.cost_of v) 0
          go true = omega arith
          go false = omega arith

      other : (u : ℕ) → (u ≡ v → ⊥) → cond (counted w u) (P.cost_of u) 0 ≡ cond (counted (looked_at w) u) (P.cost_of u) 0
      other u d = ap (λ (b : Bool). cond (has w.trues u && not b) (P.cost_of u) 0) (sym (stays u d))

  -- ---- there is less to do

  pub load_falls : (r : Work) → Onto (looked_at w) r → sum_of (load r) 64 < sum_of (load w) 64
  load_falls r onto = let l = sum_more (load r) (load w) 1 64 v todo_wide each here in omega (arith, l)
    where
      here : load r v + 1 ≤ load w v
      here = let l = onto.lighter v in rw todo_has (let g = rw gone at l in omega (arith, g))

      each : (u : ℕ) → load r u ≤ load w u
      each u = let l = onto.lighter u in elim (ℕ_discrete u v) [
        | yes e ↦ let h = here in rw e (omega (arith, h))
        | no d ↦ rw (← stays u d) l
      ]

-- ---- what has been counted

same_cost : (P : Problem) (α β : Assignment) → ((v : ℕ) → α v ≡ β v) → cost P α ≡ cost P β
same_cost P α β h =
    let a = within_cost P α β (λ v w t. sym (h v) ∙ t) in
    let b = within_cost P β α (λ v w t. h v ∙ t) in
    omega (arith, a, b)

-- settling literals counts nothing
pub counted_same : (P : Problem) (w r : Work) → Onto w r → counted_cost P r ≡ counted_cost P w
counted_same P w r onto = same_cost P (counted r) (counted w) onto.same

-- where nothing is to be looked at, all is counted
pub counted_all : (P : Problem) (w : Work) → w.todo ≡ 0 → counted_cost P w ≡ node_cost P (node_of w)
counted_all P w z = same_cost P (counted w) (has w.trues) (λ u. rw (z, has_empty u) (go (has w.trues u)))
  where
    go : (b : Bool) → b && true ≡ b
    go true = refl
    go false = refl

-- the node after forcing costs no less than what is counted, or has a false clause
pub counted_ahead : (P : Problem) (p : Node) (w : Work) (best : ℕ) → Reached P p (node_of w) → best ≤ counted_cost P w
    → (dead P (after_forcing P p) ≡ true) ⊎ (best ≤ node_cost P (after_forcing P p))
counted_ahead P p w best reached l = elim reached.ahead [
  | inl d ↦ inl d
  | inr u ↦ inr (
      let m = within_cost P (counted w) (has (after_forcing P p).trues) (λ v a t. (u v).0 (and_l (has w.trues v) (not (has w.todo v)) t)) in
      omega (arith, l, m))
]

-- a cost is far from the end of a word
pub cost_small : (size : Size) (costs masks : List ℕ) (α : Assignment) → size.variables ≤ 64 → FineCosts size costs
    → cost (table_problem size costs masks) α < 2 ^ 39
unfolding cost cost_of_true sum_of
cost_small size costs masks α small fine = let l = go size.variables in omega (arith, l, small, fine.loss)
  where
    at : (b : Bool) (v : ℕ) → cond b (get_or costs (v - 1) 0) 0 ≤ 4294967295
    at true v = let l = fine.each (v - 1) in omega (arith, l)
    at false v = omega arith

    go : (n : ℕ) → sum_of (λ v. cond (α v) (get_or costs (v - 1) 0) 0) n ≤ n * 4294967295
    go zero = omega arith
    go (suc n) = let i = go n in let l = at (α (suc n)) (suc n) in omega (arith, i, l)

-- ---- one round of forcing: the lowest variable of `todo` is looked at, and then the clauses of its false literal that are low

module _ (P : Problem) (w : Work) (some : 1 ≤ w.todo) (word : w.todo < 2 ^ 64) (ready : Ready P w nothing) where
  abbrev low : ℕ
  low = count_trailing_zeros 64 w.todo + 1

  pub round_paid : (paid share : ℕ) → paid ≡ counted_cost P w → share ≡ cond (has w.trues low) (P.cost_of low) 0
      → paid + share ≡ counted_cost P (looked_at w)
  round_paid paid share e f =
      let g = counted_more w some word P (ready.inside low (todo_has w some word)) in
      omega (arith, e, f, g)

-- a node that is left
pub left_outcome : (P : Problem) (best : ℕ) (p : Node) → (dead P (after_forcing P p) ≡ true) ⊎ (best ≤ node_cost P (after_forcing P p))
    → Outcome P best p None
left_outcome P best p why = record { leaves = λ e. why; stays = λ f e. cc }
