-- Laws of nodes: settling a literal, what extends a node, what it costs, its next variable, and the literal that is forced.
-- Assumes nothing.
use Prim.Native.Nat.{ℕ, zero, suc, ◌+◌, ◌*◌, ◌%◌, ◌≤◌}
use mathlib.Core.Path.{◌≡◌, refl, sym, ap, ◌∙◌}
use mathlib.Core.Bool.{Bool, true, false, not, cond, ◌&&◌, ◌||◌}
use mathlib.Core.Logic.{◌⊎◌, inl, inr}
use native.Mathlib.Omega.{arith}
use lib.Dec.{eqb}
use borrow.Author.Tests.{eqb-true, eq-eqb, ne_eqb, not-true}
use Rattle.judgement.specs.Scan.{sum_of, one, count_of}
use Rattle.judgement.specs.Meaning.{positive, negative, variable_of, is_positive, Assignment, literal_true, Problem, cost_of_true, cost, Model}
use Rattle.judgement.specs.Facts.{Among}
use Rattle.judgement.proofs.Laws.Scan.{which, clash, and_l, and_r, or_e, not_e, false_i, all_each, sum_change}
use Rattle.judgement.proofs.Laws.Truth.{true_positive}
use Rattle.search.specs.declared.Node.{Node}
use Rattle.search.specs.Node.{has, add, unsettled, settled_false, settle, root, node_cost, next_variable, last_code, falsified, forces, forced_by}
use Rattle.search.specs.Search.{forced}
use Rattle.search.specs.Work.{unsettled_count}
use Rattle.search.proofs.First.{LowestAt, first_some, lowest_none, lowest_some}
use Rattle.search.proofs.Sets.{has_empty, has_add, add_new, add_old, add_or}

-- clauses speak of variables 1 to n alone, as on a valid sheet
abbrev pub Bounded : Problem → Type 0
Bounded P = (k : ℕ) → Among P.clauses k → (c : ℕ) → P.clause k c ≡ true → Among P.variables (variable_of c)

-- the assignment makes true what the node has as true, and false what it has as false
abbrev pub Extends : Problem → Node → Assignment → Type 0
Extends P p α = (v : ℕ) → Among P.variables v → (has p.trues v ≡ true → α v ≡ true) × (has p.falses v ≡ true → α v ≡ false)

-- variables from 1 to n are settled, none both ways
pub record FineNode (n : ℕ) (p : Node) : Type 0 where
  pub trues : (v : ℕ) → has p.trues v ≡ true → Among n v
  pub falses : (v : ℕ) → has p.falses v ≡ true → Among n v
  pub one_way : (v : ℕ) → has p.trues v ≡ true → has p.falses v ≡ true → ⊥

-- ---- codes

pub variable_positive : (v : ℕ) → variable_of (positive v) ≡ v
variable_positive v = omega arith

pub variable_negative : (v : ℕ) → variable_of (negative v) ≡ v
variable_negative v = omega arith

pub is_positive_lem : (v : ℕ) → is_positive (positive v) ≡ true
is_positive_lem v = eq-eqb (2 * v % 2) 0 (omega arith)

pub is_negative : (v : ℕ) → is_positive (negative v) ≡ false
is_negative v = ne_eqb ((2 * v + 1) % 2) 0 (λ e. omega (arith, e))

-- ---- settling one literal

pub settle_positive : (p : Node) (c : ℕ) → is_positive c ≡ true
    → settle p c ≡ record { trues = add p.trues (variable_of c); falses = p.falses }
unfolding settle
settle_positive p c e = rw e

pub settle_negative : (p : Node) (c : ℕ) → is_positive c ≡ false
    → settle p c ≡ record { trues = p.trues; falses = add p.falses (variable_of c) }
unfolding settle
settle_negative p c e = rw e

pub settle_trues : (p : Node) (c u : ℕ) → 1 ≤ variable_of c
    → has (settle p c).trues u ≡ (is_positive c && eqb u (variable_of c)) || has p.trues u
settle_trues p c u h = elim (which (is_positive c)) [
  | inl e ↦ rw (settle_positive p c e, e) (has_add p.trues (variable_of c) u h)
  | inr e ↦ rw (settle_negative p c e, e)
]

pub settle_falses : (p : Node) (c u : ℕ) → 1 ≤ variable_of c
    → has (settle p c).falses u ≡ (not (is_positive c) && eqb u (variable_of c)) || has p.falses u
settle_falses p c u h = elim (which (is_positive c)) [
  | inl e ↦ rw (settle_positive p c e, e)
  | inr e ↦ rw (settle_negative p c e, e) (has_add p.falses (variable_of c) u h)
]

pub settled_now : (p : Node) (c : ℕ) → 1 ≤ variable_of c → unsettled (settle p c) (variable_of c) ≡ false
unfolding unsettled
settled_now p c h =
    rw (settle_trues p c (variable_of c) h, settle_falses p c (variable_of c) h, eq-eqb (variable_of c) (variable_of c) refl)
    (go (is_positive c) (has p.trues (variable_of c)) (has p.falses (variable_of c)))
  where
    go : (b t f : Bool) → not ((b && true) || t) && not ((not b && true) || f) ≡ false
    go true t f = refl
    go false true f = refl
    go false false f = refl

pub others_stay : (p : Node) (c u : ℕ) → 1 ≤ variable_of c → (u ≡ variable_of c → ⊥) → unsettled (settle p c) u ≡ unsettled p u
unfolding unsettled
others_stay p c u h d =
    rw (settle_trues p c u h, settle_falses p c u h, ne_eqb u (variable_of c) d)
    (go (is_positive c) (has p.trues u) (has p.falses u))
  where
    go : (b t f : Bool) → not ((b && false) || t) && not ((not b && false) || f) ≡ not t && not f
    go true t f = refl
    go false t f = refl

-- one variable less is unsettled
pub settle_counts : (n : ℕ) (p : Node) (c : ℕ) → Among n (variable_of c) → unsettled p (variable_of c) ≡ true
    → unsettled_count n p ≡ suc (unsettled_count n (settle p c))
unfolding unsettled_count
settle_counts n p c w e = let h = change in omega (arith, h)
  where
    change : count_of (unsettled (settle p c)) n + 1 ≡ count_of (unsettled p) n
    change =
        sum_change (λ k. one (unsettled (settle p c) k)) (λ k. one (unsettled p k)) 1 n (variable_of c) w
        (λ k d. ap one (others_stay p c k w.0 d)) (rw (e, settled_now p c w.0))

-- ---- settled or not

pub unsettled_not : (p : Node) (v : ℕ) → unsettled p v ≡ true → (has p.trues v ≡ false) × (has p.falses v ≡ false)
unfolding unsettled
unsettled_not p v e = (
  not-true (has p.trues v) (and_l (not (has p.trues v)) (not (has p.falses v)) e),
  not-true (has p.falses v) (and_r (not (has p.trues v)) (not (has p.falses v)) e),
)

pub settled_or : (p : Node) (v : ℕ) → unsettled p v ≡ false → (has p.trues v ≡ true) ⊎ (has p.falses v ≡ true)
unfolding unsettled
settled_or p v e = go (has p.trues v) (has p.falses v) e
  where
    go : (t f : Bool) → not t && not f ≡ false → (t ≡ true) ⊎ (f ≡ true)
    go true f e = inl refl
    go false true e = inr refl
    go false false e = absurd (clash refl e)

-- ---- nodes in form

pub root_fine : (n : ℕ) → FineNode n root
root_fine n = record {
  trues = λ v t. absurd (clash t (has_empty v));
  falses = λ v f. absurd (clash f (has_empty v));
  one_way = λ v t f. clash t (has_empty v);
}

pub settle_fine : (n : ℕ) (p : Node) (c : ℕ) → Among n (variable_of c) → unsettled p (variable_of c) ≡ true → FineNode n p
    → FineNode n (settle p c)
settle_fine n p c w u fine = elim (which (is_positive c)) [
  | inl e ↦ rw (settle_positive p c e) as_true
  | inr e ↦ rw (settle_negative p c e) as_false
]
  where
    more : (set : ℕ) → ((x : ℕ) → has set x ≡ true → Among n x) → (x : ℕ) → has (add set (variable_of c)) x ≡ true → Among n x
    more set h x t = elim (add_or set (variable_of c) x w.0 t) [
      | inl q ↦ rw q w
      | inr q ↦ h x q
    ]

    as_true : FineNode n (record { trues = add p.trues (variable_of c); falses = p.falses })
    as_true = record {
      trues = more p.trues fine.trues;
      falses = fine.falses;
      one_way = λ x t f. elim (add_or p.trues (variable_of c) x w.0 t) [
        | inl q ↦ clash (rw q at f) (unsettled_not p (variable_of c) u).1
        | inr q ↦ fine.one_way x q f
      ];
    }

    as_false : FineNode n (record { trues = p.trues; falses = add p.falses (variable_of c) })
    as_false = record {
      trues = fine.trues;
      falses = more p.falses fine.falses;
      one_way = λ x t f. elim (add_or p.falses (variable_of c) x w.0 f) [
        | inl q ↦ clash (rw q at t) (unsettled_not p (variable_of c) u).0
        | inr q ↦ fine.one_way x t q
      ];
    }

-- ---- the next variable

-- it is unsettled, and each one before it is settled
pub next_is : (P : Problem) (p : Node) → 1 ≤ next_variable P p → LowestAt (unsettled p) P.variables (next_variable P p)
unfolding next_variable
next_is P p h = lowest_some (unsettled p) P.variables h

pub next_none : (P : Problem) (p : Node) → next_variable P p ≡ 0 → (v : ℕ) → Among P.variables v → unsettled p v ≡ false
unfolding next_variable
next_none P p e v w = lowest_none (unsettled p) P.variables e v w

-- ---- costs

-- what is true in α is true in β
abbrev pub Within : ℕ → Assignment → Assignment → Type 0
Within n α β = (v : ℕ) → Among n v → α v ≡ true → β v ≡ true

-- more true variables cost no less
pub within_cost : (P : Problem) (α β : Assignment) → Within P.variables α β → cost P α ≤ cost P β
unfolding sum_of cost cost_of_true
within_cost P α β h = let l = go P.variables h in omega (arith, l)
  where
    one_more : (v : ℕ) (b d : Bool) → (b ≡ true → d ≡ true) → cond b (P.cost_of v) 0 ≤ cond d (P.cost_of v) 0
    one_more v true d h = rw (h refl) (omega arith)
    one_more v false d h = omega arith

    go : (n : ℕ) → Within n α β → sum_of (λ v. cond (α v) (P.cost_of v) 0) n ≤ sum_of (λ v. cond (β v) (P.cost_of v) 0) n
    go zero h = omega arith
    go (suc n) h =
        let i = go n (λ v w. h v (w.0, omega (arith, w.1))) in
        let l = one_more (suc n) (α (suc n)) (β (suc n)) (h (suc n) (omega arith, omega arith)) in
        omega (arith, i, l)

-- ---- what extends a node

pub root_extends : (P : Problem) (α : Assignment) → Extends P root α
root_extends P α v w = (λ t. absurd (clash t (has_empty v)), λ f. absurd (clash f (has_empty v)))

module _ (P : Problem) (p : Node) where
  -- its true variables do, with the others false
  pub itself : FineNode P.variables p → Extends P p (has p.trues)
  itself fine v w = (λ t. t, λ f. false_i (has p.trues v) (λ t. fine.one_way v t f))

  -- two that extend it agree where it is settled
  pub extends_agree : (α β : Assignment) → Extends P p α → Extends P p β → (v : ℕ) → Among P.variables v → unsettled p v ≡ false
      → α v ≡ β v
  extends_agree α β x y v w e = elim (settled_or p v e) [
    | inl t ↦ (x v w).0 t ∙ sym ((y v w).0 t)
    | inr f ↦ (x v w).1 f ∙ sym ((y v w).1 f)
  ]

  module _ (α : Assignment) where
    -- a node costs no more than what extends it
    pub cost_extends : Extends P p α → node_cost P p ≤ cost P α
    cost_extends x = within_cost P (has p.trues) α (λ v w. (x v w).0)

    -- a literal that the node has as false is false
    pub false_literal : Extends P p α → (c : ℕ) → Among P.variables (variable_of c) → settled_false p c ≡ true → literal_true α c ≡ false
    unfolding settled_false literal_true
    false_literal x c w e = go (is_positive c) e
      where
        go : (b : Bool) → cond b (has p.falses (variable_of c)) (has p.trues (variable_of c)) ≡ true
            → cond b (α (variable_of c)) (not (α (variable_of c))) ≡ false
        go true e = (x (variable_of c) w).1 e
        go false e = rw ((x (variable_of c) w).0 e)

    -- with a literal settled: what made it true still extends the node
    pub extends_settle : (c : ℕ) → 1 ≤ variable_of c → Extends P p α → literal_true α c ≡ true → Extends P (settle p c) α
    unfolding literal_true
    extends_settle c h x e v w = elim (which (is_positive c)) [
      | inl s ↦ rw (settle_positive p c s) (λ t. now (true_positive α c s e) (add_or p.trues (variable_of c) v h t) (x v w).0, (x v w).1)
      | inr s ↦ rw (settle_negative p c s) ((x v w).0, λ f. now (true_negative s) (add_or p.falses (variable_of c) v h f) (x v w).1)
    ]
      where
        true_negative : is_positive c ≡ false → α (variable_of c) ≡ false
        true_negative s = not-true (α (variable_of c)) (rw s at e)

        now : {A : Type 0} {b : Bool} → α (variable_of c) ≡ b → (v ≡ variable_of c) ⊎ A → (A → α v ≡ b) → α v ≡ b
        now e (inl q) old = rw q e
        now e (inr a) old = old a

    -- and nothing else comes in
    pub settle_extends : (c : ℕ) → 1 ≤ variable_of c → Extends P (settle p c) α → Extends P p α
    settle_extends c h x v w = elim (which (is_positive c)) [
      | inl s ↦ let y = rw (settle_positive p c s) at (x v w) in (λ t. y.0 (add_old p.trues (variable_of c) v h t), y.1)
      | inr s ↦ let y = rw (settle_negative p c s) at (x v w) in (y.0, λ f. y.1 (add_old p.falses (variable_of c) v h f))
    ]

    -- and the literal is true in all of it
    pub settle_literal : (c : ℕ) → Among P.variables (variable_of c) → Extends P (settle p c) α → literal_true α c ≡ true
    unfolding literal_true
    settle_literal c w x = elim (which (is_positive c)) [
      | inl s ↦
          let y = rw (settle_positive p c s) at (x (variable_of c) w) in
          rw s (y.0 (add_new p.trues (variable_of c) w.0))
      | inr s ↦
          let y = rw (settle_negative p c s) at (x (variable_of c) w) in
          rw (s, y.1 (add_new p.falses (variable_of c) w.0))
    ]

-- ---- clauses at a node

module _ (P : Problem) (bounded : Bounded P) (p : Node) (α : Assignment) (model : Model P α) (extends : Extends P p α) where
  in_range : (k : ℕ) → Among P.clauses k → (c : ℕ) → P.clause k c ≡ true → Among (last_code P.variables) c
  in_range k w c e = let a = bounded k w c e in (omega (arith, a.0), omega (arith, a.1))

  -- no model extends a node with a false clause
  pub no_false_clause : (k : ℕ) → Among P.clauses k → falsified P.variables p (P.clause k) ≡ true → ⊥
  unfolding falsified
  no_false_clause k w e =
      let (c, i, t) = model k w.0 w.1 in
      let each = all_each (λ c. not (P.clause k c) || settled_false p c) (last_code P.variables) e c (in_range k w c i) in
      elim (or_e (not (P.clause k c)) (settled_false p c) each) [
        | inl q ↦ not_e (P.clause k c) q i
        | inr q ↦ clash t (false_literal P p α extends c (bounded k w c i) q)
      ]

  -- a literal that a clause forces is true in every model that extends the node
  pub forced_true : (k : ℕ) → Among P.clauses k → (c : ℕ) → forces P.variables p (P.clause k) c ≡ true → literal_true α c ≡ true
  unfolding forces
  forced_true k w c e =
      let (d, i, t) = model k w.0 w.1 in
      let all = and_r (P.clause k c && unsettled p (variable_of c)) _ e in
      let each = all_each (λ d. not (P.clause k d) || eqb d c || settled_false p d) (last_code P.variables) all d (in_range k w d i) in
      elim (or_e (not (P.clause k d) || eqb d c) (settled_false p d) each) [
        | inl q ↦ elim (or_e (not (P.clause k d)) (eqb d c) q) [
          | inl n ↦ absurd (not_e (P.clause k d) n i)
          | inr s ↦ rw (eqb-true d c s) at t
        ]
        | inr s ↦ absurd (clash t (false_literal P p α extends d (bounded k w d i) s))
      ]

-- ---- the forced literal

-- some clause forces the literal c
pub record Forced (P : Problem) (p : Node) (c : ℕ) : Type 0 where
  pub clause : ℕ
  pub among : Among P.clauses clause
  pub by : forces P.variables p (P.clause clause) c ≡ true

pub forced_is : (P : Problem) (p : Node) → 1 ≤ forced P p → Forced P p (forced P p)
unfolding forced forced_by
forced_is P p h =
    let (k, (w, l, b), e) = first_some (λ k. forced_by P.variables p (P.clause k)) P.clauses h in
    let a = lowest_some (forces P.variables p (P.clause k)) (last_code P.variables) l in
    record { clause = k; among = w; by = rw e a.passes }

module _ (P : Problem) (bounded : Bounded P) (p : Node) (h : 1 ≤ forced P p) where
  -- it is in the clause, and its variable is not settled
  in_clause : (f : Forced P p (forced P p)) → P.clause f.clause (forced P p) && unsettled p (variable_of (forced P p)) ≡ true
  unfolding forces
  in_clause f = and_l (P.clause f.clause (forced P p) && unsettled p (variable_of (forced P p))) _ f.by

  pub forced_unsettled : unsettled p (variable_of (forced P p)) ≡ true
  forced_unsettled =
      let f = forced_is P p h in
      and_r (P.clause f.clause (forced P p)) (unsettled p (variable_of (forced P p))) (in_clause f)

  pub forced_among : Among P.variables (variable_of (forced P p))
  forced_among =
      let f = forced_is P p h in
      bounded f.clause f.among (forced P p)
      (and_l (P.clause f.clause (forced P p)) (unsettled p (variable_of (forced P p))) (in_clause f))

  -- a model that extends the node has the forced literal true: settling it keeps exactly the models
  pub forced_keeps : (α : Assignment) → Model P α → Extends P p α → Extends P (settle p (forced P p)) α
  forced_keeps α model x =
      let f = forced_is P p h in
      extends_settle P p α (forced P p) forced_among.0 x
      (forced_true P bounded p α model x f.clause f.among (forced P p) f.by)
