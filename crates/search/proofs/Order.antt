-- The order of forcing cannot be observed: whatever forced literals are settled first, the end is the same node, or both ends have a
-- false clause.
-- Assumes nothing.
use Prim.Native.Nat.{ℕ, zero, suc, ◌≤◌}
use mathlib.Core.Path.{◌≡◌, ap₂}
use mathlib.Core.Bool.{Bool, true, false, not, cond, ◌&&◌, ◌||◌}
use mathlib.Core.Logic.{◌⊎◌, inl, inr}
use native.Mathlib.Omega.{arith}
use lib.Dec.{eqb}
use borrow.Author.Tests.{eqb-true, eq-eqb}
use Rattle.judgement.specs.Meaning.{variable_of, is_positive, Literals, Problem}
use Rattle.judgement.specs.Facts.{Among}
use Rattle.judgement.proofs.Laws.Scan.{which, clash, and_i, and_l, and_r, or_l, or_r, or_e, all_each, all_of_lem, any_at, any_some, true_same}
use Rattle.search.specs.declared.Node.{Node}
use Rattle.search.specs.Node.{has, add, unsettled, settled_false, settle, last_code, falsified, forces, forced_by}
use Rattle.search.specs.Search.{forced, forcing, after_forcing, dead}
use Rattle.search.specs.Work.{Under, Reached}
use Rattle.search.proofs.First.{first_none, lowest_none}
use Rattle.search.proofs.Sets.{add_old, add_or, set_ext}
use Rattle.search.proofs.Nodes.{Bounded, settle_positive, settle_negative, settled_or, forced_is, forced_among}
use Rattle.search.proofs.Steps.{forcing_none, forcing_some}
use Rattle.search.proofs.Forcing.{some, after_ends}

-- ---- what is settled in one node and in another

pub under_self : (q : Node) → Under q q
under_self q v = (λ t. t, λ f. f)

pub under_trans : (p q e : Node) → Under p q → Under q e → Under p e
under_trans p q e a b v = (λ t. (b v).0 ((a v).0 t), λ f. (b v).1 ((a v).1 f))

pub under_settle : (q : Node) (c : ℕ) → 1 ≤ variable_of c → Under q (settle q c)
under_settle q c h v = elim (which (is_positive c)) [
  | inl e ↦ rw (settle_positive q c e) (λ t. add_old q.trues (variable_of c) v h t, λ f. f)
  | inr e ↦ rw (settle_negative q c e) (λ t. t, λ f. add_old q.falses (variable_of c) v h f)
]

pub under_false : (q e : Node) (c : ℕ) → Under q e → settled_false q c ≡ true → settled_false e c ≡ true
unfolding settled_false
under_false q e c u = go (is_positive c)
  where
    go : (b : Bool) → cond b (has q.falses (variable_of c)) (has q.trues (variable_of c)) ≡ true
        → cond b (has e.falses (variable_of c)) (has e.trues (variable_of c)) ≡ true
    go true f = (u (variable_of c)).1 f
    go false f = (u (variable_of c)).0 f

-- two nodes that have the same settled are one
pub under_both : (p q : Node) → Under p q → Under q p → p ≡ q
under_both p q a b =
    let t = set_ext p.trues q.trues (λ v. true_same (has p.trues v) (has q.trues v) (a v).0 (b v).0) in
    let f = set_ext p.falses q.falses (λ v. true_same (has p.falses v) (has q.falses v) (a v).1 (b v).1) in
    ap₂ (λ (x y : ℕ). record { trues = x; falses = y }) t f

-- a literal that is not false and whose variable is settled is settled as true
pub settle_under : (q e : Node) (c : ℕ) → 1 ≤ variable_of c → Under q e → settled_false e c ≡ false → unsettled e (variable_of c) ≡ false
    → Under (settle q c) e
unfolding settled_false
settle_under q e c h u n s v = elim (which (is_positive c)) [
  | inl i ↦ rw (settle_positive q c i) (λ t. more q.trues e.trues (now_true (rw i at n) (settled_or e (variable_of c) s)) (λ x. (u v).0 x) t, (u v).1)
  | inr i ↦ rw (settle_negative q c i) ((u v).0, λ f. more q.falses e.falses (now_false (rw i at n) (settled_or e (variable_of c) s)) (λ x. (u v).1 x) f)
]
  where
    now_true : has e.falses (variable_of c) ≡ false → (has e.trues (variable_of c) ≡ true) ⊎ (has e.falses (variable_of c) ≡ true)
        → has e.trues (variable_of c) ≡ true
    now_true n (inl t) = t
    now_true n (inr f) = absurd (clash f n)

    now_false : has e.trues (variable_of c) ≡ false → (has e.trues (variable_of c) ≡ true) ⊎ (has e.falses (variable_of c) ≡ true)
        → has e.falses (variable_of c) ≡ true
    now_false n (inl t) = absurd (clash t n)
    now_false n (inr f) = f

    more : (a b : ℕ) → has b (variable_of c) ≡ true → (has a v ≡ true → has b v ≡ true) → has (add a (variable_of c)) v ≡ true
        → has b v ≡ true
    more a b new old t = elim (add_or a (variable_of c) v h t) [
      | inl q ↦ rw q new
      | inr q ↦ old q
    ]

-- ---- clauses, from one node to another

module _ (n : ℕ) (C : Literals) (q e : Node) (under : Under q e) where
  pub falsified_under : falsified n q C ≡ true → falsified n e C ≡ true
  unfolding falsified
  falsified_under f = all_of_lem _ (last_code n) (λ c w. elim (or_e (not (C c)) (settled_false q c) (all_each _ (last_code n) f c w)) [
    | inl x ↦ or_l (not (C c)) (settled_false e c) x
    | inr x ↦ or_r (not (C c)) (settled_false e c) (under_false q e c under x)
  ])

  -- the rest of a forcing clause is false there too
  rest_under : (c : ℕ) → forces n q C c ≡ true → (d : ℕ) → Among (last_code n) d → (not (C d) ≡ true) ⊎ ((d ≡ c) ⊎ (settled_false e d ≡ true))
  unfolding forces
  rest_under c f d w =
      let all = and_r (C c && unsettled q (variable_of c)) _ f in
      elim (or_e (not (C d) || eqb d c) (settled_false q d) (all_each (λ d. not (C d) || eqb d c || settled_false q d) (last_code n) all d w)) [
        | inl x ↦ elim (or_e (not (C d)) (eqb d c) x) [
          | inl y ↦ inl y
          | inr y ↦ inr (inl (eqb-true d c y))
        ]
        | inr x ↦ inr (inr (under_false q e d under x))
      ]

  pub forced_false : (c : ℕ) → forces n q C c ≡ true → settled_false e c ≡ true → falsified n e C ≡ true
  unfolding falsified
  forced_false c f s = all_of_lem _ (last_code n) (λ d w. elim (rest_under c f d w) [
    | inl x ↦ or_l (not (C d)) (settled_false e d) x
    | inr x ↦ or_r (not (C d)) (settled_false e d) (elim x [
      | inl y ↦ rw y s
      | inr y ↦ y
    ])
  ])

  pub forced_yet : (c : ℕ) → forces n q C c ≡ true → unsettled e (variable_of c) ≡ true → forces n e C c ≡ true
  unfolding forces
  forced_yet c f u =
      let first = and_l (C c && unsettled q (variable_of c)) _ f in
      and_i (C c && unsettled e (variable_of c)) _ (and_i (C c) _ (and_l (C c) _ first) u)
      (all_of_lem (λ d. not (C d) || eqb d c || settled_false e d) (last_code n) (λ d w. elim (rest_under c f d w) [
        | inl x ↦ or_l (not (C d) || eqb d c) (settled_false e d) (or_l (not (C d)) (eqb d c) x)
        | inr x ↦ elim x [
          | inl y ↦ or_l (not (C d) || eqb d c) (settled_false e d) (or_r (not (C d)) (eqb d c) (eq-eqb d c y))
          | inr y ↦ or_r (not (C d) || eqb d c) (settled_false e d) y
        ]
      ]))

-- what a clause forces is one of its literals, and unsettled
pub forces_in : (n : ℕ) (q : Node) (C : Literals) (c : ℕ) → forces n q C c ≡ true → (C c ≡ true) × (unsettled q (variable_of c) ≡ true)
unfolding forces
forces_in n q C c f =
    let first = and_l (C c && unsettled q (variable_of c)) _ f in
    (and_l (C c) _ first, and_r (C c) _ first)

module _ (P : Problem) (bounded : Bounded P) where
  pub dead_at : (q : Node) (k : ℕ) → Among P.clauses k → falsified P.variables q (P.clause k) ≡ true → dead P q ≡ true
  unfolding dead
  dead_at q k w f = any_at (λ k. falsified P.variables q (P.clause k)) P.clauses k w f

  pub dead_under : (q e : Node) → Under q e → dead P q ≡ true → dead P e ≡ true
  unfolding dead
  dead_under q e u d =
      let (k, w, f) = any_some (λ k. falsified P.variables q (P.clause k)) P.clauses d in
      any_at (λ k. falsified P.variables e (P.clause k)) P.clauses k w (falsified_under P.variables (P.clause k) q e u f)

  -- where nothing is forced no clause forces anything
  pub none_forces : (e : Node) → forced P e ≡ 0 → (k : ℕ) → Among P.clauses k → (c : ℕ) → forces P.variables e (P.clause k) c ≡ true → ⊥
  unfolding forced forced_by
  none_forces e z k w c f =
      let by = first_none (λ k. forced_by P.variables e (P.clause k)) P.clauses z k w in
      let a = bounded k w c (forces_in P.variables e (P.clause k) c f).0 in
      clash f (lowest_none (forces P.variables e (P.clause k)) (last_code P.variables) by c (omega (arith, a.0), omega (arith, a.1)))

  -- THE STEP: from a node below one where nothing is forced, a forced literal leads to such a node again, or a clause is false there
  pub forced_stays : (q e : Node) → Under q e → forced P e ≡ 0 → (k : ℕ) → Among P.clauses k → (c : ℕ)
      → forces P.variables q (P.clause k) c ≡ true → (dead P e ≡ true) ⊎ Under (settle q c) e
  forced_stays q e u z k w c f = go (which (settled_false e c)) (which (unsettled e (variable_of c)))
    where
      go : (settled_false e c ≡ true) ⊎ (settled_false e c ≡ false)
          → (unsettled e (variable_of c) ≡ true) ⊎ (unsettled e (variable_of c) ≡ false) → (dead P e ≡ true) ⊎ Under (settle q c) e
      go (inl s) x = inl (dead_at e k w (forced_false P.variables (P.clause k) q e u c f s))
      go (inr s) (inl x) = absurd (none_forces e z k w c (forced_yet P.variables (P.clause k) q e u c f x))
      go (inr s) (inr x) = inr (settle_under q e c (bounded k w c (forces_in P.variables q (P.clause k) c f).0).0 u s x)

  -- ---- the definition's own way

  -- it only settles more
  pub under_forcing : (steps : ℕ) (p : Node) → Under p (forcing P steps p)
  unfolding forcing
  under_forcing zero p = under_self p
  under_forcing (suc steps) p = go (under_forcing steps (settle p (forced P p))) (which (eqb (forced P p) 0))
    where
      go : Under (settle p (forced P p)) (forcing P steps (settle p (forced P p))) → (eqb (forced P p) 0 ≡ true) ⊎ (eqb (forced P p) 0 ≡ false)
          → Under p (forcing P (suc steps) p)
      go ih (inl e) = rw (forcing_none P p (suc steps) e) (under_self p)
      go ih (inr e) =
          rw (forcing_some P p steps e) (under_trans p (settle p (forced P p)) _ (under_settle p (forced P p) (forced_among P bounded p (some P bounded p e)).0) ih)

  -- it stays below every node above p where nothing is forced and no clause is false
  pub forcing_under : (steps : ℕ) (p e : Node) → Under p e → forced P e ≡ 0 → dead P e ≡ false → Under (forcing P steps p) e
  unfolding forcing
  forcing_under zero p e u z d = u
  forcing_under (suc steps) p e u z d = go (forcing_under steps (settle p (forced P p)) e) (which (eqb (forced P p) 0))
    where
      go : (Under (settle p (forced P p)) e → forced P e ≡ 0 → dead P e ≡ false → Under (forcing P steps (settle p (forced P p))) e)
          → (eqb (forced P p) 0 ≡ true) ⊎ (eqb (forced P p) 0 ≡ false) → Under (forcing P (suc steps) p) e
      go ih (inl x) = rw (forcing_none P p (suc steps) x) u
      go ih (inr x) =
          let f = forced_is P p (some P bounded p x) in
          rw (forcing_some P p steps x) (elim (forced_stays p e u z f.clause f.among (forced P p) f.by) [
            | inl y ↦ absurd (clash y d)
            | inr y ↦ ih y z d
          ])

  pub none_after : (p : Node) → forced P (after_forcing P p) ≡ 0
  none_after p = eqb-true (forced P (after_forcing P p)) 0 (after_ends P bounded p)

  -- ---- on the way from p

  pub reached_start : (p : Node) → Reached P p p
  reached_start p = record { grown = under_self p; ahead = inr (under_forcing P.variables p) }

  module _ (p q : Node) (reached : Reached P p q) (k : ℕ) (w : Among P.clauses k) where
    pub reached_forced : (c : ℕ) → forces P.variables q (P.clause k) c ≡ true → Reached P p (settle q c)
    reached_forced c f = record {
      grown = under_trans p q (settle q c) reached.grown (under_settle q c (bounded k w c (forces_in P.variables q (P.clause k) c f).0).0);
      ahead = elim reached.ahead [
        | inl d ↦ inl d
        | inr u ↦ forced_stays q (after_forcing P p) u (none_after p) k w c f
      ];
    }

    pub reached_false : falsified P.variables q (P.clause k) ≡ true → dead P (after_forcing P p) ≡ true
    reached_false f = elim reached.ahead [
      | inl d ↦ d
      | inr u ↦ dead_at (after_forcing P p) k w (falsified_under P.variables (P.clause k) q (after_forcing P p) u f)
    ]

  -- THE END: where nothing is forced and no clause is false, it is the definition's node
  pub same_end : (p q : Node) → Reached P p q → forced P q ≡ 0 → dead P q ≡ false → q ≡ after_forcing P p
  same_end p q reached z d =
      let back = forcing_under P.variables p q reached.grown z d in
      elim reached.ahead [
        | inl x ↦ absurd (clash (dead_under (after_forcing P p) q back x) d)
        | inr u ↦ under_both q (after_forcing P p) u back
      ]
