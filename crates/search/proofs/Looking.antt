-- Looking at clauses one after the other: what it settles, and what is left to look at.
-- Assumes nothing.
use Prim.Native.Nat.{ℕ, ◌%◌, ◌≤◌}
use mathlib.Core.Path.{◌≡◌, refl, sym, ap, ◌∙◌}
use mathlib.Core.Bool.{Bool, true, false, not, cond, ◌&&◌, ◌||◌}
use mathlib.Core.Logic.{◌⊎◌, inl, inr}
use Rattle.std.specs.Prelude.{Option, Some, None}
use native.Mathlib.Omega.{arith}
use native.Mathlib.Decide.{ℕ_discrete}
use lib.Dec.{eqb}
use borrow.Author.Tests.{eqb-true, eqb-false, ne_eqb}
use Rattle.judgement.specs.Meaning.{variable_of, is_positive, Literals, Problem}
use Rattle.judgement.specs.Facts.{Among}
use Rattle.judgement.proofs.Laws.Scan.{which, clash, and_r, or_e, not_e, false_i, all_each, any_some}
use Rattle.search.specs.declared.Node.{Node}
use Rattle.search.specs.declared.Work.{Work}
use Rattle.search.specs.Node.{has, add, unsettled, settled_false, settle, last_code, falsified, forces, forced_by}
use Rattle.search.specs.Search.{forced, after_forcing, dead}
use Rattle.search.specs.Work.{node_of, settle_work, Quiet, two, true_one, Pending, Looked, is_false, is_quiet, is_unit, Consistent, Ready, Reached, Keeps, Leads, nothing, stands, Onto, AllQuiet}
use Rattle.search.proofs.First.{first_zero, lowest_zero}
use Rattle.search.proofs.Sets.{has_add, add_new, add_old, add_or}
use Rattle.search.proofs.Nodes.{Bounded, settle_positive, settle_negative, settle_trues, settle_falses, settled_now, others_stay, unsettled_not}
use Rattle.search.proofs.Order.{under_self, under_trans, under_settle, forces_in, reached_forced, reached_false, same_end}

-- ---- one literal settled: which others are false then

module _ (q : Node) (e : ℕ) (h : 1 ≤ variable_of e) where
  pub false_other : (c : ℕ) → (variable_of c ≡ variable_of e → ⊥) → settled_false (settle q e) c ≡ settled_false q c
  unfolding settled_false
  false_other c d =
      rw (settle_trues q e (variable_of c) h, settle_falses q e (variable_of c) h, ne_eqb (variable_of c) (variable_of e) d)
      (go (is_positive e) (is_positive c) (has q.trues (variable_of c)) (has q.falses (variable_of c)))
    where
      go : (b s t f : Bool) → cond s ((not b && false) || f) ((b && false) || t) ≡ cond s f t
      go true s t f = refl
      go false s t f = refl

  pub false_same : settled_false (settle q e) e ≡ settled_false q e
  unfolding settled_false
  false_same = elim (which (is_positive e)) [
    | inl s ↦ rw (settle_positive q e s, s)
    | inr s ↦ rw (settle_negative q e s, s)
  ]

  -- the other literal of its variable is false
  pub false_opposite : (c : ℕ) → variable_of c ≡ variable_of e → (c ≡ e → ⊥) → settled_false (settle q e) c ≡ true
  unfolding settled_false
  false_opposite c same d = go (which (is_positive e)) (which (is_positive c))
    where
      go : (is_positive e ≡ true) ⊎ (is_positive e ≡ false) → (is_positive c ≡ true) ⊎ (is_positive c ≡ false)
          → cond (is_positive c) (has (settle q e).falses (variable_of c)) (has (settle q e).trues (variable_of c)) ≡ true
      go (inl s) (inl t) = absurd (d (omega (arith, same, eqb-true (e % 2) 0 s, eqb-true (c % 2) 0 t)))
      go (inr s) (inr t) = absurd (d (omega (arith, same, eqb-false (e % 2) 0 s, eqb-false (c % 2) 0 t)))
      go (inl s) (inr t) = rw (settle_positive q e s, t, same) (add_new q.trues (variable_of e) h)
      go (inr s) (inl t) = rw (settle_negative q e s, t, same) (add_new q.falses (variable_of e) h)

-- a literal of an unsettled variable is not false
pub open_now : (q : Node) (c : ℕ) → unsettled q (variable_of c) ≡ true → settled_false q c ≡ false
unfolding settled_false
open_now q c u = let (t, f) = unsettled_not q (variable_of c) u in go (is_positive c) t f
  where
    go : (s : Bool) → has q.trues (variable_of c) ≡ false → has q.falses (variable_of c) ≡ false
        → cond s (has q.falses (variable_of c)) (has q.trues (variable_of c)) ≡ false
    go true t f = f
    go false t f = t

-- ---- quiet clauses

module _ (q : Node) (C : Literals) (e todo : ℕ) (h : 1 ≤ variable_of e) (u : unsettled q (variable_of e) ≡ true) where
  abbrev Still : Type 0
  Still = Quiet (settle q e) C ⊎ Pending (add todo (variable_of e)) (settle q e) C

  apart : (c : ℕ) → settled_false q c ≡ false → (variable_of c ≡ variable_of e → ⊥) → settled_false (settle q e) c ≡ false
  apart c s d = false_other q e h c d ∙ s

  -- a literal of the settled variable: it is true now, or false and to be looked at
  met : (c : ℕ) → C c ≡ true → variable_of c ≡ variable_of e → Still
  met c i same = elim (ℕ_discrete c e) [
    | yes x ↦ inl (true_one c i (rw x (false_same q e h ∙ open_now q e u)) (rw x (settled_now q e h)))
    | no x ↦ inr (c, i, false_opposite q e h c same x, rw same (add_new todo (variable_of e) h))
  ]

  pub quiet_settle : Quiet q C → Still
  quiet_settle (two c d apart-vars i j s t) = go (ℕ_discrete (variable_of c) (variable_of e)) (ℕ_discrete (variable_of d) (variable_of e))
    where
      go : Dec (variable_of c ≡ variable_of e) → Dec (variable_of d ≡ variable_of e) → Still
      go (yes x) y = met c i x
      go (no x) (yes y) = met d j y
      go (no x) (no y) = inl (two c d apart-vars i j (apart c s x) (apart d t y))
  quiet_settle (true_one c i s z) =
      let other : variable_of c ≡ variable_of e → ⊥ = λ x. clash (rw (sym x) at u) z in
      inl (true_one c i (apart c s other) (others_stay q e (variable_of c) h other ∙ z))

  pub pending_settle : Pending todo q C → Pending (add todo (variable_of e)) (settle q e) C
  pending_settle (c, i, s, t) =
      let other : variable_of c ≡ variable_of e → ⊥ = λ x. clash s (open_now q c (rw x u)) in
      (c, i, false_other q e h c other ∙ s, add_old todo (variable_of e) (variable_of c) h t)

-- ---- all clauses

module _ (P : Problem) where
  -- R may be given up for what it has that is not quiet
  pub ready_less : (w : Work) (R R' : ℕ → Bool) → Ready P w R
      → ((k : ℕ) → Among P.clauses k → R k ≡ true → Quiet (node_of w) (P.clause k) ⊎ (R' k ≡ true)) → Ready P w R'
  ready_less w R R' ready less = record {
    consistent = ready.consistent;
    inside = ready.inside;
    settled = ready.settled;
    looked = λ k a. elim (ready.looked k a) [
      | inl x ↦ inl x
      | inr x ↦ elim x [
        | inl y ↦ inr (inl y)
        | inr y ↦ elim (less k a y) [
          | inl z ↦ inl z
          | inr z ↦ inr (inr z)
        ]
      ]
    ];
  }

  -- an unsettled literal is settled
  pub ready_settle : (w : Work) (R : ℕ → Bool) (c : ℕ) → Among P.variables (variable_of c) → unsettled (node_of w) (variable_of c) ≡ true
      → Ready P w R → Ready P (settle_work w c) R
  ready_settle w R c a u ready = record {
    consistent = consistent (which (is_positive c));
    inside = λ v t. elim (add_or w.todo (variable_of c) v a.0 t) [
      | inl x ↦ rw x a
      | inr x ↦ ready.inside v x
    ];
    settled = λ v t. elim (ℕ_discrete v (variable_of c)) [
      | yes x ↦ rw x (settled_now (node_of w) c a.0)
      | no x ↦ others_stay (node_of w) c v a.0 x ∙ ready.settled v (elim (add_or w.todo (variable_of c) v a.0 t) [
        | inl y ↦ absurd (x y)
        | inr y ↦ y
      ])
    ];
    looked = λ k b. elim (ready.looked k b) [
      | inl x ↦ elim (quiet_settle (node_of w) (P.clause k) c w.todo a.0 u x) [
        | inl y ↦ inl y
        | inr y ↦ inr (inl y)
      ]
      | inr x ↦ elim x [
        | inl y ↦ inr (inl (pending_settle (node_of w) (P.clause k) c w.todo a.0 u y))
        | inr y ↦ inr (inr y)
      ]
    ];
  }
    where
      consistent : (is_positive c ≡ true) ⊎ (is_positive c ≡ false) → Consistent (settle (node_of w) c)
      consistent (inl e) v = rw (settle_positive (node_of w) c e) (λ t f. elim (add_or w.trues (variable_of c) v a.0 t) [
        | inl x ↦ clash (rw x at f) (unsettled_not (node_of w) (variable_of c) u).1
        | inr x ↦ ready.consistent v x f
      ])
      consistent (inr e) v = rw (settle_negative (node_of w) c e) (λ t f. elim (add_or w.falses (variable_of c) v a.0 f) [
        | inl x ↦ clash (rw x at t) (unsettled_not (node_of w) (variable_of c) u).0
        | inr x ↦ ready.consistent v t x
      ])

  pub keeps_then : (w u : Work) (r : Option Work) (R R' R'' : ℕ → Bool) → Keeps P w R (Some u) R' → Keeps P u R' r R'' → Keeps P w R r R''
  keeps_then w u r R R' R'' first then = record {
    ready = λ v e x. then.ready v e (first.ready u refl x);
    reached = λ v e p x. then.reached v e p (first.reached u refl p x);
    stops = λ e p x. then.stops e p (first.reached u refl p x);
  }

  pub keeps_less : (w : Work) (r : Option Work) (R R' R'' : ℕ → Bool) → Keeps P w R r R'
      → ((k : ℕ) → Among P.clauses k → R' k ≡ true → R'' k ≡ true) → Keeps P w R r R''
  keeps_less w r R R' R'' keeps less = record {
    ready = λ v e x. ready_less v R' R'' (keeps.ready v e x) (λ k a t. inr (less k a t));
    reached = keeps.reached;
    stops = keeps.stops;
  }

  pub keeps_more : (w : Work) (r : Option Work) (R R' R'' : ℕ → Bool) → ((k : ℕ) → Among P.clauses k → R k ≡ true → R' k ≡ true)
      → Keeps P w R' r R'' → Keeps P w R r R''
  keeps_more w r R R' R'' more keeps = record {
    ready = λ v e x. keeps.ready v e (ready_less w R R' x (λ k a t. inr (more k a t)));
    reached = keeps.reached;
    stops = keeps.stops;
  }

  -- where a clause is false nothing is left to look at
  pub keeps_dead : (w : Work) (r : Option Work) (R R' R'' : ℕ → Bool) → r ≡ None → Keeps P w R r R' → Keeps P w R r R''
  keeps_dead w r R R' R'' off keeps = record {
    ready = λ v e x. cc;
    reached = keeps.reached;
    stops = keeps.stops;
  }

  pub keeps_self : (w : Work) (R : ℕ → Bool) → Keeps P w R (Some w) R
  keeps_self w R = record {
    ready = λ v e x. let z : w ≡ v = cc in rw (← z) x;
    reached = λ v e p x. let z : w ≡ v = cc in rw (← z) x;
    stops = λ e p x. cc;
  }

  module _ (bounded : Bounded P) where
    -- clause k is looked at, and is not to be looked at any more
    pub keeps_look : (w : Work) (r : Option Work) (R R' : ℕ → Bool) (k : ℕ) → Among P.clauses k
        → Looked P.variables (P.clause k) w r → ((j : ℕ) → Among P.clauses j → R j ≡ true → (j ≡ k) ⊎ (R' j ≡ true)) → Keeps P w R r R'
    keeps_look w r R R' k a (is_false f e) less = record {
      ready = λ v d x. cc;
      reached = λ v d p x. cc;
      stops = λ d p x. reached_false P bounded p (node_of w) x k a f;
    }
    keeps_look w r R R' k a (is_quiet quiet e) less = record {
      ready = λ v d x. let z : w ≡ v = cc in rw (← z) (ready_less w R R' x (λ j b t. elim (less j b t) [
        | inl y ↦ inl (rw y quiet)
        | inr y ↦ inr y
      ]));
      reached = λ v d p x. let z : w ≡ v = cc in rw (← z) x;
      stops = λ d p x. cc;
    }
    keeps_look w r R R' k a (is_unit c f e) less = record {
      ready = λ v d x. let z : settle_work w c ≡ v = cc in rw (← z) (ready_less (settle_work w c) R R' (ready_settle w R c among u x) (λ j b t. elim (less j b t) [
        | inl y ↦ inl (rw y now)
        | inr y ↦ inr y
      ]));
      reached = λ v d p x. let z : settle_work w c ≡ v = cc in rw (← z) (reached_forced P bounded p (node_of w) x k a c f);
      stops = λ d p x. cc;
    }
      where
        i : P.clause k c ≡ true
        i = (forces_in P.variables (node_of w) (P.clause k) c f).0

        u : unsettled (node_of w) (variable_of c) ≡ true
        u = (forces_in P.variables (node_of w) (P.clause k) c f).1

        among : Among P.variables (variable_of c)
        among = bounded k a c i

        now : Quiet (settle (node_of w) c) (P.clause k)
        now = true_one c i (false_same (node_of w) c among.0 ∙ open_now (node_of w) c u) (settled_now (node_of w) c among.0)

-- ---- counts

pub onto_self : (w : Work) → Onto w w
onto_self w = record { under = under_self (node_of w); same = λ v. refl; lighter = λ v. omega arith; standing = λ C c. refl }

pub onto_trans : (w u r : Work) → Onto w u → Onto u r → Onto w r
onto_trans w u r a b = record {
  under = under_trans (node_of w) (node_of u) (node_of r) a.under b.under;
  same = λ v. b.same v ∙ a.same v;
  lighter = λ v. omega (arith, a.lighter v, b.lighter v);
  standing = λ C c. b.standing C c ∙ a.standing C c;
}

-- a literal that is settled leaves what stands: that of the same variable that is false now is to be looked at
stands_settle : (w : Work) (e : ℕ) → 1 ≤ variable_of e → unsettled (node_of w) (variable_of e) ≡ true → (C : Literals) (c : ℕ)
    → stands (settle_work w e) C c ≡ stands w C c
stands_settle w e h u C c = elim (ℕ_discrete (variable_of c) (variable_of e)) [
  | yes x ↦ rw (x, add_new w.todo (variable_of e) h, open_now (node_of w) c (rw x u)) (new (settled_false (settle (node_of w) e) c) (C c))
  | no x ↦ rw (false_other (node_of w) e h c x, has_add w.todo (variable_of e) (variable_of c) h, ne_eqb (variable_of c) (variable_of e) x)
]
  where
    new : (f b : Bool) → b && not (f && false) ≡ b && true
    new true b = refl
    new false b = refl

pub onto_settle : (w : Work) (c : ℕ) → 1 ≤ variable_of c → unsettled (node_of w) (variable_of c) ≡ true → Onto w (settle_work w c)
onto_settle w c h u = record {
  under = under_settle (node_of w) c h;
  same = λ v. elim (ℕ_discrete v (variable_of c)) [
    | yes x ↦ rw (x, add_new w.todo (variable_of c) h, (unsettled_not (node_of w) (variable_of c) u).0) (none (has (settle (node_of w) c).trues (variable_of c)))
    | no x ↦ rw (settle_trues (node_of w) c v h, has_add w.todo (variable_of c) v h, ne_eqb v (variable_of c) x) (gone (is_positive c) (has w.trues v) (has w.todo v))
  ];
  lighter = λ v. elim (ℕ_discrete v (variable_of c)) [
    | yes x ↦ rw (x, add_new w.todo (variable_of c) h, settled_now (node_of w) c h, u) (omega arith)
    | no x ↦ rw (others_stay (node_of w) c v h x, has_add w.todo (variable_of c) v h, ne_eqb v (variable_of c) x) (omega arith)
  ];
  standing = stands_settle w c h u;
}
  where
    none : (b : Bool) → b && false ≡ false
    none true = refl
    none false = refl

    gone : (b t d : Bool) → ((b && false) || t) && not (false || d) ≡ t && not d
    gone true t d = refl
    gone false t d = refl

pub leads_self : (w : Work) → Leads w (Some w)
leads_self w u e = let z : w ≡ u = cc in rw (← z) (onto_self w)

pub leads_then : (w u : Work) (r : Option Work) → Leads w (Some u) → Leads u r → Leads w r
leads_then w u r first then v e = onto_trans w u v (first u refl) (then v e)

pub leads_look : (n : ℕ) (C : Literals) (w : Work) (r : Option Work) → ((c : ℕ) → C c ≡ true → Among n (variable_of c)) → Looked n C w r → Leads w r
leads_look n C w r bounded (is_false f e) u d = cc
leads_look n C w r bounded (is_quiet q e) u d = let z : w ≡ u = cc in rw (← z) (onto_self w)
leads_look n C w r bounded (is_unit c f e) u d =
    let (i, free) = forces_in n (node_of w) C c f in
    let z : settle_work w c ≡ u = cc in
    rw (← z) (onto_settle w c (bounded c i).0 free)

-- ---- the end

module _ (n : ℕ) (q : Node) (C : Literals) (bounded : (c : ℕ) → C c ≡ true → Among n (variable_of c)) where
  coded : (c : ℕ) → C c ≡ true → Among (last_code n) c
  coded c i = let a = bounded c i in (omega (arith, a.0), omega (arith, a.1))

  pub quiet_stands : Quiet q C → falsified n q C ≡ false
  unfolding falsified
  quiet_stands quiet = false_i _ (λ f. go quiet (λ c i. elim (or_e (not (C c)) (settled_false q c) (all_each _ (last_code n) f c (coded c i))) [
    | inl x ↦ absurd (not_e (C c) x i)
    | inr x ↦ x
  ]))
    where
      go : Quiet q C → ((c : ℕ) → C c ≡ true → settled_false q c ≡ true) → ⊥
      go (two c d x i j s t) all = clash (all c i) s
      go (true_one c i s z) all = clash (all c i) s

  pub quiet_forces : Quiet q C → (c : ℕ) → forces n q C c ≡ true → ⊥
  unfolding forces
  quiet_forces quiet c f = go quiet
    where
      -- a literal that is not false is c
      only : (d : ℕ) → C d ≡ true → settled_false q d ≡ false → d ≡ c
      only d i s =
          let all = and_r (C c && unsettled q (variable_of c)) _ f in
          elim (or_e (not (C d) || eqb d c) (settled_false q d) (all_each (λ d. not (C d) || eqb d c || settled_false q d) (last_code n) all d (coded d i))) [
            | inl x ↦ elim (or_e (not (C d)) (eqb d c) x) [
              | inl y ↦ absurd (not_e (C d) y i)
              | inr y ↦ eqb-true d c y
            ]
            | inr x ↦ absurd (clash x s)
          ]

      go : Quiet q C → ⊥
      go (two a b x i j s t) = x (ap variable_of (only a i s ∙ sym (only b j t)))
      go (true_one a i s z) = clash (rw (sym (only a i s)) at (forces_in n q C c f).1) z

module _ (P : Problem) (bounded : Bounded P) where
  pub quiet_alive : (q : Node) → AllQuiet P q → dead P q ≡ false
  unfolding dead
  quiet_alive q quiet = false_i _ (λ d.
      let (k, a, f) = any_some (λ k. falsified P.variables q (P.clause k)) P.clauses d in
      clash f (quiet_stands P.variables q (P.clause k) (bounded k a) (quiet.each k a)))

  pub quiet_forced : (q : Node) → AllQuiet P q → forced P q ≡ 0
  unfolding forced forced_by
  quiet_forced q quiet = first_zero (λ k. forced_by P.variables q (P.clause k)) P.clauses (λ k a.
      lowest_zero (forces P.variables q (P.clause k)) (last_code P.variables)
      (λ c w. false_i _ (quiet_forces P.variables q (P.clause k) (bounded k a) (quiet.each k a) c)))

  -- nothing is left to look at
  pub all_quiet : (w : Work) → Ready P w nothing → ((v : ℕ) → has w.todo v ≡ false) → AllQuiet P (node_of w)
  all_quiet w ready none = record {
    consistent = ready.consistent;
    each = λ k a. elim (ready.looked k a) [
      | inl x ↦ x
      | inr x ↦ elim x [
        | inl (c, i, s, t) ↦ absurd (clash t (none (variable_of c)))
        | inr y ↦ absurd (clash y refl)
      ]
    ];
  }

  pub quiet_end : (p q : Node) → Reached P p q → AllQuiet P q → q ≡ after_forcing P p
  quiet_end p q reached quiet = same_end P bounded p q reached (quiet_forced q quiet) (quiet_alive q quiet)
