-- What exploring a node finds, by induction on how deep it goes.
-- Assumes nothing.
use Prim.Native.Nat.{ℕ, zero, suc, ◌≤◌, ◌<◌}
use mathlib.Core.Path.{◌≡◌, refl, sym, ◌∙◌}
use mathlib.Core.Bool.{Bool, true, false, not, cond, ◌||◌}
use mathlib.Core.Logic.{◌⊎◌, inl, inr}
use native.Mathlib.Omega.{arith}
use native.Mathlib.Decide.{dec_lt}
use lib.Dec.{eqb}
use borrow.Author.Tests.{eqb-true, eqb-false, not-true, not-false}
use Rattle.judgement.specs.Meaning.{positive, negative, variable_of, is_positive, Assignment, literal_true, Problem, cost, Model}
use Rattle.judgement.specs.Facts.{Among}
use Rattle.judgement.proofs.Laws.Scan.{which, clash, or_none_l, or_none_r, false_i, all_fails, any_some, any_at}
use Rattle.judgement.proofs.Laws.Truth.{positive_true, negative_true}
use Rattle.search.specs.declared.Node.{Node}
use Rattle.search.specs.declared.Progress.{Progress}
use Rattle.search.specs.Node.{has, unsettled, settled_false, settle, node_cost, next_variable, last_code, falsified}
use Rattle.search.specs.Search.{after_forcing, dead, leaves, spend, stop, improve, branch, branches, visit, explore}
use Rattle.search.specs.Promises.{Agree, Before}
use Rattle.search.specs.Work.{unsettled_count}
use Rattle.search.proofs.First.{LowestAt}
use Rattle.search.proofs.Nodes.{Bounded, Extends, FineNode, variable_positive, variable_negative, settle_counts, settled_or, settle_fine, next_is, next_none, itself, extends_agree, cost_extends, extends_settle, settle_extends, settle_literal, no_false_clause}
use Rattle.search.proofs.Steps.{explore_visit, visit_left, visit_plan, visit_both, branches_are, branch_stop, branch_below}
use Rattle.search.proofs.Forcing.{Narrows, after_narrows}
use Rattle.search.proofs.Rank.{rank_of, best_rank, rank_mono, leaves_by, stays_by}

-- ---- what is shown of a node

-- the best plan is the same
abbrev pub Same : Progress → Progress → Type 0
Same T S = (T.cost ≡ S.cost) × (T.plan ≡ S.plan)

-- α is T's plan, or comes after it
abbrev pub NoEarlier : Problem → Progress → Assignment → Type 0
NoEarlier P T α = Agree P.variables (has T.plan) α ⊎ Before P.variables (has T.plan) α

-- T's plan is better than the model α, or as good and no later; or as good, and S had it before
abbrev pub Beats : Problem → Progress → Progress → Assignment → Type 0
Beats P T S α = (best_rank P T < rank_of P α) ⊎ ((best_rank P T ≡ rank_of P α) × (Same T S ⊎ NoEarlier P T α))

-- T's plan is a new one from below p, and better than that of S
pub record Better (P : Problem) (p : Node) (S T : Progress) : Type 0 where
  pub model : Model P (has T.plan)
  pub inside : (v : ℕ) → has T.plan v ≡ true → Among P.variables v
  pub extends : Extends P p (has T.plan)
  pub costs : T.cost ≡ cost P (has T.plan)
  pub lower : best_rank P T < best_rank P S

-- from S the search came to T by what lies below p
pub record Explored (P : Problem) (p : Node) (S T : Progress) : Type 0 where
  pub models : (α : Assignment) → Model P α → Extends P p α → (T.floor ≤ cost P α) ⊎ Beats P T S α
  pub best : Same T S ⊎ Better P p S T
  pub floor_falls : T.floor ≤ S.floor
  pub left_falls : T.left ≤ S.left
  pub spent : (S.stopped ≡ true → S.left ≡ 0) → T.stopped ≡ true → T.left ≡ 0
  pub ended : T.stopped ≡ false → (S.stopped ≡ false) × (T.floor ≡ S.floor)

best_falls : (P : Problem) (p : Node) (S T : Progress) → Same T S ⊎ Better P p S T → best_rank P T ≤ best_rank P S
best_falls P p S T (inl (a, b)) = rw (a, b) (omega arith)
best_falls P p S T (inr x) = omega (arith, x.lower)

-- what is new from below q is new from below p, if it lies there too
widen : (P : Problem) (p q : Node) (R S T : Progress) → ((α : Assignment) → Extends P q α → Extends P p α)
    → best_rank P S ≤ best_rank P R → Better P q S T → Better P p R T
widen P p q R S T up l x = record {
  model = x.model;
  inside = x.inside;
  extends = up (has T.plan) x.extends;
  costs = x.costs;
  lower = omega (arith, x.lower, l);
}

-- ---- the cases of a visit

module _ (P : Problem) (bounded : Bounded P) (p : Node) where
  -- ---- the node is left

  no_lower : (S : Progress) (α : Assignment) → best_rank P S ≤ rank_of P α → Beats P S S α
  no_lower S α l = elim (dec_lt (best_rank P S) (rank_of P α)) [
    | yes q ↦ inl q
    | no q ↦ inr (omega (arith, q, l), inl (refl, refl))
  ]

  no_model : dead P p ≡ true → (α : Assignment) → Model P α → Extends P p α → ⊥
  unfolding dead
  no_model d α m x =
      let (k, w, f) = any_some (λ k. falsified P.variables p (P.clause k)) P.clauses d in
      no_false_clause P bounded p α m x k w f

  node_below : (α : Assignment) → Extends P p α → rank_of P (has p.trues) ≤ rank_of P α
  node_below α x = rank_mono P (has p.trues) α (λ v w. (x v w).0)

  when_left : (S : Progress) → leaves P p S ≡ true → Explored P p S S
  when_left S e = record {
    models = λ α m x. inr (elim (leaves_by P p S e) [
      | inl d ↦ absurd (no_model d α m x)
      | inr l ↦ let b = node_below α x in no_lower S α (omega (arith, l, b))
    ]);
    best = inl (refl, refl);
    floor_falls = omega arith;
    left_falls = omega arith;
    spent = λ h. h;
    ended = λ t. (t, refl);
  }

  -- ---- the node is a plan

  -- where each variable is settled and no clause is false, the true variables are a model
  node_model : ((v : ℕ) → Among P.variables v → unsettled p v ≡ false) → dead P p ≡ false → Model P (has p.trues)
  unfolding dead falsified settled_false literal_true
  node_model all e k l u =
      let f = false_i (falsified P.variables p (P.clause k)) (λ t. clash (any_at _ P.clauses k (l, u) t) e) in
      let (c, w, q) = all_fails (λ c. not (P.clause k c) || settled_false p c) (last_code P.variables) f in
      let i = not-false (P.clause k c) (or_none_l (not (P.clause k c)) (settled_false p c) q) in
      (c, i, true_one (variable_of c) (bounded k (l, u) c i) (is_positive c) (or_none_r (not (P.clause k c)) (settled_false p c) q))
    where
      true_one : (v : ℕ) → Among P.variables v → (b : Bool) → cond b (has p.falses v) (has p.trues v) ≡ false
          → cond b (has p.trues v) (not (has p.trues v)) ≡ true
      true_one v w false q = rw q
      true_one v w true q = elim (settled_or p v (all v w)) [
        | inl t ↦ t
        | inr f ↦ absurd (clash f q)
      ]

  when_plan : (S : Progress) → FineNode P.variables p → leaves P p S ≡ false → next_variable P p ≡ 0 → Explored P p S (improve P p S)
  unfolding improve
  when_plan S fine e z = record {
    models = λ α m x. inr (inr (even α x, inr (inl (agree α x))));
    best = inr (record {
      model = node_model all (stays_by P p S e).0;
      inside = fine.trues;
      extends = itself P p fine;
      costs = refl;
      lower = (stays_by P p S e).1;
    });
    floor_falls = omega arith;
    left_falls = omega arith;
    spent = λ h. h;
    ended = λ t. (t, refl);
  }
    where
      all : (v : ℕ) → Among P.variables v → unsettled p v ≡ false
      all = next_none P p z

      agree : (α : Assignment) → Extends P p α → Agree P.variables (has p.trues) α
      agree α x v w = extends_agree P p (has p.trues) α (itself P p fine) x v w (all v w)

      even : (α : Assignment) → Extends P p α → rank_of P (has p.trues) ≡ rank_of P α
      even α x =
          let h = node_below α x in
          let l = rank_mono P α (has p.trues) (λ v w t. agree α x v w ∙ t) in
          omega (arith, h, l)

  -- ---- one branch, on which the literal c is chosen

  when_branch : (c : ℕ) → 1 ≤ variable_of c → (below : Node → Progress → Progress) (S : Progress)
      → Explored P (settle p c) (spend S) (below (settle p c) (spend S)) → Explored P (settle p c) S (branch P below p c S)
  unfolding spend stop
  when_branch c h below S given = elim (which (eqb S.left 0)) [
    | inl q ↦ rw (branch_stop P p S below c q) (halt (eqb-true S.left 0 q))
    | inr q ↦ rw (branch_below P p S below c q) (after (below (settle p c) (spend S)) given)
  ]
    where
      after : (T : Progress) → Explored P (settle p c) (spend S) T → Explored P (settle p c) S T
      after T x = record {
        models = x.models;
        best = elim x.best [
          | inl s ↦ inl s
          | inr b ↦ inr (widen P (settle p c) (settle p c) S (spend S) T (λ α e. e) (omega arith) b)
        ];
        floor_falls = x.floor_falls;
        left_falls = omega (arith, x.left_falls);
        spent = λ i t. x.spent (λ s. let z = i s in omega (arith, z)) t;
        ended = x.ended;
      }

      halt : S.left ≡ 0 → Explored P (settle p c) S (stop (node_cost P p) S)
      halt z = record {
        models = λ α m x. inl (let l = cost_extends P p α (settle_extends P p α c h x) in omega (arith, l));
        best = inl (refl, refl);
        floor_falls = omega arith;
        left_falls = omega arith;
        spent = λ i t. z;
        ended = λ t. absurd (clash refl t);
      }

  -- ---- both branches: those below p with v false come first

  module _ (v : ℕ) (next : LowestAt (unsettled p) P.variables v) (S S1 S2 : Progress)
      (one : Explored P (settle p (negative v)) S S1) (two : Explored P (settle p (positive v)) S1 S2) where
    among_negative : Among P.variables (variable_of (negative v))
    among_negative = rw (variable_negative v) next.among

    among_positive : Among P.variables (variable_of (positive v))
    among_positive = rw (variable_positive v) next.among

    from_negative : (α : Assignment) → Extends P (settle p (negative v)) α → Extends P p α
    from_negative α = settle_extends P p α (negative v) among_negative.0

    from_positive : (α : Assignment) → Extends P (settle p (positive v)) α → Extends P p α
    from_positive α = settle_extends P p α (positive v) among_positive.0

    fell_1 : best_rank P S1 ≤ best_rank P S
    fell_1 = best_falls P (settle p (negative v)) S S1 one.best

    fell_2 : best_rank P S2 ≤ best_rank P S1
    fell_2 = best_falls P (settle p (positive v)) S1 S2 two.best

    both_best : Same S2 S ⊎ Better P p S S2
    both_best = elim two.best [
      | inl (a, b) ↦ elim one.best [
        | inl (d, e) ↦ inl (a ∙ d, b ∙ e)
        | inr x ↦ inr (again a b (widen P p (settle p (negative v)) S S S1 from_negative (omega arith) x))
      ]
      | inr x ↦ inr (widen P p (settle p (positive v)) S S1 S2 from_positive fell_1 x)
    ]
      where
        again : S2.cost ≡ S1.cost → S2.plan ≡ S1.plan → Better P p S S1 → Better P p S S2
        again a b x = record {
          model = rw b x.model;
          inside = rw b x.inside;
          extends = rw b x.extends;
          costs = a ∙ rw b x.costs;
          lower = rw (a, b) x.lower;
        }

    -- what the first branch said of α, after the second
    later : (α : Assignment) → (S1.floor ≤ cost P α) ⊎ Beats P S1 S α → (S2.floor ≤ cost P α) ⊎ Beats P S2 S α
    later α (inl l) = inl (omega (arith, l, two.floor_falls))
    later α (inr (inl l)) = inr (inl (omega (arith, l, fell_2)))
    later α (inr (inr (e, why))) = inr (kept two.best)
      where
        still : Same S2 S1 → Same S1 S ⊎ NoEarlier P S1 α → Same S2 S ⊎ NoEarlier P S2 α
        still (a, b) (inl (d, f)) = inl (a ∙ d, b ∙ f)
        still (a, b) (inr q) = inr (rw b q)

        kept : Same S2 S1 ⊎ Better P (settle p (positive v)) S1 S2 → Beats P S2 S α
        kept (inl s) = inr (rw (s.0, s.1) e, still s why)
        kept (inr x) = inl (omega (arith, x.lower, e))

    -- what the second branch says of α, whose v is true: a plan of the first branch, whose v is false, comes before it
    now : (α : Assignment) → Extends P p α → α v ≡ true → Beats P S2 S1 α → Beats P S2 S α
    now α x t (inl l) = inl l
    now α x t (inr (e, inr q)) = inr (e, inr q)
    now α x t (inr (e, inl (a, b))) = inr (e, before one.best)
      where
        before : Same S1 S ⊎ Better P (settle p (negative v)) S S1 → Same S2 S ⊎ NoEarlier P S2 α
        before (inl (d, f)) = inl (a ∙ d, b ∙ f)
        before (inr y) =
            let plan = has S1.plan in
            let f = settle_literal P p plan (negative v) among_negative y.extends in
            let agree = extends_agree P p plan α (from_negative plan y.extends) x in
            rw b (inr (inr (
              v,
              next.among,
              (λ u i j. agree u (i, omega (arith, j, next.among.1)) (next.before u i j)),
              not-true (plan v) (sym (negative_true plan v) ∙ f),
              t,
            )))

    when_both : Explored P p S S2
    when_both = record {
      models = λ α m x. elim (which (α v)) [
        | inl t ↦ elim (two.models α m (extends_settle P p α (positive v) among_positive.0 x (positive_true α v ∙ t))) [
          | inl l ↦ inl l
          | inr b ↦ inr (now α x t b)
        ]
        | inr f ↦ later α (one.models α m (extends_settle P p α (negative v) among_negative.0 x (negative_true α v ∙ rw f)))
      ];
      best = both_best;
      floor_falls = omega (arith, one.floor_falls, two.floor_falls);
      left_falls = omega (arith, one.left_falls, two.left_falls);
      spent = λ h. two.spent (one.spent h);
      ended = λ t. (let (a, b) = two.ended t in let (d, f) = one.ended a in (d, b ∙ f));
    }

-- ---- all that lies below a node

module _ (P : Problem) (bounded : Bounded P) where
  -- `below` explores nodes with fewer unsettled variables than this
  abbrev Explores : (Node → Progress → Progress) → ℕ → Type 0
  Explores below deep =
      (q : Node) (T : Progress) → unsettled_count P.variables q < deep → FineNode P.variables q → Explored P q T (below q T)

  visited : (below : Node → Progress → Progress) (deep : ℕ) → Explores below deep
      → (p : Node) (S : Progress) → unsettled_count P.variables p ≤ deep → FineNode P.variables p
      → Explored P p S (visit P below p S)
  visited below deep ih p S l fine = elim (which (leaves P p S)) [
    | inl e ↦ rw (visit_left P p S below e) (when_left P bounded p S e)
    | inr e ↦ elim (which (eqb (next_variable P p) 0)) [
      | inl z ↦ rw (visit_plan P p S below e z) (when_plan P bounded p S fine e (eqb-true (next_variable P p) 0 z))
      | inr z ↦ rw (visit_both P p S below e z) (both (omega (arith, eqb-false (next_variable P p) 0 z)))
    ]
  ]
    where
      child : (c : ℕ) → Among P.variables (variable_of c) → unsettled p (variable_of c) ≡ true → (T : Progress)
          → Explored P (settle p c) T (branch P below p c T)
      child c w u T =
          let e = settle_counts P.variables p c w u in
          when_branch P bounded p c w.0 below T
          (ih (settle p c) (spend T) (omega (arith, e, l)) (settle_fine P.variables p c w u fine))

      both : 1 ≤ next_variable P p → Explored P p S (branches P below p (next_variable P p) S)
      both h =
          let v = next_variable P p in
          let next = next_is P p h in
          let a = child (negative v) (rw (variable_negative v) next.among) (rw (variable_negative v) next.passes) S in
          let b = child (positive v) (rw (variable_positive v) next.among) (rw (variable_positive v) next.passes) _ in
          rw (branches_are P p S below v) (when_both P bounded p v next S _ _ a b)

  -- forcing first
  narrowed : (p q : Node) (S T : Progress) → Narrows P p q → Explored P q S T → Explored P p S T
  narrowed p q S T n x = record {
    models = λ α m y. x.models α m (n.keeps α m y);
    best = elim x.best [
      | inl s ↦ inl s
      | inr b ↦ inr (widen P p q S S T n.back (omega arith) b)
    ];
    floor_falls = x.floor_falls;
    left_falls = x.left_falls;
    spent = x.spent;
    ended = x.ended;
  }

  pub explored : (deep : ℕ) → Explores (explore P deep) deep
  explored zero p S l fine = absurd (omega (arith, l))
  explored (suc deep) p S l fine =
      let n = after_narrows P bounded p in
      rw (explore_visit P p S deep)
      (narrowed p (after_forcing P p) S _ n
      (visited (explore P deep) deep (explored deep) (after_forcing P p) S (omega (arith, n.count, l)) (n.fine fine)))
