-- Choosing: the next variable, a literal chosen, and what the cycle of choosing and forcing returns.
-- Assumes nothing.
use Prim.Native.Nat.{ℕ, zero, suc, ◌+◌, ◌-◌, ◌*◌, ◌/◌, ◌%◌, ◌^◌, ◌≤◌, ◌<◌, min}
use mathlib.Core.Path.{◌≡◌, refl, sym, ap, ◌∙◌}
use mathlib.Core.Bool.{Bool, true, false, not, cond, ◌&&◌, ◌||◌}
use mathlib.Core.List.{List}
use mathlib.Core.Logic.{◌⊎◌, inl, inr}
use Rattle.std.specs.Prelude.{Option, Some, None}
use native.Mathlib.Omega.{arith}
use lib.Bits.{bit_or}
use lib.Count.{count_trailing_zeros}
use borrow.Author.Tests.{eq-eqb, ne_eqb, lt-leb, le-leb}
use Rattle.judgement.specs.Scan.{sum_of, one}
use Rattle.judgement.specs.Meaning.{positive, negative, variable_of, Problem, cost_of_true, cost}
use Rattle.judgement.specs.Facts.{Among}
use Rattle.judgement.proofs.Laws.Scan.{which, clash, or_l, or_r, sum_most, sum_zero, sum_change}
use Rattle.search.specs.declared.Node.{Node}
use Rattle.search.specs.declared.Progress.{Progress}
use Rattle.search.specs.declared.Work.{Work}
use Rattle.search.specs.First.{lowest}
use Rattle.search.specs.Node.{has, add, unsettled, settle, root, node_cost, next_variable}
use Rattle.search.specs.Search.{after_forcing, dead, leaves, spend, stop, improve, begin, branch, visit, explore, searched}
use Rattle.search.specs.Work.{node_of, at_node, settle_work, Under, Ready, Reached, Keeps, nothing, counted, counted_cost, Leads, AllQuiet, unsettled_count}
use Rattle.search.specs.Counts.{Counts}
use Rattle.search.proofs.First.{LowestAt, lowest_some, lowest_zero, lowest_found}
use Rattle.search.proofs.Sets.{has_empty, has_add, add_new}
use Rattle.search.proofs.Masks.{add_at, has_or, has_not, one_shifted, lowest_in, none_lower}
use Rattle.search.proofs.Nodes.{Bounded, variable_positive, variable_negative, is_positive_lem, settle_positive, settle_negative, settle_counts, unsettled_not, settled_or, within_cost}
use Rattle.search.proofs.Steps.{explore_visit, visit_left, visit_plan, visit_both, branches_are, branch_stop, branch_below}
use Rattle.search.proofs.Forcing.{after_narrows, count_most}
use Rattle.search.proofs.Order.{under_forcing, reached_start}
use Rattle.search.proofs.Looking.{ready_settle, onto_settle, quiet_alive}
use Rattle.search.proofs.Pricing.{counted_same, counted_all}
use Rattle.search.proofs.Counting.{counts_onto}

-- ---- the next variable is the lowest one that is not settled

abbrev free : Node → ℕ
free p = 18446744073709551615 - bit_or p.trues p.falses

free_is : (p : Node) (v : ℕ) → bit_or p.trues p.falses < 2 ^ 64 → Among 64 v → has (free p) v ≡ unsettled p v
unfolding unsettled
free_is p v b w =
    has_not (bit_or p.trues p.falses) v b w ∙ ap not (has_or p.trues p.falses v) ∙ go (has p.trues v) (has p.falses v)
  where
    go : (t f : Bool) → not (t || f) ≡ not t && not f
    go true f = refl
    go false f = refl

module _ (n : ℕ) (p : Node) (small : n ≤ 64) (word : bit_or p.trues p.falses < 2 ^ 64) where
  settled_before : (u : ℕ) → Among 64 u → u < count_trailing_zeros 64 (free p) + 1 → unsettled p u ≡ false
  settled_before u w l = sym (free_is p u word w) ∙ none_lower (free p) u w.0 (omega (arith, l))

  pub next_none : n < count_trailing_zeros 64 (free p) + 1 → lowest (unsettled p) n ≡ 0
  next_none l = (lowest_zero (unsettled p) n (λ u w. settled_before u (w.0, omega (arith, w.1, small)) (omega (arith, w.1, l))))

  found : count_trailing_zeros 64 (free p) + 1 ≤ n → count_trailing_zeros 64 (free p) + 1 ≡ lowest (unsettled p) n
  found l =
      let w : Among 64 (count_trailing_zeros 64 (free p) + 1) = (omega arith, omega (arith, l, small)) in
      sym (lowest_found (unsettled p) n (count_trailing_zeros 64 (free p) + 1) (record {
        among = (omega arith, l);
        passes = sym (free_is p (count_trailing_zeros 64 (free p) + 1) word w) ∙ lowest_in (free p) (omega (arith, l, small));
        before = λ u a b. settled_before u (a, omega (arith, b, w.1)) b;
      }))

  pub next_some : count_trailing_zeros 64 (free p) + 1 ≤ n → (v : ℕ) → v ≡ count_trailing_zeros 64 (free p) + 1
      → (v ≡ lowest (unsettled p) n) × Among n v
  next_some l v e = rw e (found l, (omega arith, l))

-- it is one of 1 to n, and not settled
pub next_at : (n : ℕ) (p : Node) (v : ℕ) → v ≡ lowest (unsettled p) n → 1 ≤ v → LowestAt (unsettled p) n v
next_at n p v is-next some = rw is-next (lowest_some (unsettled p) n (omega (arith, is-next, some)))

-- there is a level for what lies below it
pub room_below : (P : Problem) (p : Node) (v : ℕ) → LowestAt (unsettled p) P.variables v
    → (at : ℕ) → at + 320 * unsettled_count P.variables p + 320 ≤ 20800 → at + 640 ≤ 20800
room_below P p v next at l =
    let f = settle_counts P.variables p (negative v) (rw (variable_negative v) next.among) (rw (variable_negative v) next.passes) in
    omega (arith, l, f)

-- ---- a literal chosen

alone : (v : ℕ) → Among 64 v → 1 * 2 ^ (v - 1) % 18446744073709551616 ≡ add 0 v
alone v w = one_shifted (v - 1) (omega (arith, w.0, w.1)) ∙ sym (add_at 0 v w.0)

added : (set v : ℕ) → Among 64 v → bit_or set (1 * 2 ^ (v - 1) % 18446744073709551616) ≡ add set v
added set v w = rw (one_shifted (v - 1) (omega (arith, w.0, w.1))) (sym (add_at set v w.0))

pub chosen_positive : (p : Node) (c : ℕ) → Among 64 (variable_of c) → c % 2 ≡ 0
    → ◌≡◌ {A = Work} (record { trues = bit_or p.trues (1 * 2 ^ (c / 2 - 1) % 18446744073709551616); falses = p.falses; todo = 1 * 2 ^ (c / 2 - 1) % 18446744073709551616 })
    (settle_work (at_node p) c)
chosen_positive p c w e = rw (settle_positive p c (eq-eqb (c % 2) 0 e), added p.trues (variable_of c) w, alone (variable_of c) w)

pub chosen_negative : (p : Node) (c : ℕ) → Among 64 (variable_of c) → (c % 2 ≡ 0 → ⊥)
    → ◌≡◌ {A = Work} (record { trues = p.trues; falses = bit_or p.falses (1 * 2 ^ (c / 2 - 1) % 18446744073709551616); todo = 1 * 2 ^ (c / 2 - 1) % 18446744073709551616 })
    (settle_work (at_node p) c)
chosen_negative p c w e = rw (settle_negative p c (ne_eqb (c % 2) 0 e), added p.falses (variable_of c) w, alone (variable_of c) w)

-- ---- a node where nothing is forced

-- nothing is to be looked at
pub quiet_ready : (P : Problem) (p : Node) → AllQuiet P p → Ready P (at_node p) nothing
quiet_ready P p quiet = record {
  consistent = quiet.consistent;
  inside = λ v t. absurd (clash t (has_empty v));
  settled = λ v t. absurd (clash t (has_empty v));
  looked = λ k a. inl (quiet.each k a);
}

-- the branch on which the unsettled literal c is chosen: its clauses are to be looked at, and its cost is not yet counted
module _ (P : Problem) (p : Node) (quiet : AllQuiet P p) (v : ℕ) (next : LowestAt (unsettled p) P.variables v) (c : ℕ)
    (same : variable_of c ≡ v) (w : Work) (is : w ≡ settle_work (at_node p) c) where
  among : Among P.variables (variable_of c)
  among = rw same next.among

  free-yet : unsettled p (variable_of c) ≡ true
  free-yet = rw same next.passes

  pub child_ready : Ready P w nothing
  child_ready = rw is (ready_settle P (at_node p) nothing c among free-yet (quiet_ready P p quiet))

  pub child_counts : (table : List ℕ) (at : ℕ) → Counts P table at (at_node p) → Counts P table at w
  child_counts table at counts =
      rw is (counts_onto P table at (at_node p) (settle_work (at_node p) c) (onto_settle (at_node p) c among.0 free-yet).standing counts)

  -- there is a level for it
  pub child_room : (at : ℕ) → at + 320 * unsettled_count P.variables p + 320 ≤ 20800
      → at + 320 + 320 * unsettled_count P.variables (node_of w) + 320 ≤ 20800
  child_room at l = rw is (let f = settle_counts P.variables p c among free-yet in omega (arith, l, f))

  pub child_price : (price : ℕ) → price ≡ node_cost P p → price ≡ counted_cost P w
  child_price price e =
      rw is (e ∙ sym (counted_same P (at_node p) (settle_work (at_node p) c) (onto_settle (at_node p) c among.0 free-yet) ∙ counted_all P (at_node p) refl))

  -- one variable less is unsettled
  pub child_falls : (t : ℕ) → 2 * unsettled_count P.variables p ≡ t → 2 * unsettled_count P.variables (node_of w) + 1 < t
  child_falls t e = rw is (let f = settle_counts P.variables p c among free-yet in omega (arith, e, f))

  -- what `force` says of it
  pub child_explored : Bounded P → (S A R : Progress) → A ≡ spend S
      → ((q : Node) (deep : ℕ) → Reached P q (node_of w) → unsettled_count P.variables q < deep → R ≡ explore P deep q A)
      → (deep : ℕ) → unsettled_count P.variables p ≤ deep → R ≡ explore P deep (settle p c) (spend S)
  child_explored bounded S A R e h deep l =
      let f = settle_counts P.variables p c among free-yet in
      rw (← e) (h (settle p c) deep (rw is (reached_start P bounded (settle p c))) (omega (arith, f, l)))

module _ (P : Problem) (bounded : Bounded P) (p : Node) (S : Progress) (quiet : AllQuiet P p) (price : ℕ) (is-price : price ≡ node_cost P p)
    (cheaper : price < S.cost) (below : Node → Progress → Progress) where
  stays : leaves P p S ≡ false
  unfolding leaves
  stays = rw (quiet_alive P bounded p quiet) (lt-leb S.cost (node_cost P p) (omega (arith, is-price, cheaper)))

  pub chosen_plan : lowest (unsettled p) P.variables ≡ 0
      → ◌≡◌ {A = Progress} (record { cost = price; plan = p.trues; floor = S.floor; left = S.left; stopped = S.stopped }) (visit P below p S)
  unfolding next_variable improve
  chosen_plan z = rw is-price (sym (visit_plan P p S below stays (eq-eqb (lowest (unsettled p) P.variables) 0 z)))

  module _ (v : ℕ) (is-next : v ≡ lowest (unsettled p) P.variables) (some : 1 ≤ v) where
    both : branch P below p (positive v) (branch P below p (negative v) S) ≡ visit P below p S
    unfolding next_variable
    both = rw is-next (sym (visit_both P p S below stays (ne_eqb (lowest (unsettled p) P.variables) 0 (λ z. omega (arith, some, is-next, z)))
        ∙ branches_are P p S below (lowest (unsettled p) P.variables)))

    -- the budget is spent: neither branch is begun
    pub chosen_none : S.left ≡ 0 → stop price S ≡ visit P below p S
    unfolding stop
    chosen_none z =
        let one = branch_stop P p S below (negative v) (eq-eqb S.left 0 z) in
        let two = branch_stop P p (stop (node_cost P p) S) below (positive v) (eq-eqb S.left 0 z) in
        let twice : min (min S.floor (node_cost P p)) (node_cost P p) ≡ min S.floor (node_cost P p) = omega arith in
        rw is-price (sym (ap (branch P below p (positive v)) one ∙ two ∙ rw twice) ∙ both)

    module _ (T : Progress) (unit : S.left ≡ 0 → ⊥) (first : T ≡ below (settle p (negative v)) (spend S)) where
      first_is : branch P below p (negative v) S ≡ T
      first_is = branch_below P p S below (negative v) (ne_eqb S.left 0 unit) ∙ sym first

      -- it is spent after the first branch
      pub chosen_one : T.left ≡ 0 → stop price T ≡ visit P below p S
      chosen_one z =
          let two = branch_stop P p T below (positive v) (eq-eqb T.left 0 z) in
          rw is-price (sym (ap (branch P below p (positive v)) first_is ∙ two) ∙ both)

      pub chosen_both : (R : Progress) → (T.left ≡ 0 → ⊥) → R ≡ below (settle p (positive v)) (spend T) → R ≡ visit P below p S
      chosen_both R z second =
          let two = branch_below P p T below (positive v) (ne_eqb T.left 0 z) in
          second ∙ sym (ap (branch P below p (positive v)) first_is ∙ two) ∙ both

-- ---- forcing, and then the node

-- what is settled more leaves no more unsettled
pub count_under : (n : ℕ) (q e : Node) → Under q e → unsettled_count n e ≤ unsettled_count n q
unfolding unsettled_count
count_under n q e u = sum_most (λ v. one (unsettled e v)) (λ v. one (unsettled q v)) n (λ v. go v (which (unsettled e v)) (which (unsettled q v)))
  where
    go : (v : ℕ) → (unsettled e v ≡ true) ⊎ (unsettled e v ≡ false) → (unsettled q v ≡ true) ⊎ (unsettled q v ≡ false)
        → one (unsettled e v) ≤ one (unsettled q v)
    go v (inr x) y = rw x (omega arith)
    go v (inl x) (inl y) = rw (x, y) (omega arith)
    go v (inl x) (inr y) = let (t, f) = unsettled_not e v x in elim (settled_or q v y) [
      | inl z ↦ absurd (clash ((u v).0 z) t)
      | inr z ↦ absurd (clash ((u v).1 z) f)
    ]

module _ (P : Problem) (p : Node) (S : Progress) where
  -- the node after forcing is left
  pub forced_left : (dead P (after_forcing P p) ≡ true) ⊎ (S.cost ≤ node_cost P (after_forcing P p)) → (deep : ℕ) → 1 ≤ deep → S ≡ explore P deep p S
  unfolding leaves
  forced_left why zero l = absurd (omega (arith, l))
  forced_left why (suc deep) l = sym (explore_visit P p S deep ∙ visit_left P (after_forcing P p) S (explore P deep) (elim why [
    | inl d ↦ or_l (dead P (after_forcing P p)) _ d
    | inr c ↦ or_r (dead P (after_forcing P p)) _ (le-leb S.cost (node_cost P (after_forcing P p)) c)
  ]))

  -- it is visited
  pub forced_visit : Bounded P → (q : Node) (R : Progress) → q ≡ after_forcing P p
      → ((deep : ℕ) → unsettled_count P.variables q ≤ deep → R ≡ visit P (explore P deep) q S)
      → (deep : ℕ) → unsettled_count P.variables p < deep → R ≡ explore P deep p S
  forced_visit bounded q R e h zero l = absurd (omega (arith, l))
  forced_visit bounded q R e h (suc deep) l =
      let n = (after_narrows P bounded p).count in
      rw e at (h deep (rw e (omega (arith, n, l)))) ∙ sym (explore_visit P p S deep)

-- a branch on which v is true costs the node and v, or more after forcing: where that is no less than the best plan, it is left
module _ (P : Problem) (bounded : Bounded P) (p : Node) (v : ℕ) (among : Among P.variables v) (free-yet : unsettled p v ≡ true) where
  cost_true : node_cost P p + P.cost_of v ≡ node_cost P (settle p (positive v))
  unfolding cost cost_of_true
  cost_true =
      let e = sum_change (λ u. cond (has p.trues u) (P.cost_of u) 0) (λ u. cond (has (add p.trues v) u) (P.cost_of u) 0) (P.cost_of v) P.variables v among
      (λ u d. rw (has_add p.trues v u among.0, ne_eqb u v d)) (rw (add_new p.trues v among.0, (unsettled_not p v free-yet).0) (omega arith)) in
      rw (settle_positive p (positive v) (is_positive_lem v), variable_positive v) (omega (arith, e))

  pub true_left : (T U : Progress) (price : ℕ) → price ≡ node_cost P p → U ≡ spend T → U.cost ≤ price + P.cost_of v → (deep : ℕ)
      → unsettled_count P.variables p ≤ deep → U ≡ explore P deep (settle p (positive v)) (spend T)
  true_left T U price is-price is-spent l deep enough =
      let fell = settle_counts P.variables p (positive v) (rw (variable_positive v) among) (rw (variable_positive v) free-yet) in
      let after = within_cost P (has (settle p (positive v)).trues) (has (after_forcing P (settle p (positive v))).trues)
      (λ u w. (under_forcing P bounded P.variables (settle p (positive v)) u).0) in
      let e = cost_true in
      rw (← is-spent) (forced_left P (settle p (positive v)) U (inr (omega (arith, l, after, e, is-price))) deep (omega (arith, fell, enough)))

-- ---- the whole search

module _ (P : Problem) (bounded : Bounded P) (r : Option Work) (leads : Leads (at_node root) r)
    (keeps : Keeps P (at_node root) (λ k. true) r nothing) (budget : ℕ) (S : Progress) (is-begin : S ≡ begin budget) where
  pub root_dead : r ≡ None → S ≡ searched P budget
  unfolding searched
  root_dead off = rw is-begin (forced_left P root (begin budget) (inl (keeps.stops off root (reached_start P bounded root))) (P.variables + 1) (omega arith))

  module _ (w : Work) (on : r ≡ Some w) where
    pub root_ready : Ready P w nothing
    root_ready = keeps.ready w on (record {
      consistent = λ v t f. clash t (has_empty v);
      inside = λ v t. absurd (clash t (has_empty v));
      settled = λ v t. absurd (clash t (has_empty v));
      looked = λ k a. inr (inr refl);
    })

    -- no variable has been counted
    pub root_price : P.loss ≡ counted_cost P w
    unfolding cost cost_of_true
    root_price = sym (counted_same P (at_node root) w (leads w on) ∙ rw none (omega arith))
      where
        none : sum_of (λ v. cond (counted (at_node root) v) (P.cost_of v) 0) P.variables ≡ 0
        none = sum_zero _ P.variables (λ v. rw (has_empty v))

    pub root_explored : (R : Progress)
        → ((q : Node) (deep : ℕ) → Reached P q (node_of w) → unsettled_count P.variables q < deep → R ≡ explore P deep q S) → R ≡ searched P budget
    unfolding searched
    root_explored R h =
        let l = count_most P.variables root in
        rw (← is-begin) (h root (P.variables + 1) (keeps.reached w on root (reached_start P bounded root)) (omega (arith, l)))
