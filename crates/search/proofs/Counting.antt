-- Literals that stand: settling takes none away, and looking at a variable its false literal alone; a clause in which two stand need not be
-- looked at; and the table's numbers under both.
-- Assumes nothing.
use Prim.Native.Nat.{ℕ, zero, suc, ◌+◌, ◌*◌, ◌%◌, ◌^◌, ◌≤◌, ◌<◌}
use mathlib.Core.Path.{◌≡◌, refl, ap, ◌∙◌}
use mathlib.Core.Bool.{Bool, true, false, not, cond, ◌&&◌}
use mathlib.Core.List.{List}
use mathlib.Core.Logic.{◌⊎◌, inl, inr}
use native.Mathlib.Omega.{arith}
use native.Mathlib.Decide.{ℕ_discrete}
use lib.Dec.{leb}
use lib.Count.{count_trailing_zeros}
use borrow.Author.Tests.{eqb-false, eqb-true, le-leb, leb-true}
use Rattle.judgement.specs.Scan.{sum_of, one, count_of}
use Rattle.judgement.specs.Meaning.{positive, negative, variable_of, is_positive, Literals, Problem}
use Rattle.judgement.specs.Facts.{Among}
use Rattle.judgement.proofs.Laws.Scan.{and_i, and_l, and_r, clash, count_same, false_i, sum_change, true_same, which}
use Rattle.search.specs.declared.Size.{Size}
use Rattle.search.specs.declared.Work.{Work}
use Rattle.search.specs.Node.{has, last_code, root, settled_false, unsettled}
use Rattle.search.specs.Tables.{clause_of, positives, negatives, table_problem, in_row, FineClause, FineMasks, FineRows}
use Rattle.search.specs.Work.{stands, node_of, at_node, Quiet, two, Pending, Consistent, Ready, nothing, false_literal, looked_at}
use Rattle.search.specs.Counts.{standing, plane, held, Counts, CountedDown}
use Rattle.search.proofs.Nodes.{variable_positive, variable_negative, is_positive_lem, is_negative, settled_or}
use Rattle.search.proofs.Sets.{has_empty}
use Rattle.search.proofs.Forcing.{one_most}
use Rattle.search.proofs.Units.{same_way}
use Rattle.search.proofs.Walking.{tables_bounded, rest_part}
use Rattle.search.proofs.Pricing.{false_wide, todo_wide, todo_has, gone, stays}

-- ---- the lowest variable of `todo` is looked at: its false literal stands no more

module _ (w : Work) (some : 1 ≤ w.todo) (word : w.todo < 2 ^ 64) where
  abbrev v : ℕ
  v = count_trailing_zeros 64 w.todo + 1

  variable_is : variable_of (false_literal w v) ≡ v
  variable_is = go (has w.trues v)
    where
      go : (b : Bool) → variable_of (cond b (negative v) (positive v)) ≡ v
      go true = omega arith
      go false = omega arith

  is_false : unsettled (node_of w) v ≡ false → settled_false (node_of w) (false_literal w v) ≡ true
  unfolding settled_false
  is_false settled = elim (which (has w.trues v)) [
    | inl t ↦ rw (t, is_negative v, variable_negative v) t
    | inr t ↦ rw (t, is_positive_lem v, variable_positive v) (elim (settled_or (node_of w) v settled) [
      | inl x ↦ absurd (clash x t)
      | inr x ↦ x
    ])
  ]

  module _ (consistent : Consistent (node_of w)) where
    only_false : (c : ℕ) → variable_of c ≡ v → settled_false (node_of w) c ≡ true → c ≡ false_literal w v
    unfolding settled_false
    only_false c e f = go (which (is_positive c)) (which (has w.trues v))
      where
        go : (is_positive c ≡ true) ⊎ (is_positive c ≡ false) → (has w.trues v ≡ true) ⊎ (has w.trues v ≡ false) → c ≡ false_literal w v
        go (inl s) (inl t) = absurd (consistent v t (rw (s, e) at f))
        go (inl s) (inr t) = rw t (omega (arith, e, eqb-true (c % 2) 0 s))
        go (inr s) (inl t) = rw t (omega (arith, e, eqb-false (c % 2) 0 s))
        go (inr s) (inr t) = absurd (clash (rw (s, e) at f) t)

    pub stands_pop : (C : Literals) (c : ℕ) → (c ≡ false_literal w v → ⊥) → stands (looked_at w) C c ≡ stands w C c
    stands_pop C c d = ap (λ (b : Bool). C c && not b) (go (ℕ_discrete (variable_of c) v))
      where
        neither : (f t s : Bool) → f ≡ false → f && not t ≡ f && not s
        neither true t s p = absurd (clash refl p)
        neither false t s p = refl

        go : Dec (variable_of c ≡ v)
            → settled_false (node_of w) c && not (has (looked_at w).todo (variable_of c)) ≡ settled_false (node_of w) c && not (has w.todo (variable_of c))
        go (yes e) = neither (settled_false (node_of w) c) (has (looked_at w).todo (variable_of c)) (has w.todo (variable_of c)) (false_i (settled_false (node_of w) c) (λ f. d (only_false c e f)))
        go (no x) = ap (λ (b : Bool). settled_false (node_of w) c && not b) (stays w some word (variable_of c) x)

    -- one less stands, where the clause has it
    pub standing_pop : unsettled (node_of w) v ≡ false → (n : ℕ) → Among n v → (C : Literals)
        → standing n (looked_at w) C + one (C (false_literal w v)) ≡ standing n w C
    standing_pop settled n a C =
        sum_change (λ c. one (stands (looked_at w) C c)) (λ c. one (stands w C c)) (one (C (false_literal w v))) (last_code n) (false_literal w v) coded
        (λ c d. ap one (stands_pop C c d)) here
      where
        coded : Among (last_code n) (false_literal w v)
        coded = let e = variable_is in (omega (arith, e, a.0), omega (arith, e, a.1))

        here : one (stands (looked_at w) C (false_literal w v)) + one (C (false_literal w v)) ≡ one (stands w C (false_literal w v))
        here =
            rw (is_false settled, ap (has (looked_at w).todo) variable_is ∙ gone w some word, ap (has w.todo) variable_is ∙ todo_has w some word)
            (go (C (false_literal w v)))
          where
            go : (i : Bool) → one (i && false) + one i ≡ one (i && true)
            go true = omega arith
            go false = omega arith

-- ---- counts

count_one : (f : ℕ → Bool) (n : ℕ) → 1 ≤ count_of f n → (a : ℕ) × Among n a × (f a ≡ true)
unfolding sum_of
count_one f zero h = absurd (omega (arith, h))
count_one f (suc n) h = go (which (f (suc n))) (count_one f n)
  where
    go : (f (suc n) ≡ true) ⊎ (f (suc n) ≡ false) → (1 ≤ count_of f n → (a : ℕ) × Among n a × (f a ≡ true))
        → (a : ℕ) × Among (suc n) a × (f a ≡ true)
    go (inl t) earlier = (suc n, (omega arith, omega arith), t)
    go (inr t) earlier =
        let z : one (f (suc n)) ≡ 0 = ap one t in
        let (a, b, e) = earlier (omega (arith, h, z)) in
        (a, (b.0, omega (arith, b.1)), e)

pub count_two : (f : ℕ → Bool) (n : ℕ) → 2 ≤ count_of f n → (a b : ℕ) × (a ≡ b → ⊥) × Among n a × Among n b × (f a ≡ true) × (f b ≡ true)
unfolding sum_of
count_two f zero h = absurd (omega (arith, h))
count_two f (suc n) h = go (which (f (suc n))) (count_two f n)
  where
    go : (f (suc n) ≡ true) ⊎ (f (suc n) ≡ false)
        → (2 ≤ count_of f n → (a b : ℕ) × (a ≡ b → ⊥) × Among n a × Among n b × (f a ≡ true) × (f b ≡ true))
        → (a b : ℕ) × (a ≡ b → ⊥) × Among (suc n) a × Among (suc n) b × (f a ≡ true) × (f b ≡ true)
    go (inl t) earlier =
        let z : one (f (suc n)) ≡ 1 = ap one t in
        let (a, b, e) = count_one f n (omega (arith, h, z)) in
        (a, suc n, (λ q. omega (arith, q, b.1)), (b.0, omega (arith, b.1)), (omega arith, omega arith), e, t)
    go (inr t) earlier =
        let z : one (f (suc n)) ≡ 0 = ap one t in
        let (a, b, d, x, y, i, j) = earlier (omega (arith, h, z)) in
        (a, b, d, (x.0, omega (arith, x.1)), (y.0, omega (arith, y.1)), i, j)

-- ---- two literals stand

pub stands_two : (n a b : ℕ) → FineClause n a b → (w : Work) → 2 ≤ standing n w (clause_of a b)
    → Quiet (node_of w) (clause_of a b) ⊎ Pending w.todo (node_of w) (clause_of a b)
stands_two n a b fine w h =
    let (c, d, x, l, m, s, t) = count_two (stands w (clause_of a b)) (last_code n) h in
    go c d x (and_l (clause_of a b c) _ s) (and_l (clause_of a b d) _ t)
    (met (settled_false (node_of w) c) (has w.todo (variable_of c)) (and_r (clause_of a b c) _ s))
    (met (settled_false (node_of w) d) (has w.todo (variable_of d)) (and_r (clause_of a b d) _ t))
  where
    met : (f t : Bool) → not (f && not t) ≡ true → (f ≡ false) ⊎ ((f ≡ true) × (t ≡ true))
    met false t e = inl refl
    met true true e = inr (refl, refl)
    met true false e = absurd (clash e refl)

    go : (c d : ℕ) → (c ≡ d → ⊥) → clause_of a b c ≡ true → clause_of a b d ≡ true
        → (settled_false (node_of w) c ≡ false) ⊎ ((settled_false (node_of w) c ≡ true) × (has w.todo (variable_of c) ≡ true))
        → (settled_false (node_of w) d ≡ false) ⊎ ((settled_false (node_of w) d ≡ true) × (has w.todo (variable_of d) ≡ true))
        → Quiet (node_of w) (clause_of a b) ⊎ Pending w.todo (node_of w) (clause_of a b)
    go c d x i j (inr (f, t)) q = inr (c, i, f, t)
    go c d x i j (inl f) (inr (g, t)) = inr (d, j, g, t)
    go c d x i j (inl f) (inl g) = inl (two c d (λ e. x (same_way n a b fine d c j i e)) i j f g)

-- ---- the table's numbers

module _ (size : Size) (costs masks rows before after : List ℕ) (at m : ℕ) (fine : FineMasks size masks) (full : FineRows size masks rows)
    (w : Work) (some : 1 ≤ w.todo) (word : w.todo < 2 ^ 64) (ready : Ready (table_problem size costs masks) w nothing)
    (counts : Counts (table_problem size costs masks) before at w)
    (down : CountedDown rows (false_literal w (count_trailing_zeros 64 w.todo + 1)) m at before after) (enough : size.clauses ≤ m) where
  abbrev low : ℕ
  low = count_trailing_zeros 64 w.todo + 1

  pub counts_pop : Counts (table_problem size costs masks) after at (looked_at w)
  counts_pop k a =
      let l = counts k a in
      let e = down.less k (a.0, omega (arith, a.1, enough)) in
      let here = todo_has w some word in
      let s = standing_pop w some word ready.consistent (ready.settled low here) size.variables (ready.inside low here) (clause_of (positives masks k) (negatives masks k)) in
      let t = ap one (true_same (clause_of (positives masks k) (negatives masks k) (false_literal w low)) (in_row rows (false_literal w low) k)
      (full.complete k a (false_literal w low)) (full.sound k a (false_literal w low) (false_wide w low (false_literal w low) (todo_wide w some word) refl))) in
      let b = one_most (in_row rows (false_literal w low) k) in
      omega (arith, l, e, s, t, b)

  -- of the clauses of the row, those whose number is above 1 need not be looked at
  pub ready_low : Ready (table_problem size costs masks) (looked_at w) (plane after at 4)
  ready_low = record {
    consistent = ready.consistent;
    inside = λ u t. ready.inside u (rest_part w.todo u t);
    settled = λ u t. ready.settled u (rest_part w.todo u t);
    looked = λ k a. elim (ready.looked k a) [
      | inl x ↦ inl x
      | inr x ↦ elim x [
        | inl (c, i, f, t) ↦ elim (ℕ_discrete (variable_of c) low) [
          | yes e ↦ in_row_lem k a (rw (← only_false w some word ready.consistent c e f) (full.complete k a c i)) (which (leb (held after at k) 1))
          | no d ↦ inr (inl (c, i, f, stays w some word (variable_of c) d ∙ t))
        ]
        | inr z ↦ absurd (clash z refl)
      ]
    ];
  }
    where
      in_row_lem : (k : ℕ) → Among size.clauses k → in_row rows (false_literal w low) k ≡ true
          → (leb (held after at k) 1 ≡ true) ⊎ (leb (held after at k) 1 ≡ false)
          → Quiet (node_of w) (clause_of (positives masks k) (negatives masks k))
          ⊎ (Pending (looked_at w).todo (node_of w) (clause_of (positives masks k) (negatives masks k)) ⊎ (plane after at 4 k ≡ true))
      in_row_lem k a r (inl l) = inr (inr (down.low k (a.0, omega (arith, a.1, enough)) ∙ and_i (in_row rows (false_literal w low) k) _ r l))
      in_row_lem k a r (inr l) =
          let c = counts_pop k a in
          let b = above (held after at k) l in
          elim (stands_two size.variables (positives masks k) (negatives masks k) (fine.each k a) (looked_at w) (omega (arith, b, c))) [
            | inl q ↦ inl q
            | inr q ↦ inr (inl q)
          ]
        where
          above : (x : ℕ) → leb x 1 ≡ false → 2 ≤ x
          above zero e = absurd (clash refl e)
          above (suc zero) e = absurd (clash refl e)
          above (suc (suc x)) e = omega arith

-- where the same literals stand the numbers are right too
pub counts_onto : (P : Problem) (table : List ℕ) (at : ℕ) (w r : Work) → ((C : Literals) (c : ℕ) → stands r C c ≡ stands w C c)
    → Counts P table at w → Counts P table at r
counts_onto P table at w r same counts k a =
    let l = counts k a in
    let e = count_same (stands r (P.clause k)) (stands w (P.clause k)) (last_code P.variables) (λ c b. same (P.clause k) c) in
    omega (arith, l, e)

-- at the root no literal is false
root_open : (c : ℕ) → settled_false root c ≡ false
unfolding settled_false
root_open c = go (is_positive c)
  where
    go : (s : Bool) → cond s (has 0 (variable_of c)) (has 0 (variable_of c)) ≡ false
    go true = has_empty (variable_of c)
    go false = has_empty (variable_of c)

-- so that every literal stands
pub counts_root : (size : Size) (costs masks rows table : List ℕ) (m : ℕ) → FineMasks size masks → FineRows size masks rows
    → ((k : ℕ) → Among m k → held table 0 k ≡ count_of (λ c. leb 2 c && in_row rows c k) (2 * size.variables + 1) % 16)
    → size.clauses ≤ m → Counts (table_problem size costs masks) table 0 (at_node root)
counts_root size costs masks rows table m fine full counted enough k a =
    let l = counted k (a.0, omega (arith, a.1, enough)) in
    let e = count_same (λ c. leb 2 c && in_row rows c k) (stands (at_node root) (clause_of (positives masks k) (negatives masks k))) (last_code size.variables) each in
    omega (arith, l, e)
  where
    all_in : (c : ℕ) → clause_of (positives masks k) (negatives masks k) c ≡ stands (at_node root) (clause_of (positives masks k) (negatives masks k)) c
    all_in c = rw (root_open c) (go (clause_of (positives masks k) (negatives masks k) c))
      where
        go : (b : Bool) → b ≡ b && true
        go true = refl
        go false = refl

    each : (c : ℕ) → Among (last_code size.variables) c → leb 2 c && in_row rows c k ≡ stands (at_node root) (clause_of (positives masks k) (negatives masks k)) c
    each c w = true_same (leb 2 c && in_row rows c k) (clause_of (positives masks k) (negatives masks k) c)
        (λ t. let l = leb-true 2 c (and_l (leb 2 c) _ t) in
        full.sound k a c (omega (arith, l), omega (arith, w.1, fine.variables)) (and_r (leb 2 c) _ t))
        (λ t. and_i (leb 2 c) (in_row rows c k) (le-leb 2 c (let b = bounded c t in omega (arith, b.0))) (full.complete k a c t)) ∙ all_in c
      where
        bounded : (c : ℕ) → clause_of (positives masks k) (negatives masks k) c ≡ true → Among size.variables (variable_of c)
        bounded c t = tables_bounded size costs masks fine k a c t
