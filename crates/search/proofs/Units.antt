-- A clause held as two sets: whether it is false, quiet or forces a literal, from the set of its literals that are not false.
-- Assumes nothing.
use Prim.Native.Nat.{ℕ, ◌+◌, ◌-◌, ◌%◌, ◌^◌, ◌≤◌, ◌<◌}
use mathlib.Core.Path.{◌≡◌, refl, sym, ap, ◌∙◌}
use mathlib.Core.Bool.{Bool, true, false, not, cond, ◌&&◌, ◌||◌}
use mathlib.Core.Logic.{◌⊎◌, inl, inr}
use native.Mathlib.Omega.{arith}
use Rattle.std.specs.Prelude.{Some}
use lib.Dec.{eqb}
use lib.Bits.{bit_and, bit_or, and_le_l}
use lib.Count.{count_trailing_zeros}
use borrow.Author.Tests.{eq-eqb, eqb-true, eqb-false, not-true}
use Rattle.judgement.specs.Meaning.{positive, negative, variable_of, is_positive}
use Rattle.judgement.specs.Facts.{Among}
use Rattle.judgement.proofs.Laws.Scan.{which, clash, and_i, and_l, and_r, or_l, or_r, or_e, all_of_lem}
use Rattle.search.specs.declared.Node.{Node}
use Rattle.search.specs.Node.{has, add, unsettled, settled_false, last_code, forces, falsified}
use Rattle.search.specs.Tables.{clause_of, FineClause}
use Rattle.search.specs.declared.Work.{Work}
use Rattle.search.specs.Work.{node_of, Quiet, two, true_one, Looked, is_unit}
use Rattle.search.proofs.Sets.{has_empty}
use Rattle.search.proofs.Masks.{add_at, has_or, has_and, has_single, some_in, two_in, single, lowest_in, lowest_small}
use Rattle.search.proofs.Nodes.{variable_positive, variable_negative, is_positive_lem, is_negative, settle_positive, settle_negative}

-- the variables of the literals that are not false, as the code computes them
abbrev pub NotFalse : ℕ → ℕ → Node → ℕ → Type 0
NotFalse a b p rest = (v : ℕ) → Among 64 v → has rest v ≡ (has a v && not (has p.falses v)) || (has b v && not (has p.trues v))

-- a literal of the clause with the same variable is the same one
pub same_way : (n a b : ℕ) → FineClause n a b → (c d : ℕ) → clause_of a b c ≡ true → clause_of a b d ≡ true → variable_of d ≡ variable_of c → d ≡ c
same_way n a b fine c d i j e = go (which (is_positive c)) (which (is_positive d))
  where
    go : (is_positive c ≡ true) ⊎ (is_positive c ≡ false) → (is_positive d ≡ true) ⊎ (is_positive d ≡ false) → d ≡ c
    go (inl x) (inl y) = omega (arith, e, eqb-true (c % 2) 0 x, eqb-true (d % 2) 0 y)
    go (inr x) (inr y) = omega (arith, e, eqb-false (c % 2) 0 x, eqb-false (d % 2) 0 y)
    go (inl x) (inr y) = absurd (fine.one_way (variable_of c) (rw x at i) (rw (y, e) at j))
    go (inr x) (inl y) = absurd (fine.one_way (variable_of c) (rw (y, e) at j) (rw x at i))

module _ (n a b : ℕ) (small : n ≤ 64) (fine : FineClause n a b) (p : Node) (rest : ℕ) (word : rest < 2 ^ 64) (is-rest : NotFalse a b p rest) where
  among : (c : ℕ) → clause_of a b c ≡ true → Among n (variable_of c)
  among c e = go (is_positive c) e
    where
      go : (s : Bool) → cond s (has a (variable_of c)) (has b (variable_of c)) ≡ true → Among n (variable_of c)
      go true e = fine.positives (variable_of c) e
      go false e = fine.negatives (variable_of c) e

  -- a literal that is not false is in the rest
  in_rest : (c : ℕ) → clause_of a b c ≡ true → settled_false p c ≡ false → has rest (variable_of c) ≡ true
  unfolding settled_false
  in_rest c e f =
      let w = among c e in
      is-rest (variable_of c) (w.0, omega (arith, w.1, small)) ∙ elim (which (is_positive c)) [
        | inl s ↦ or_l (has a (variable_of c) && not (has p.falses (variable_of c))) _
            (and_i (has a (variable_of c)) _ (rw s at e) (ap not (rw s at f)))
        | inr s ↦ or_r (has a (variable_of c) && not (has p.falses (variable_of c))) _
            (and_i (has b (variable_of c)) _ (rw s at e) (ap not (rw s at f)))
      ]

  -- and the rest has nothing else
  of_rest : (v : ℕ) → Among 64 v → has rest v ≡ true → (c : ℕ) × (variable_of c ≡ v) × (clause_of a b c ≡ true) × (settled_false p c ≡ false)
  unfolding settled_false
  of_rest v w e = elim (or_e (has a v && not (has p.falses v)) (has b v && not (has p.trues v)) (sym (is-rest v w) ∙ e)) [
    | inl q ↦ (
      positive v,
      variable_positive v,
      rw (is_positive_lem v, variable_positive v) (and_l (has a v) _ q),
      rw (is_positive_lem v, variable_positive v) (not-true (has p.falses v) (and_r (has a v) _ q)),
    )
    | inr q ↦ (
      negative v,
      variable_negative v,
      rw (is_negative v, variable_negative v) (and_l (has b v) _ q),
      rw (is_negative v, variable_negative v) (not-true (has p.trues v) (and_r (has b v) _ q)),
    )
  ]

  -- ---- nothing is left

  pub rest_none : rest ≡ 0 → falsified n p (clause_of a b) ≡ true
  unfolding falsified
  rest_none z = all_of_lem (λ c. not (clause_of a b c) || settled_false p c) (last_code n) (λ c w. go c (which (clause_of a b c)) (which (settled_false p c)))
    where
      go : (c : ℕ) → (clause_of a b c ≡ true) ⊎ (clause_of a b c ≡ false) → (settled_false p c ≡ true) ⊎ (settled_false p c ≡ false)
          → not (clause_of a b c) || settled_false p c ≡ true
      go c (inr q) s = or_l (not (clause_of a b c)) (settled_false p c) (ap not q)
      go c (inl q) (inl s) = or_r (not (clause_of a b c)) (settled_false p c) s
      go c (inl q) (inr s) = absurd (clash (rw z at (in_rest c q s)) (has_empty (variable_of c)))

  module _ (some : 1 ≤ rest) where
    -- ---- two are left, or one that is settled

    pub rest_two : (bit_and rest (rest - 1) ≡ 0 → ⊥) → Quiet p (clause_of a b)
    rest_two nz =
        let (u, v, d, w, x, s, t) = two_in rest some word nz in
        let (c, e, i, f) = of_rest u w s in
        let (k, g, j, h) = of_rest v x t in
        two c k (λ q. d (sym e ∙ q ∙ g)) i j f h

    pub rest_true : (bit_and rest (bit_or p.trues p.falses) ≡ 0 → ⊥) → Quiet p (clause_of a b)
    unfolding unsettled
    rest_true nz =
        let (v, w, t) = some_in (bit_and rest (bit_or p.trues p.falses)) (let l = and_le_l rest (bit_or p.trues p.falses) in omega (arith, l, word)) nz in
        let both = sym (has_and rest (bit_or p.trues p.falses) v) ∙ t in
        let (c, e, i, f) = of_rest v w (and_l (has rest v) _ both) in
        true_one c i f (rw e (settled (has p.trues v) (has p.falses v) (sym (has_or p.trues p.falses v) ∙ and_r (has rest v) _ both)))
      where
        settled : (t f : Bool) → t || f ≡ true → not t && not f ≡ false
        settled true f e = refl
        settled false true e = refl
        settled false false e = absurd (clash e refl)

    -- ---- one is left, and is not settled

    module _ (alone : bit_and rest (rest - 1) ≡ 0) (free : bit_and rest (bit_or p.trues p.falses) ≡ 0) where
      abbrev v : ℕ
      v = count_trailing_zeros 64 rest + 1

      is_single : rest ≡ 2 ^ count_trailing_zeros 64 rest
      is_single = single rest some word alone

      low : count_trailing_zeros 64 rest < 64
      low = lowest_small rest word (λ e. omega (arith, e, some))

      wide : Among 64 v
      wide = (omega arith, omega (arith, low))

      has_v : has rest v ≡ true
      has_v = lowest_in rest low

      only : (u : ℕ) → 1 ≤ u → has rest u ≡ true → u ≡ v
      only u l t = eqb-true u v (sym (has_single (count_trailing_zeros 64 rest) u l) ∙ (rw is_single at t))

      unsettled_v : unsettled p v ≡ true
      unfolding unsettled
      unsettled_v =
          let none = sym (has_and rest (bit_or p.trues p.falses) v) ∙ (ap (λ (x : ℕ). has x v) free ∙ has_empty v) in
          go (has rest v) (has p.trues v) (has p.falses v) has_v (ap (λ (x : Bool). has rest v && x) (sym (has_or p.trues p.falses v)) ∙ none)
        where
          go : (r t f : Bool) → r ≡ true → r && (t || f) ≡ false → not t && not f ≡ true
          go false t f e q = absurd (clash e refl)
          go true true f e q = absurd (clash refl q)
          go true false true e q = absurd (clash refl q)
          go true false false e q = refl

      unit : (c : ℕ) → clause_of a b c ≡ true → variable_of c ≡ v → forces n p (clause_of a b) c ≡ true
      unfolding forces
      unit c i e = and_i (clause_of a b c && unsettled p (variable_of c)) _ (and_i (clause_of a b c) _ i (rw e unsettled_v))
          (all_of_lem (λ d. not (clause_of a b d) || eqb d c || settled_false p d) (last_code n) (λ d w. each d (which (clause_of a b d)) (which (settled_false p d))))
        where
          each : (d : ℕ) → (clause_of a b d ≡ true) ⊎ (clause_of a b d ≡ false) → (settled_false p d ≡ true) ⊎ (settled_false p d ≡ false)
              → not (clause_of a b d) || eqb d c || settled_false p d ≡ true
          each d (inr q) r = or_l (not (clause_of a b d) || eqb d c) _ (or_l (not (clause_of a b d)) _ (ap not q))
          each d (inl q) (inl r) = or_r (not (clause_of a b d) || eqb d c) (settled_false p d) r
          each d (inl q) (inr r) =
              let same = same_way n a b fine c d i q (only (variable_of d) (among d q).0 (in_rest d q r) ∙ sym e) in
              or_l (not (clause_of a b d) || eqb d c) (settled_false p d) (or_r (not (clause_of a b d)) (eqb d c) (eq-eqb d c same))

      -- v stands in a, or else in b
      in_a : (bit_and rest a ≡ 0 → ⊥) → has a v ≡ true
      in_a nz =
          let (u, w, t) = some_in (bit_and rest a) (let l = and_le_l rest a in omega (arith, l, word)) nz in
          let both = sym (has_and rest a u) ∙ t in
          rw (only u w.0 (and_l (has rest u) _ both)) at (and_r (has rest u) _ both)

      in_b : bit_and rest a ≡ 0 → has b v ≡ true
      in_b z =
          let none : has rest v && has a v ≡ false = sym (has_and rest a v) ∙ (ap (λ (x : ℕ). has x v) z ∙ has_empty v) in
          go (has a v) (has b v) (has p.falses v) (has p.trues v) (rw has_v at none) (sym (is-rest v wide) ∙ has_v)
        where
          go : (x y f t : Bool) → true && x ≡ false → (x && not f) || (y && not t) ≡ true → y ≡ true
          go true y f t e q = absurd (clash refl e)
          go false true f t e q = refl
          go false false f t e q = absurd (clash q refl)

      added : (set : ℕ) → bit_or set rest ≡ add set v
      added set = ap (bit_or set) is_single ∙ sym (add_at set v (omega arith) ∙ rw (back (count_trailing_zeros 64 rest)))
        where
          back : (k : ℕ) → k + 1 - 1 ≡ k
          back k = omega arith

      pub rest_positive : (bit_and rest a ≡ 0 → ⊥) → (todo : ℕ)
          → Looked n (clause_of a b) (record { trues = p.trues; falses = p.falses; todo = todo })
          (Some (record { trues = bit_or p.trues rest; falses = p.falses; todo = bit_or todo rest }))
      rest_positive nz todo = is_unit (positive v) (unit (positive v) (rw (is_positive_lem v, variable_positive v) (in_a nz)) (variable_positive v))
          (rw (settle_positive p (positive v) (is_positive_lem v), variable_positive v, added p.trues, added todo))

      pub rest_negative : bit_and rest a ≡ 0 → (todo : ℕ)
          → Looked n (clause_of a b) (record { trues = p.trues; falses = p.falses; todo = todo })
          (Some (record { trues = p.trues; falses = bit_or p.falses rest; todo = bit_or todo rest }))
      rest_negative z todo = is_unit (negative v) (unit (negative v) (rw (is_negative v, variable_negative v) (in_b z)) (variable_negative v))
          (rw (settle_negative p (negative v) (is_negative v), variable_negative v, added p.falses, added todo))

-- ---- one is left: its variable is added to the true ones where it stands in a, else to the false ones

module _ (n a b rest : ℕ) (w : Work) (small : n ≤ 64) (fine : FineClause n a b) (word : rest < 2 ^ 64) (is-rest : NotFalse a b (node_of w) rest)
    (some : 1 ≤ rest) (alone : bit_and rest (rest - 1) ≡ 0) (free : bit_and rest (bit_or w.trues w.falses) ≡ 0) where
  pub rest_either : (t f : ℕ) → ((1 ≤ bit_and rest a) × (t ≡ bit_or w.trues rest) × (f ≡ w.falses))
      ⊎ ((bit_and rest a ≡ 0) × (t ≡ w.trues) × (f ≡ bit_or w.falses rest))
      → Looked n (clause_of a b) w (Some (record { trues = t; falses = f; todo = bit_or w.todo rest }))
  rest_either t f (inl (nz, t-is, f-is)) =
      rw (t-is, f-is)
      (rest_positive n a b small fine (node_of w) rest word is-rest some alone free (λ e. omega (arith, e, nz)) w.todo)
  rest_either t f (inr (z, t-is, f-is)) =
      rw (t-is, f-is) (rest_negative n a b small fine (node_of w) rest word is-rest some alone free z w.todo)
