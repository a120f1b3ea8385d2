-- The tables of a sheet: they are in the form that the search asks, and they state the problem that the sheet states.
-- Assumes nothing.
use Prim.Native.Nat.{ℕ, ◌+◌, ◌*◌, ◌/◌, ◌%◌, ◌^◌, ◌≤◌, ◌<◌}
use mathlib.Core.Path.{◌≡◌, refl, sym, ap, ◌∙◌}
use mathlib.Core.Bool.{true, false}
use mathlib.Core.List.{List}
use mathlib.Core.Logic.{◌⊎◌, inl, inr}
use native.Mathlib.Omega.{arith}
use native.Mathlib.Decide.{dec_lt}
use lib.Dec.{leb}
use borrow.Author.Tests.{eqb-true, eqb-false, leb-true, le-leb}
use Rattle.judgement.specs.Meaning.{positive, negative, variable_of, is_positive}
use Rattle.judgement.specs.Literals.{count, code, holds}
use Rattle.judgement.specs.Sheet.{variables, clauses, loss, clause, problem_of}
use Rattle.judgement.specs.Facts.{Among, LiteralList, ValidSheet}
use Rattle.judgement.proofs.Laws.Scan.{which, and_i, and_l, and_r}
use Rattle.judgement.proofs.Laws.Membership.{holds_in}
use Rattle.search.specs.declared.Size.{Size}
use Rattle.search.specs.Tables.{clause_of, positives, negatives, table_problem, in_row, FineClause, FineTables, Small, Costed, Masked, Rowed}
use Rattle.search.proofs.Promised.{sheet_bounded}
use Rattle.search.proofs.Alike.{AllAlike}

-- ---- a list of literals

-- the variables rise strictly, so that none stands there both ways
one_way : (n : ℕ) (part : List ℕ) → LiteralList n part → (v : ℕ) → holds part (positive v) ≡ true → holds part (negative v) ≡ true → ⊥
one_way n part list v g h =
    let (i, a, e) = holds_in part (positive v) g in
    let (j, b, f) = holds_in part (negative v) h in
    go i j a b e f (dec_lt i j) (dec_lt j i)
  where
    rising : (i j : ℕ) → 1 ≤ i → i < j → j ≤ count part → code part i / 2 < code part j / 2
    rising = list.variables.rising

    go : (i j : ℕ) → Among (count part) i → Among (count part) j → code part i ≡ positive v → code part j ≡ negative v
        → Dec (i < j) → Dec (j < i) → ⊥
    go i j a b e f (yes l) m = let r = rising i j a.0 l b.1 in omega (arith, r, e, f)
    go i j a b e f (no l) (yes m) = let r = rising j i b.0 m a.1 in omega (arith, r, e, f)
    go i j a b e f (no l) (no m) = let z : i ≡ j = omega (arith, l, m) in omega (arith, rw z at e, f)

-- ---- the clauses

abbrev pub size_of : List ℕ → Size
size_of s = record { variables = variables s; clauses = clauses s; loss = loss s }

-- as it is read
pub size_read : (s : List ℕ) {n m l : ℕ} → n ≡ variables s → m ≡ clauses s → l ≡ loss s
    → ◌≡◌ {A = Size} (record { variables = n; clauses = m; loss = l }) (size_of s)
size_read s p q r = rw (p, q, r)

module _ (s masks : List ℕ) (masked : Masked s masks (clauses s)) (k : ℕ) (w : Among (clauses s) k) where
  same_clause : (c : ℕ) → clause_of (positives masks k) (negatives masks k) c ≡ holds (clause s k) c
  same_clause c = go (which (is_positive c))
    where
      go : (is_positive c ≡ true) ⊎ (is_positive c ≡ false) → clause_of (positives masks k) (negatives masks k) c ≡ holds (clause s k) c
      go (inl t) =
          let e : 2 * (c / 2) ≡ c = omega (arith, eqb-true (c % 2) 0 t) in
          rw t ((masked k w (c / 2)).0 ∙ ap (holds (clause s k)) e)
      go (inr f) =
          let e : 2 * (c / 2) + 1 ≡ c = omega (arith, eqb-false (c % 2) 0 f) in
          rw f ((masked k w (c / 2)).1 ∙ ap (holds (clause s k)) e)

  fine_clause : ValidSheet s → FineClause (variables s) (positives masks k) (negatives masks k)
  fine_clause valid = record {
    positives = λ v t. halved (positive v) v (omega arith) (sheet_bounded s valid k w (positive v) (sym (masked k w v).0 ∙ t));
    negatives = λ v t. halved (negative v) v (omega arith) (sheet_bounded s valid k w (negative v) (sym (masked k w v).1 ∙ t));
    one_way = λ v t u. one_way (variables s) (clause s k) (valid.lists k w) v (sym (masked k w v).0 ∙ t) (sym (masked k w v).1 ∙ u);
  }
    where
      halved : (c v : ℕ) → c / 2 ≡ v → Among (variables s) (c / 2) → Among (variables s) v
      halved c v e a = (omega (arith, e, a.0), omega (arith, e, a.1))

-- ---- the tables

module _ (s : List ℕ) (valid : ValidSheet s) (few : variables s ≤ 64) (costs masks rows : List ℕ)
    (masked : Masked s masks (clauses s)) {size : Size} (is-size : size ≡ size_of s) where
  pub tables_fine : Rowed s rows (clauses s) → Small costs → size.loss < 2 ^ 32 → FineTables size costs masks rows
  tables_fine rowed small low = record {
    clauses = rw is-size (record { variables = few; clauses = valid.m; each = λ k w. fine_clause s masks masked k w valid });
    literals = rw is-size (record { complete = complete; sound = sound; inside = inside });
    prices = record { loss = low; each = small };
  }
    where
      complete : (k : ℕ) → Among (clauses s) k → (c : ℕ) → clause_of (positives masks k) (negatives masks k) c ≡ true
          → in_row rows c k ≡ true
      complete k w c t =
          let h = sym (same_clause s masks masked k w c) ∙ t in
          let b = sheet_bounded s valid k w c h in
          rowed c k (b.0, omega (arith, b.1, few)) (w.0, omega (arith, w.1, valid.m))
          ∙ and_i (leb k (clauses s)) (holds (clause s k) c) (le-leb k (clauses s) w.1) h

      sound : (k : ℕ) → Among (clauses s) k → (c : ℕ) → Among 64 (variable_of c) → in_row rows c k ≡ true
          → clause_of (positives masks k) (negatives masks k) c ≡ true
      sound k w c u t =
          same_clause s masks masked k w c
          ∙ and_r (leb k (clauses s)) (holds (clause s k) c) (sym (rowed c k u (w.0, omega (arith, w.1, valid.m))) ∙ t)

      inside : (c k : ℕ) → Among 64 (variable_of c) → Among 4096 k → in_row rows c k ≡ true → k ≤ clauses s
      inside c k u w t = leb-true k (clauses s) (and_l (leb k (clauses s)) (holds (clause s k) c) (sym (rowed c k u w) ∙ t))

  pub tables_alike : Costed s costs (variables s) → AllAlike (table_problem size costs masks) (problem_of s)
  tables_alike costed = rw is-size (record {
    costs = record { same_variables = refl; same_costs = costed; same_loss = refl };
    clauses = refl;
    clause = λ k w c u. same_clause s masks masked k w c;
  })
