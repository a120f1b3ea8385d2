-- The index has 4 bytes for each literal of the sheet.
-- Assumes nothing.
use Prim.Native.Nat.{◌+◌, ◌-◌, ◌≤◌, suc, zero, ℕ}
use mathlib.Core.Path.{◌≡◌, ap, refl, sym}
use mathlib.Core.Bool.{Bool, cond, false, true}
use mathlib.Core.List.{List, ◌∷◌, []}
use native.Mathlib.Omega.{arith}
use borrow.Author.Tests.{eq-eqb, eqb-true, ne_eqb}
use lib.Dec.{eqb}
use lib.ListN.{length, length-append}
use Rattle.judgement.specs.Facts.{Among, LiteralList, ValidSheet}
use Rattle.judgement.specs.Literals.{count, mentions, variable}
use Rattle.judgement.specs.Scan.{any_of, one, sum_of}
use Rattle.turns.specs.Listed.{chosen}
use Rattle.judgement.specs.Sheet.{clause, clauses, variables}
use Rattle.judgement.proofs.Laws.Scan.{any_some, false_i, sum_apart, sum_split, sum_zero}
use Rattle.turns.specs.Index.{index_end, mentioned_to, start_of}
use Rattle.turns.specs.Turning.{index_size}
use Rattle.turns.proofs.Counting.{or_false, or_true}

-- the variables among the first i literals, counted, are i
module _ (n : ℕ) (part : List ℕ) (list : LiteralList n part) where
  abbrev amid : ℕ → ℕ → Bool
  amid i v = any_of (λ j. eqb (variable part j) v) i

  literals_of : (i : ℕ) → i ≤ count part → sum_of (λ v. one (amid i v)) n ≡ i
  unfolding any_of
  literals_of zero h = sum_zero (λ v. 0) n (λ k. refl)
  literals_of (suc i) h =
      let w : Among (count part) (suc i) = (omega arith, h) in
      let v = list.variables.range (suc i) w in
      let e : amid i (variable part (suc i)) ≡ false =
      false_i (amid i (variable part (suc i)))
      (λ q.
      (let (j, x, y) = any_some (λ j. eqb (variable part j) (variable part (suc i))) i q in
      let z = eqb-true (variable part j) (variable part (suc i)) y in
      let d = list.variables.rising j (suc i) x.0 (omega (arith, x.1)) h in
      omega (arith, z, d))) in
      let f : amid (suc i) (variable part (suc i)) ≡ true = rw (eq-eqb (variable part (suc i)) (variable part (suc i)) refl) (or_true (amid i (variable part (suc i)))) in
      let a = literals_of i (omega arith) in
      let b = sum_apart (λ v. one (amid (suc i) v)) (λ v. one (amid i v)) n (variable part (suc i)) v
      (λ u x d. rw (ne_eqb (variable part (suc i)) u (λ q. d (sym q)), or_false (amid i u))) in
      let e0 : one (amid i (variable part (suc i))) ≡ 0 = ap one e in
      let f1 : one (amid (suc i) (variable part (suc i))) ≡ 1 = ap one f in
      omega (arith, a, b, e0, f1)

  mentions_of : sum_of (λ v. one (mentions part v)) n ≡ count part
  unfolding mentions
  mentions_of = literals_of (count part) (omega arith)

module _ (s : List ℕ) (valid : ValidSheet s) where
  step_length : (k v : ℕ) → length (mentioned_to s (suc k) v) ≡ length (mentioned_to s k v) + one (mentions (clause s (suc k)) v)
  unfolding chosen
  step_length k v =
      rw length-append (go (mentions (clause s (suc k)) v))
    where
      go : (b : Bool) → length (mentioned_to s k v) + length (cond b (suc k ∷ []) []) ≡ length (mentioned_to s k v) + one b
      go true = refl
      go false = refl

  both_ways : (k : ℕ) → k ≤ clauses s → sum_of (λ v. length (mentioned_to s k v)) (variables s) ≡ sum_of (λ k. count (clause s k)) k
  unfolding sum_of chosen
  both_ways zero h = sum_zero (λ v. 0) (variables s) (λ k. refl)
  both_ways (suc k) h =
      let a = both_ways k (omega arith) in
      let b = mentions_of (variables s) (clause s (suc k)) (valid.lists (suc k) (omega arith, h)) in
      let c = sum_split (λ v. length (mentioned_to s (suc k) v)) (λ v. length (mentioned_to s k v)) (λ v. one (mentions (clause s (suc k)) v)) (variables s) (step_length k) in
      omega (arith, a, b, c)

  pub size_is : index_size s ≡ index_end s
  unfolding index_size start_of
  size_is =
      let e : variables s + 1 - 1 ≡ variables s = omega arith in
      let a = both_ways (clauses s) (omega arith) in
      rw e (omega (arith, a))
