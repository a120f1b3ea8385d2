-- Kind 5: a step passes its tests exactly when its divisor and weights are not 0 and its bound is its total divided
-- by the divisor and rounded up, plus the loss.
-- Assumes nothing.
use Prim.Native.Nat.{ℕ, ◌+◌, ◌*◌, ◌%◌, ◌≤◌}
use mathlib.Core.Path.{◌≡◌}
use mathlib.Core.Bool.{true, not}
use mathlib.Core.List.{List}
use mathlib.Core.Logic.{◌≢◌}
use native.Mathlib.Omega.{arith}
use lib.ListN.{length}
use lib.Dec.{eqb}
use borrow.Author.Tests.{eq-eqb, ne_eqb, eqb-true, eqb-false, le-leb, leb-true, not-true}
use Rattle.judgement.specs.Scan.{all_of}
use Rattle.judgement.specs.Integers.{rounded_up}
use Rattle.judgement.specs.Number.{number_at}
use Rattle.judgement.specs.Finding.{◌then◌}
use Rattle.judgement.specs.Sheet.{clauses}
use Rattle.judgement.specs.declared.Kind.TheVariants.{WeightedSet}
use Rattle.judgement.specs.Step.{kind_number, bound, tail, divisor, entry_count, entry_cites, weight, tail_fine, cites_fine}
use Rattle.judgement.specs.Linear.{total, linear_cost, is_weighted, weights_finding, linear_bound}
use Rattle.judgement.specs.Facts.{Weighted, BoundedByTotal, Linear}
use Rattle.judgement.proofs.Laws.Scan.{and_i, and_l, and_r, all_each, all_of_lem}
use Rattle.judgement.proofs.Laws.Integers.{rounded_cover, cover_rounded}
use Rattle.judgement.proofs.Laws.Findings.{need_of, need_true, then_of, then_l, then_r}
use Rattle.judgement.proofs.Laws.Lists.{rises_rising, rising_rises}
use Rattle.judgement.proofs.Facts.FirstByte.{Passes}

-- ---- the weights

not_zero : (x : ℕ) → not (eqb x 0) ≡ true → x ≢ 0
not_zero x h = eqb-false x 0 (not-true (eqb x 0) h)

zero_not : (x : ℕ) → x ≢ 0 → not (eqb x 0) ≡ true
zero_not x h = rw (ne_eqb x 0 h)

pub is_weighted_lem : (e : List ℕ) → is_weighted e ≡ true → Weighted e
unfolding is_weighted
is_weighted_lem e h =
    let all : all_of (λ j. not (eqb (weight e j) 0)) (entry_count e) ≡ true = search (and_r) in
    record {
      divides = not_zero (divisor e) (search (and_l));
      weighs = λ j w. not_zero (weight e j) (all_each (λ j. not (eqb (weight e j) 0)) (entry_count e) all j w);
    }

pub weighted_is : (e : List ℕ) → Weighted e → is_weighted e ≡ true
unfolding is_weighted
weighted_is e h =
    let d = zero_not (divisor e) h.divides in
    let all = all_of_lem (λ j. not (eqb (weight e j) 0)) (entry_count e) (λ j w. zero_not (weight e j) (h.weighs j w)) in
    search (and_i)

-- ---- the bound

pub bound_cover : (s b : List ℕ) → Weighted (tail b) → bound b ≡ linear_cost s b → BoundedByTotal s b
unfolding linear_cost
bound_cover s b h e = (rounded_up (total s b) (divisor (tail b)), rounded_cover (total s b) (divisor (tail b)) (omega (arith, h.divides)), e)

pub cover_bound : (s b : List ℕ) → Weighted (tail b) → BoundedByTotal s b → bound b ≡ linear_cost s b
unfolding linear_cost
cover_bound s b h (x, rounded, e) = rw (← cover_rounded (total s b) (divisor (tail b)) x (omega (arith, h.divides)) rounded) e

-- ---- the tail

pub tail_entries : (b : List ℕ) → tail_fine WeightedSet (length (tail b)) ≡ true
    → (length (tail b) ≡ 2 + 6 * entry_count (tail b)) × (1 ≤ entry_count (tail b))
unfolding tail_fine
tail_entries b size =
    let low = leb-true 8 (length (tail b)) (search (and_l)) in
    let whole = eqb-true (length (tail b) % 6) 2 (search (and_r)) in
    (omega (arith, low, whole), omega (arith, low))

pub entries_tail : (b : List ℕ) → length (tail b) ≡ 2 + 6 * entry_count (tail b) → 1 ≤ entry_count (tail b)
    → tail_fine WeightedSet (length (tail b)) ≡ true
unfolding tail_fine
entries_tail b size some =
    let low = le-leb 8 (length (tail b)) (omega (arith, size, some)) in
    let whole = eq-eqb (length (tail b) % 6) 2 (omega (arith, size)) in
    search (and_i)

-- ---- kind 5

pub linear_facts : (s b : List ℕ) (k : ℕ) → number_at b 0 1 ≡ kind_number WeightedSet
    → Passes WeightedSet s k b (weights_finding b k then linear_bound s b k) → Linear s b
unfolding cites_fine weights_finding linear_bound
linear_facts s b k kind (size, cites, fine) =
    let weighted = is_weighted_lem (tail b) (search (need_true, then_l)) in
    record {
      citing = record {
        kind = kind;
        size = (tail_entries b size).0;
        some = (tail_entries b size).1;
        cites = rises_rising (entry_cites (tail b)) (clauses s) (entry_count (tail b)) cites;
      };
      weighted = weighted;
      bounded = bound_cover s b weighted (eqb-true (bound b) (linear_cost s b) (search (need_true, then_r)));
    }

pub facts_linear : (s b : List ℕ) (k : ℕ) → Linear s b → Passes WeightedSet s k b (weights_finding b k then linear_bound s b k)
unfolding cites_fine weights_finding linear_bound
facts_linear s b k h =
    let weights = weighted_is (tail b) h.weighted in
    let bound_is = eq-eqb (bound b) (linear_cost s b) (cover_bound s b h.weighted h.bounded) in
    (entries_tail b h.citing.size h.citing.some, rising_rises (entry_cites (tail b)) (clauses s) (entry_count (tail b)) h.citing.cites, search (then_of, need_of))
