-- Clauses added at the end of a sheet: records that keep their answers, and records that become 10, computed; and some of these
-- answers once more, as the promise gives them.
-- Assumes nothing.
use Prim.Native.Nat.{ℕ, ◌≤◌, ◌<◌}
use mathlib.Core.Path.{◌≡◌, refl}
use mathlib.Core.Bool.{Bool, true, ◌&&◌}
use mathlib.Core.List.{List, [], ◌∷◌}
use mathlib.Core.Logic.{inl, inr}
use native.Mathlib.Omega.{arith}
use native.Mathlib.Decide.{dec_lt, ℕ_discrete}
use lib.ListN.{length}
use lib.Dec.{T, eqb, leb}
use borrow.Author.Tests.{eqb-true, leb-true}
use Rattle.judgement.specs.Scan.{all_of}
use Rattle.judgement.specs.Meaning.{positive, negative, none}
use Rattle.judgement.specs.Literals.{same_literals}
use Rattle.judgement.specs.Sheet.{most_bytes, variables, clauses, cost_of, loss, sheet_finding}
use Rattle.judgement.specs.Sheet as sheet
use Rattle.judgement.specs.Record.{assigned}
use Rattle.judgement.specs.Writer.{bytes_of, numbers_of, pairs_of, joined, file_of, sheet_of, step_of, record_of, entries_of, weighted_tail}
use Rattle.judgement.specs.Judgement.{refused, judgement}
use Rattle.judgement.specs.Computed.{Case, accepted, within, right, all_right}
use Rattle.judgement.specs.Longer.{ExtendedBy, SatisfiesAt, FirstBroken}
use Rattle.judgement.proofs.Laws.Scan.{clash, and_l, and_r, all_each}
use Rattle.judgement.proofs.Laws.Findings.{IsFine}
use Rattle.judgement.proofs.Laws.Models.{satisfies_satisfied}
use Rattle.judgement.proofs.Facts.Copy.{same_members, test_same}
use Rattle.judgement.proofs.Facts.Layouts.{sheet_valid}
use Rattle.judgement.proofs.Longer.Answers.{old_reasons}
use Rattle.judgement.proofs.Cases.Starred.{clause, copy_step, cost_step, independent_step, resolution_step, sheet_a, record_a, sheet_b2, record_b2, record_f}
use Rattle.judgement.proofs.Cases.Within.{record_a4}

-- ---- sheet A with a mark whose loss is 0, and three clauses behind; record A, which makes 1 true and 2 false, breaks the last two

sheet_next : List ℕ
sheet_next =
    0x02 ∷ 0x80 ∷ 0x05 ∷ 0x00  -- the mark and n 2, m 5
    ∷ 0x03 ∷ 0x00 ∷ 0x00 ∷ 0x00 ∷ 0x05 ∷ 0x00 ∷ 0x00 ∷ 0x00  -- costs 3 and 5
    ∷ 0x00 ∷ 0x00 ∷ 0x00 ∷ 0x00  -- loss 0
    ∷ 0x38 ∷ 0x00 ∷ 0x00 ∷ 0x00 ∷ 0x04 ∷ 0x00 ∷ 0x00 ∷ 0x00  -- clause 1: 4 bytes at 56
    ∷ 0x3C ∷ 0x00 ∷ 0x00 ∷ 0x00 ∷ 0x04 ∷ 0x00 ∷ 0x00 ∷ 0x00  -- clause 2: 4 bytes at 60
    ∷ 0x40 ∷ 0x00 ∷ 0x00 ∷ 0x00 ∷ 0x02 ∷ 0x00 ∷ 0x00 ∷ 0x00  -- clause 3: 2 bytes at 64
    ∷ 0x42 ∷ 0x00 ∷ 0x00 ∷ 0x00 ∷ 0x04 ∷ 0x00 ∷ 0x00 ∷ 0x00  -- clause 4: 4 bytes at 66
    ∷ 0x46 ∷ 0x00 ∷ 0x00 ∷ 0x00 ∷ 0x02 ∷ 0x00 ∷ 0x00 ∷ 0x00  -- clause 5: 2 bytes at 70
    ∷ 0x02 ∷ 0x00 ∷ 0x04 ∷ 0x00  -- 1 open, 2 open
    ∷ 0x02 ∷ 0x00 ∷ 0x05 ∷ 0x00  -- 1 open, 2 shut
    ∷ 0x05 ∷ 0x00  -- 2 shut
    ∷ 0x03 ∷ 0x00 ∷ 0x04 ∷ 0x00  -- 1 shut, 2 open
    ∷ 0x04 ∷ 0x00  -- 2 open
    ∷ []

-- ---- the others, by the writer

-- sheet A with a loss, and these clauses behind
longer_a : ℕ → List (List ℕ) → List ℕ
longer_a lost more = sheet_of lost (3 ∷ 5 ∷ []) (clause (positive 1 ∷ positive 2 ∷ []) ∷ clause (positive 1 ∷ negative 2 ∷ []) ∷ more)

-- one that record A satisfies, and one that record A4 does, which makes both true
kept_by_a : List ℕ
kept_by_a = longer_a 0 (clause (negative 2 ∷ []) ∷ [])

kept_by_a4 : List ℕ
kept_by_a4 = longer_a 0 (clause (positive 2 ∷ []) ∷ [])

-- the empty clause and one more
longer_b2 : List ℕ
longer_b2 = sheet_of 0 (7 ∷ []) ([] ∷ clause (positive 1 ∷ []) ∷ [])

-- one step of kind 5, with both clauses of sheet A
record_h : List ℕ
record_h = record_of 3 (0x01 ∷ []) (step_of 5 [] 2 (weighted_tail 2 ((1, 3) ∷ (2, 3) ∷ [])) ∷ [])

-- a copy of the clause that kept_by_a has more, and a step of kind 2 that says nothing
record_c3 : List ℕ
record_c3 = record_of 3 (0x01 ∷ []) (copy_step (negative 2 ∷ []) 3 ∷ cost_step [] 0 ∷ [])

-- one step of kind 2, under a loss of 4
record_l : List ℕ
record_l = record_of 7 (0x01 ∷ []) (cost_step [] 4 ∷ [])

cases : List Case
cases =
    record { sheet = kept_by_a; «record» = record_a; answer = accepted 3 1 5 }
    ∷ record { sheet = sheet_next; «record» = record_a; answer = refused 10 4 }
    -- the first that is broken is told, whatever comes behind it; nothing satisfies the empty clause
    ∷ record {
      sheet = longer_a 0 (clause (negative 1 ∷ []) ∷ clause (positive 2 ∷ []) ∷ []);
      «record» = record_a;
      answer = refused 10 3;
    }
    ∷ record { sheet = longer_a 0 ([] ∷ []); «record» = record_a; answer = refused 10 3 }
    -- by kinds 3 and 5
    ∷ record { sheet = kept_by_a; «record» = record_f; answer = accepted 3 1 3 }
    ∷ record { sheet = sheet_a; «record» = record_h; answer = within 1 3 1 1 }
    ∷ record { sheet = kept_by_a; «record» = record_h; answer = within 1 3 1 1 }
    -- within stays within where both variables are true, and not where the second has to be false
    ∷ record { sheet = kept_by_a4; «record» = record_a4; answer = within 5 8 2 5 }
    ∷ record { sheet = kept_by_a; «record» = record_a4; answer = refused 10 3 }
    -- a loss
    ∷ record { sheet = longer_a 4 []; «record» = record_l; answer = within 3 7 1 1 }
    ∷ record { sheet = longer_a 4 (clause (negative 2 ∷ []) ∷ []); «record» = record_l; answer = within 3 7 1 1 }
    ∷ record { sheet = longer_a 4 (clause (negative 1 ∷ []) ∷ []); «record» = record_l; answer = refused 10 3 }
    -- "none" stays, though its bits, all clear, break what is added
    ∷ record { sheet = longer_b2; «record» = record_b2; answer = accepted none 0 1 }
    -- nothing is said of a record that is refused beside the shorter sheet: it may cite what is added
    ∷ record { sheet = sheet_a; «record» = record_c3; answer = refused 9 1 }
    ∷ record { sheet = kept_by_a; «record» = record_c3; answer = within 3 3 1 2 }
    -- in front of the others a clause moves their numbers, and step 1 copies another one
    ∷ record {
      sheet = sheet_of
          0
          (3 ∷ 5 ∷ [])
          (clause (negative 2 ∷ [])
          ∷ clause (positive 1 ∷ positive 2 ∷ [])
          ∷ clause (positive 1 ∷ negative 2 ∷ [])
          ∷ []);
      «record» = record_a;
      answer = refused 12 1;
    }
    ∷ []

longer : T (all_right cases)
unfolding bytes_of numbers_of pairs_of joined file_of sheet_of step_of record_of none clause copy_step cost_step independent_step resolution_step sheet_a record_a record_b2 record_f record_a4 entries_of weighted_tail sheet_next longer_a kept_by_a kept_by_a4 longer_b2 record_h record_c3 record_l cases all_right
longer = tt

-- ---- that one sheet extends another, by a test that can be computed

extends : List ℕ → List ℕ → Bool
extends s t =
    eqb (variables s) (variables t) && eqb (loss s) (loss t) && leb (clauses s) (clauses t)
    && all_of (λ v. eqb (cost_of s v) (cost_of t v)) (variables s)
    && all_of (λ k. same_literals (sheet.clause s k) (sheet.clause t k)) (clauses s)

extended : (s t : List ℕ) → length t ≤ most_bytes → IsFine (sheet_finding t) → extends s t ≡ true → ExtendedBy s t
unfolding extends
extended s t size fine test =
    let costs = all_each (λ v. eqb (cost_of s v) (cost_of t v)) (variables s) (search (test, and_l, and_r) depth 12) in
    let bodies = all_each (λ k. same_literals (sheet.clause s k) (sheet.clause t k)) (clauses s) (search (test, and_r) depth 12) in
    record {
      valid = sheet_valid t size fine;
      alike = record {
        same_variables = eqb-true (variables s) (variables t) (search (test, and_l));
        same_costs = λ v w. eqb-true (cost_of s v) (cost_of t v) (costs v w);
        same_loss = eqb-true (loss s) (loss t) (search (test, and_l, and_r) depth 12);
      };
      more = leb-true (clauses s) (clauses t) (search (test, and_l, and_r) depth 12);
      same = λ k w. same_members (sheet.clause s k) (sheet.clause t k) (test_same (sheet.clause s k) (sheet.clause t k) (bodies k w));
    }

-- ---- what the promise says of these

-- record A satisfies clause 3, and not clause 4
kept_3 : SatisfiesAt sheet_next record_a 3
unfolding right record_a sheet_next
kept_3 = (negative 2, refl, refl)

broken_4 : SatisfiesAt sheet_next record_a 4 → ⊥
unfolding right record_a sheet_next
broken_4 h = clash (satisfies_satisfied (assigned record_a) (sheet.clause sheet_next 4) h) refl

-- so the first that it breaks is 4: not 3, which is satisfied, and not 5, before which 4 is broken
first_is_4 : (k : ℕ) → FirstBroken sheet_a sheet_next record_a k → k ≡ 4
unfolding right sheet_a sheet_next
first_is_4 k b = go (ℕ_discrete k 3) (dec_lt 4 k)
  where
    go : Dec (k ≡ 3) → Dec (4 < k) → k ≡ 4
    go (yes e) later = absurd (b.broken (rw e kept_3))
    go (no other) (yes later) = absurd (broken_4 (b.before 4 (omega arith) later))
    go (no other) (no later) = omega (arith, other, later, b.added.0)

next_told : judgement sheet_next record_a ≡ refused 10 4
unfolding right extends sheet_a record_a sheet_next
next_told =
    let says = old_reasons sheet_a record_a refl sheet_next (extended sheet_a sheet_next (omega arith) refl refl) in
    let (k, first, told) = says.otherwise (λ e. elim (says.same.0 e) [
      | inl added ↦ broken_4 (added 4 (omega arith, omega arith))
      | inr nothing ↦ omega (arith, nothing)
    ]) in
    let e = first_is_4 k first in
    rw e at told

-- least, within and none stay, all six numbers: by an added clause that is satisfied, and by the claim
least_stays : judgement kept_by_a record_a ≡ judgement sheet_a record_a
unfolding right extends bytes_of numbers_of pairs_of joined file_of sheet_of clause sheet_a record_a longer_a kept_by_a
least_stays =
    (old_reasons sheet_a record_a refl kept_by_a (extended sheet_a kept_by_a (omega arith) refl refl)).same.1
    (inl (λ k w. let e : k ≡ 3 = omega (arith, w.0, w.1) in rw e (negative 2, refl, refl)))

within_stays : judgement kept_by_a4 record_a4 ≡ judgement sheet_a record_a4
unfolding right extends bytes_of numbers_of pairs_of joined file_of sheet_of clause sheet_a record_a record_a4 longer_a kept_by_a4
within_stays =
    (old_reasons sheet_a record_a4 refl kept_by_a4 (extended sheet_a kept_by_a4 (omega arith) refl refl)).same.1
    (inl (λ k w. let e : k ≡ 3 = omega (arith, w.0, w.1) in rw e (positive 2, refl, refl)))

none_stays : judgement longer_b2 record_b2 ≡ judgement sheet_b2 record_b2
unfolding right extends bytes_of numbers_of pairs_of joined file_of sheet_of step_of record_of none clause copy_step sheet_b2 record_b2 longer_b2
none_stays = (old_reasons sheet_b2 record_b2 refl longer_b2 (extended sheet_b2 longer_b2 (omega arith) refl refl)).same.1 (inr refl)
