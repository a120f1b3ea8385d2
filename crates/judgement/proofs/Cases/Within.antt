-- "Within": how the gap is counted, what is left to refusal 19, what the answers are called, and that such a record is shown.
-- Assumes nothing.
use Prim.Native.Nat.{ℕ}
use mathlib.Core.Path.{◌≡◌, refl}
use mathlib.Core.Bool.{true, false}
use mathlib.Core.List.{List, [], ◌∷◌}
use lib.ListN.{set}
use lib.Dec.{T}
use Rattle.judgement.specs.Meaning.{positive, negative, none}
use Rattle.judgement.specs.Writer.{bytes_of, numbers_of, pairs_of, joined, file_of, sheet_of, step_of, record_of}
use Rattle.judgement.specs.Judgement.{refused, judgement, passes, says_least, says_none, says_within, accepts, step_part, shown_part}
use Rattle.judgement.specs.Computed.{Case, accepted, within, right, all_right}
use Rattle.judgement.proofs.Cases.Starred.{clause, copy_step, cost_step, independent_step, resolution_step, sheet_a, record_a, sheet_b1, sheet_b2, record_b2}

-- ---- the gap

-- costs 4 and 3, and the clause that one of the two is true
sheet_t : List ℕ
sheet_t = sheet_of 0 (4 ∷ 3 ∷ []) (clause (positive 1 ∷ positive 2 ∷ []) ∷ [])

-- one step of kind 3, without literals, that cites this clause; the least cost there is 3
record_t : ℕ → ℕ → ℕ → List ℕ
record_t claimed byte bound = record_of claimed (byte ∷ []) (independent_step [] bound (1 ∷ []) ∷ [])

-- two variables of the greatest cost, and no clause
sheet_u : List ℕ
sheet_u = sheet_of 0 (4294967295 ∷ 4294967295 ∷ []) []

-- a step without literals and a weak bound before that one
later : ℕ → ℕ → List ℕ
later claimed byte = record_of claimed (byte ∷ []) (cost_step [] 0 ∷ independent_step [] 3 (1 ∷ []) ∷ [])

gaps : List Case
gaps =
    record { sheet = sheet_t; «record» = record_t 3 0x02 3; answer = accepted 3 1 1 }  -- the bound is the claim
    ∷ record { sheet = sheet_t; «record» = record_t 4 0x01 3; answer = within 1 4 1 1 }  -- one below it
    ∷ record { sheet = sheet_t; «record» = record_t 7 0x03 3; answer = within 4 7 2 1 }
    ∷ record { sheet = sheet_t; «record» = record_t 3 0x02 4; answer = refused 15 1 }  -- one above it: no step states that
    ∷ record { sheet = sheet_b1; «record» = record_of 7 (0x01 ∷ []) (cost_step [] 0 ∷ []); answer = within 7 7 1 1 }  -- nothing is known
    -- a gap of more than 32 bits
    ∷ record { sheet = sheet_u; «record» = record_of 8589934590 (0x03 ∷ []) (cost_step [] 0 ∷ []); answer = within 8589934590 8589934590 2 1 }
    -- the last step counts, and not the one with the least bound
    ∷ record { sheet = sheet_t; «record» = later 3 0x02; answer = accepted 3 1 2 }
    ∷ record { sheet = sheet_t; «record» = later 4 0x01; answer = within 1 4 1 2 }
    -- nor the one with the greatest: step 5 closes here
    ∷ record {
      sheet = sheet_a;
      «record» =
          record_of
          3
          (0x01 ∷ [])
          (copy_step (positive 1 ∷ positive 2 ∷ []) 1
          ∷ copy_step (positive 1 ∷ negative 2 ∷ []) 2
          ∷ resolution_step (positive 1 ∷ []) none 1 2 2
          ∷ cost_step (negative 1 ∷ []) 3
          ∷ resolution_step [] 3 3 4 1
          ∷ cost_step [] 0
          ∷ []);
      answer = within 3 3 1 6;
    }
    ∷ []

-- ---- what stays a refusal

-- record A with both paddles open, at cost 8
unfoldable pub record_a4 : List ℕ
record_a4 = set (set record_a 12 0x03) 0 8

-- sheet A with one step
alone : ℕ → ℕ → List ℕ → Case
alone claimed byte b = record { sheet = sheet_a; «record» = record_of claimed (byte ∷ []) (b ∷ []); answer = refused 19 1 }

refusals : List Case
refusals =
    -- literals left: the bound below the claim, equal to it, and above
    alone 8 0x03 (cost_step (negative 1 ∷ []) 3)
    ∷ alone 3 0x01 (cost_step (negative 1 ∷ []) 3)
    ∷ alone 3 0x01 (copy_step (positive 1 ∷ positive 2 ∷ []) 1)
    -- the claim "none": literals left, and a bound that is a cost
    ∷ alone none 0x00 (copy_step (positive 1 ∷ positive 2 ∷ []) 1)
    ∷ alone none 0x00 (independent_step [] 3 (1 ∷ []))
    -- record A without its last step
    ∷ record {
      sheet = sheet_a;
      «record» =
          record_of
          3
          (0x01 ∷ [])
          (copy_step (positive 1 ∷ positive 2 ∷ []) 1
          ∷ copy_step (positive 1 ∷ negative 2 ∷ []) 2
          ∷ resolution_step (positive 1 ∷ []) none 1 2 2
          ∷ cost_step (negative 1 ∷ []) 3
          ∷ []);
      answer = refused 19 4;
    }
    -- step 5 closes, and the last one has a literal
    ∷ record {
      sheet = sheet_a;
      «record» =
          record_of
          3
          (0x01 ∷ [])
          (copy_step (positive 1 ∷ positive 2 ∷ []) 1
          ∷ copy_step (positive 1 ∷ negative 2 ∷ []) 2
          ∷ resolution_step (positive 1 ∷ []) none 1 2 2
          ∷ cost_step (negative 1 ∷ []) 3
          ∷ resolution_step [] 3 3 4 1
          ∷ cost_step (negative 1 ∷ []) 3
          ∷ []);
      answer = refused 19 6;
    }
    -- a fault before the close comes first: the last bound one high, and a claim one low
    ∷ record { sheet = sheet_a; «record» = set record_a4 135 4; answer = refused 18 5 }
    ∷ record { sheet = sheet_a; «record» = set record_a4 0 7; answer = refused 11 0 }
    ∷ []

gaps_right : T (all_right gaps)
unfolding bytes_of numbers_of pairs_of joined file_of sheet_of step_of record_of none clause copy_step cost_step independent_step resolution_step sheet_a record_a sheet_b1 sheet_t record_t sheet_u later gaps all_right
gaps_right = tt

refusals_right : T (all_right refusals)
unfolding bytes_of numbers_of pairs_of joined file_of sheet_of step_of record_of none clause copy_step cost_step independent_step resolution_step sheet_a record_a record_a4 alone refusals all_right
refusals_right = tt

-- ---- by name

named_a : (says_least (judgement sheet_a record_a) ≡ true) × (says_none (judgement sheet_a record_a) ≡ false)
unfolding right sheet_a record_a
named_a = (refl, refl)

named_b2 : (says_none (judgement sheet_b2 record_b2) ≡ true) × (says_least (judgement sheet_b2 record_b2) ≡ false)
unfolding right bytes_of numbers_of pairs_of joined file_of sheet_of step_of record_of none copy_step sheet_b2 record_b2
named_b2 = (refl, refl)

-- the answer itself, and not by a comparison
answers_a4 : judgement sheet_a record_a4 ≡ within 5 8 2 5
unfolding right sheet_a record_a record_a4
answers_a4 = refl

-- neither accepted nor refused
named_a4 :
    (says_within (judgement sheet_a record_a4) ≡ true) × (accepts (judgement sheet_a record_a4) ≡ false) × (passes (judgement sheet_a record_a4) ≡ true)
unfolding right sheet_a record_a record_a4
named_a4 = (refl, refl, refl)

-- ---- showing

shows_within : shown_part sheet_a record_a4 2 ≡ record { in_sheet = true; start = 32; size = 4 }
unfolding right step_part shown_part sheet_a record_a record_a4
shows_within = refl
