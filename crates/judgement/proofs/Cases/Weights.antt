-- Kind 5: 001's example 3, what the total is made of, how it is rounded, and refusals 8, 9, 23 and 24 of its steps and their order.
-- Assumes nothing.
use Prim.Native.Nat.{ℕ, ◌+◌}
use mathlib.Core.Path.{◌≡◌, refl}
use mathlib.Core.Bool.{false}
use mathlib.Core.List.{List, [], ◌∷◌, ◌++◌}
use lib.Dec.{T}
use Rattle.judgement.specs.Meaning.{positive, negative, none}
use Rattle.judgement.specs.Writer.{bytes_of, numbers_of, pairs_of, joined, file_of, sheet_of, step_of, record_of, entries_of, weighted_tail}
use Rattle.judgement.specs.Judgement.{refused, step_part, shown_part}
use Rattle.judgement.specs.Computed.{Case, accepted, right, all_right}
use Rattle.judgement.proofs.Cases.Starred.{clause, cost_step, resolution_step, sheet_a, sheet_c}

-- a clause by its number, and its weight
abbrev Entry : Type 0
Entry = ℕ × ℕ

weighted_step : List ℕ → ℕ → ℕ → List Entry → List ℕ
weighted_step codes bound d entries = step_of 5 codes bound (weighted_tail d entries)

-- ---- 001's example 3: claim 1, paddle 1 alone open, and one step of kind 5

record_w : ℕ → List ℕ
record_w bound =
    record_of 1 (0x01 ∷ []) (weighted_step (positive 5 ∷ negative 6 ∷ []) bound 1 ((1, 3) ∷ (2, 4) ∷ (3, 2) ∷ []) ∷ [])

-- the bytes of the step, as docs/FORMATS.md prints them: this fixes the order of the fields, which the reader and the writer could
-- change together
writes_weighted :
    weighted_step (positive 5 ∷ negative 6 ∷ []) 11 1 ((1, 3) ∷ (2, 4) ∷ (3, 2) ∷ [])
    ≡ 0x05 ∷ 0x00 ∷ 0x02 ∷ 0x00 ∷ 0x0B ∷ 0x00 ∷ 0x00 ∷ 0x00 ∷ 0x00 ∷ 0x00 ∷ 0x00 ∷ 0x00
    ∷ 0x0A ∷ 0x00 ∷ 0x0D ∷ 0x00 ∷ 0x01 ∷ 0x00
    ∷ 0x01 ∷ 0x00 ∷ 0x00 ∷ 0x00 ∷ 0x03 ∷ 0x00
    ∷ 0x02 ∷ 0x00 ∷ 0x00 ∷ 0x00 ∷ 0x04 ∷ 0x00
    ∷ 0x03 ∷ 0x00 ∷ 0x00 ∷ 0x00 ∷ 0x02 ∷ 0x00
    ∷ []
unfolding bytes_of numbers_of entries_of weighted_tail step_of weighted_step
writes_weighted = refl

example3 : List Case
example3 =
    record { sheet = sheet_c; «record» = record_w 11; answer = refused 19 1 }  -- the step passes, and has literals
    ∷ record { sheet = sheet_c; «record» = record_w 10; answer = refused 24 1 }
    ∷ record { sheet = sheet_c; «record» = record_w 12; answer = refused 24 1 }
    ∷ []

-- ---- one step of kind 5 as the second of three; the third is no step at all, so that 8 at 3 tells that the second passes

second : List ℕ → List ℕ → ℕ → ℕ → Case
second s b number place =
    record {
      sheet = s;
      «record» = record_of none (0x00 ∷ []) (cost_step [] 0 ∷ b ∷ step_of 0 [] 0 [] ∷ []);
      answer = refused number place;
    }

-- with this bound, and not with the next
bounded : List ℕ → List ℕ → ℕ → ℕ → List Entry → List Case
bounded s codes d bound entries =
    second s (weighted_step codes bound d entries) 8 3
    ∷ second s (weighted_step codes (bound + 1) d entries) 24 2
    ∷ []

-- sheet C has the costs 1 to 6 and the clauses {1, 3, 5}, {2, 4, 5, -6} and {-1, -2}; sheet H has the greatest cost, a clause without
-- literals and the clause {1}
sheet_h : List ℕ
sheet_h = sheet_of 0 (4294967295 ∷ []) ([] ∷ clause (positive 1 ∷ []) ∷ [])

totals : List Case
totals =
    -- total 21, of which the remainders of 1 and 2 take 1 each: 10.5 is rounded up
    bounded sheet_c (positive 5 ∷ negative 6 ∷ []) 2 11 ((1, 6) ∷ (2, 8) ∷ (3, 3) ∷ [])
    ++ (second sheet_c (weighted_step (positive 5 ∷ negative 6 ∷ []) 10 2 ((1, 6) ∷ (2, 8) ∷ (3, 3) ∷ [])) 24 2 ∷ [])
    -- total 20: 10 is not rounded
    ++ bounded sheet_c (positive 5 ∷ negative 6 ∷ []) 2 10 ((1, 5) ∷ (2, 8) ∷ (3, 2) ∷ [])
    -- total 0: clause 2 has one negative literal, so that its weight counts 0 times
    ++ bounded sheet_c [] 1 0 ((2, 2) ∷ [])
    -- total -1: clause 3 has two
    ++ bounded sheet_c [] 1 0 ((3, 1) ∷ [])
    -- total 9: remainders below 0 of variables that are settled false, which add nothing
    ++ bounded sheet_c (positive 1 ∷ positive 3 ∷ positive 5 ∷ []) 1 9 ((1, 9) ∷ [])
    -- total 1: of one that is settled true, 1, which adds its remainder of -2
    ++ bounded sheet_c (negative 1 ∷ []) 1 1 ((1, 3) ∷ [])
    -- total 10: negative literals of variables that are settled true, which add 8 and 9
    ++ bounded sheet_c (negative 1 ∷ negative 2 ∷ []) 1 10 ((3, 7) ∷ [])
    -- total 7: the weight 1, and the cost of 6, which is settled true and stands in no cited clause
    ++ bounded sheet_c (negative 6 ∷ []) 1 7 ((1, 1) ∷ [])
    -- the greatest weight of a clause without literals, with the divisor 1 and with one of two bytes
    ++ bounded sheet_h [] 1 65535 ((1, 65535) ∷ [])
    ++ bounded sheet_h [] 300 219 ((1, 65535) ∷ [])
    -- the greatest divisor, weight and cost
    ++ bounded sheet_h (negative 1 ∷ []) 65535 4294967295 ((2, 65535) ∷ [])

-- ---- refusals

told : ℕ → ℕ → List Entry → Case
told number d entries = second sheet_c (weighted_step [] 9 d entries) number 2

tailed : List ℕ → Case
tailed tail = second sheet_c (step_of 5 [] 0 tail) 8 2

refusals : List Case
refusals =
    -- 23 for the divisor, and for the only weight, a middle and the last one; the bound, 9, is always wrong as well
    told 23 0 ((1, 1) ∷ [])
    ∷ told 23 1 ((1, 0) ∷ [])
    ∷ told 23 1 ((1, 1) ∷ (2, 0) ∷ (3, 1) ∷ [])
    ∷ told 23 1 ((1, 1) ∷ (2, 1) ∷ (3, 0) ∷ [])
    ∷ told 24 65535 ((3, 65535) ∷ [])
    -- 9 for each byte of a clause's number, and for the fourth clause of 3, with one behind it too
    ∷ told 9 1 ((257, 1) ∷ [])
    ∷ told 9 1 ((65537, 1) ∷ [])
    ∷ told 9 1 ((16777217, 1) ∷ [])
    ∷ told 9 1 ((1, 1) ∷ (2, 1) ∷ (3, 1) ∷ (4, 1) ∷ [])
    ∷ told 9 1 ((1, 1) ∷ (2, 1) ∷ (3, 1) ∷ (4, 1) ∷ (5, 1) ∷ [])
    -- 9 before 23: clause 0, clause 4 of 3, one clause twice, and falling ones
    ∷ told 9 0 ((0, 1) ∷ [])
    ∷ told 9 1 ((1, 0) ∷ (4, 1) ∷ [])
    ∷ told 9 1 ((2, 0) ∷ (2, 1) ∷ [])
    ∷ told 9 0 ((2, 1) ∷ (1, 1) ∷ [])
    -- 8 before 9: tails that are not a divisor and one or more entries, and kind 6
    ∷ tailed []
    ∷ tailed (bytes_of 2 1)
    ∷ tailed (bytes_of 6 1)
    ∷ tailed (bytes_of 2 1 ++ bytes_of 5 0)
    ∷ tailed (bytes_of 2 1 ++ bytes_of 7 0)
    ∷ tailed (bytes_of 2 1 ++ bytes_of 12 0 ++ bytes_of 4 0)
    ∷ second sheet_c (step_of 6 [] 0 (weighted_tail 1 ((1, 1) ∷ []))) 8 2
    ∷ []

-- ---- accepted: every two of three variables in a clause, of which half the weights prove 1.5

sheet_v : List ℕ
sheet_v =
    sheet_of
    0
    (1 ∷ 1 ∷ 1 ∷ [])
    (clause (positive 1 ∷ positive 2 ∷ []) ∷ clause (positive 1 ∷ positive 3 ∷ []) ∷ clause (positive 2 ∷ positive 3 ∷ []) ∷ [])

-- claim 3 on sheet A by two steps of kind 5, which settle variable 2 either way, behind one that settles both variables
record_g : List ℕ
record_g =
    record_of
    3
    (0x01 ∷ [])
    (weighted_step (positive 1 ∷ positive 2 ∷ []) 3 1 ((1, 3) ∷ [])
    ∷ weighted_step (positive 2 ∷ []) 3 1 ((1, 3) ∷ [])
    ∷ weighted_step (negative 2 ∷ []) 8 1 ((2, 3) ∷ [])
    ∷ resolution_step [] 3 2 3 2
    ∷ [])

passing : List Case
passing =
    record {
      sheet = sheet_v;
      «record» = record_of 2 (0x03 ∷ []) (weighted_step [] 2 2 ((1, 1) ∷ (2, 1) ∷ (3, 1) ∷ []) ∷ []);
      answer = accepted 2 2 1;
    }
    ∷ record { sheet = sheet_a; «record» = record_g; answer = accepted 3 1 4 }
    ∷ []

weights : T (all_right (example3 ++ totals ++ refusals ++ passing))
unfolding bytes_of numbers_of pairs_of joined file_of sheet_of step_of record_of none clause cost_step resolution_step sheet_a sheet_c entries_of weighted_tail weighted_step record_w example3 second bounded sheet_h totals told tailed refusals sheet_v record_g passing all_right
weights = tt

-- of a step of kind 5 its literals are shown
shows_weighted : shown_part sheet_a record_g 1 ≡ record { in_sheet = false; start = 57; size = 4 }
unfolding right step_part shown_part bytes_of numbers_of pairs_of joined file_of step_of record_of entries_of weighted_tail weighted_step resolution_step sheet_a record_g
shows_weighted = refl
