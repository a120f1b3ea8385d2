-- Refusals 14, 20, 21 and 22: each by itself, two of them in one clause, and clause by clause as cited. The bound of the faulty step
-- is always wrong, so that they are seen to come before 15. That step is the second of three, which is the place, and the third is
-- no step at all, so that it is seen not to be looked at before.
-- Assumes nothing.
use Prim.Native.Nat.{ℕ}
use mathlib.Core.List.{List, [], ◌∷◌}
use lib.Dec.{T}
use Rattle.judgement.specs.Meaning.{positive, negative, none}
use Rattle.judgement.specs.Writer.{bytes_of, numbers_of, pairs_of, joined, file_of, sheet_of, step_of, record_of}
use Rattle.judgement.specs.Judgement.{refused}
use Rattle.judgement.specs.Computed.{Case, all_right}
use Rattle.judgement.proofs.Cases.Starred.{clause, cost_step, independent_step, sheet_c}

-- of the sheet s, under "none", a step with these literals and the bound 0 that cites these clauses
told : List ℕ → List ℕ → List ℕ → ℕ → Case
told s codes cited number =
    record {
      sheet = s;
      «record» = record_of none (0x00 ∷ []) (cost_step [] 0 ∷ independent_step codes 0 cited ∷ step_of 0 [] 0 [] ∷ []);
      answer = refused number 2;
    }

-- sheet C has the clauses {1, 3, 5}, {2, 4, 5, -6} and {-1, -2}
told_c : List ℕ → List ℕ → ℕ → Case
told_c codes cited number = told sheet_c codes cited number

sheet_g : List ℕ
sheet_g =
    sheet_of
    0
    (1 ∷ 1 ∷ 1 ∷ 1 ∷ 1 ∷ 1 ∷ [])
    (clause (positive 4 ∷ [])
    ∷ clause (positive 1 ∷ positive 2 ∷ [])
    ∷ clause (positive 1 ∷ positive 3 ∷ [])
    ∷ clause (negative 5 ∷ [])
    ∷ clause (positive 6 ∷ [])
    ∷ clause []
    ∷ [])

-- sheet G has the clauses {4}, {1, 2}, {1, 3}, {-5}, {6} and the empty one; 4 and 6 are settled false
told_g : List ℕ → ℕ → Case
told_g cited number = told sheet_g (positive 4 ∷ positive 6 ∷ []) cited number

cases : List Case
cases =
    -- one condition fails
    told_c (negative 5 ∷ []) (1 ∷ []) 14  -- 5 is true
    ∷ told_c [] (2 ∷ []) 20  -- -6 is unsettled
    ∷ told_c (positive 1 ∷ positive 3 ∷ positive 5 ∷ []) (1 ∷ []) 21  -- 1, 3 and 5 are settled
    ∷ told_g (6 ∷ []) 21  -- a clause without literals
    ∷ told_c (negative 6 ∷ []) (1 ∷ 2 ∷ []) 22  -- 5 is shared
    ∷ told_c (positive 2 ∷ positive 4 ∷ negative 6 ∷ []) (1 ∷ 2 ∷ []) 22  -- 5 is shared, and all that is unsettled
    -- two fail of one clause; where nothing is unsettled, nothing unsettled is negative or shared
    ∷ told_c (negative 5 ∷ []) (2 ∷ []) 14  -- 14 and 20: 5 is true, and then -6 unsettled
    ∷ told_c (positive 2 ∷ []) (3 ∷ []) 14  -- 20 and 14: -1 is unsettled, and then -2 true
    ∷ told_c (positive 1 ∷ positive 3 ∷ negative 5 ∷ []) (1 ∷ []) 14  -- 14 and 21: 5 is true, all are settled
    ∷ told_c (positive 6 ∷ []) (1 ∷ 2 ∷ []) 14  -- 22 and 14: 5 is shared, and then -6 true
    ∷ told_c [] (1 ∷ 2 ∷ []) 20  -- 22 and 20: 5 is shared, and then -6 unsettled
    -- the first clause with a fault decides
    ∷ told_c (positive 1 ∷ []) (2 ∷ 3 ∷ []) 20  -- of clause 3 it would be 14
    ∷ told_c (positive 1 ∷ positive 3 ∷ positive 5 ∷ positive 6 ∷ []) (1 ∷ 2 ∷ []) 21  -- of clause 2 it would be 14
    ∷ told_c (positive 1 ∷ positive 3 ∷ positive 5 ∷ []) (1 ∷ 2 ∷ []) 21  -- of clause 2 it would be 20
    ∷ told_c (positive 1 ∷ negative 6 ∷ []) (1 ∷ 2 ∷ 3 ∷ []) 22  -- of clause 3 it would be 14
    ∷ told_c (negative 6 ∷ []) (1 ∷ 2 ∷ 3 ∷ []) 22  -- of clause 3 it would be 20
    ∷ told_g (4 ∷ 5 ∷ []) 20  -- of clause 5 it would be 21
    ∷ told_g (1 ∷ 2 ∷ 3 ∷ []) 21  -- of clause 3 it would be 22
    ∷ told_g (2 ∷ 3 ∷ 5 ∷ []) 22  -- of clause 5 it would be 21
    -- 8 and 9 come before them, and 15 after them
    ∷ record {
      sheet = sheet_c;
      «record» = record_of none (0x00 ∷ []) (cost_step [] 0 ∷ step_of 3 (negative 5 ∷ []) 0 (bytes_of 5 1) ∷ []);
      answer = refused 8 2;
    }  -- a tail of 5 bytes, the first of which cite clause 1, of which 5 is true
    ∷ told_c (negative 5 ∷ []) (1 ∷ 1 ∷ []) 9  -- clause 1 twice, of which 5 is true
    ∷ told_c (negative 5 ∷ []) (1 ∷ 4 ∷ []) 9  -- clause 4 of 3
    ∷ told_c (positive 5 ∷ negative 6 ∷ []) (1 ∷ 2 ∷ []) 15
    ∷ []

dependent : T (all_right cases)
unfolding bytes_of numbers_of pairs_of joined file_of sheet_of step_of record_of none clause cost_step independent_step sheet_c sheet_g told told_c told_g cases all_right
dependent = tt
