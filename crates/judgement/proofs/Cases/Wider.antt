-- Kind 4 since change 5: further literals, the pivot's own, bounds below the lesser; a literal or a pivot that is missing, a bound above; the order
-- of 16, 17 and 18; and whole records with such steps.
-- Assumes nothing.
use Prim.Native.Nat.{ℕ}
use mathlib.Core.List.{List, [], ◌∷◌, ◌++◌}
use lib.ListN.{set}
use lib.Dec.{T}
use Rattle.judgement.specs.Meaning.{positive, negative, none}
use Rattle.judgement.specs.Writer.{bytes_of, numbers_of, pairs_of, joined, file_of, sheet_of, step_of, record_of}
use Rattle.judgement.specs.Judgement.{refused}
use Rattle.judgement.specs.Computed.{Case, accepted, within, all_right}
use Rattle.judgement.proofs.Cases.Starred.{copy_step, cost_step, resolution_step, sheet_a, record_a}

-- ---- one resolution of two premises; a step of no kind follows, so that 8 at 4 tells that the resolution passes

resolved : List ℕ → List ℕ → List ℕ → List ℕ → ℕ → ℕ → Case
resolved s x y b number place =
    record {
      sheet = s;
      «record» = record_of none (0x00 ∷ []) (x ∷ y ∷ b ∷ step_of 0 [] 0 [] ∷ []);
      answer = refused number place;
    }

-- four variables of costs 3, 5, 7 and 2, and no clause
sheet_g : List ℕ
sheet_g = sheet_of 0 (3 ∷ 5 ∷ 7 ∷ 2 ∷ []) []

-- {1, -2} of bound 5 and {-1, -3} of bound 10 on variable p; on 1 the resolvent is {-2, -3} of bound 5
stating : List ℕ → ℕ → ℕ → ℕ → ℕ → Case
stating codes bound p =
    resolved sheet_g (cost_step (positive 1 ∷ negative 2 ∷ []) 5) (cost_step (negative 1 ∷ negative 3 ∷ []) 10) (resolution_step codes bound 1 2 p)

wider : List Case
wider =
    stating (negative 2 ∷ negative 3 ∷ []) 5 1 8 4  -- the resolvent itself
    ∷ stating (negative 2 ∷ negative 3 ∷ positive 4 ∷ []) 5 1 8 4  -- a further literal
    ∷ stating (negative 2 ∷ negative 3 ∷ negative 4 ∷ []) 5 1 8 4
    ∷ stating (positive 1 ∷ negative 2 ∷ negative 3 ∷ []) 5 1 8 4  -- the pivot's own, as a has it
    ∷ stating (negative 1 ∷ negative 2 ∷ negative 3 ∷ []) 5 1 8 4  -- and as b has it
    ∷ stating (negative 2 ∷ negative 3 ∷ []) 4 1 8 4  -- one below the lesser bound
    ∷ stating (negative 2 ∷ negative 3 ∷ []) 0 1 8 4
    ∷ stating (negative 1 ∷ negative 2 ∷ negative 3 ∷ positive 4 ∷ []) 4 1 8 4  -- all of it
    ∷ stating (positive 4 ∷ negative 2 ∷ negative 3 ∷ []) 5 1 8 3  -- the list has to rise still
    ∷ []

missing : List Case
missing =
    stating (negative 2 ∷ []) 5 1 17 3  -- a literal of b
    ∷ stating (negative 3 ∷ []) 5 1 17 3  -- and one of a
    ∷ stating [] 5 1 17 3
    ∷ stating (negative 2 ∷ positive 4 ∷ []) 5 1 17 3  -- another in its place
    ∷ stating (positive 1 ∷ negative 2 ∷ []) 5 1 17 3
    ∷ stating (negative 2 ∷ positive 3 ∷ []) 5 1 17 3  -- the other way
    ∷ stating (positive 2 ∷ negative 3 ∷ []) 5 1 17 3
    ∷ []

above : List Case
above =
    stating (negative 2 ∷ negative 3 ∷ []) 6 1 18 3  -- one above the lesser bound
    ∷ stating (negative 2 ∷ negative 3 ∷ []) 10 1 18 3  -- the greater
    ∷ stating (negative 2 ∷ negative 3 ∷ []) 15 1 18 3  -- the sum
    ∷ stating (negative 2 ∷ negative 3 ∷ []) none 1 18 3
    ∷ stating (negative 2 ∷ negative 3 ∷ positive 4 ∷ []) 6 1 18 3  -- further literals make no room for it
    ∷ stating (negative 2 ∷ []) 6 1 17 3  -- 17 comes before 18
    ∷ stating (negative 2 ∷ []) 6 3 16 3  -- and 16 before both
    ∷ []

-- ---- a pivot that a premise has not

pivotless : List Case
pivotless =
    stating (negative 2 ∷ negative 3 ∷ []) 5 0 16 3
    ∷ stating (negative 2 ∷ negative 3 ∷ []) 5 5 16 3  -- above n
    ∷ stating (negative 2 ∷ negative 3 ∷ []) 5 32769 16 3  -- its codes, cut to 16 bits, would be those of 1
    ∷ stating (negative 2 ∷ negative 3 ∷ positive 4 ∷ []) 5 4 16 3  -- the step has it, and no premise
    ∷ resolved sheet_g (cost_step (positive 1 ∷ negative 2 ∷ []) 5) (cost_step (negative 3 ∷ []) 7) (resolution_step (negative 2 ∷ negative 3 ∷ []) 5 1 2 1) 16 3
    ∷ resolved sheet_g (cost_step (negative 2 ∷ []) 5) (cost_step (negative 1 ∷ negative 3 ∷ []) 10) (resolution_step (negative 2 ∷ negative 3 ∷ []) 5 1 2 1) 16 3
    ∷ []

-- ---- "none" of one premise and of both, on sheet A

copied : List ℕ → List ℕ → ℕ → ℕ → ℕ → Case
copied codes b bound = resolved sheet_a (copy_step (positive 1 ∷ positive 2 ∷ []) 1) b (resolution_step codes bound 1 2 2)

unbounded : List Case
unbounded =
    copied (positive 1 ∷ []) (copy_step (positive 1 ∷ negative 2 ∷ []) 2) none 8 4
    ∷ copied (positive 1 ∷ []) (copy_step (positive 1 ∷ negative 2 ∷ []) 2) 0 8 4
    ∷ copied (positive 1 ∷ []) (cost_step (negative 2 ∷ []) 5) 5 8 4
    ∷ copied (positive 1 ∷ []) (cost_step (negative 2 ∷ []) 5) none 18 3
    ∷ []

-- ---- a variable that the premises hold both ways: whichever is stated, the other is missing

both_ways : List ℕ → Case
both_ways codes =
    resolved sheet_g (cost_step (positive 1 ∷ positive 2 ∷ []) 0) (cost_step (negative 1 ∷ negative 2 ∷ []) 8) (resolution_step codes 0 1 2 1) 17 3

clashing : List Case
clashing =
    both_ways []
    ∷ both_ways (positive 2 ∷ [])
    ∷ both_ways (negative 2 ∷ [])
    ∷ both_ways (positive 1 ∷ positive 2 ∷ negative 3 ∷ [])
    ∷ []

-- ---- whole records on sheet A

-- step 3 keeps -2, the pivot's own, which step 5 takes over and step 7 resolves away
record_g : List ℕ → List ℕ
record_g codes =
    record_of
    3
    (0x01 ∷ [])
    (copy_step (positive 1 ∷ positive 2 ∷ []) 1
    ∷ copy_step (positive 1 ∷ negative 2 ∷ []) 2
    ∷ resolution_step (positive 1 ∷ negative 2 ∷ []) none 1 2 2
    ∷ cost_step (negative 1 ∷ []) 3
    ∷ resolution_step codes 3 3 4 1
    ∷ resolution_step (positive 2 ∷ []) 3 1 4 1
    ∷ resolution_step [] 3 6 5 2
    ∷ [])

records : List Case
records =
    record { sheet = sheet_a; «record» = record_g (negative 2 ∷ []); answer = accepted 3 1 7 }
    ∷ record { sheet = sheet_a; «record» = record_g []; answer = refused 17 5 }  -- what a premise states further is its own
    ∷ record { sheet = sheet_a; «record» = set record_a 135 2; answer = within 1 3 1 5 }  -- the last bound one below the lesser
    ∷ record { sheet = sheet_a; «record» = set record_a 135 3; answer = accepted 3 1 5 }
    ∷ []

resolutions : T (all_right (wider ++ missing ++ above ++ pivotless ++ unbounded ++ clashing ++ records))
unfolding bytes_of numbers_of pairs_of joined file_of sheet_of step_of record_of none copy_step cost_step resolution_step sheet_a record_a resolved sheet_g stating wider missing above pivotless copied unbounded both_ways clashing record_g records all_right
resolutions = tt
