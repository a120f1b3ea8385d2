-- The standing loss: where it stands, that costs and bounds have it once, what is refused where they do not, and what becomes of
-- a record when its sheet gains or loses a mark.
-- Assumes nothing.
use Prim.Native.Nat.{ℕ}
use mathlib.Core.Path.{◌≡◌, refl}
use mathlib.Core.Bool.{true}
use mathlib.Core.List.{List, [], ◌∷◌, ◌++◌}
use lib.ListN.{set, replicate}
use lib.Dec.{T}
use Rattle.judgement.specs.Meaning.{positive, negative, none}
use Rattle.judgement.specs.Writer.{bytes_of, numbers_of, pairs_of, joined, file_of, sheet_of, step_of, record_of, entries_of, weighted_tail}
use Rattle.judgement.specs.Judgement.{refused, step_part, shown_part}
use Rattle.judgement.specs.Computed.{Case, accepted, within, right, all_right}
use Rattle.judgement.proofs.Cases.Starred.{clause, copy_step, cost_step, independent_step, resolution_step, sheet_a, record_a}

-- ---- sheet A with a loss of 4, byte for byte

sheet_l : List ℕ
sheet_l =
    0x02 ∷ 0x80 ∷ 0x02 ∷ 0x00  -- the mark and n 2, m 2
    ∷ 0x03 ∷ 0x00 ∷ 0x00 ∷ 0x00 ∷ 0x05 ∷ 0x00 ∷ 0x00 ∷ 0x00  -- costs 3 and 5
    ∷ 0x04 ∷ 0x00 ∷ 0x00 ∷ 0x00  -- loss 4
    ∷ 0x20 ∷ 0x00 ∷ 0x00 ∷ 0x00 ∷ 0x04 ∷ 0x00 ∷ 0x00 ∷ 0x00  -- clause 1: 4 bytes at 32
    ∷ 0x24 ∷ 0x00 ∷ 0x00 ∷ 0x00 ∷ 0x04 ∷ 0x00 ∷ 0x00 ∷ 0x00  -- clause 2: 4 bytes at 36
    ∷ 0x02 ∷ 0x00 ∷ 0x04 ∷ 0x00  -- 1 open, 2 open
    ∷ 0x02 ∷ 0x00 ∷ 0x05 ∷ 0x00  -- 1 open, 2 shut
    ∷ []

-- the writer writes these bytes
writes_loss :
    sheet_of 4 (3 ∷ 5 ∷ []) (clause (positive 1 ∷ positive 2 ∷ []) ∷ clause (positive 1 ∷ negative 2 ∷ []) ∷ []) ≡ sheet_l
unfolding bytes_of numbers_of pairs_of joined file_of sheet_of clause sheet_l
writes_loss = refl

-- the same with a loss of 0, whose mark the writer would leave out
sheet_m : List ℕ
sheet_m = set sheet_l 12 0

-- record A with this claim, and this bound of step 4, which is of kind 2 and which step 5 closes with
record_l : ℕ → ℕ → List ℕ
record_l claimed bound =
    record_of
    claimed
    (0x01 ∷ [])
    (copy_step (positive 1 ∷ positive 2 ∷ []) 1
    ∷ copy_step (positive 1 ∷ negative 2 ∷ []) 2
    ∷ resolution_step (positive 1 ∷ []) none 1 2 2
    ∷ cost_step (negative 1 ∷ []) bound
    ∷ resolution_step [] bound 3 4 1
    ∷ [])

kind2 : List Case
kind2 =
    record { sheet = sheet_l; «record» = record_l 7 7; answer = accepted 7 1 5 }
    ∷ record { sheet = sheet_l; «record» = record_l 3 7; answer = refused 11 0 }  -- the claim without the loss
    ∷ record { sheet = sheet_l; «record» = record_l 11 7; answer = refused 11 0 }  -- and with it twice
    ∷ record { sheet = sheet_l; «record» = record_l 7 3; answer = refused 13 4 }  -- the bound without the loss
    ∷ record { sheet = sheet_l; «record» = record_l 7 11; answer = refused 13 4 }  -- and with it twice
    -- the empty list costs the loss, as every assignment does
    ∷ record { sheet = sheet_l; «record» = record_of 7 (0x01 ∷ []) (cost_step [] 4 ∷ []); answer = within 3 7 1 1 }
    ∷ record { sheet = sheet_l; «record» = record_of 7 (0x01 ∷ []) (cost_step [] 0 ∷ []); answer = refused 13 1 }
    -- a clause that is copied still has the bound "none"
    ∷ record { sheet = sheet_l; «record» = record_of 7 (0x01 ∷ []) (step_of 1 (2 ∷ 4 ∷ []) 4 (bytes_of 4 1) ∷ []); answer = refused 12 1 }
    ∷ []

-- ---- kinds 3 and 5

-- one step with the empty list, which cites clause 1 of sheet A
record_i : ℕ → List ℕ
record_i bound = record_of 7 (0x01 ∷ []) (independent_step [] bound (1 ∷ []) ∷ [])

-- the costs 1, 2 and 3 and two clauses of one literal; a step of either kind that cites both, with a literal that costs 3
sheet_p : List ℕ
sheet_p = sheet_of 4 (1 ∷ 2 ∷ 3 ∷ []) (clause (positive 1 ∷ []) ∷ clause (positive 2 ∷ []) ∷ [])

settling : List ℕ → ℕ → Case
settling step number = record { sheet = sheet_p; «record» = record_of 7 (0x03 ∷ []) (step ∷ []); answer = refused number 1 }

independent_p : ℕ → List ℕ
independent_p bound = independent_step (negative 3 ∷ []) bound (1 ∷ 2 ∷ [])

weighted_p : ℕ → List ℕ
weighted_p bound = step_of 5 (negative 3 ∷ []) bound (weighted_tail 1 ((1, 1) ∷ (2, 2) ∷ []))

-- two clauses of one literal each, with the costs for weights and the divisor 2: the total is 3, and 3 / 2 rounded up is 2
sheet_k : List ℕ
sheet_k = sheet_of 4 (1 ∷ 2 ∷ []) (clause (positive 1 ∷ []) ∷ clause (positive 2 ∷ []) ∷ [])

record_k : ℕ → List ℕ
record_k bound = record_of 7 (0x03 ∷ []) (step_of 5 [] bound (weighted_tail 2 ((1, 1) ∷ (2, 2) ∷ [])) ∷ [])

-- a clause of two negative literals: the total is -1, which is no bound at all, but the loss is one
sheet_n : List ℕ
sheet_n = sheet_of 4 (1 ∷ 2 ∷ []) (clause (negative 1 ∷ negative 2 ∷ []) ∷ [])

record_n : ℕ → List ℕ
record_n bound = record_of 4 (0x00 ∷ []) (step_of 5 [] bound (weighted_tail 1 ((1, 1) ∷ [])) ∷ [])

kinds : List Case
kinds =
    record { sheet = sheet_l; «record» = record_i 7; answer = accepted 7 1 1 }
    ∷ record { sheet = sheet_l; «record» = record_i 3; answer = refused 15 1 }
    ∷ record { sheet = sheet_l; «record» = record_i 11; answer = refused 15 1 }
    ∷ record { sheet = sheet_k; «record» = record_k 6; answer = within 1 7 2 1 }  -- 2 and the loss
    ∷ record { sheet = sheet_k; «record» = record_k 2; answer = refused 24 1 }  -- the bound without the loss
    ∷ record { sheet = sheet_k; «record» = record_k 4; answer = refused 24 1 }  -- the loss in the total: 7, which 2 divides to 4
    ∷ record { sheet = sheet_k; «record» = record_k 10; answer = refused 24 1 }  -- the loss twice
    ∷ record { sheet = sheet_n; «record» = record_n 4; answer = accepted 4 0 1 }
    ∷ record { sheet = sheet_n; «record» = record_n 3; answer = refused 24 1 }  -- the loss in the total
    ∷ record { sheet = sheet_n; «record» = record_n 0; answer = refused 24 1 }
    -- where literals are left the loss is in the bound too: the step passes, and does not close
    ∷ settling (independent_p 10) 19
    ∷ settling (independent_p 6) 15
    ∷ settling (weighted_p 10) 19
    ∷ settling (weighted_p 6) 24
    ∷ []

-- ---- the head

-- this first field, no clause, one cost, and so many bytes of loss
headed : ℕ → ℕ → List ℕ
headed field size = bytes_of 2 field ++ bytes_of 2 0 ++ bytes_of 4 7 ++ replicate size 0xFF

record_b : ℕ → List ℕ
record_b claimed = record_of claimed (0x00 ∷ []) (cost_step [] claimed ∷ [])

heads : List Case
heads =
    record { sheet = headed 0x8001 4; «record» = record_b 4294967295; answer = accepted 4294967295 0 1 }
    ∷ record { sheet = headed 0x8001 3; «record» = record_b 4294967295; answer = refused 2 0 }  -- cut inside the loss
    ∷ record { sheet = headed 0x8001 2; «record» = record_b 4294967295; answer = refused 2 0 }
    ∷ record { sheet = headed 0x8001 1; «record» = record_b 4294967295; answer = refused 2 0 }
    ∷ record { sheet = headed 0x8001 0; «record» = record_b 4294967295; answer = refused 2 0 }  -- and before it
    ∷ record { sheet = headed 0x8001 5; «record» = record_b 4294967295; answer = refused 3 0 }  -- a byte too many
    -- the lowest byte first
    ∷ record { sheet = headed 0x8001 0 ++ (1 ∷ 2 ∷ 3 ∷ 4 ∷ []); «record» = record_b 67305985; answer = accepted 67305985 0 1 }
    ∷ record { sheet = headed 0x8000 4; «record» = record_b 4294967295; answer = refused 2 0 }  -- the mark and n 0
    -- the mark and as many variables as there may be, and one more
    ∷ record {
      sheet = bytes_of 2 0x8400 ++ replicate 4102 0;
      «record» = record_of 0 (replicate 128 0) (cost_step [] 0 ∷ []);
      answer = accepted 0 0 1;
    }
    ∷ record { sheet = bytes_of 2 0x8401 ++ replicate 4106 0; «record» = record_b 0; answer = refused 2 0 }
    ∷ record { sheet = bytes_of 2 0xC001 ++ replicate 4106 0; «record» = record_b 0; answer = refused 2 0 }  -- the next bit is n's
    -- the greatest cost and the greatest loss
    ∷ record {
      sheet = sheet_of 4294967295 (4294967295 ∷ []) [];
      «record» = record_of 8589934590 (0x01 ∷ []) (cost_step [] 4294967295 ∷ []);
      answer = within 4294967295 8589934590 1 1;
    }
    ∷ []

-- ---- the mark gained and lost, under the same record

mark_turned : List Case
mark_turned =
    record { sheet = sheet_m; «record» = record_a; answer = accepted 3 1 5 }  -- a loss of 0 is none
    ∷ record { sheet = sheet_a; «record» = record_a; answer = accepted 3 1 5 }
    ∷ record { sheet = sheet_l; «record» = record_a; answer = refused 11 0 }
    ∷ record { sheet = sheet_a; «record» = record_l 7 7; answer = refused 11 0 }
    ∷ record { sheet = set sheet_a 1 0x80; «record» = record_a; answer = refused 3 1 }  -- the bit alone: the pairs are looked for 4 bytes on
    ∷ record { sheet = set sheet_l 1 0; «record» = record_l 7 7; answer = refused 3 1 }
    -- "none" is above every cost, with the loss too
    ∷ record {
      sheet = sheet_of 4294967295 (7 ∷ []) ([] ∷ []);
      «record» = record_of none (0x00 ∷ []) (copy_step [] 1 ∷ []);
      answer = accepted none 0 1;
    }
    ∷ []

losses : T (all_right (kind2 ++ kinds ++ heads ++ mark_turned))
unfolding bytes_of numbers_of pairs_of joined file_of sheet_of step_of record_of entries_of weighted_tail none clause copy_step cost_step independent_step resolution_step sheet_a record_a sheet_l sheet_m record_l kind2 record_i sheet_k record_k sheet_n record_n sheet_p settling independent_p weighted_p kinds headed record_b heads mark_turned all_right
losses = tt

-- of a step of kind 1 the clause's body is shown, which stands four bytes further on than in sheet A
shows_clause : shown_part sheet_l (record_l 7 7) 2 ≡ record { in_sheet = true; start = 36; size = 4 }
unfolding right step_part shown_part bytes_of numbers_of pairs_of joined file_of step_of record_of none copy_step cost_step resolution_step sheet_l record_l
shows_clause = refl
