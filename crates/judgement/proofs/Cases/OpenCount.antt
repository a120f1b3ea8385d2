-- The open count of assignments that end within a byte and with one, in one byte and in more. No other record here that passes
-- has more than three variables.
-- Assumes nothing.
use Prim.Native.Nat.{ℕ}
use mathlib.Core.List.{List, [], ◌∷◌}
use lib.ListN.{replicate}
use lib.Dec.{T}
use Rattle.judgement.specs.Writer.{bytes_of, numbers_of, pairs_of, joined, file_of, sheet_of, step_of, record_of}
use Rattle.judgement.specs.Computed.{Case, accepted, all_right}
use Rattle.judgement.proofs.Cases.Starred.{cost_step}

-- n variables that cost nothing and no clause, so that every assignment is a least one
counted : ℕ → List ℕ → ℕ → Case
counted n bits opens = record {
  sheet = sheet_of 0 (replicate n 0) [];
  «record» = record_of 0 bits (cost_step [] 0 ∷ []);
  answer = accepted 0 opens 1;
}

counts : List Case
counts =
    counted 7 (0x5B ∷ []) 5  -- less than a byte
    ∷ counted 8 (0xB6 ∷ []) 5  -- a whole one, and what stands behind it is not counted
    ∷ counted 9 (0xFE ∷ 0x01 ∷ []) 8  -- all but variable 1, in two bytes
    ∷ counted 16 (0x01 ∷ 0x80 ∷ []) 2  -- the first and the last
    ∷ counted 17 (0x00 ∷ 0xFF ∷ 0x01 ∷ []) 9
    ∷ []

open_counts : T (all_right counts)
unfolding bytes_of numbers_of pairs_of joined file_of sheet_of step_of record_of cost_step counted counts all_right
open_counts = tt
