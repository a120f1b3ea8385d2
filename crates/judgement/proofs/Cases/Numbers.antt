-- Which number each refusal has, where no starred case says it: 2, 3, 4, 5, 7, 8, 12 and 13 by a case each, 1 by a theorem, as
-- a file that is too long cannot be written out; 14 and 21 are in Dependence.antt, 23 and 24 in Weights.antt. The changed
-- bytes are counted from 0.
-- Assumes nothing.
use Prim.Native.Nat.{ℕ, ◌<◌}
use mathlib.Core.Path.{◌≡◌}
use mathlib.Core.Bool.{and-false}
use mathlib.Core.List.{List, [], ◌∷◌, ◌++◌}
use lib.ListN.{length, set}
use lib.Dec.{T}
use borrow.Author.Tests.{lt-leb}
use Rattle.judgement.specs.Writer.{bytes_of, numbers_of, pairs_of, joined, file_of, sheet_of}
use Rattle.judgement.specs.Sheet.{most_bytes}
use Rattle.judgement.specs.Judgement.{refused, oversize, finding, judgement}
use Rattle.judgement.specs.Computed.{Case, all_right}
use Rattle.judgement.proofs.Cases.Starred.{sheet_a, record_a, clause, sheet_b1, sheet_c}

-- ---- 1, oversize

pub long_sheet : (s r : List ℕ) → most_bytes < length s → judgement s r ≡ refused 1 0
unfolding judgement finding oversize
long_sheet s r h = rw (lt-leb (length s) most_bytes h)

pub long_record : (s r : List ℕ) → most_bytes < length r → judgement s r ≡ refused 1 0
unfolding judgement finding oversize
long_record s r h = rw (lt-leb (length r) most_bytes h, and-false)

-- ---- the others

cases : List Case
cases =
    record { sheet = set sheet_a 0 0; «record» = record_a; answer = refused 2 0 }  -- n is 0
    ∷ record { sheet = set sheet_c 36 59; «record» = record_a; answer = refused 3 2 }  -- clause 2 a byte late
    ∷ record { sheet = sheet_b1 ++ (0x00 ∷ []); «record» = record_a; answer = refused 3 0 }  -- no clause, and a byte too many
    ∷ record { sheet = set sheet_c 58 1; «record» = record_a; answer = refused 4 2 }  -- a literal of variable 0 in clause 2
    ∷ record { sheet = sheet_a; «record» = set record_a 8 0; answer = refused 5 0 }  -- t is 0
    ∷ record { sheet = sheet_a; «record» = set record_a 29 0x5E; answer = refused 7 3 }  -- step 3 a byte late
    ∷ record { sheet = sheet_a; «record» = set record_a 94 1; answer = refused 8 3 }  -- byte 1 of step 3
    ∷ record { sheet = sheet_a; «record» = set record_a 89 1; answer = refused 12 2 }  -- step 2 cites clause 1
    ∷ record { sheet = sheet_a; «record» = set record_a 121 4; answer = refused 13 4 }  -- step 4's bound 4
    ∷ []

numbers : T (all_right cases)
unfolding bytes_of numbers_of pairs_of joined file_of sheet_of sheet_a record_a clause sheet_b1 sheet_c cases all_right
numbers = tt
