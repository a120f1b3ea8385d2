-- Worked examples: what is written of document 01's sheet A, of the same problem listed otherwise, of lists that begin others, and
-- of marked sheets; the answers to buffers of 35, 36 and 38 bytes and to a file that is no sheet; and a record that keeps to its
-- own sheet.
-- Assumes nothing.
use Prim.Native.Nat.{ℕ, ◌-◌}
use mathlib.Core.Path.{◌≡◌, refl}
use mathlib.Core.Bool.{true}
use mathlib.Core.List.{List, [], ◌∷◌, ◌++◌}
use lib.ListN.{set, replicate}
use Rattle.judgement.specs.Scan.{all_of, list_of}
use Rattle.judgement.specs.Finding.{over_all}
use Rattle.judgement.specs.Number.{number_at}
use Rattle.judgement.specs.Pairs.{body, body_start, pair_finding, pairs_finding}
use Rattle.judgement.specs.Literals.{rises_at, rises, literals_fine}
use Rattle.judgement.specs.Sheet.{marked, variables, loss_size, loss, sheet_head, sheet_pairs, clause_form, sheet_finding, alone_finding}
use Rattle.judgement.specs.Judgement.{refused}
use Rattle.judgement.specs.Computed.{accepted, all_right}
use Rattle.judgement.specs.Writer.{bytes_of, numbers_of, pairs_of, joined, file_of, sheet_of}
use Rattle.judgement.proofs.Cases.Starred.{sheet_a, record_a}
use Rattle.writer.specs.Sorted.{compare, insert, sorted}
use Rattle.writer.specs.Canonical.{canonical, shortage, write_finding, writing, leaves}

abbrev first : List ℕ
first = 2 ∷ 0 ∷ 4 ∷ 0 ∷ []

abbrev second : List ℕ
second = 2 ∷ 0 ∷ 5 ∷ 0 ∷ []

-- the clauses the other way round, and one of them twice
abbrev other_a : List ℕ
other_a = sheet_of 0 (3 ∷ 5 ∷ []) (second ∷ first ∷ second ∷ [])

a_is_canonical : canonical sheet_a ≡ sheet_a
unfolding sheet_a list_of number_at marked variables loss_size loss body bytes_of numbers_of pairs_of joined file_of sheet_of compare insert sorted canonical
a_is_canonical = refl

a_from_another : canonical other_a ≡ sheet_a
unfolding sheet_a list_of number_at marked variables loss_size loss body bytes_of numbers_of pairs_of joined file_of sheet_of compare insert sorted canonical
a_from_another = refl

-- a list before those that begin with it, the empty one first
short_first : canonical (sheet_of 0 (3 ∷ 5 ∷ []) (first ∷ (2 ∷ 0 ∷ []) ∷ [] ∷ []))
    ≡ sheet_of 0 (3 ∷ 5 ∷ []) ([] ∷ (2 ∷ 0 ∷ []) ∷ first ∷ [])
unfolding list_of number_at marked variables loss_size loss body bytes_of numbers_of pairs_of joined file_of sheet_of compare insert sorted canonical
short_first = refl

-- a mark whose loss is 0 is left out, and one whose loss is not stays
abbrev marked_a : ℕ → List ℕ
marked_a lost =
    bytes_of 2 0x8002 ++ bytes_of 2 2 ++ numbers_of 4 (3 ∷ 5 ∷ []) ++ bytes_of 4 lost
    ++ pairs_of 32 (second ∷ first ∷ []) ++ second ++ first

idle_mark_dropped : canonical (marked_a 0) ≡ sheet_a
unfolding sheet_a list_of number_at marked variables loss_size loss body bytes_of numbers_of pairs_of joined file_of sheet_of compare insert sorted canonical
idle_mark_dropped = refl

mark_kept : canonical (marked_a 7) ≡ sheet_of 7 (3 ∷ 5 ∷ []) (first ∷ second ∷ [])
unfolding list_of number_at marked variables loss_size loss body bytes_of numbers_of pairs_of joined file_of sheet_of compare insert sorted canonical
mark_kept = refl

-- numbers, not bytes: 255 before 256, whose low byte is 0
numbers_compared : sorted (λ k. (257 - k) ∷ []) 2 ≡ (255 ∷ []) ∷ (256 ∷ []) ∷ []
unfolding compare insert sorted
numbers_compared = refl

-- ---- answers

exact_room : writing other_a 36 ≡ record { number = 0; place = 0; length = 36 }
unfolding all_of over_all list_of number_at marked variables loss_size loss body body_start pair_finding pairs_finding rises_at rises literals_fine sheet_head sheet_pairs clause_form sheet_finding alone_finding bytes_of numbers_of pairs_of joined file_of sheet_of compare insert sorted canonical shortage write_finding writing
exact_room = refl

one_byte_short : writing other_a 35 ≡ record { number = 25; place = 0; length = 0 }
unfolding all_of over_all list_of number_at marked variables loss_size loss body body_start pair_finding pairs_finding rises_at rises literals_fine sheet_head sheet_pairs clause_form sheet_finding alone_finding bytes_of numbers_of pairs_of joined file_of sheet_of compare insert sorted canonical shortage write_finding writing
one_byte_short = refl

no_sheet : writing (2 ∷ 0 ∷ []) 9 ≡ record { number = 2; place = 0; length = 0 }
unfolding number_at marked variables loss_size sheet_head sheet_finding alone_finding write_finding writing
no_sheet = refl

behind_stays : leaves other_a (replicate 38 7) ≡ sheet_a ++ (7 ∷ 7 ∷ [])
unfolding sheet_a all_of over_all list_of number_at marked variables loss_size loss body body_start pair_finding pairs_finding rises_at rises literals_fine sheet_head sheet_pairs clause_form sheet_finding alone_finding bytes_of numbers_of pairs_of joined file_of sheet_of compare insert sorted canonical shortage write_finding leaves
behind_stays = refl

refusal_leaves : leaves (2 ∷ 0 ∷ []) (7 ∷ 8 ∷ []) ≡ 7 ∷ 8 ∷ []
unfolding number_at marked variables loss_size sheet_head sheet_finding alone_finding write_finding leaves
refusal_leaves = refl

-- ---- a record keeps to its own sheet

-- plan A1's record with its two copies cited as clauses 2 and 1, as sheet A's clauses stand in the other sheet
other_record : List ℕ
other_record = set (set record_a 69 2) 89 1

-- it is accepted beside that sheet, and not beside the canonical one, which is sheet A; and the other way round
keeps_to_its_sheet : all_right (
    record { sheet = other_a; «record» = other_record; answer = accepted 3 1 5 }
    ∷ record { sheet = sheet_a; «record» = other_record; answer = refused 12 1 }
    ∷ record { sheet = sheet_a; «record» = record_a; answer = accepted 3 1 5 }
    ∷ record { sheet = other_a; «record» = record_a; answer = refused 12 1 }
    ∷ []
    ) ≡ true
unfolding other_record sheet_a record_a bytes_of numbers_of pairs_of joined file_of sheet_of all_right
keeps_to_its_sheet = refl
