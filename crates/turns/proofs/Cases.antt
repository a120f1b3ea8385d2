-- Worked examples: document 01's sheet A, its index, counts and turns; spare bits and the byte behind; the refusals around 29 and 30; and a
-- marked sheet with an empty clause.
-- Assumes nothing.
use Prim.Native.Nat.{ℕ}
use mathlib.Core.Path.{◌≡◌, refl}
use mathlib.Core.List.{List, [], ◌∷◌, ◌++◌}
use lib.ListN.{replicate}
use Rattle.judgement.specs.Scan.{all_of, any_of, sum_of}
use Rattle.turns.specs.Listed.{list_of, chosen}
use Rattle.judgement.specs.Meaning.{literal_true}
use Rattle.judgement.specs.Number.{number_at}
use Rattle.judgement.specs.Pairs.{body, body_start, pair_finding, pairs_finding}
use Rattle.judgement.specs.Finding.{over_all}
use Rattle.judgement.specs.Literals.{mentions, rises_at, rises, literals_fine}
use Rattle.judgement.specs.Sheet.{marked, variables, loss_size, sheet_head, sheet_pairs, clause_form, sheet_finding, alone_finding}
use Rattle.judgement.specs.Writer.{bytes_of, numbers_of, pairs_of, joined, file_of, sheet_of}
use Rattle.judgement.proofs.Cases.Starred.{sheet_a}
use Rattle.turns.specs.Turning.{index_of, true_in, counts_of, broken_total, value_in, switched, turn, turned, Lent, lent, index_size, has_room, no_room, wrong_turn, lent_finding, turn_finding, turning, left}

-- sheet A has the clauses 1 or 2, and 1 or not 2: both are in both lists
abbrev index_a : List ℕ
index_a =
    16 ∷ 0 ∷ 0 ∷ 0 ∷ 8 ∷ 0 ∷ 0 ∷ 0 ∷ 24 ∷ 0 ∷ 0 ∷ 0 ∷ 8 ∷ 0 ∷ 0 ∷ 0
    ∷ 1 ∷ 0 ∷ 0 ∷ 0 ∷ 2 ∷ 0 ∷ 0 ∷ 0 ∷ 1 ∷ 0 ∷ 0 ∷ 0 ∷ 2 ∷ 0 ∷ 0 ∷ 0 ∷ []

index_a_lem : index_of sheet_a ≡ index_a
unfolding sheet_a variables marked loss_size index_of list_of chosen mentions any_of body number_at numbers_of bytes_of pairs_of joined file_of
index_a_lem = refl

-- variable 2 four times, and variable 1 once: the spare bits and the byte behind stay
turned_a : turned (252 ∷ 85 ∷ []) (2 ∷ 1 ∷ 2 ∷ 2 ∷ 2 ∷ []) ≡ 253 ∷ 85 ∷ []
unfolding turned turn switched
turned_a = refl

-- both true: two literals of clause 1, and one of clause 2
counts_a : counts_of sheet_a (value_in (3 ∷ [])) ≡ 2 ∷ 0 ∷ 1 ∷ 0 ∷ []
unfolding sheet_a counts_of list_of true_in sum_of literal_true value_in variables marked loss_size body number_at numbers_of bytes_of
counts_a = refl

-- ---- whole calls

-- buffers that are long enough, and one byte more each
abbrev room_a : Lent
room_a = lent (252 ∷ 85 ∷ []) (replicate 33 9) (replicate 5 9)

-- variable 2 alone is true: clause 2 is broken
turn_a : turning sheet_a (2 ∷ []) room_a ≡ record { number = 0; place = 0; total = 1 }
unfolding sheet_a sum_of literal_true all_of number_at body body_start pair_finding pairs_finding over_all rises_at rises literals_fine marked variables loss_size sheet_head sheet_pairs clause_form sheet_finding alone_finding true_in broken_total value_in switched turn turned index_size has_room no_room wrong_turn lent_finding turn_finding turning
turn_a = refl

left_a : left sheet_a (2 ∷ []) room_a ≡ lent (254 ∷ 85 ∷ []) (index_a ++ (9 ∷ [])) (1 ∷ 0 ∷ 0 ∷ 0 ∷ 9 ∷ [])
unfolding sheet_a any_of sum_of list_of chosen literal_true all_of number_at body body_start pair_finding pairs_finding over_all mentions rises_at rises literals_fine marked variables loss_size sheet_head sheet_pairs clause_form sheet_finding alone_finding numbers_of bytes_of pairs_of joined file_of index_of true_in counts_of value_in switched turn turned index_size has_room no_room wrong_turn lent_finding turn_finding left
left_a = refl

-- the second and the third are wrong: the second is told, and nothing is turned
wrong_a : turning sheet_a (1 ∷ 3 ∷ 0 ∷ []) room_a ≡ record { number = 30; place = 2; total = 0 }
unfolding sheet_a sum_of all_of number_at body body_start pair_finding pairs_finding over_all rises_at rises literals_fine marked variables loss_size sheet_head sheet_pairs clause_form sheet_finding alone_finding index_size has_room no_room wrong_turn lent_finding turn_finding turning
wrong_a = refl

wrong_left_a : left sheet_a (1 ∷ 3 ∷ 0 ∷ []) room_a ≡ room_a
unfolding sheet_a sum_of all_of number_at body body_start pair_finding pairs_finding over_all rises_at rises literals_fine marked variables loss_size sheet_head sheet_pairs clause_form sheet_finding alone_finding index_size has_room no_room wrong_turn lent_finding turn_finding left
wrong_left_a = refl

-- an index of 31 bytes is too short, and is told before a wrong turn
short_a : turning sheet_a (3 ∷ []) (lent (0 ∷ []) (replicate 31 9) (replicate 4 9)) ≡ record { number = 29; place = 0; total = 0 }
unfolding sheet_a sum_of all_of number_at body body_start pair_finding pairs_finding over_all rises_at rises literals_fine marked variables loss_size sheet_head sheet_pairs clause_form sheet_finding alone_finding index_size has_room no_room lent_finding turn_finding turning
short_a = refl

-- exact buffers are enough, and no turns are counted as they stand
exact_a : turning sheet_a [] (lent (0 ∷ []) (replicate 32 9) (replicate 4 9)) ≡ record { number = 0; place = 0; total = 1 }
unfolding sheet_a sum_of literal_true all_of number_at body body_start pair_finding pairs_finding over_all rises_at rises literals_fine marked variables loss_size sheet_head sheet_pairs clause_form sheet_finding alone_finding true_in broken_total value_in turned index_size has_room no_room lent_finding turn_finding turning
exact_a = refl

-- ---- a marked sheet of one variable: an empty clause, and one that wants the variable true

abbrev empty_first : List ℕ
empty_first = sheet_of 7 (5 ∷ []) ([] ∷ numbers_of 2 (2 ∷ []) ∷ [])

turn_empty : left empty_first (1 ∷ []) (lent (0 ∷ []) (replicate 12 9) (replicate 4 9))
    ≡ lent (1 ∷ []) (8 ∷ 0 ∷ 0 ∷ 0 ∷ 4 ∷ 0 ∷ 0 ∷ 0 ∷ 2 ∷ 0 ∷ 0 ∷ 0 ∷ []) (0 ∷ 0 ∷ 1 ∷ 0 ∷ [])
unfolding any_of sum_of list_of chosen literal_true all_of number_at body body_start pair_finding pairs_finding over_all mentions rises_at rises literals_fine marked variables loss_size sheet_head sheet_pairs clause_form sheet_finding alone_finding numbers_of bytes_of pairs_of joined file_of sheet_of index_of true_in counts_of value_in switched turn turned index_size has_room no_room wrong_turn lent_finding turn_finding left
turn_empty = refl
