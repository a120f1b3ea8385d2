-- Worked examples: a record with two steps that lead nowhere, whose trimming is document 01's record A; one whose last step leads
-- back to nothing; one of the claim "none"; a diamond; tails of other kinds that look like citations; and the answers and buffers
-- around 27 and 28, and of a refused record.
-- Assumes nothing.
use Prim.Native.Nat.{ℕ}
use mathlib.Core.Path.{◌≡◌, refl}
use mathlib.Core.Bool.{true}
use mathlib.Core.List.{List, [], ◌∷◌, ◌++◌}
use lib.ListN.{set, replicate}
use Rattle.judgement.specs.declared.Written.{Written}
use Rattle.judgement.specs.Scan.{sum_of, list_of}
use Rattle.judgement.specs.Meaning.{none}
use Rattle.judgement.specs.Number.{number_at}
use Rattle.judgement.specs.Pairs.{body}
use Rattle.judgement.specs.Sheet.{variables}
use Rattle.judgement.specs.Step.{kind_of}
use Rattle.judgement.specs.Writer.{bytes_of, numbers_of, pairs_of, joined, file_of, sheet_of, step_of, record_of, entries_of, weighted_tail}
use Rattle.judgement.specs.Computed.{accepted, within, right, all_right}
use Rattle.judgement.proofs.Cases.Starred.{sheet_a, record_a, sheet_b2, record_b2, copy_step, cost_step, independent_step, resolution_step}
use Rattle.trimmer.specs.Trim.{cites_step, kept_after, chosen, citing, renumbered, trimmed, marks_of, few_marks, short_output, mark_finding, trim_finding, trimming, marks_left, output_left}

-- record A with an idle cost as step 2 and an idle resolution of steps 1 and 2 as step 3
abbrev idle_a : List ℕ
idle_a =
    record_of 3 (0x01 ∷ []) (
    copy_step (2 ∷ 4 ∷ []) 1
    ∷ cost_step (5 ∷ []) 5
    ∷ resolution_step (2 ∷ []) 5 1 2 2
    ∷ copy_step (2 ∷ 5 ∷ []) 2
    ∷ resolution_step (2 ∷ []) none 1 4 2
    ∷ cost_step (3 ∷ []) 3
    ∷ resolution_step [] 3 5 6 1
    ∷ []
    )

trimmed_a : trimmed sheet_a idle_a ≡ record_a
unfolding sheet_a record_a copy_step cost_step resolution_step none sum_of list_of number_at body variables kind_of bytes_of numbers_of pairs_of joined file_of step_of record_of cites_step kept_after chosen citing renumbered trimmed
trimmed_a = refl

marks_a : marks_of sheet_a idle_a ≡ 1 ∷ 0 ∷ 0 ∷ 1 ∷ 1 ∷ 1 ∷ 1 ∷ []
unfolding sheet_a copy_step cost_step resolution_step none list_of number_at body variables kind_of bytes_of numbers_of pairs_of joined file_of step_of record_of cites_step kept_after marks_of
marks_a = refl

-- record A itself has nothing to drop
nothing_idle : marks_of sheet_a record_a ≡ 1 ∷ 1 ∷ 1 ∷ 1 ∷ 1 ∷ []
unfolding sheet_a record_a list_of number_at body variables kind_of cites_step kept_after marks_of
nothing_idle = refl

-- and with a last step that cites none, everything but that: the answer is within
abbrev last_alone : List ℕ
last_alone = record_of 3 (0x01 ∷ []) (copy_step (2 ∷ 4 ∷ []) 1 ∷ cost_step [] 0 ∷ [])

one_left : trimmed sheet_a last_alone ≡ record_of 3 (0x01 ∷ []) (cost_step [] 0 ∷ [])
unfolding sheet_a copy_step cost_step none sum_of list_of number_at body variables kind_of bytes_of numbers_of pairs_of joined file_of step_of record_of cites_step kept_after chosen citing renumbered trimmed
one_left = refl

-- the claim "none", with an idle step before the empty clause
abbrev idle_none : List ℕ
idle_none = record_of none (0x00 ∷ []) (cost_step [] 0 ∷ copy_step [] 1 ∷ [])

trimmed_none : trimmed sheet_b2 idle_none ≡ record_b2
unfolding sheet_b2 record_b2 sheet_of copy_step cost_step none sum_of list_of number_at body variables kind_of bytes_of numbers_of pairs_of joined file_of step_of record_of cites_step kept_after chosen citing renumbered trimmed
trimmed_none = refl

answers : all_right (
    record { sheet = sheet_a; «record» = idle_a; answer = accepted 3 1 7 }
    ∷ record { sheet = sheet_a; «record» = record_a; answer = accepted 3 1 5 }
    ∷ record { sheet = sheet_a; «record» = last_alone; answer = within 3 3 1 2 }
    ∷ record { sheet = sheet_a; «record» = record_of 3 (0x01 ∷ []) (cost_step [] 0 ∷ []); answer = within 3 3 1 1 }
    ∷ record { sheet = sheet_b2; «record» = idle_none; answer = accepted none 0 2 }
    ∷ record { sheet = sheet_b2; «record» = record_b2; answer = accepted none 0 1 }
    ∷ []
    ) ≡ true
unfolding sheet_a record_a sheet_b2 record_b2 sheet_of none copy_step cost_step resolution_step bytes_of numbers_of pairs_of joined file_of step_of record_of all_right
answers = refl

-- ---- which steps are kept, by what they cite

-- the last of five cites two that cite one: that one is cited twice, and step 2 not at all
abbrev diamond : List ℕ → List ℕ
diamond last = record_of 3 (0x01 ∷ []) (
    copy_step (2 ∷ 4 ∷ []) 1 ∷ cost_step (5 ∷ []) 5 ∷ resolution_step (2 ∷ []) 5 1 1 2 ∷ resolution_step (2 ∷ []) 5 1 3 2 ∷ last ∷ []
    )

diamond_marks : marks_of sheet_a (diamond (resolution_step [] 3 3 4 1)) ≡ 1 ∷ 0 ∷ 1 ∷ 1 ∷ 1 ∷ []
unfolding sheet_a copy_step cost_step resolution_step none list_of number_at body variables kind_of bytes_of numbers_of pairs_of joined file_of step_of record_of cites_step kept_after marks_of
diamond_marks = refl

diamond_trimmed : trimmed sheet_a (diamond (resolution_step [] 3 3 4 1))
    ≡ record_of 3 (0x01 ∷ []) (
    copy_step (2 ∷ 4 ∷ []) 1 ∷ resolution_step (2 ∷ []) 5 1 1 2 ∷ resolution_step (2 ∷ []) 5 1 2 2 ∷ resolution_step [] 3 2 3 1 ∷ []
    )
unfolding sheet_a copy_step cost_step resolution_step none sum_of list_of number_at body variables kind_of bytes_of numbers_of pairs_of joined file_of step_of record_of cites_step kept_after chosen citing renumbered trimmed
diamond_trimmed = refl

-- the first step may be the idle one
first_idle : marks_of sheet_a (record_of 3 (0x01 ∷ []) (cost_step (5 ∷ []) 5 ∷ copy_step (2 ∷ 4 ∷ []) 1 ∷ resolution_step (2 ∷ []) 5 2 2 2 ∷ []))
    ≡ 0 ∷ 1 ∷ 1 ∷ []
unfolding sheet_a copy_step cost_step resolution_step none list_of number_at body variables kind_of bytes_of numbers_of pairs_of joined file_of step_of record_of cites_step kept_after marks_of
first_idle = refl

-- kinds 1, 3 and 5 cite clauses, by numbers that steps have too: no step is kept for them, and their bodies stay
abbrev alone : List ℕ → List ℕ
alone last = record_of 3 (0x01 ∷ []) (last ∷ [])

one : trimmed sheet_a (diamond (copy_step [] 1)) ≡ alone (copy_step [] 1)
unfolding sheet_a copy_step cost_step independent_step resolution_step none sum_of list_of number_at body variables kind_of bytes_of numbers_of pairs_of joined file_of step_of record_of entries_of weighted_tail cites_step kept_after chosen citing renumbered trimmed
one = refl

three : trimmed sheet_a (diamond (independent_step [] 3 (1 ∷ 2 ∷ []))) ≡ alone (independent_step [] 3 (1 ∷ 2 ∷ []))
unfolding sheet_a copy_step cost_step independent_step resolution_step none sum_of list_of number_at body variables kind_of bytes_of numbers_of pairs_of joined file_of step_of record_of entries_of weighted_tail cites_step kept_after chosen citing renumbered trimmed
three = refl

abbrev weighted : List ℕ
weighted = step_of 5 [] 3 (weighted_tail 1 ((1, 1) ∷ (2, 1) ∷ []))

five : trimmed sheet_a (diamond weighted) ≡ alone weighted
unfolding sheet_a copy_step cost_step independent_step resolution_step none sum_of list_of number_at body variables kind_of bytes_of numbers_of pairs_of joined file_of step_of record_of entries_of weighted_tail cites_step kept_after chosen citing renumbered trimmed
five = refl

-- ---- answers, for 7 steps and a trimmed record of 153 bytes

abbrev told : ℕ → ℕ → ℕ → Written
told number place length = record { number = number; place = place; length = length }

exact : trimming sheet_a idle_a 7 153 ≡ told 0 0 153
unfolding right sheet_a copy_step cost_step resolution_step none list_of bytes_of numbers_of pairs_of joined file_of step_of record_of cites_step kept_after chosen citing renumbered trimmed few_marks short_output mark_finding trim_finding trimming
exact = refl

one_byte_short : trimming sheet_a idle_a 7 152 ≡ told 28 0 0
unfolding right sheet_a copy_step cost_step resolution_step none list_of bytes_of numbers_of pairs_of joined file_of step_of record_of cites_step kept_after chosen citing renumbered trimmed few_marks short_output mark_finding trim_finding trimming
one_byte_short = refl

-- five marks would do for the kept steps, but t is 7; and 27 comes before 28
one_mark_short : (trimming sheet_a idle_a 6 153 ≡ told 27 0 0) × (trimming sheet_a idle_a 6 0 ≡ told 27 0 0)
unfolding right sheet_a copy_step cost_step resolution_step none list_of bytes_of numbers_of pairs_of joined file_of step_of record_of cites_step kept_after chosen citing renumbered trimmed few_marks short_output mark_finding trim_finding trimming
one_mark_short = (refl, refl)

-- record A with another bound in step 4: its own refusal comes first, with its place
refused_first : trimming sheet_a (set record_a 121 4) 0 0 ≡ told 13 4 0
unfolding right sheet_a record_a mark_finding trim_finding trimming
refused_first = refl

-- ---- the mark buffer and the output afterwards

past_the_marks : marks_left sheet_a idle_a (replicate 9 7) ≡ 1 ∷ 0 ∷ 0 ∷ 1 ∷ 1 ∷ 1 ∷ 1 ∷ 7 ∷ 7 ∷ []
unfolding right sheet_a copy_step cost_step resolution_step none list_of bytes_of numbers_of pairs_of joined file_of step_of record_of cites_step kept_after marks_of few_marks mark_finding marks_left
past_the_marks = refl

too_few_stay : marks_left sheet_a idle_a (replicate 6 7) ≡ replicate 6 7
unfolding right sheet_a copy_step cost_step resolution_step none list_of bytes_of numbers_of pairs_of joined file_of step_of record_of cites_step kept_after marks_of few_marks mark_finding marks_left
too_few_stay = refl

past_the_record : output_left sheet_a idle_a 7 (replicate 155 7) ≡ record_a ++ (7 ∷ 7 ∷ [])
unfolding right sheet_a record_a copy_step cost_step resolution_step none list_of bytes_of numbers_of pairs_of joined file_of step_of record_of cites_step kept_after chosen citing renumbered trimmed few_marks short_output mark_finding trim_finding output_left
past_the_record = refl

short_stays : output_left sheet_a idle_a 7 (replicate 152 7) ≡ replicate 152 7
unfolding right sheet_a copy_step cost_step resolution_step none list_of bytes_of numbers_of pairs_of joined file_of step_of record_of cites_step kept_after chosen citing renumbered trimmed few_marks short_output mark_finding trim_finding output_left
short_stays = refl

-- a refused record leaves both
refused_stay : (marks_left sheet_a (set record_a 121 4) (replicate 9 7) ≡ replicate 9 7) × (output_left sheet_a (set record_a 121 4) 9 (replicate 155 7) ≡ replicate 155 7)
unfolding right sheet_a record_a mark_finding trim_finding marks_left output_left
refused_stay = (refl, refl)
