-- The numbers of an answer, of a part, of what was written and of what was found in their places, as include/plan.h names them.
-- Assumes nothing.
use mathlib.Core.Path.{◌≡◌, refl}
use mathlib.Core.Bool.{true, false}
use mathlib.Core.List.{[], ◌∷◌}
use Rattle.judgement.specs.Judgement.{refused}
use Rattle.judgement.specs.Computed.{within}
use Rattle.exports.specs.Numbers.{answer_numbers, part_numbers, written_numbers, found_numbers}

-- number, place, cost, open count, step count, gap
within_numbers : answer_numbers (within 4 7 2 1) ≡ 0 ∷ 0 ∷ 7 ∷ 2 ∷ 1 ∷ 4 ∷ []
within_numbers = refl

refused_numbers : answer_numbers (refused 19 5) ≡ 19 ∷ 5 ∷ 0 ∷ 0 ∷ 0 ∷ 0 ∷ []
refused_numbers = refl

-- the sheet, start, size
part_numbers_lem : part_numbers (record { in_sheet = true; start = 32; size = 4 }) ≡ 1 ∷ 32 ∷ 4 ∷ []
part_numbers_lem = refl

-- number, place, length
written_numbers_lem : written_numbers (record { number = 0; place = 0; length = 36 }) ≡ 0 ∷ 0 ∷ 36 ∷ []
written_numbers_lem = refl

unfit_numbers : written_numbers (record { number = 4; place = 2; length = 0 }) ≡ 4 ∷ 2 ∷ 0 ∷ []
unfit_numbers = refl

-- number, place, a plan, the plan, choices, ended, floor
found-numbers
    : found_numbers (record { number = 0; place = 0; found = true; plan = 9; choices = 4; ended = false; floor = 7 })
    ≡ 0 ∷ 0 ∷ 1 ∷ 9 ∷ 4 ∷ 0 ∷ 7 ∷ []
found-numbers = refl

ended-numbers
    : found_numbers (record { number = 26; place = 3; found = false; plan = 0; choices = 5; ended = true; floor = 8 })
    ≡ 26 ∷ 3 ∷ 0 ∷ 0 ∷ 5 ∷ 1 ∷ 8 ∷ []
ended-numbers = refl
