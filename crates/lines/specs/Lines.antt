-- The line that is printed for an answer, as the ASCII codes of its characters.
-- Assumes nothing.
use Rattle.std.specs.Prelude.{ℕ, zero, suc, ◌+◌, ◌/◌, ◌%◌, cond, List, [], ◌∷◌, ◌++◌, ltb}
use Rattle.judgement.specs.Judgement.{passes, says_least, says_none}
use Rattle.judgement.specs.declared.Answer.{Answer}
use Rattle.lines.specs.Text.{codes}

-- the digit d, below 10
abbrev pub digit : ℕ → List ℕ
digit d = (48 + d) ∷ []

-- n in decimal with no leading zeros, where `most` digits hold it
unfoldable pub decimal_within : ℕ → ℕ → List ℕ
decimal_within zero n = []
decimal_within (suc most) n = cond (ltb n 10) (digit n) (decimal_within most (n / 10) ++ digit (n % 10))

-- 20 digits hold every number of 64 bits
unfoldable pub decimal_of : ℕ → List ℕ
decimal_of n = decimal_within 20 n

unfoldable pub least_line : ℕ → ℕ → ℕ → List ℕ
least_line cost opens steps =
    codes "least " ++ decimal_of cost ++ codes " open " ++ decimal_of opens ++ codes " steps " ++ decimal_of steps ++ codes "\n"

unfoldable pub none_line : ℕ → List ℕ
none_line steps = codes "none open 0 steps " ++ decimal_of steps ++ codes "\n"

unfoldable pub within_line : ℕ → ℕ → ℕ → ℕ → List ℕ
within_line gap cost opens steps =
    codes "within " ++ decimal_of gap ++ codes " cost " ++ decimal_of cost ++ codes " open " ++ decimal_of opens ++ codes " steps " ++ decimal_of steps
    ++ codes "\n"

unfoldable pub refused_line : ℕ → ℕ → List ℕ
refused_line number place = codes "refused " ++ decimal_of number ++ codes " at " ++ decimal_of place ++ codes "\n"

unfoldable pub line_of : Answer → List ℕ
line_of a =
    cond (passes a)
    (cond (says_least a)
    (least_line a.cost a.open_count a.step_count)
    (cond (says_none a)
    (none_line a.step_count)
    (within_line a.gap a.cost a.open_count a.step_count)))
    (refused_line a.number a.place)
