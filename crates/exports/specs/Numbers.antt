-- Answers, parts, what was written, what was found and what was turned as lists of numbers.
-- Assumes nothing.
use Rattle.std.specs.Prelude.{ℕ, cond, List, [], ◌∷◌}
use Rattle.judgement.specs.declared.Answer.{Answer}
use Rattle.judgement.specs.declared.Part.{Part}
use Rattle.judgement.specs.declared.Written.{Written}
use Rattle.search.specs.declared.Found.{Found}
use Rattle.turns.specs.declared.Turned.{Turned}

abbrev pub answer_numbers : Answer → List ℕ
answer_numbers a = a.number ∷ a.place ∷ a.cost ∷ a.open_count ∷ a.step_count ∷ a.gap ∷ []

abbrev pub part_numbers : Part → List ℕ
part_numbers p = cond p.in_sheet 1 0 ∷ p.start ∷ p.size ∷ []

abbrev pub written_numbers : Written → List ℕ
written_numbers w = w.number ∷ w.place ∷ w.length ∷ []

abbrev pub found_numbers : Found → List ℕ
found_numbers f = f.number ∷ f.place ∷ cond f.found 1 0 ∷ f.plan ∷ f.choices ∷ cond f.ended 1 0 ∷ f.floor ∷ []

abbrev pub turned_numbers : Turned → List ℕ
turned_numbers t = t.number ∷ t.place ∷ t.total ∷ []
