-- `search::search` meets its contract.
-- Assumes nothing.
use Prim.Native.Nat.{ℕ}
use mathlib.Core.Path.{◌≡◌, sym, ap, ◌∙◌}
use mathlib.Core.List.{List}
use Rattle.judgement.specs.Demands.{IsBytes}
use Rattle.judgement.specs.Sheet.{problem_of}
use Rattle.search.specs.declared.Found.{Found}
use Rattle.search.specs.Answer.{answered, found}
use Rattle.search.specs.Promises.{RefusedWhen, Promised}
use Rattle.search.proofs.Promised.{left_most, sheet_bounded, sheet_promised}
use Rattle.search.proofs.Answers.{answer_fault, answer_fine, valid_fine}
use Rattle.search.proofs.Refused.{refused_when}
use Rattle.search.proofs.search.Goals as goal

-- what is the definition's answer keeps its promises
all_of_it : (s : List ℕ) (budget : ℕ) (a : Found) → IsBytes s → a ≡ found s budget
    → record { answer : a ≡ found s budget; when : RefusedWhen s a; promised : Promised s budget a }
all_of_it s budget a bytes e = record { answer = e; when = rw e (refused_when s budget); promised = rw e (sheet_promised s bytes budget) }

pub search_valid-requires : goal.search_valid-requires
search_valid-requires c = valid_fine c.args.sheet.now (sym c.search_finding.ensures ∙ c.in-Ok.is)

pub answer-requires : goal.answer-requires
answer-requires c =
    let s = c.args.sheet.now in
    let valid = (valid_fine s (sym c.search_finding.ensures ∙ c.in-Ok.is)).0 in
    rw c.search_valid.ensures (left_most (problem_of s) (sheet_bounded s valid) c.args.budget)

pub returns-in-Ok : goal.returns-in-Ok
returns-in-Ok c =
    let s = c.args.sheet.now in
    let b = c.args.budget in
    all_of_it s b c.answer.result (λ i. (c.type_inv.sheet i).fits)
    (c.answer.ensures ∙ ap (answered b) c.search_valid.ensures ∙ answer_fine s b (sym c.search_finding.ensures ∙ c.in-Ok.is))

pub returns-in-Err : goal.returns-in-Err
returns-in-Err c =
    let s = c.args.sheet.now in
    let b = c.args.budget in
    all_of_it s b c.from.result (λ i. (c.type_inv.sheet i).fits)
    (c.from.ensures ∙ answer_fault s b c.in-Err.refusal (sym c.search_finding.ensures ∙ c.in-Err.is))
