-- The answer by its finding.
-- Assumes nothing.
use Prim.Native.Nat.{ℕ, ◌≤◌}
use mathlib.Core.Path.{◌≡◌, ap}
use mathlib.Core.List.{List}
use borrow.Author.Tests.{leb-true}
use Rattle.std.specs.Prelude.{Ok, Err}
use Rattle.judgement.specs.declared.Refusal.{Refusal}
use Rattle.judgement.specs.Finding.{is_fine}
use Rattle.judgement.specs.Sheet.{variables, problem_of, alone_finding}
use Rattle.judgement.specs.Facts.{ValidSheet}
use Rattle.judgement.proofs.Laws.Findings.{need_true, then_r}
use Rattle.search.specs.Search.{searched}
use Rattle.search.specs.Answer.{most_searched, too_many, search_finding, refused, answered, found}
use Rattle.search.proofs.Promised.{fine_valid}

module _ (s : List ℕ) where
  pub answer_fault : (budget : ℕ) (x : Refusal) → search_finding s ≡ Err x → refused x.number x.place ≡ found s budget
  unfolding found
  answer_fault budget x e = rw e

  pub answer_fine : (budget : ℕ) → search_finding s ≡ Ok tt → answered budget (searched (problem_of s) budget) ≡ found s budget
  unfolding found
  answer_fine budget e = rw e

  pub valid_fine : search_finding s ≡ Ok tt → ValidSheet s × (variables s ≤ most_searched)
  unfolding search_finding too_many
  valid_fine e = (fine_valid s e, leb-true (variables s) most_searched (need_true _ 26 0 (then_r (alone_finding s) _ (ap is_fine e))))
