-- The tests before the steps, and those of a step's form and citations, tell no number above 11.
-- Assumes nothing.
use Prim.Native.Nat.{ℕ}
use mathlib.Core.Path.{◌≡◌}
use mathlib.Core.Bool.{true}
use mathlib.Core.List.{List}
use lib.Dec.{leb}
use Rattle.judgement.specs.Finding.{Finding}
use Rattle.judgement.specs.Pairs.{pair_finding, pairs_finding}
use Rattle.judgement.specs.Sheet.{sheet_head, sheet_pairs, clause_form, sheet_finding}
use Rattle.judgement.specs.Record.{record_head, stray_bit, record_pairs, record_finding, broken_clause, claimed_cost}
use Rattle.judgement.specs.Step.{step_form, citation}
use Rattle.judgement.specs.Judgement.{oversize, assignment_finding}
use Rattle.judgement.proofs.Laws.Findings.{Faults, faults}

abbrev pub Early : Finding → Type 0
Early f = Faults (λ N P. leb N 11 ≡ true) f

module _ (s : List ℕ) where
  pub sheet_early : Early (sheet_finding s)
  unfolding sheet_finding sheet_head sheet_pairs pairs_finding pair_finding clause_form
  sheet_early = search faults depth 12

  pub form_early : (b : List ℕ) (k : ℕ) → Early (step_form s b k)
  unfolding step_form
  form_early b k = search faults

  pub citation_early : (b : List ℕ) (k : ℕ) → Early (citation s b k)
  unfolding citation
  citation_early b k = search faults

module _ (s r : List ℕ) where
  pub oversize_early : Early (oversize s r)
  unfolding oversize
  oversize_early = search faults

  pub record_early : Early (record_finding s r)
  unfolding record_finding record_head stray_bit record_pairs pairs_finding pair_finding
  record_early = search faults depth 12

  pub assignment_early : Early (assignment_finding s r)
  unfolding assignment_finding broken_clause claimed_cost
  assignment_early = search faults depth 12
