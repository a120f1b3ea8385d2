-- Kind 5: weighted clauses (001, section 5.1.2), and refusals 23 and 24. D is the literals of the step, and e its tail: a divisor
-- and entries, each a clause and its weight. What may lie below zero is in ℤ.
-- Assumes nothing.
use Rattle.std.specs.Prelude.{ℕ, ◌*◌, Bool, not, cond, ◌&&◌, List, eqb, ℤ, pos, ◌+ℤ◌, ◌-ℤ◌, ◌*ℤ◌}
use Rattle.judgement.specs.Scan.{all_of, sum_of, count_of}
use Rattle.judgement.specs.Integers.{sum_of_ℤ, below_zero, rounded_up}
use Rattle.judgement.specs.Meaning.{positive, negative, is_positive, with_loss}
use Rattle.judgement.specs.Finding.{Finding, need}
use Rattle.judgement.specs.Literals.{count, code, holds, mentions}
use Rattle.judgement.specs.Sheet.{variables, cost_of, clause, problem_of}
use Rattle.judgement.specs.Step.{bound, literals, tail, divisor, entry_count, entry_cites, weight}

-- the clause of entry j
abbrev pub entry_clause : List ℕ → List ℕ → ℕ → List ℕ
entry_clause s e j = clause s (entry_cites e j)

-- ---- clauses and variables: of the first q entries, where q is given

-- the weights of the clauses that hold the literal c, added up
unfoldable pub weight_of : List ℕ → List ℕ → ℕ → ℕ → ℕ
weight_of s e q c = sum_of (λ j. cond (holds (entry_clause s e j) c) (weight e j) 0) q

-- the remainder of variable v: its cost d times, from which the clauses that hold it positive take their weights, and to which those
-- that hold it negative add theirs
unfoldable pub remainder : List ℕ → List ℕ → ℕ → ℕ → ℤ
remainder s e q v = pos (divisor e * cost_of s v) -ℤ pos (weight_of s e q (positive v)) +ℤ pos (weight_of s e q (negative v))

-- how many literals of the clause C are negative
unfoldable pub negatives : List ℕ → ℕ
negatives C = count_of (λ i. not (is_positive (code C i))) (count C)

-- of each clause its weight times 1 minus the number of its negative literals, added up
unfoldable pub entry_sum : List ℕ → List ℕ → ℕ → ℤ
entry_sum s e q = sum_of_ℤ (λ j. pos (weight e j) *ℤ (pos 1 -ℤ pos (negatives (entry_clause s e j)))) q

-- what variable v with the remainder r adds: all of it where falsifying D makes v true, nothing where it makes v false, and where
-- D does not mention v, the remainder if it is negative
unfoldable pub addend : List ℕ → ℕ → ℤ → ℤ
addend D v r = cond (holds D (negative v)) r (cond (mentions D v) (pos 0) (below_zero r))

-- what variables 1 to n with these remainders add
unfoldable pub addend_sum : List ℕ → ℕ → (ℕ → ℤ) → ℤ
addend_sum D n rem = sum_of_ℤ (λ v. addend D v (rem v)) n

-- what these entries and the variables 1 to n add
unfoldable pub total_of : List ℕ → List ℕ → List ℕ → ℕ → ℤ
total_of s D e q = entry_sum s e q +ℤ addend_sum D (variables s) (remainder s e q)

-- ---- of all entries

-- the total of the step with the body b
unfoldable pub total : List ℕ → List ℕ → ℤ
total s b = total_of s (literals b) (tail b) (entry_count (tail b))

-- its bound: the least number whose d-fold is not below the total, plus the loss
unfoldable pub linear_cost : List ℕ → List ℕ → ℕ
linear_cost s b = with_loss (problem_of s) (rounded_up (total s b) (divisor (tail b)))

-- ---- refusals

-- neither the divisor nor a weight is 0
unfoldable pub is_weighted : List ℕ → Bool
is_weighted e = not (eqb (divisor e) 0) && all_of (λ j. not (eqb (weight e j) 0)) (entry_count e)

-- 23, weights: the divisor or a weight is 0
unfoldable pub weights_finding : List ℕ → ℕ → Finding
weights_finding b k = need (is_weighted (tail b)) 23 k

-- 24, linear bound
unfoldable pub linear_bound : List ℕ → List ℕ → ℕ → Finding
linear_bound s b k = need (eqb (bound b) (linear_cost s b)) 24 k
