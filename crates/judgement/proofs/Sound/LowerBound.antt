-- A lower bound for a partial assignment (001, definition 4) is an entailed cost clause, that of the opposite literals
-- (definition 3).
-- Assumes nothing.
use Prim.Native.Nat.{ℕ}
use mathlib.Core.Path.{sym, ◌∙◌}
use mathlib.Core.Logic.{◌↔◌}
use borrow.Author.Tests.{not-true, not-false}
use Rattle.judgement.specs.Meaning.{opposite, literal_true, Literals, Problem, Entailed, LowerBound}
use Rattle.judgement.proofs.Laws.Truth.{opposite_back, opposite_true}

-- the opposite literals of I
abbrev pub opposites : Literals → Literals
opposites I c = I (opposite c)

pub lower_bound : (P : Problem) (I : Literals) (k : ℕ)
    → LowerBound P I k ↔ Entailed P (record { literals = opposites I; bound = k })
lower_bound P I k = (
  λ below α m f. below α m (λ c i. not-false (literal_true α c) (sym (opposite_true α c) ∙ f (opposite c) (rw (opposite_back c) i))),
  λ entailed α m t. entailed α m (λ c i. not-true (literal_true α c) (sym (opposite_true α c) ∙ t (opposite c) i)),
)
