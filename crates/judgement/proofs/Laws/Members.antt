-- Members of a list.
-- Assumes nothing.
use Prim.Native.Nat.{ℕ, zero, suc, ◌<◌}
use mathlib.Core.Path.{refl}
use mathlib.Core.List.{List, [], ◌∷◌, ◌++◌}
use mathlib.Core.Logic.{◌⊎◌, inl, inr}
use native.Mathlib.Omega.{arith}
use lib.ListN.{length, get_or}
use Rattle.judgement.specs.Facts.{OneOf}

-- each of the one is one of the other
abbrev pub Within : {A : Type 0} → List A → List A → Type 0
Within {A} l m = (x : A) → OneOf x l → OneOf x m

module _ {A : Type 0} where
  pub one_at : (l : List A) (i : ℕ) (d : A) → i < length l → OneOf (get_or l i d) l
  one_at [] i d h = absurd (omega arith)
  one_at (x ∷ l) zero d h = inl refl
  one_at (x ∷ l) (suc i) d h = inr (one_at l i d (omega arith))

  pub one_left : (x : A) (l m : List A) → OneOf x l → OneOf x (l ++ m)
  one_left x [] m p = absurd p
  one_left x (y ∷ l) m (inl e) = inl e
  one_left x (y ∷ l) m (inr p) = inr (one_left x l m p)

  pub one_right : (x : A) (l m : List A) → OneOf x m → OneOf x (l ++ m)
  one_right x [] m p = p
  one_right x (y ∷ l) m p = inr (one_right x l m p)

  pub one_either : (x : A) (l m : List A) → OneOf x (l ++ m) → OneOf x l ⊎ OneOf x m
  one_either x [] m p = inr p
  one_either x (y ∷ l) m (inl e) = inl (inl e)
  one_either x (y ∷ l) m (inr p) = elim (one_either x l m p) [ inl k ↦ inl (inr k) | inr k ↦ inr k ]
