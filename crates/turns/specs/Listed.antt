-- Lists of values and of chosen numbers, and an assignment that begins at any byte.
-- Assumes nothing.
use Rattle.std.specs.Prelude.{ℕ, zero, suc, ◌+◌, ◌-◌, ◌/◌, ◌%◌, Bool, cond, List, [], ◌∷◌, ◌++◌, get_or}
use Rattle.judgement.specs.Meaning.{Assignment}
use Rattle.judgement.specs.Record.{bit}

-- the values as a list
unfoldable pub list_of : {A : Type 0} → (ℕ → A) → ℕ → List A
list_of f zero = []
list_of f (suc n) = list_of f n ++ (f (suc n) ∷ [])

-- those of 1 to n that pass the test, in order
unfoldable pub chosen : (ℕ → Bool) → ℕ → List ℕ
chosen f zero = []
chosen f (suc n) = chosen f n ++ cond (f (suc n)) (suc n ∷ []) []

-- the assignment whose bytes begin at `at`: variable v is bit (v - 1) mod 8 of byte (v - 1) / 8
abbrev pub value_at : ℕ → List ℕ → Assignment
value_at at l v = bit (get_or l (at + (v - 1) / 8) 0) ((v - 1) % 8)
