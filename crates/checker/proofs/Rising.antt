-- The numbers of cited clauses as they are read, one after the other.
-- Assumes nothing.
use Rattle.std.proofs.Common.{◌≡◌, ℕ, ◌+◌, ◌-◌, ◌*◌, List, add-sub_cancel}
use Rattle.judgement.specs.Number.{number_at}

-- the number of clause j
abbrev pub numbered : List ℕ → ℕ → ℕ → ℕ → ℕ
numbered tail from apart j = number_at tail (from + apart * (j - 1)) 4

pub next : (tail : List ℕ) (from apart j : ℕ) {c : ℕ} → c ≡ number_at tail (from + apart * j) 4 → c ≡ numbered tail from apart (j + 1)
next tail from apart j e = rw add-sub_cancel e
