-- What a lent buffer holds after a call that writes into it, and what such a call answers; what stands where in it while that goes on.
-- Assumes nothing.
use Rattle.std.specs.Prelude.{ℕ, ◌+◌, ◌≡◌, cond, List, ◌++◌, length, take, drop, leb, Result, Ok, Err}
use Rattle.judgement.specs.Finding.{Finding}
use Rattle.judgement.specs.declared.Refusal.{Refusal}
use Rattle.judgement.specs.declared.Written.{Written}

-- the buffer l with w at its beginning; where l is no shorter than w, what stood behind it stays, and so does the length
abbrev pub over : List ℕ → List ℕ → List ℕ
over w l = w ++ drop (length w) l

-- the same where there is room for w; a shorter buffer stays as it is
unfoldable pub put : List ℕ → List ℕ → List ℕ
put w l = cond (leb (length w) (length l)) (over w l) l

-- the answer of a call that has written so many bytes, or is refused
abbrev pub told_by : Result ℕ Refusal → Written
told_by (Ok length) = record { number = 0; place = 0; length = length }
told_by (Err x) = record { number = x.number; place = x.place; length = 0 }

-- the answer of a call that writes w, after this finding
abbrev pub written_by : Finding → List ℕ → Written
written_by (Ok _) w = record { number = 0; place = 0; length = length w }
written_by (Err x) w = record { number = x.number; place = x.place; length = 0 }

-- what the buffer l holds after it: a refusal leaves it
abbrev pub left_by : Finding → List ℕ → List ℕ → List ℕ
left_by (Ok _) w l = over w l
left_by (Err x) w l = l

-- ---- at any place

-- w stands in l from a on
pub record At (l : List ℕ) (a : ℕ) (w : List ℕ) : Type 0 where
  pub is : take (length w) (drop a l) ≡ w

-- l with w from a on; what stands before it and behind it stays
unfoldable pub patch : ℕ → List ℕ → List ℕ → List ℕ
patch a w l = take a l ++ (w ++ drop (a + length w) l)

-- l is as long as l₀, and from `size` on the same
pub record Kept (size : ℕ) (l₀ l : List ℕ) : Type 0 where
  pub long : length l ≡ length l₀
  pub behind : drop size l ≡ drop size l₀
