-- Laws of lists of values.
-- Assumes nothing.
use Rattle.std.proofs.Common.{◌≡◌, ℕ, zero, suc, ◌-◌, [], ◌∷◌, length, get_or, refl, ◌∙◌, arith}
use lib.ListN.{length-append, get_or-append}
use lib.Seq.{get_or_at}
use Rattle.judgement.specs.Facts.{Among}
use Rattle.judgement.proofs.Laws.Scan.{last_or}
use Rattle.turns.specs.Listed.{list_of}

pub length_list : {A : Type 0} (f : ℕ → A) (n : ℕ) → length (list_of f n) ≡ n
unfolding list_of
length_list f zero = refl
length_list f (suc n) = rw (length-append, length_list f n) (omega arith)

pub list_at : (f : ℕ → ℕ) (n k : ℕ) → Among n k → get_or (list_of f n) (k - 1) 0 ≡ f k
unfolding list_of
list_at f zero k (l, h) = absurd (omega arith)
list_at f (suc n) k w =
    last_or n k w
    (λ e. (let z : suc n - 1 ≡ n = omega arith in rw (e, z) (get_or_at (list_of f n) (f (suc n)) [] 0 n (length_list f n))))
    (λ w. (let l = length_list f n in
    get_or-append (list_of f n) (f (suc n) ∷ []) 0 (k - 1) (omega (arith, l, w.0, w.1)) ∙ list_at f n k w))

pub list_same : {A : Type 0} (f g : ℕ → A) (n : ℕ) → ((k : ℕ) → Among n k → f k ≡ g k) → list_of f n ≡ list_of g n
unfolding list_of
list_same f g zero h = refl
list_same f g (suc n) h =
    rw (list_same f g n (λ k w. h k (w.0, omega (arith, w.1))), h (suc n) (omega arith, omega arith))
