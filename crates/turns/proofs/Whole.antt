-- The whole index: pairs and lists, one behind the other.
-- Assumes nothing.
use Prim.Native.Nat.{◌*◌, ◌+◌, ◌-◌, ◌≤◌, suc, zero, ℕ}
use mathlib.Core.Path.{◌∙◌, ◌≡◌, refl, sym}
use mathlib.Core.List.{List, ◌++◌}
use native.Mathlib.Omega.{arith}
use lib.ListN.{length, length-append}
use Rattle.judgement.specs.Buffer.{At, Kept, over}
use Rattle.judgement.specs.Scan.{sum_of}
use Rattle.turns.specs.Listed.{list_of}
use Rattle.judgement.specs.Sheet.{variables}
use Rattle.judgement.specs.Writer.{bytes_of, file_of, joined, numbers_of, pairs_of}
use Rattle.judgement.proofs.Complete.Bytes.{length_numbers}
use Rattle.judgement.proofs.Complete.Tables.{length_pairs}
use Rattle.judgement.proofs.Laws.Patch.{at_append, at_nothing, at_over}
use Rattle.judgement.proofs.Laws.Scan.{sum_same}
use Rattle.turns.proofs.Listed.{length_list}
use Rattle.judgement.proofs.Laws.Table.{joined_end, pairs_end}
use Rattle.turns.specs.Index.{Lists, index_end, start_of}
use Rattle.turns.specs.Turning.{index_of, mentioning}

-- the bodies of lists
abbrev pub bodies : (ℕ → List ℕ) → ℕ → List (List ℕ)
bodies f j = list_of (λ v. numbers_of 4 (f v)) j

pub joined_size : (f : ℕ → List ℕ) (j : ℕ) → length (joined (bodies f j)) ≡ 4 * sum_of (λ v. length (f v)) j
unfolding list_of joined sum_of
joined_size f zero = refl
joined_size f (suc j) =
    rw (joined_end (bodies f j) (numbers_of 4 (f (suc j))), length-append, joined_size f j, length_numbers 4 (f (suc j))) (omega arith)

module _ (n : ℕ) (size : ℕ → ℕ) (f : ℕ → List ℕ) (full : (v : ℕ) → length (f v) ≡ size v) (l : List ℕ) (s : Lists n size f l) where
  bodies_size : (j : ℕ) → length (joined (bodies f j)) ≡ 4 * sum_of size j
  bodies_size j = joined_size f j ∙ rw (sum_same (λ v. length (f v)) size j (λ v w. full v))

  pairs_to : (j : ℕ) → j ≤ n → At l 0 (pairs_of (8 * n) (bodies f j))
  unfolding list_of pairs_of start_of
  pairs_to zero h = at_nothing l 0
  pairs_to (suc j) h =
      let e : suc j - 1 ≡ j = omega arith in
      let z : 0 + 8 * j ≡ 8 * j = omega arith in
      rw (pairs_end (8 * n) (bodies f j) (numbers_of 4 (f (suc j))), bodies_size j, length_numbers 4 (f (suc j)))
      (at_append l 0 (pairs_of (8 * n) (bodies f j)) (bytes_of 4 (8 * n + 4 * sum_of size j) ++ bytes_of 4 (4 * length (f (suc j))))
      (pairs_to j (omega arith))
      (rw (length_pairs (8 * n) (bodies f j), length_list (λ v. numbers_of 4 (f v)) j, z)
      (rw e at (s.pairs (suc j) (omega arith, h)))))

  bodies_to : (j : ℕ) → j ≤ n → At l (8 * n) (joined (bodies f j))
  unfolding list_of joined start_of
  bodies_to zero h = at_nothing l (8 * n)
  bodies_to (suc j) h =
      let e : suc j - 1 ≡ j = omega arith in
      rw (joined_end (bodies f j) (numbers_of 4 (f (suc j))))
      (at_append l (8 * n) (joined (bodies f j)) (numbers_of 4 (f (suc j))) (bodies_to j (omega arith))
      (rw (bodies_size j) (rw e at (s.numbers (suc j) (omega arith, h)))))

  pub pairs_at : At l 0 (pairs_of (8 * n) (bodies f n))
  pairs_at = pairs_to n (omega arith)

  pub bodies_at : At l (8 * n) (joined (bodies f n))
  bodies_at = bodies_to n (omega arith)

-- the pairs go by the lengths alone
pub pairs_alike : (start n : ℕ) (f g : ℕ → List ℕ) → ((v : ℕ) → length (f v) ≡ length (g v)) → pairs_of start (bodies f n) ≡ pairs_of start (bodies g n)
unfolding list_of pairs_of
pairs_alike start zero f g e = refl
pairs_alike start (suc n) f g e =
    let a = joined_size f n in
    let b = joined_size g n in
    let c : sum_of (λ v. length (f v)) n ≡ sum_of (λ v. length (g v)) n = sum_same (λ v. length (f v)) (λ v. length (g v)) n (λ v w. e v) in
    let d : length (joined (bodies f n)) ≡ length (joined (bodies g n)) = omega (arith, a, b, c) in
    let q : length (numbers_of 4 (f (suc n))) ≡ length (numbers_of 4 (g (suc n))) =
    length_numbers 4 (f (suc n)) ∙ rw (e (suc n)) (sym (length_numbers 4 (g (suc n)))) in
    rw (pairs_end start (bodies f n) (numbers_of 4 (f (suc n))), pairs_end start (bodies g n) (numbers_of 4 (g (suc n))), pairs_alike start n f g e, d, q)

pub index_length : (s : List ℕ) → length (index_of s) ≡ index_end s
unfolding index_of file_of start_of
index_length s =
    let e : variables s + 1 - 1 ≡ variables s = omega arith in
    rw (
      length-append,
      length_pairs,
      length_list (λ v. numbers_of 4 (mentioning s v)) (variables s),
      joined_size (mentioning s) (variables s),
      e,
    )

-- pairs and lists in their places, and the rest as it was
pub index_whole : (s l₀ l : List ℕ) → At l 0 (pairs_of (8 * variables s) (bodies (mentioning s) (variables s)))
    → At l (8 * variables s) (joined (bodies (mentioning s) (variables s))) → Kept (index_end s) l₀ l → l ≡ over (index_of s) l₀
unfolding index_of file_of
index_whole s l₀ l p q k =
    let z : 0 + 8 * variables s ≡ 8 * variables s = omega arith in
    let there : At l 0 (index_of s) =
    rw (length_list (λ v. numbers_of 4 (mentioning s v)) (variables s), z)
    (at_append l 0 (pairs_of (8 * variables s) (bodies (mentioning s) (variables s))) (joined (bodies (mentioning s) (variables s))) p
    (rw (length_pairs (8 * variables s) (bodies (mentioning s) (variables s)), length_list (λ v. numbers_of 4 (mentioning s v)) (variables s), z) q)) in
    at_over l₀ l (index_of s) there (rw (index_length s) k)
