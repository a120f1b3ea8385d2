-- A round of forcing in the table: what is counted down, and which clauses are low.
-- Assumes nothing.
use Prim.Native.Nat.{ℕ, ◌+◌, ◌-◌, ◌*◌, ◌/◌, ◌%◌, ◌≤◌, ◌<◌}
use mathlib.Core.Path.{◌≡◌, refl, sym, ap, ◌∙◌}
use mathlib.Core.List.{List}
use mathlib.Core.Logic.{inl}
use native.Mathlib.Omega.{arith}
use lib.Dec.{leb}
use Rattle.judgement.specs.Meaning.{variable_of, Problem}
use Rattle.judgement.specs.Facts.{Among}
use Rattle.judgement.proofs.Laws.Scan.{and_l}
use Rattle.search.specs.declared.Size.{Size}
use Rattle.search.specs.declared.Work.{Work}
use Rattle.search.specs.Node.{has}
use Rattle.search.specs.Tables.{in_row, FineRows}
use Rattle.search.specs.Work.{node_of, at_node}
use Rattle.search.specs.Counts.{words_for, plane, held, Counts, Outside, Below, CountedDown, LowInside}

pub outside_self : (at : ℕ) (l : List ℕ) → Outside at l l
outside_self at l i h = refl

pub outside_trans : (at : ℕ) (a b c : List ℕ) → Outside at a b → Outside at b c → Outside at a c
outside_trans at a b c x y i h = y i h ∙ x i h

-- what is low is a clause
pub low_clauses : (size : Size) (masks rows : List ℕ) (c at : ℕ) (before after : List ℕ) → FineRows size masks rows → size.clauses ≤ 4096
    → Among 64 (variable_of c) → CountedDown rows c (64 * words_for size.clauses) at before after → LowInside size.clauses after at
low_clauses size masks rows c at before after fine few w down k a t =
    fine.inside c k w (a.0, omega (arith, a.1, few)) (and_l (in_row rows c k) (leb (held after at k) 1) (sym (down.low k a) ∙ t))

-- where nothing is to be looked at, the node is all that counts
pub counts_settled : (P : Problem) (table : List ℕ) (at : ℕ) (w : Work) → w.todo ≡ 0 → Counts P table at w → Counts P table at (at_node (node_of w))
counts_settled P table at w z counts k a = rw z at (counts k a)

-- ---- the levels below

pub below_trans : (at : ℕ) (a b c : List ℕ) → Below at a b → Below at b c → Below at a c
below_trans at a b c x y i h = y i h ∙ x i h

pub outside_below : (at : ℕ) (a b : List ℕ) → Outside at a b → Below at a b
outside_below at a b x i h = x i (inl h)

-- a level that is as it was holds what it held
pub counts_below : (P : Problem) (at : ℕ) (a b : List ℕ) (w : Work) → P.clauses ≤ 4096 → Below (at + 320) a b → Counts P a at w → Counts P b at w
counts_below P at a b w few same counts k k-in =
    let l = counts k k-in in
    let e : (p : ℕ) → p < 4 → plane b at p k ≡ plane a at p k =
    λ p h. ap (λ (x : ℕ). has x ((k - 1) % 64 + 1)) (same (at + 64 * p + (k - 1) / 64) (omega (arith, h, few, k-in.0, k-in.1))) in
    rw (e 0 (omega arith), e 1 (omega arith), e 2 (omega arith), e 3 (omega arith)) l

pub counts_copied : (P : Problem) (at words : ℕ) (a b : List ℕ) (w : Work) → words ≡ words_for P.clauses
    → ((k : ℕ) → Among (64 * words) k → held b (at + 320) k ≡ held a at k) → Counts P a at w → Counts P b (at + 320) w
counts_copied P at words a b w e same counts k k-in =
    let l = counts k k-in in
    let q = same k (k-in.0, omega (arith, e, k-in.1)) in
    omega (arith, l, q)
