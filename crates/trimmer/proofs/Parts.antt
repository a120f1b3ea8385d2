-- The small parts of a record, read and written: a citation, a body with other citations, a pair, what stands before the pairs.
-- Assumes nothing.
use Prim.Native.Nat.{ℕ, ◌+◌, ◌-◌, ◌*◌, ◌≤◌}
use mathlib.Core.Path.{◌≡◌, refl, sym, ap, ◌∙◌}
use mathlib.Core.Bool.{Bool, true, false, cond}
use mathlib.Core.List.{List, [], ◌++◌, append_assoc}
use native.Mathlib.Omega.{arith}
use lib.ListN.{length, get_or, take, drop, length-append, length-take, length-drop}
use lib.Seq.{length-take-le, take-append-le, drop-append-le, drop-drop}
use lib.Dec.{eqb}
use borrow.Author.Tests.{eq-eqb, ne_eqb}
use Rattle.judgement.specs.Scan.{one}
use Rattle.judgement.specs.Number.{number_at}
use Rattle.judgement.specs.Step.{kind_of, literal_count, cited}
use Rattle.judgement.specs.Writer.{bytes_of}
use Rattle.judgement.specs.Buffer.{over, put}
use Rattle.judgement.proofs.Complete.Bytes.{length_bytes, number_drop}
use Rattle.judgement.proofs.Laws.Buffer.{length_over, part_from, part_put, length_from, put_room, put_next}
use Rattle.layout.proofs.Put.{length_pair}
use Rattle.trimmer.specs.Trim.{citing, renumbered}
use Rattle.trimmer.specs.Work.{pair_if, head_bytes}
use Rattle.trimmer.proofs.Moving.{same_body}
use Rattle.trimmer.proofs.Marking.{is_four, not_four}
use Rattle.trimmer.proofs.Behind.{behind_written}

-- ---- what a body of kind 4 cites

-- number j, from 0, of a body whose tail begins at `at`
pub cited_number : (b : List ℕ) (j : ℕ) {at x : ℕ} → at ≡ 12 + 2 * literal_count b → x ≡ number_at b (at + 4 * j) 4 → x ≡ cited b (j + 1)
cited_number b j {at} {x} e h =
    let z : j + 1 - 1 ≡ j = omega arith in
    h ∙ number_drop b (at + 4 * j) 4
    ∙ sym (rw (z, ← e) (number_drop (drop at b) (4 * j) 4 ∙ rw (drop-drop (4 * j) at b)))

-- the body, and then two numbers over those that it cites
pub citing_put : (b : List ℕ) (x y : ℕ) (l₀ l p : List ℕ) (e : ℕ) → 12 + 2 * literal_count b + 10 ≡ length b → length b ≤ length l₀
    → l ≡ put b l₀ → e ≡ 12 + 2 * literal_count b → p ≡ put (bytes_of 4 x ++ bytes_of 4 y) (part_from e l)
    → part_put e l p ≡ over (citing b x y) l₀
unfolding citing
citing_put b x y l₀ l p e whole room el ee ep =
    let first : l ≡ over b l₀ = el ∙ put_room b l₀ room in
    let same = ap length first ∙ length_over b l₀ room in
    let two = length_pair x y in
    let from = length_from e l in
    let t : take e l ≡ take e b = rw first (take-append-le e b (drop (length b) l₀) (omega arith)) in
    let n : length (take e b) ≡ e = length-take-le e b (omega arith) in
    let m : length (take e b ++ (bytes_of 4 x ++ bytes_of 4 y)) ≡ e + 8 =
    length-append (take e b) (bytes_of 4 x ++ bytes_of 4 y) ∙ omega (arith, n, two) in
    let d : drop (e + 8) l ≡ drop (e + 8) b ++ drop (length b) l₀ = rw first (drop-append-le (e + 8) b (drop (length b) l₀) (omega arith)) in
    let f : drop 8 (drop e b) ≡ drop (e + 8) b = drop-drop 8 e b in
    let k : length (take e b ++ (bytes_of 4 x ++ (bytes_of 4 y ++ drop (e + 8) b))) ≡ length b =
    (let a = length-append (take e b) (bytes_of 4 x ++ (bytes_of 4 y ++ drop (e + 8) b)) in
    let c = length-append (bytes_of 4 x) (bytes_of 4 y ++ drop (e + 8) b) in
    let g = length-append (bytes_of 4 y) (drop (e + 8) b) in
    let h = length-drop (e + 8) b in
    omega (arith, a, c, g, h, n, length_bytes 4 x, length_bytes 4 y)) in
    behind_written e l (bytes_of 4 x ++ bytes_of 4 y) p (omega arith)
    (ep ∙ put_room (bytes_of 4 x ++ bytes_of 4 y) (part_from e l) (omega (arith, two, from)))
    ∙ rw (t, m, d, ← ee, f, k) (simp append_assoc)

-- ---- a pair where there is a mark

pub pair_unmarked : (mark offset size : ℕ) → (mark ≡ 1 → ⊥) → pair_if mark offset size ≡ []
unfolding pair_if
pair_unmarked mark offset size h = rw (ne_eqb mark 1 h)

pair_marked : (mark offset size : ℕ) → mark ≡ 1 → pair_if mark offset size ≡ bytes_of 4 offset ++ bytes_of 4 size
unfolding pair_if
pair_marked mark offset size h = rw (eq-eqb mark 1 h)

pub pair_length : (mark offset size : ℕ) → length (pair_if mark offset size) ≡ 8 * one (eqb mark 1)
unfolding pair_if
pair_length mark offset size = go (eqb mark 1)
  where
    go : (b : Bool) → length (cond b (bytes_of 4 offset ++ bytes_of 4 size) []) ≡ 8 * one b
    go true = length_pair offset size
    go false = refl

pub pair_put : (mark offset size : ℕ) (l p : List ℕ) → mark ≡ 1 → length (pair_if mark offset size) ≤ length l
    → p ≡ put (bytes_of 4 offset ++ bytes_of 4 size) l → p ≡ over (pair_if mark offset size) l
pair_put mark offset size l p e room ep =
    let z = pair_marked mark offset size e in
    rw z (ep ∙ put_room (bytes_of 4 offset ++ bytes_of 4 size) l (rw z at room))

-- ---- what stands before the pairs

pub head_put : (r : List ℕ) (table count : ℕ) (l₀ l p q : List ℕ) → 12 ≤ table → table ≤ length r → table ≤ length l₀
    → l ≡ put (take (8 - 0) (drop 0 r)) l₀ → p ≡ put (bytes_of 4 count) (part_from 8 l)
    → q ≡ put (take (table - 12) (drop 12 r)) (part_from 12 (part_put 8 l p))
    → part_put 12 (part_put 8 l p) q ≡ over (head_bytes r table count) l₀
unfolding head_bytes
head_put r table count l₀ l p q h g room el ep eq =
    let n : length (take 8 r) ≡ 8 = length-take 8 r ∙ omega arith in
    let b = length_bytes 4 count in
    let a : l ≡ over (take 8 r) l₀ = el ∙ put_room (take 8 r) l₀ (omega (arith, n)) in
    let la = ap length a ∙ length_over (take 8 r) l₀ (omega (arith, n)) in
    let fa = length_from 8 l in
    let m : length (take 8 r ++ bytes_of 4 count) ≡ 12 = rw (length-append, n, length_bytes 4 count) in
    let c = put_next 8 l₀ l (take 8 r) (bytes_of 4 count) p a n (ep ∙ put_room (bytes_of 4 count) (part_from 8 l) (omega (arith, b, fa, la))) in
    let lc = ap length c ∙ length_over (take 8 r ++ bytes_of 4 count) l₀ (omega (arith, m)) in
    let fc = length_from 12 (part_put 8 l p) in
    let d = length-take (table - 12) (drop 12 r) in
    put_next 12 l₀ (part_put 8 l p) (take 8 r ++ bytes_of 4 count) (take (table - 12) (drop 12 r)) q c m
    (eq ∙ put_room (take (table - 12) (drop 12 r)) (part_from 12 (part_put 8 l p)) (omega (arith, d, fc, lc)))

-- ---- a body, renumbered

module _ (number : ℕ → ℕ) (b l p : List ℕ) (room : length b ≤ length l) where
  -- another kind is as it was
  pub body_other : (get_or b 0 0 ≡ 4 → ⊥) → p ≡ put b l → p ≡ over (renumbered (kind_of b) number b) l
  body_other h e = rw (same_body (kind_of b) number b (not_four b h)) (e ∙ put_room b l room)

  pub body_citing : {x y i j : ℕ} → get_or b 0 0 ≡ 4 → i ≡ cited b 1 → j ≡ cited b 2 → x ≡ number i → y ≡ number j
      → p ≡ over (citing b x y) l → p ≡ over (renumbered (kind_of b) number b) l
  unfolding renumbered
  body_citing {x} {y} h ei ej ex ey e = rw (is_four b h, ← ei, ← ej, ← ex, ← ey) e
