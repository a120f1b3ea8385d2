-- The loops that write bodies and pairs: what stands in the buffer after k of n steps.
-- Assumes nothing.
use Prim.Native.Nat.{ℕ, ◌+◌, ◌*◌, ◌≤◌, ◌<◌}
use mathlib.Core.Path.{◌≡◌, refl, sym, ap, ◌∙◌}
use mathlib.Core.List.{List}
use native.Mathlib.Omega.{arith}
use lib.ListN.{length, get_or, length-append, length-map}
use lib.Dec.{eqb}
use Rattle.judgement.specs.Scan.{one, count_of}
use Rattle.judgement.specs.Buffer.{over}
use Rattle.judgement.proofs.Laws.Buffer.{length_over, part_from, part_put, put_next}
use Rattle.judgement.proofs.Complete.Tables.{length_pairs}
use Rattle.trimmer.specs.Trim.{kept, chosen, new_body}
use Rattle.trimmer.specs.Work.{Marked, kept_body, bodies_to, pair_if, pairs_to}
use Rattle.trimmer.proofs.Chosen.{length_chosen, count_at_most}
use Rattle.trimmer.proofs.Steps.{bodies_none, bodies_next, next_pair, pairs_none, pairs_next, grows_by, grows, grows_room}
use Rattle.trimmer.proofs.Parts.{pair_length}

-- ---- bodies

pub bodies_by : (s r : List ℕ) (k : ℕ) → length (bodies_to s r (k + 1)) ≡ length (bodies_to s r k) + length (kept_body s r (k + 1))
bodies_by s r k = rw (bodies_next s r k) (length-append (bodies_to s r k) (kept_body s r (k + 1)))

module _ (s r : List ℕ) (n : ℕ) where
  pub bodies_within : (k : ℕ) → k ≤ n → length (bodies_to s r k) ≤ length (bodies_to s r n)
  bodies_within = grows (bodies_to s r) (λ k. kept_body s r (k + 1)) n (λ k h. bodies_next s r k)

  pub bodies_room : (k : ℕ) → k < n → length (bodies_to s r k) + length (kept_body s r (k + 1)) ≤ length (bodies_to s r n)
  bodies_room = grows_room (bodies_to s r) (λ k. kept_body s r (k + 1)) n (λ k h. bodies_next s r k)

-- the bodies of the first k steps stand at the beginning, up to `pos`
pub record BodiesSo (s r : List ℕ) (k pos : ℕ) (out₀ out : List ℕ) : Type 0 where
  pub pos_is : pos ≡ length (bodies_to s r k)
  pub done : out ≡ over (bodies_to s r k) out₀
  pub size : length out ≡ length out₀

pub bodies_start : (s r out₀ : List ℕ) → BodiesSo s r 0 0 out₀ out₀
bodies_start s r out₀ = let z = bodies_none s r in record { pos_is = ap length (sym z); done = rw z; size = refl }

module _ (s r : List ℕ) (n : ℕ) (out₀ : List ℕ) (room : length (bodies_to s r n) ≤ length out₀) where
  -- there is room for the next
  pub bodies_fit : (k pos : ℕ) (out : List ℕ) → BodiesSo s r k pos out₀ out → k < n → pos + length (kept_body s r (k + 1)) ≤ length out
  bodies_fit k pos out so h = let z = bodies_room s r n k h in omega (arith, z, so.pos_is, so.size)

  pub bodies_turn : (k pos : ℕ) (out p : List ℕ) (size : ℕ) → BodiesSo s r k pos out₀ out → k < n → size ≡ length (kept_body s r (k + 1))
      → p ≡ over (kept_body s r (k + 1)) (part_from pos out) → BodiesSo s r (k + 1) (pos + size) out₀ (part_put pos out p)
  bodies_turn k pos out p size so h es e =
      let by = bodies_by s r k in
      let v = bodies_room s r n k h in
      let g : part_put pos out p ≡ over (bodies_to s r (k + 1)) out₀ =
      put_next pos out₀ out (bodies_to s r k) (kept_body s r (k + 1)) p so.done (sym so.pos_is) e ∙ rw (bodies_next s r k) in
      record {
        pos_is = omega (arith, by, so.pos_is, es);
        done = g;
        size = ap length g ∙ length_over (bodies_to s r (k + 1)) out₀ (omega (arith, v, by));
      }

-- ---- pairs

-- 8 bytes for each kept one
pub length_pairs_to : (s r : List ℕ) (start k : ℕ) → length (pairs_to s r start k) ≡ 8 * count_of (kept s r) k
unfolding pairs_to
length_pairs_to s r start k =
    length_pairs start _ ∙ rw (length-map (chosen (kept s r) k) (new_body s r), length_chosen (kept s r) k)

-- the pairs of the first k steps stand at the beginning, up to `at`, and the next body begins at `next`
pub record PairsSo (s r : List ℕ) (start k next at : ℕ) (out₀ out : List ℕ) : Type 0 where
  pub next_is : next ≡ start + length (bodies_to s r k)
  pub at_is : at ≡ length (pairs_to s r start k)
  pub done : out ≡ over (pairs_to s r start k) out₀
  pub size : length out ≡ length out₀

pub pairs_start : (s r : List ℕ) (start : ℕ) (out₀ : List ℕ) → PairsSo s r start 0 start 0 out₀ out₀
pairs_start s r start out₀ =
    let b = ap length (bodies_none s r) in
    let p = pairs_none s r start in
    record {
      next_is = omega (arith, b);
      at_is = ap length (sym p);
      done = rw p;
      size = refl;
    }

module _ (s r : List ℕ) (table : ℕ) (marks : List ℕ) (m : Marked s r table marks) (start : ℕ) (out₀ : List ℕ)
    (room : length (pairs_to s r start (length marks)) ≤ length out₀) where
  abbrev n : ℕ
  n = length marks

  -- there is room for the next, if there is one
  pub pairs_fit : (k next at : ℕ) (out : List ℕ) (size : ℕ) → PairsSo s r start k next at out₀ out → k < length marks
      → size ≡ length (kept_body s r (k + 1)) → at + length (pair_if (get_or marks k 0) next size) ≤ length out
  pairs_fit k next at out size so h e =
      let z = grows_room (pairs_to s r start) (next_pair s r marks start) n (pairs_next s r table marks m start) k h in
      rw (so.next_is, e) (omega (arith, z, so.at_is, so.size))

  -- it takes 8 bytes, if there is one
  pub pairs_small : (k next at : ℕ) (out : List ℕ) → PairsSo s r start k next at out₀ out → at ≤ 8 * k
  pairs_small k next at out so =
      let a = length_pairs_to s r start k in
      let b = count_at_most (kept s r) k in
      omega (arith, a, b, so.at_is)

  pub pairs_turn : (k next at : ℕ) (out p : List ℕ) (size x : ℕ) → PairsSo s r start k next at out₀ out → k < length marks
      → size ≡ length (kept_body s r (k + 1)) → x ≡ one (eqb (get_or marks k 0) 1)
      → p ≡ over (pair_if (get_or marks k 0) next size) (part_from at out)
      → PairsSo s r start (k + 1) (next + size) (at + 8 * x) out₀ (part_put at out p)
  pairs_turn k next at out p size x so h e ex ep =
      let by = bodies_by s r k in
      let pn = pairs_next s r table marks m start k h in
      let pg = grows_by (pairs_to s r start) (next_pair s r marks start) n (pairs_next s r table marks m start) k h in
      let pw = grows (pairs_to s r start) (next_pair s r marks start) n (pairs_next s r table marks m start) (k + 1) (omega arith) in
      let pl = pair_length (get_or marks k 0) (start + length (bodies_to s r k)) (length (kept_body s r (k + 1))) in
      let q : p ≡ over (next_pair s r marks start k) (part_from at out) = rw (so.next_is, e) at ep in
      let g : part_put at out p ≡ over (pairs_to s r start (k + 1)) out₀ =
      put_next at out₀ out (pairs_to s r start k) (next_pair s r marks start k) p so.done (sym so.at_is) q ∙ rw pn in
      record {
        next_is = omega (arith, by, so.next_is, e);
        at_is = rw ex (omega (arith, pg, pl, so.at_is));
        done = g;
        size = ap length g ∙ length_over (pairs_to s r start (k + 1)) out₀ (omega (arith, pw));
      }
