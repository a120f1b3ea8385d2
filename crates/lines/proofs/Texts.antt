-- Words and numbers put one after the other at the beginning of a buffer.
-- Assumes nothing.
use Prim.Native.Nat.{ℕ, ◌+◌, ◌≤◌}
use mathlib.Core.Path.{◌≡◌, ◌∙◌, sym}
use mathlib.Core.List.{List, ◌++◌, append_assoc}
use native.Mathlib.Omega.{arith}
use lib.ListN.{length, take, length-append}
use lib.Seq.{length-take-le}
use Rattle.io.specs.Counts.{IsPrefixLen}
use Rattle.judgement.specs.Buffer.{over}
use Rattle.judgement.proofs.Laws.Buffer.{over_next}

-- the buffer l is l₀ with v at its beginning, and v ends at a
pub record Put (v l₀ l : List ℕ) (a : ℕ) : Type 0 where
  pub end : a ≡ length v
  pub bytes : l ≡ over v l₀

-- a word w and a number's digits d, 20 at most, follow
pub field_put : {v l₀ l : List ℕ} {a : ℕ} (w d m : List ℕ) (r : ℕ) → Put v l₀ l a
    → (r ≡ a + length w + length d) × (r ≤ a + length w + 20) → m ≡ over (take a l ++ w ++ d) l → Put (v ++ w ++ d) l₀ m r
field_put {v} {l₀} {l} {a} w d m r p f e =
    record {
      end = let h = p.end in simp length-append (omega arith);
      bytes = e ∙ rw (append_assoc (take a l) w d, append_assoc v w d, over_next v (w ++ d) l₀ l a p.bytes (sym p.end));
    }

-- the length of what stands at the beginning counts bytes of the buffer
pub counts : (w l m : List ℕ) (r : ℕ) → r ≡ length w → m ≡ over w l → IsPrefixLen r m
counts w l m r e f =
    let h : r ≤ length m = rw f (simp length-append (omega arith)) in
    (h, sym (length-take-le r m h))
