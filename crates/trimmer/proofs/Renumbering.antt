-- A body that cites other steps instead: what it says beside them stays.
-- Assumes nothing.
use Prim.Native.Nat.{ℕ, zero, suc, ◌+◌, ◌*◌, ◌^◌, ◌≤◌, ◌<◌}
use mathlib.Core.Path.{◌≡◌, refl, sym, ◌∙◌}
use mathlib.Core.List.{List, ◌++◌, append_assoc}
use native.Mathlib.Omega.{arith}
use lib.ListN.{length, take, drop, length-append, length-drop, get_or-append}
use lib.Seq.{length-take-le, get_or-take, drop_at, take_at, take-add}
use Rattle.judgement.specs.Number.{number_at}
use Rattle.judgement.specs.declared.Kind.{Kind}
use Rattle.judgement.specs.declared.Kind.TheVariants.{Copy, Cost, IndependentSet, Resolvent, WeightedSet, Unknown}
use Rattle.judgement.specs.Step.{literal_count, bound, literals_at, literals, tail, cited, pivot_of}
use Rattle.judgement.specs.Writer.{bytes_of}
use Rattle.judgement.specs.Facts.{StepLayout, Resolves}
use Rattle.judgement.proofs.Complete.Bytes.{length_bytes, number_drop, number_of, drop_past}
use Rattle.trimmer.specs.Trim.{citing, renumbered}

-- a number that ends within the first e bytes reads the same whatever follows them
pub number_front : (e : ℕ) (b rest : List ℕ) → e ≤ length b → (w at : ℕ) → at + w ≤ e
    → number_at (take e b ++ rest) at w ≡ number_at b at w
unfolding number_at
number_front e b rest l zero at h = refl
number_front e b rest l (suc w) at h =
    let z = length-take-le e b l in
    rw (
      get_or-append (take e b) rest 0 at (omega (arith, z)),
      get_or-take e b at 0 (omega arith),
      number_front e b rest l w (at + 1) (omega arith),
    )

-- so does a part that ends there
pub part_front : (m n : ℕ) (b rest : List ℕ) → m + n ≤ length b → take n (drop m (take (m + n) b ++ rest)) ≡ take n (drop m b)
part_front m n b rest l =
    let d = length-drop m b in
    rw (
      take-add m n b,
      append_assoc (take m b) (take n (drop m b)) rest,
      drop_at (take m b) (take n (drop m b) ++ rest) m (length-take-le m b (omega arith)),
      take_at (take n (drop m b)) rest n (length-take-le n (drop m b) (omega (arith, d))),
    )

-- c says what the body b says but for the steps that it cites
pub record Alike (b c : List ℕ) : Type 0 where
  pub first_is : number_at c 0 1 ≡ number_at b 0 1
  pub zero_is : number_at c 1 1 ≡ number_at b 1 1
  pub count_is : literal_count c ≡ literal_count b
  pub bound_is : bound c ≡ bound b
  pub literals_are : literals c ≡ literals b
  pub pivot_is : pivot_of c ≡ pivot_of b
  pub tail_size : length (tail c) ≡ length (tail b)
  pub size : length c ≡ length b

alike_self : (b : List ℕ) → Alike b b
alike_self b =
    record { first_is = refl; zero_is = refl; count_is = refl; bound_is = refl; literals_are = refl; pivot_is = refl; tail_size = refl; size = refl }

-- ---- a body of kind 4

module _ (b : List ℕ) (x y : ℕ) (size : literals_at + 2 * literal_count b + 10 ≡ length b) where
  -- where the tail begins
  abbrev front : ℕ
  front = literals_at + 2 * literal_count b

  abbrev behind_first : List ℕ
  behind_first = bytes_of 4 y ++ drop 8 (tail b)

  abbrev new : List ℕ
  new = citing b x y

  front_size : length (take front b) ≡ front
  front_size = length-take-le front b (omega arith)

  new_number : (at w : ℕ) → at + w ≤ front → number_at new at w ≡ number_at b at w
  unfolding citing
  new_number at w h = number_front front b (bytes_of 4 x ++ behind_first) (omega arith) w at h

  new_count : literal_count new ≡ literal_count b
  new_count = new_number 2 2 (omega arith)

  new_tail : tail new ≡ bytes_of 4 x ++ behind_first
  unfolding citing
  new_tail = rw new_count (drop_at (take front b) (bytes_of 4 x ++ behind_first) front front_size)

  new_4 : drop 4 (tail new) ≡ behind_first
  new_4 = drop_past (tail new) 0 4 (bytes_of 4 x) behind_first new_tail (length_bytes 4 x)

  new_8 : drop 8 (tail new) ≡ drop 8 (tail b)
  new_8 = drop_past (tail new) 4 4 (bytes_of 4 y) (drop 8 (tail b)) new_4 (length_bytes 4 y)

  new_size : length new ≡ length b
  unfolding citing
  new_size =
      let z = front_size in
      simp (length-append, length_bytes, length-drop, z) (omega arith)

  new_literals : literals new ≡ literals b
  unfolding citing
  new_literals = rw new_count (part_front literals_at (2 * literal_count b) b (bytes_of 4 x ++ behind_first) (omega arith))

  pub new_first : x < 256 ^ 4 → cited (citing b x y) 1 ≡ x
  new_first h = number_of 4 x 0 (tail new) behind_first new_tail h

  pub new_second : y < 256 ^ 4 → cited (citing b x y) 2 ≡ y
  new_second h = number_of 4 y 4 (tail new) (drop 8 (tail b)) new_4 h

  new_alike : Alike b new
  new_alike =
      record {
        first_is = new_number 0 1 (omega arith);
        zero_is = new_number 1 1 (omega arith);
        count_is = new_count;
        bound_is = new_number 4 8 (omega arith);
        literals_are = new_literals;
        pivot_is = number_drop (tail new) 8 2 ∙ rw new_8 (sym (number_drop (tail b) 8 2));
        tail_size = simp (length-drop, new_size, new_count);
        size = new_size;
      }

  cites_again : citing new x y ≡ new
  unfolding citing
  cites_again = rw (new_8, new_count, take_at (take front b) (bytes_of 4 x ++ behind_first) front front_size)

  -- numbers that leave x and y leave the body
  pub new_again : (again : ℕ → ℕ) → x < 256 ^ 4 → y < 256 ^ 4 → again x ≡ x → again y ≡ y
      → renumbered Resolvent again (citing b x y) ≡ citing b x y
  unfolding renumbered
  new_again again f g ex ey = rw (new_first f, new_second g, ex, ey) cites_again

-- any kind: only the body of kind 4 changes
pub renumbered_alike : (K : Kind) (number : ℕ → ℕ) (b : List ℕ) → (K ≡ Resolvent → 12 + 2 * literal_count b + 10 ≡ length b)
    → Alike b (renumbered K number b)
unfolding renumbered
renumbered_alike Copy number b h = alike_self b
renumbered_alike Cost number b h = alike_self b
renumbered_alike IndependentSet number b h = alike_self b
renumbered_alike Resolvent number b h = new_alike b (number (cited b 1)) (number (cited b 2)) (h refl)
renumbered_alike WeightedSet number b h = alike_self b
renumbered_alike Unknown number b h = alike_self b

-- ---- the facts of a step, for a body that is alike

pub layout_alike : (s b c : List ℕ) → Alike b c → StepLayout s b → StepLayout s c
layout_alike s b c a h =
    record {
      room = rw (a.count_is, a.size) h.room;
      zero = a.zero_is ∙ h.zero;
      list = rw a.literals_are h.list;
    }

pub resolves_alike : (x y b x' y' b' : List ℕ) → Alike x x' → Alike y y' → Alike b b' → Resolves x y b → Resolves x' y' b'
resolves_alike x y b x' y' b' ax ay ab h =
    record {
      pivots = record {
        in_x = rw (ax.literals_are, ab.pivot_is) h.pivots.in_x;
        in_y = rw (ay.literals_are, ab.pivot_is) h.pivots.in_y;
      };
      weakens = record {
        literals = rw (ax.literals_are, ay.literals_are, ab.literals_are, ab.pivot_is) h.weakens.literals;
        bound = rw (ax.bound_is, ay.bound_is, ab.bound_is) h.weakens.bound;
      };
    }
