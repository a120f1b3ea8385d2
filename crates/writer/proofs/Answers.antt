-- The writer's answer and buffer from the findings on the way.
-- Assumes nothing.
use Prim.Native.Nat.{ℕ, ◌≤◌, ◌<◌}
use mathlib.Core.Path.{◌≡◌, refl, sym, ap, ◌∙◌}
use mathlib.Core.Bool.{true≢false}
use mathlib.Core.List.{List}
use native.Mathlib.Omega.{arith}
use native.Mathlib.Decide.{dec_lt}
use lib.ListN.{length, drop}
use lib.Seq.{take_at, drop_at}
use lib.Dec.{leb}
use borrow.Author.Tests.{le-leb, lt-leb}
use Rattle.std.specs.Prelude.{Result, Ok, Err}
use Rattle.std.specs.Result.{result_and}
use Rattle.judgement.specs.declared.Refusal.{Refusal}
use Rattle.judgement.specs.declared.Written.{Written}
use Rattle.judgement.specs.Finding.{Finding, fault, is_fine, need, ◌then◌}
use Rattle.judgement.specs.Sheet.{alone_finding}
use Rattle.judgement.specs.Buffer.{over, told_by, written_by, left_by}
use Rattle.judgement.specs.Facts.{ValidSheet}
use Rattle.judgement.proofs.Laws.Buffer.{length_over}
use Rattle.judgement.proofs.Facts.Layouts.{alone_valid, valid_alone, alone_number}
use Rattle.judgement.proofs.Facts.Alone.{judge_alone}
use Rattle.writer.specs.Canonical.{canonical, shortage, write_finding, writing, leaves}
use Rattle.writer.specs.Promises.{WrittenWhen}

-- ---- 25, or enough room

pub short_room : (s : List ℕ) (room : ℕ) → room < length (canonical s) → shortage s room ≡ fault 25 0
unfolding shortage
short_room s room h = rw (lt-leb (length (canonical s)) room h)

pub room_enough : (s : List ℕ) (room : ℕ) → length (canonical s) ≤ room → shortage s room ≡ Ok tt
unfolding shortage
room_enough s room h = rw (le-leb (length (canonical s)) room h)

-- the answer and the buffer are those after this finding
abbrev pub Told : Finding → List ℕ → List ℕ → Written → List ℕ → Type 0
Told f w out r left = (r ≡ written_by f w) × (left ≡ left_by f w out)

pub too_short : (s out : List ℕ) → length out < length (canonical s)
    → Told (shortage s (length out)) (canonical s) out (record { number = 25; place = 0; length = 0 }) out
too_short s out h = let e = short_room s (length out) h in (rw e, rw e)

-- ---- what the answer says

-- which of the three it is, by the finding f
data Case (s : List ℕ) (room : ℕ) (f : Finding) : Type 0 where
  enough : ValidSheet s → length (canonical s) ≤ room → f ≡ Ok tt → Case s room f
  short : ValidSheet s → room < length (canonical s) → f ≡ fault 25 0 → Case s room f
  unfit : (N P : ℕ) → (ValidSheet s → ⊥) → alone_finding s ≡ fault N P → f ≡ fault N P → Case s room f

case_of : (s : List ℕ) (room : ℕ) → Case s room (write_finding s room)
unfolding write_finding shortage
case_of s room = go (alone_finding s) refl (dec_lt room (length (canonical s)))
  where
    go : (f : Finding) → alone_finding s ≡ f → Dec (room < length (canonical s))
        → Case s room (f then need (leb (length (canonical s)) room) 25 0)
    go (Ok _) e (yes h) = short (alone_valid s (ap is_fine e)) h (rw (lt-leb (length (canonical s)) room h))
    go (Ok _) e (no h) =
        let l : length (canonical s) ≤ room = omega arith in
        enough (alone_valid s (ap is_fine e)) l (rw (le-leb (length (canonical s)) room l))
    go (Err x) e d = unfit x.number x.place (λ v. true≢false (sym (valid_alone s v) ∙ ap is_fine e)) e refl

module _ (s out : List ℕ) where
  when_fine : ValidSheet s → length (canonical s) ≤ length out
      → WrittenWhen s out (record { number = 0; place = 0; length = length (canonical s) }) (over (canonical s) out)
  when_fine v h = record {
    written = (λ z. (v, h), λ z. refl);
    short = (λ z. absurd (omega (arith, z)), λ (z, l). absurd (omega arith));
    unfit = (λ z. absurd (omega (arith, z.0)), λ z. absurd (z v));
    place = λ z. refl;
    told = λ u. absurd (u v);
    size = λ z. refl;
    none_written = λ z. absurd (z refl);
    begins = λ z. take_at (canonical s) (drop (length (canonical s)) out) (length (canonical s)) refl;
    behind = drop_at (canonical s) (drop (length (canonical s)) out) (length (canonical s)) refl;
    same_room = length_over (canonical s) out h;
  }

  when_short : ValidSheet s → length out < length (canonical s) → WrittenWhen s out (record { number = 25; place = 0; length = 0 }) out
  when_short v h = record {
    written = (λ z. absurd (omega (arith, z)), λ (z, l). absurd (omega arith));
    short = (λ z. (v, h), λ z. refl);
    unfit = (λ z. absurd (omega (arith, z.1)), λ z. absurd (z v));
    place = λ z. refl;
    told = λ u. absurd (u v);
    size = λ z. absurd (omega (arith, z));
    none_written = λ z. refl;
    begins = λ z. absurd (omega (arith, z));
    behind = refl;
    same_room = refl;
  }

  when_unfit : (N P : ℕ) → (ValidSheet s → ⊥) → alone_finding s ≡ fault N P
      → WrittenWhen s out (record { number = N; place = P; length = 0 }) out
  when_unfit N P u e =
      let n = alone_number s N P e in
      record {
        written = (λ z. absurd (omega (arith, n.0, z)), λ (z, l). absurd (u z));
        short = (λ z. absurd (omega (arith, n.1, z)), λ (z, l). absurd (u z));
        unfit = (λ z. u, λ z. n);
        place = λ z. absurd (u z);
        told = λ z q h. judge_alone s q N P h e;
        size = λ z. absurd (omega (arith, n.0, z));
        none_written = λ z. refl;
        begins = λ z. absurd (omega (arith, n.0, z));
        behind = refl;
        same_room = refl;
      }

pub written_when : (s out left : List ℕ) (r : Written) → r ≡ writing s (length out) → left ≡ leaves s out → WrittenWhen s out r left
unfolding writing leaves
written_when s out left r er el = by_case (case_of s (length out))
  where
    by_case : Case s (length out) (write_finding s (length out)) → WrittenWhen s out r left
    by_case (enough v h e) = rw (er, el, e) (when_fine s out v h)
    by_case (short v h e) = rw (er, el, e) (when_short s out v h)
    by_case (unfit N P u a e) = rw (er, el, e) (when_unfit s out N P u a)

-- the answer of what is told
module _ (s : List ℕ) (room : ℕ) where
  pub told_is : {told : Result ℕ Refusal} → told ≡ result_and (write_finding s room) (Ok (length (canonical s))) → told_by told ≡ writing s room
  unfolding writing
  told_is e = rw e (go (write_finding s room))
    where
      go : (f : Finding) → told_by (result_and f (Ok (length (canonical s)))) ≡ written_by f (canonical s)
      go (Ok _) = refl
      go (Err x) = refl
