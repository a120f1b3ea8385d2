-- Demand 3: what acceptance and "within" say of every valid sheet, and which claims about a sheet of at most 16 variables are
-- accepted.
-- Assumes nothing.
use Prim.Native.Nat.{ℕ, ◌-◌, ◌*◌, ◌≤◌, ◌<◌}
use mathlib.Core.Path.{◌≡◌, refl, sym, ◌∙◌}
use mathlib.Core.Bool.{true, false}
use mathlib.Core.List.{List}
use native.Mathlib.Omega.{arith}
use native.Mathlib.Nat.{le_refl}
use lib.ListN.{replicate, length-replicate}
use borrow.Author.Tests.{le-leb, lt-leb}
use Rattle.judgement.specs.Meaning.{Assignment, cost, Model, Least, Unsatisfiable, none}
use Rattle.judgement.specs.Sheet.{variables, problem_of}
use Rattle.judgement.specs.Record.{assigned, assignment_size}
use Rattle.judgement.specs.Writer.{assignment_of, record_of}
use Rattle.judgement.specs.Facts.{ValidSheet}
use Rattle.judgement.specs.Judgement.{judgement, says_least, says_within, accepts}
use Rattle.judgement.specs.Demands.{IsBytes, Sound, SoundWithin, SomeSteps, Complete}
use Rattle.judgement.proofs.Laws.Answers.{least_accepts, within_passes}
use Rattle.judgement.proofs.Facts.Accepted.{exactly_when, passes_before}
use Rattle.judgement.proofs.Order.Shape.{shape}
use Rattle.judgement.proofs.Laws.Cost.{cost_below_none}
use Rattle.judgement.proofs.Sound.Claim.{bound_holds, sound_facts, within_facts}
use Rattle.judgement.proofs.Complete.Typed.{bodies_of}
use Rattle.judgement.proofs.Complete.Tree.{tree}
use Rattle.judgement.proofs.Complete.Packed.{packed_length, packed_bytes, clear_bytes}
use Rattle.judgement.proofs.Complete.Written.{record_claim, record_packed, record_clear, written_bytes, written_acceptable}
use Rattle.judgement.proofs.Complete.Least.{Agree, model_local, cost_local, least_exists}

pub sound : (s r : List ℕ) → IsBytes s → Sound s r (judgement s r)
sound s r bytes = record {
  least = λ ok. (sound_facts s r bytes ((exactly_when s r).accepted.0 ok)).0;
  none_exists = λ ok. (sound_facts s r bytes ((exactly_when s r).accepted.0 ok)).1;
}

pub sound_within : (s r : List ℕ) → SoundWithin s r (judgement s r)
sound_within s r ok =
    let shaped = shape s r in
    let cost_is = (shaped.passed (within_passes (judgement s r) ok)).1 in
    let gap_is = shaped.gap_is ok in
    let (model, claimed, below) = within_facts s r ((exactly_when s r).within.0 ok) in
    (model, claimed ∙ sym cost_is, omega (arith, cost_is, gap_is), λ β m. omega (arith, cost_is, gap_is, below β m))

-- so there is a least cost, and it lies between C minus G and C
pub least_between : (s r : List ℕ) → says_within (judgement s r) ≡ true
    → (L : ℕ) × Least (problem_of s) L × ((judgement s r).cost - (judgement s r).gap ≤ L) × (L ≤ (judgement s r).cost)
least_between s r ok =
    let (model, cost_is, small, below) = sound_within s r ok in
    let (L, least) = least_exists s (passes_before s r (within_passes (judgement s r) ok)).stored.sheet (assigned r) model in
    let (β, mb, e) = least.reached in
    (L, least, omega (arith, below β mb, e), omega (arith, least.below (assigned r) model, cost_is))

-- ---- a model's record

-- the assignment that a record of α stores says what α says of variables 1 to n
stored_agrees : (c n : ℕ) (α : Assignment) (bodies : List (List ℕ)) → Agree n α (assigned (record_of c (assignment_of n α) bodies))
stored_agrees c n α bodies v w =
    let h : v ≤ 8 * assignment_size n = omega (arith, w.1) in
    sym (record_packed c n α bodies v w.0 h ∙ rw (le-leb v n w.1))

stored_spare : (c n : ℕ) (α : Assignment) (bodies : List (List ℕ)) (v : ℕ) → n < v → v ≤ 8 * assignment_size n
    → assigned (record_of c (assignment_of n α) bodies) v ≡ false
stored_spare c n α bodies v l h = record_packed c n α bodies v (omega arith) h ∙ rw (lt-leb v n l)

module _ (s : List ℕ) (bytes : IsBytes s) where
  -- least, so not dearer than any model, the cheapest among them
  least_of : ValidSheet s → (α : Assignment) → Model (problem_of s) α → (L : ℕ) → Least (problem_of s) L
      → SomeSteps says_least judgement s (cost (problem_of s) α) (assignment_of (variables s) α) → cost (problem_of s) α ≡ L
  least_of valid α m L least (bodies, are-bytes, ok) =
      let c = cost (problem_of s) α in
      let small = cost_below_none s bytes valid.n.1 α in
      let claim_is = record_claim c (assignment_of (variables s) α) bodies (omega (arith, small)) in
      let (β, mb, e) = least.reached in
      let r : List ℕ = record_of c (assignment_of (variables s) α) bodies in
      let high = bound_holds s r ((exactly_when s r).accepted.0 (least_accepts (judgement s r) ok)) β mb in
      let low = least.below α m in
      omega (arith, claim_is, e, high, low)

  none_of : SomeSteps accepts judgement s none (replicate (assignment_size (variables s)) 0) → Unsatisfiable (problem_of s)
  none_of (bodies, are-bytes, ok) =
      (sound s (record_of none (replicate (assignment_size (variables s)) 0) bodies) bytes).none_exists ok
      (record_claim none (replicate (assignment_size (variables s)) 0) bodies (le_refl none))

module _ (s : List ℕ) (bytes : IsBytes s) (valid : ValidSheet s) (few : variables s ≤ 16) where
  -- the least, so the decision tree's steps close
  of_least : (α : Assignment) → Model (problem_of s) α → (L : ℕ) → Least (problem_of s) L → cost (problem_of s) α ≡ L
      → SomeSteps says_least judgement s (cost (problem_of s) α) (assignment_of (variables s) α)
  of_least α m L least e =
      let (ts, derivation, reaches) = tree s bytes valid few in
      let c = cost (problem_of s) α in
      let small = cost_below_none s bytes valid.n.1 α in
      let c-small : c ≤ none = omega (arith, small) in
      let agree = stored_agrees c (variables s) α (bodies_of ts) in
      let claim_is = record_claim c (assignment_of (variables s) α) (bodies_of ts) c-small in
      let floor = reaches c c-small (λ β mb. let h = least.below β mb in omega (arith, h, e)) in (
        bodies_of ts,
        written_bytes c (assignment_of (variables s) α) ts (packed_bytes (variables s) α),
        (exactly_when s (record_of c (assignment_of (variables s) α) (bodies_of ts))).least.1 (
          written_acceptable s valid ts derivation c c-small (assignment_of (variables s) α) (packed_length (variables s) α)
              (stored_spare c (variables s) α (bodies_of ts))
              (λ z. absurd (omega (arith, small, z)))
              (λ some. model_local s valid α (assigned (record_of c (assignment_of (variables s) α) (bodies_of ts))) agree m)
              (λ some. sym (cost_local s valid α (assigned (record_of c (assignment_of (variables s) α) (bodies_of ts))) agree))
              floor,
          λ z. omega (arith, small, claim_is, z),
        ),
      )

  -- ---- "none"

  of_none : Unsatisfiable (problem_of s) → SomeSteps accepts judgement s none (replicate (assignment_size (variables s)) 0)
  of_none breaks =
      let (ts, derivation, reaches) = tree s bytes valid few in
      let w = assignment_size (variables s) in
      let clear : (v : ℕ) → 1 ≤ v → v ≤ 8 * w → assigned (record_of none (replicate w 0) (bodies_of ts)) v ≡ false = record_clear none w (bodies_of ts) in
      let floor = reaches none (le_refl none) (λ β mb. absurd (no_model β mb)) in (
        bodies_of ts,
        written_bytes none (replicate w 0) ts (clear_bytes w),
        (exactly_when s (record_of none (replicate w 0) (bodies_of ts))).accepted.1
            (written_acceptable s valid ts derivation none (le_refl none) (replicate w 0) (length-replicate w 0)
            (λ v l h. clear v (omega arith) h)
            (λ z v u. clear v u.0 (omega (arith, u.1)))
            (λ some. absurd (some refl))
            (λ some. absurd (some refl))
            floor),
      )
    where
      no_model : (β : Assignment) → Model (problem_of s) β → ⊥
      no_model β m =
          let (k, l, h, out) = breaks β in
          out (m k l h)

pub complete : (s : List ℕ) → IsBytes s → Complete s
complete s bytes = record {
  least = λ valid few α m L least. (least_of s bytes valid α m L least, of_least s bytes valid few α m L least);
  exists = λ valid few. least_exists s valid;
  none_exists = λ valid few. (none_of s bytes, of_none s bytes valid few);
}
