-- Cheap checkers that the demands shut out: one that never accepts, so one that refuses all or answers "within" to all; one that
-- says "least" of every cost, or accepts all; one that accepts nothing but one pair of files; one whose acceptances are all the same
-- answer; one that accepts "none" unread; and one that tells too small a gap. (One that trusts steps after the first, and one that invents a count, are must-fail
-- edits.)
-- Assumes nothing.
use Prim.Native.Nat.{ℕ, zero, suc, ◌≤◌, ◌<◌}
use mathlib.Core.Path.{◌≡◌, refl, sym, ap, ◌∙◌}
use mathlib.Core.Bool.{Bool, true, false, ◌&&◌}
use mathlib.Core.List.{List, [], ◌∷◌}
use mathlib.Core.Logic.{◌≢◌}
use native.Mathlib.Omega.{arith}
use native.Mathlib.Nat.{le_refl}
use lib.ListN.{length, replicate}
use lib.Dec.{ltb}
use borrow.Author.Tests.{ltb-true}
use Rattle.judgement.specs.Meaning.{Assignment, cost, Model, Least, none}
use Rattle.judgement.specs.Sheet.{variables, clauses, clause, problem_of}
use Rattle.judgement.specs.Record.{claim, assigned, assignment_size, satisfied}
use Rattle.judgement.specs.Writer.{bytes_of, numbers_of, pairs_of, joined, file_of, sheet_of, step_of, record_of}
use Rattle.judgement.specs.declared.Answer.{Answer}
use Rattle.judgement.specs.Judgement.{judgement, passes, says_least, says_within, accepts}
use Rattle.judgement.specs.Computed.{right}
use Rattle.judgement.specs.Facts.{ValidSheet}
use Rattle.judgement.specs.Demands.{IsBytes, Shape, ExactlyWhen, Checker, Sound, SoundWithin, CompleteFor}
use Rattle.judgement.proofs.Laws.Scan.{clash, and_l, and_r, false_i, all_each}
use Rattle.judgement.proofs.Laws.Answers.{accepts_passes, least_accepts, within_apart}
use Rattle.judgement.proofs.Laws.Models.{satisfied_satisfies}
use Rattle.judgement.proofs.Laws.Cost.{cost_below_none}
use Rattle.judgement.proofs.Facts.Accepted.{exactly_when}
use Rattle.judgement.proofs.Complete.Packed.{packed_bytes, clear_bytes}
use Rattle.judgement.proofs.Complete.Written.{record_claim, written_bytes}
use Rattle.judgement.proofs.Promised.{sound}
use Rattle.judgement.proofs.Cases.Within.{record_a4}
use Rattle.judgement.proofs.Cases.Starred.{sheet_a, record_a, sheet_b1, record_b1, cost_step}

-- ---- a plan that the judgement accepts

record Plan (s r : List ℕ) : Type 0 where
  pub bytes : IsBytes s
  pub accepted : accepts (judgement s r) ≡ true
  pub some : claim r ≢ none
  pub few : variables s ≤ 16

below_all : List ℕ → Bool
below_all [] = true
below_all (x ∷ l) = ltb x 256 && below_all l

below_bytes : (l : List ℕ) → below_all l ≡ true → IsBytes l
unfolding below_all
below_bytes [] e i = omega arith
below_bytes (x ∷ l) e zero = ltb-true x 256 (and_l (ltb x 256) (below_all l) e)
below_bytes (x ∷ l) e (suc i) = below_bytes l (and_r (ltb x 256) (below_all l) e) i

plan_a : Plan sheet_a record_a
unfolding right sheet_a record_a below_all
plan_a = record { bytes = below_bytes sheet_a refl; accepted = refl; some = λ e. omega (arith, e); few = omega arith }

plan_b1 : Plan sheet_b1 record_b1
unfolding right bytes_of numbers_of pairs_of joined file_of sheet_of step_of record_of cost_step sheet_b1 record_b1 below_all
plan_b1 = record { bytes = below_bytes sheet_b1 refl; accepted = refl; some = λ e. omega (arith, e); few = omega arith }

module _ (s r : List ℕ) (plan : Plan s r) where
  model : Model (problem_of s) (assigned r)
  model = ((sound s r plan.bytes).least plan.accepted plan.some).0

  claim_is : cost (problem_of s) (assigned r) ≡ claim r
  claim_is = ((sound s r plan.bytes).least plan.accepted plan.some).1

  least : Least (problem_of s) (claim r)
  least = record {
    reached = (assigned r, model, claim_is);
    below = ((sound s r plan.bytes).least plan.accepted plan.some).2;
  }

  valid : ValidSheet s
  valid = ((exactly_when s r).accepted.0 plan.accepted).0.stored.sheet

  -- a complete checker says least of some record of the sheet
  some_least : (f : Checker) → CompleteFor f s → (x : List ℕ) × (says_least (f s x) ≡ true)
  some_least f complete =
      let (bodies, are-bytes, ok) = (complete.least valid plan.few (assigned r) model (claim r) least).1 claim_is in
      (record_of (cost (problem_of s) (assigned r)) _ bodies, ok)

  -- an answer with demands 1 and 2 accepts, and its cost is the claim
  answers_claim : (a : Answer) → Shape s r a → ExactlyWhen s r a → (accepts a ≡ true) × (a.cost ≡ claim r)
  answers_claim a shaped exactly =
      let ok = exactly.accepted.1 ((exactly_when s r).accepted.0 plan.accepted) in
      (ok, (shaped.passed (accepts_passes a ok)).1)

-- ---- the shortcuts

pub accepts_nothing : (f : Checker) → ((s r : List ℕ) → accepts (f s r) ≡ false) → ((s : List ℕ) → CompleteFor f s) → ⊥
accepts_nothing f never complete =
    let (x, ok) = some_least sheet_a record_a plan_a f (complete sheet_a) in
    clash (least_accepts (f sheet_a x) ok) (never sheet_a x)

pub refuses_all : (f : Checker) → ((s r : List ℕ) → passes (f s r) ≡ false) → ((s : List ℕ) → CompleteFor f s) → ⊥
refuses_all f never = accepts_nothing f (λ s r. false_i _ (λ ok. clash (accepts_passes (f s r) ok) (never s r)))

-- "within" is no acceptance
pub within_all : (f : Checker) → ((s r : List ℕ) → says_within (f s r) ≡ true) → ((s : List ℕ) → CompleteFor f s) → ⊥
within_all f always = accepts_nothing f (λ s r. within_apart (f s r) (always s r))

-- both paddles open keep the rules of sheet A, at cost 8
dearer : Assignment
dearer v = true

dearer_model : Model (problem_of sheet_a) dearer
unfolding right sheet_a dearer
dearer_model k l h =
    satisfied_satisfies dearer (clause sheet_a k) (all_each (λ k. satisfied dearer (clause sheet_a k)) (clauses sheet_a) refl k (l, h))

dearer_costs : (cost (problem_of sheet_a) dearer ≡ claim record_a) → ⊥
unfolding right sheet_a record_a dearer
dearer_costs e = omega (arith, e)

dearer_claim : (bits : List ℕ) → claim (record_of (cost (problem_of sheet_a) dearer) bits []) ≢ none
dearer_claim bits e =
    let below = cost_below_none sheet_a plan_a.bytes (valid sheet_a record_a plan_a).n.1 dearer in
    omega (arith, e, below, record_claim (cost (problem_of sheet_a) dearer) bits [] (omega (arith, below)))

-- one that says "least" of every cost: the costs of two models differ
pub least_all : (f : Checker) → ((s r : List ℕ) → claim r ≢ none → says_least (f s r) ≡ true) → ((s : List ℕ) → CompleteFor f s) → ⊥
least_all f always complete =
    dearer_costs
    (((complete sheet_a).least (valid sheet_a record_a plan_a) plan_a.few dearer dearer_model (claim record_a) (least sheet_a record_a plan_a)).0
    ([], written_bytes (cost (problem_of sheet_a) dearer) _ [] (packed_bytes (variables sheet_a) dearer), always sheet_a _ (dearer_claim _)))

-- whatever the acceptances are: sheet A has a model
pub accepts_all : (f : Checker) → ((s r : List ℕ) → accepts (f s r) ≡ true) → ((s : List ℕ) → CompleteFor f s) → ⊥
accepts_all f always complete =
    let w = assignment_size (variables sheet_a) in
    let bytes = written_bytes none (replicate w 0) [] (clear_bytes w) in
    let breaks = ((complete sheet_a).none_exists (valid sheet_a record_a plan_a) plan_a.few).0 ([], bytes, always sheet_a _) in
    let (k, l, h, out) = breaks (assigned record_a) in
    out (model sheet_a record_a plan_a k l h)

other_sheet : sheet_a ≡ sheet_b1 → ⊥
unfolding sheet_a bytes_of numbers_of pairs_of joined file_of sheet_of sheet_b1
other_sheet e = let z : ◌≡◌ {A = ℕ} 36 8 = ap length e in omega (arith, z)

pub one_acceptance : (f : Checker) (s₀ r₀ : List ℕ) → ((s r : List ℕ) → accepts (f s r) ≡ true → (s ≡ s₀) × (r ≡ r₀))
    → ((s : List ℕ) → CompleteFor f s) → ⊥
one_acceptance f s₀ r₀ only complete =
    let (x, ok) = some_least sheet_a record_a plan_a f (complete sheet_a) in
    let (y, okay) = some_least sheet_b1 record_b1 plan_b1 f (complete sheet_b1) in
    other_sheet ((only sheet_a x (least_accepts (f sheet_a x) ok)).0 ∙ sym (only sheet_b1 y (least_accepts (f sheet_b1 y) okay)).0)

other_claim : claim record_a ≡ claim record_b1 → ⊥
unfolding right sheet_a record_a bytes_of numbers_of pairs_of joined file_of step_of record_of cost_step record_b1
other_claim e = omega (arith, e)

-- one whose acceptances are all a
pub fixed_answer : (f : Checker) (a : Answer) → ((s r : List ℕ) → accepts (f s r) ≡ true → f s r ≡ a)
    → ((s r : List ℕ) → Shape s r (f s r)) → ((s r : List ℕ) → ExactlyWhen s r (f s r)) → ⊥
fixed_answer f a fixed shaped exactly =
    let (ok, is) = answers_claim sheet_a record_a plan_a (f sheet_a record_a) (shaped sheet_a record_a) (exactly sheet_a record_a) in
    let (okay, other) = answers_claim sheet_b1 record_b1 plan_b1 (f sheet_b1 record_b1) (shaped sheet_b1 record_b1) (exactly sheet_b1 record_b1) in
    other_claim (sym is ∙ ap (λ x. x.cost) (fixed sheet_a record_a ok ∙ sym (fixed sheet_b1 record_b1 okay)) ∙ other)

pub none_unread : (f : Checker) → ((s r : List ℕ) → claim r ≡ none → accepts (f s r) ≡ true) → ((s r : List ℕ) → Sound s r (f s r)) → ⊥
none_unread f unread sound-f =
    let r : List ℕ = record_of none [] [] in
    let e : claim r ≡ none = record_claim none [] [] (le_refl none) in
    let (k, l, h, out) = (sound-f sheet_a r).none_exists (unread sheet_a r e) e (assigned record_a) in
    out (model sheet_a record_a plan_a k l h)

-- one that tells too small a gap: of A4, whose cost is 8 where 3 is the least
pub small_gap : (a : Answer) → says_within a ≡ true → a.cost ≡ 8 → a.gap < 5 → SoundWithin sheet_a record_a4 a → ⊥
unfolding right sheet_a record_a
small_gap a ok costs small says =
    let (m, cost_is, inside, below) = says ok in
    omega (arith, costs, small, below (assigned record_a) (model sheet_a record_a plan_a), claim_is sheet_a record_a plan_a)
