-- The part that is shown lies in the file that it names; which records are shown.
-- Assumes nothing.
use Prim.Native.Nat.{ℕ, zero, suc, ◌+◌, ◌-◌, ◌≤◌}
use mathlib.Core.Path.{◌≡◌}
use mathlib.Core.Bool.{true, false, ◌&&◌}
use mathlib.Core.List.{List}
use mathlib.Core.Logic.{◌⊎◌, inl, inr}
use native.Mathlib.Omega.{arith}
use lib.ListN.{length, drop, length-take}
use lib.Dec.{leb}
use borrow.Author.Tests.{leb-true, le-leb}
use Rattle.judgement.specs.declared.Kind.TheVariants.{Copy, Cost, IndependentSet, Resolvent, WeightedSet}
use Rattle.judgement.specs.Pairs.{pair_offset, pair_length, body}
use Rattle.judgement.specs.Sheet.{clauses, clause_pairs_at}
use Rattle.judgement.specs.Record.{steps, step_pairs_at, step}
use Rattle.judgement.specs.Step.{kind_of, cited}
use Rattle.judgement.specs.Judgement.{judgement, passes, clause_part, literals_part, no_part, step_part, shown_part}
use Rattle.judgement.specs.Place.{Inside}
use Rattle.judgement.specs.Facts.{Among, PairRule, ValidSheet, RecordLayout, StepLayout, Inference, copies, costs, independent, resolution, linear, BeforeClose, Acceptable, WithinTolerance}
use Rattle.judgement.proofs.Laws.Scan.{which, and_l, and_r}
use Rattle.judgement.proofs.Facts.FirstByte.{begins_kind}
use Rattle.judgement.proofs.Facts.Accepted.{passes_before, exactly_when}
use Rattle.judgement.proofs.Laws.Answers.{accepts_passes, within_passes}

-- where the pairs keep their rule, every body ends in the file; `left` bodies come after it
ends_before : (f : List ℕ) (at count : ℕ) → PairRule f at count → (left k : ℕ) → 1 ≤ k → k + left ≡ count
    → pair_offset f at k + pair_length f at k ≤ length f
ends_before f at count rule zero k some e =
    let last : k ≡ count = omega arith in
    rw last (omega (arith, rule.last (omega arith)))
ends_before f at count rule (suc left) k some e =
    let next = rule.later k some (omega arith) in
    let ends = ends_before f at count rule left (k + 1) (omega arith) (omega arith) in
    omega (arith, next, ends)

pub body_ends : (f : List ℕ) (at count : ℕ) → PairRule f at count → (k : ℕ) → Among count k
    → pair_offset f at k + pair_length f at k ≤ length f
body_ends f at count rule k (some, most) = ends_before f at count rule (count - k) k some (omega arith)

clause_inside : (s r : List ℕ) (c : ℕ) → ValidSheet s → Among (clauses s) c → Inside s r (clause_part s c)
clause_inside s r c valid w = body_ends s (clause_pairs_at s) (clauses s) valid.pairs c w

-- the step's body has room for its literals, and ends in the record
literals_inside : (s r : List ℕ) (k : ℕ) → RecordLayout s r → Among (steps r) k → StepLayout s (step s r k)
    → Inside s r (literals_part s r k)
unfolding body
literals_inside s r k laid w form =
    let ends = body_ends r (step_pairs_at s) (steps r) laid.pairs k w in
    let size = length-take (pair_length r (step_pairs_at s) k) (drop (pair_offset r (step_pairs_at s) k) r) in
    omega (arith, ends, size, form.room)

step_inside : (s r : List ℕ) (k : ℕ) → BeforeClose s r → Among (steps r) k → Inside s r (step_part (kind_of (step s r k)) s r k)
unfolding step_part
step_inside s r k ok w = go (ok.inferences k w)
  where
    own : Inside s r (literals_part s r k)
    own = literals_inside s r k ok.stored.layout w (ok.forms k w)

    go : Inference s r k → Inside s r (step_part (kind_of (step s r k)) s r k)
    go (copies i) = rw (begins_kind Copy (step s r k) (omega arith) i.kind) (clause_inside s r (cited (step s r k) 1) ok.stored.sheet i.cites)
    go (costs i) = rw (begins_kind Cost (step s r k) (omega arith) i.kind) own
    go (independent i) = rw (begins_kind IndependentSet (step s r k) (omega arith) i.citing.kind) own
    go (resolution i) = rw (begins_kind Resolvent (step s r k) (omega arith) i.citing.kind) own
    go (linear i) = rw (begins_kind WeightedSet (step s r k) (omega arith) i.citing.kind) own

pub shown_inside : (s r : List ℕ) (k : ℕ) → Inside s r (shown_part s r k)
unfolding shown_part
shown_inside s r k = go (which (passes (judgement s r) && leb 1 k && leb k (steps r)))
  where
    there : (passes (judgement s r) && leb 1 k && leb k (steps r) ≡ true) → Inside s r (step_part (kind_of (step s r k)) s r k)
    there e =
        step_inside s r k (passes_before s r (search (e, and_l, and_r) depth 12))
        (leb-true 1 k (search (e, and_l, and_r) depth 12), leb-true k (steps r) (search (e, and_r)))

    go : (passes (judgement s r) && leb 1 k && leb k (steps r) ≡ true) ⊎ (passes (judgement s r) && leb 1 k && leb k (steps r) ≡ false)
        → Inside s r (shown_part s r k)
    go (inl e) = rw e (there e)
    go (inr e) = rw e (omega arith)

-- every step of a record that passes is shown
pub shows_passed : (s r : List ℕ) (k : ℕ) → passes (judgement s r) ≡ true → Among (steps r) k
    → shown_part s r k ≡ step_part (kind_of (step s r k)) s r k
unfolding shown_part
shows_passed s r k ok (l, h) = rw (ok, le-leb 1 k l, le-leb k (steps r) h)

-- so of one that is accepted or within
pub shows_steps : (s r : List ℕ) (k : ℕ) → Acceptable s r ⊎ WithinTolerance s r → Among (steps r) k
    → shown_part s r k ≡ step_part (kind_of (step s r k)) s r k
shows_steps s r k facts w = shows_passed s r k (ok facts) w
  where
    ok : Acceptable s r ⊎ WithinTolerance s r → passes (judgement s r) ≡ true
    ok (inl a) = accepts_passes (judgement s r) ((exactly_when s r).accepted.1 a)
    ok (inr w) = within_passes (judgement s r) ((exactly_when s r).within.1 w)

-- and nothing of one that is refused
pub hides_refused : (s r : List ℕ) (k : ℕ) → passes (judgement s r) ≡ false → shown_part s r k ≡ no_part
unfolding shown_part
hides_refused s r k e = rw e
