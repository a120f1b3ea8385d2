-- `checker::linear::Scratch::meet` meets its contract: the number that was kept, or where it begins, is moved by the literal's weight.
-- Assumes nothing.
use Rattle.std.proofs.Common.{◌≡◌, ℕ, ◌+◌, ◌-◌, ◌/◌, ◌%◌, ◌^◌, ◌<◌, List, cond, eqb, ℤ, pos, nat_abs, ◌∙◌, arith, eq-eqb, ne_eqb}
use Rattle.std.proofs.lemmas.Int.{ints}
use native.Mathlib.Decide.{ℕ_discrete}
use Rattle.checker.specs.Marks.{mark_at}
use Rattle.checker.specs.Weighing.{rest_at, kept_of}
use Rattle.checker.proofs.Bits.{again, held, weight_small}
use Rattle.checker.proofs.Meeting.{weight_by, shift_by}
use Rattle.checker.proofs.linear.Scratch.meet.Goals as goal

-- the mark m less t, in 64 bits, is below 0 exactly where m is below t
stale-when : (m t : ℕ) → m < t + 1 → t < 2 ^ 62 → eqb ((m + (2 ^ 64 - t)) % 2 ^ 64 / 2 ^ 63) 0 ≡ eqb m t
stale-when m t most low = go (ℕ_discrete m t)
  where
    go : Dec (m ≡ t) → eqb ((m + (2 ^ 64 - t)) % 2 ^ 64 / 2 ^ 63) 0 ≡ eqb m t
    go (yes e) = rw (eq-eqb m t e, eq-eqb ((m + (2 ^ 64 - t)) % 2 ^ 64 / 2 ^ 63) 0 (omega (arith, e)))
    go (no e) = rw (ne_eqb m t e, ne_eqb ((m + (2 ^ 64 - t)) % 2 ^ 64 / 2 ^ 63) 0 (λ z. omega (arith, e, z)))

-- the number that was kept, or where it begins
old-is : (marks : List ℕ) (rest : List ℤ) (v t p : ℕ) {kept full old : ℤ} → mark_at marks (v - 1) < t + 1 → t < 2 ^ 62
    → kept ≡ rest_at rest (v - 1) → full ≡ pos p
    → old ≡ cond (eqb ((mark_at marks (v - 1) + (2 ^ 64 - t)) % 2 ^ 64 / 2 ^ 63) 0) kept full → old ≡ kept_of marks rest t p v
old-is marks rest v t p most low kept full e = e ∙ rw (kept, full, stale-when (mark_at marks (v - 1)) t most low)

pub gained-requires : goal.gained-requires
gained-requires c =
    let self = c.args.self.now in
    let v = c.args.c / 2 in
    let old = c.one_of-old.result in
    let e = old-is self.marks self.rest v c.args.t c.args.full (c.requires.0.below (v - 1)) c.requires.1
    (held (rest_at self.rest (v - 1)) c.kept-1.given) (held c.natural.result c.natural.type_inv ∙ c.natural.ensures) c.one_of-old.ensures in
    let h : nat_abs old < 2 ^ 60 = rw e c.requires.5 in
    let w = weight_small c.args.c c.args.y c.requires.4 in
    rw (held c.shifted-new.result c.shifted-new.type_inv, c.shifted-new.ensures, held old c.one_of-old.type_inv)
    (omega (arith, h), omega (arith, ints, h, w), w)

pub returns-clause-kept : goal.returns-clause-kept
returns-clause-kept c =
    let self = c.args.self.now in
    let v = c.args.c / 2 in
    let e = old-is self.marks self.rest v c.args.t c.args.full (c.requires.0.below (v - 1)) c.requires.1
    (held (rest_at self.rest (v - 1)) c.kept-1.given) (held c.natural.result c.natural.type_inv ∙ c.natural.ensures) c.one_of-old.ensures in
    let old = held c.one_of-old.result c.one_of-old.type_inv ∙ e in
    let new = held c.shifted-new.result c.shifted-new.type_inv ∙ c.shifted-new.ensures ∙ shift_by (again c.one_of-old.result) c.args.c c.args.y in
    rw (new, old)

pub returns-clause-told : goal.returns-clause-told
returns-clause-told c =
    let self = c.args.self.now in
    let v = c.args.c / 2 in
    let e = old-is self.marks self.rest v c.args.t c.args.full (c.requires.0.below (v - 1)) c.requires.1
    (held (rest_at self.rest (v - 1)) c.kept-1.given) (held c.natural.result c.natural.type_inv ∙ c.natural.ensures) c.one_of-old.ensures in
    let old = held c.one_of-old.result c.one_of-old.type_inv ∙ e in
    let new = held c.shifted-new.result c.shifted-new.type_inv ∙ c.shifted-new.ensures ∙ shift_by (again c.one_of-old.result) c.args.c c.args.y in
    let told = held c.gained.result c.gained.type_inv ∙ c.gained.ensures in
    rw (told, new, old, weight_by c.args.c c.args.y)
