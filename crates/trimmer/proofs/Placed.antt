-- What a `Source` knows: its record has passed, and where the bodies of its steps stand.
-- Assumes nothing.
use Prim.Native.Nat.{ℕ, ◌+◌, ◌-◌, ◌^◌, ◌≤◌, ◌<◌}
use mathlib.Core.Path.{◌≡◌, refl, sym, ◌∙◌}
use mathlib.Core.List.{List}
use native.Mathlib.Omega.{arith}
use native.Mathlib.Nat.{add-sub_cancel_left}
use lib.ListN.{length, take, drop}
use Rattle.judgement.specs.Pairs.{pair_offset, pair_length, body}
use Rattle.judgement.specs.Record.{steps, step}
use Rattle.judgement.specs.Facts.{Among}
use Rattle.judgement.proofs.Facts.Accepted.{passes_before}
use Rattle.checker.specs.Read.{Within}
use Rattle.checker.proofs.Known.{step_at}
use Rattle.trimmer.specs.declared.source.Source.{Source}
use Rattle.trimmer.specs.declared.put.Selection.{Selection}
use Rattle.trimmer.specs.Work.{Passed, Marked}
use Rattle.trimmer.proofs.Steps.{within, size_is}

module _ (x : Source) where
  abbrev pub s : List ℕ
  s = x.sheet.now

  abbrev pub r : List ℕ
  r = x.«record».now

  pub passed : Passed x.sheet.now x.«record».now x.table
  passed = record { before = passes_before s r x.passed; pairs = x.pairs }

  pub head_room : (12 ≤ x.table) × (x.table ≤ length x.«record».now)
  head_room = let l = passed.before.stored.layout.room in let e = x.pairs in (omega arith, omega arith)

  module _ (k : ℕ) (w : Among (steps x.«record».now) k) where
    -- the pair is in the record, which is a file
    pub placed : Within x.«record».now x.table k × (length x.«record».now < 2 ^ 32)
    placed = (let z = passed.before.stored.layout.size in (within s r x.table passed k w, omega arith))

    pub size_of : {n : ℕ} → n ≡ pair_length x.«record».now x.table k → n ≡ length (step x.sheet.now x.«record».now k)
    size_of = size_is s r x.table passed k w

    -- the part of so many bytes from where the pair says
    pub part_is : {a n : ℕ} → a ≡ pair_offset x.«record».now x.table k → n ≡ length (step x.sheet.now x.«record».now k)
        → (a + n ≤ length x.«record».now) × (take (a + n - a) (drop a x.«record».now) ≡ step x.sheet.now x.«record».now k)
    unfolding body
    part_is {a} {n} ea en =
        let z : n ≡ pair_length r x.table k = en ∙ sym (size_of refl) in
        let b = placed.0.body in (
          omega (arith, ea, z),
          rw (add-sub_cancel_left, ea, z) (step_at s r k x.pairs refl),
        )

pub selected : (x : Selection) → Marked x.source.sheet.now x.source.«record».now x.source.table x.marks.now
selected x = record { passed = passed x.source; marks_are = x.marks_are }
