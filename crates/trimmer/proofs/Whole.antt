-- The whole record: counts, bodies, pairs and head, written one over the other, are the trimmed one; and the answers that come of it.
-- Assumes nothing.
use Prim.Native.Nat.{ℕ, ◌+◌, ◌-◌, ◌*◌, ◌^◌, ◌≤◌, ◌<◌}
use mathlib.Core.Path.{◌≡◌, refl, sym, ap, ◌∙◌}
use mathlib.Core.Bool.{true}
use mathlib.Core.List.{List, ◌++◌, append_assoc, append-nil}
use native.Mathlib.Omega.{arith}
use lib.ListN.{length, take, drop, length-append, length-take, length-drop, length-map, drop_of_length-le}
use lib.Seq.{length-take-le, drop_at, drop-append-add}
use borrow.Author.Tests.{eq-eqb, le-leb, lt-leb}
use Rattle.std.specs.Prelude.{Ok, Err}
use Rattle.judgement.specs.Finding.{Finding}
use Rattle.judgement.specs.declared.Answer.{Answer}
use Rattle.judgement.specs.declared.Written.{Written}
use Rattle.judgement.specs.Scan.{sum_of, count_of}
use Rattle.judgement.specs.Sheet.{variables}
use Rattle.judgement.specs.Record.{claim, steps, assignment_size}
use Rattle.judgement.specs.Writer.{bytes_of, file_of, record_of}
use Rattle.judgement.specs.Buffer.{over, written_by, left_by}
use Rattle.judgement.specs.Judgement.{finding, judgement, passes}
use Rattle.judgement.specs.Demands.{IsBytes}
use Rattle.judgement.proofs.Laws.Stored.{bytes_again}
use Rattle.judgement.proofs.Laws.Buffer.{part_from, part_put}
use Rattle.judgement.proofs.Complete.Bytes.{length_bytes}
use Rattle.judgement.proofs.Facts.Accepted.{passed_fine}
use Rattle.trimmer.specs.Trim.{kept, kept_steps, new_body, kept_bodies, assignment_bytes, trimmed, marks_of, few_marks, short_output, mark_finding, trim_finding, trimming, marks_left, output_left}
use Rattle.trimmer.specs.Work.{Marked, marked, bodies_to, pairs_to, head_bytes}
use Rattle.trimmer.proofs.Chosen.{count_at_most, count_rises, length_chosen}
use Rattle.trimmer.proofs.When.{marks_size}
use Rattle.trimmer.proofs.Trimmed.{kept_set, size_is, trimmed_shorter}
use Rattle.trimmer.proofs.Behind.{behind_written, part_length}
use Rattle.trimmer.proofs.Steps.{few_steps, marks_length, counted}
use Rattle.trimmer.proofs.Loops.{length_pairs_to}
use Rattle.trimmer.specs.declared.put.Selection.{Selection}
use Rattle.trimmer.proofs.Placed.{s, r, selected}

-- ---- four writes: the samples, the bodies behind them, the pairs over the samples, and the head

-- pairs from `at` to the end of a part, and then the head before them
module _ (at : ℕ) (l pairs head : List ℕ) (low : at ≤ length l) (head_size : length head ≡ at) (pairs_size : length pairs ≡ length l - at) where
  pub front_written : (p m : List ℕ) → p ≡ over pairs (part_from at l) → m ≡ over head (part_put at l p) → m ≡ head ++ pairs
  front_written p m ep em =
      let n = length-take-le at l low in
      let z : length (take at l ++ pairs) ≡ length l = length-append (take at l) pairs ∙ omega (arith, n) in
      let d = drop_of_length-le l {i = length l} (omega arith) in
      let w : part_put at l p ≡ take at l ++ pairs = behind_written at l pairs p low ep ∙ rw (z, d, append-nil) in
      em ∙ rw (w, head_size, drop_at (take at l) pairs at n)

-- a front part written whole, and the part behind it
pub both_written : (front₀ back₀ front back w v : List ℕ) → length w ≡ length front₀ → front ≡ w → back ≡ over v back₀
    → front ++ back ≡ over (w ++ v) (front₀ ++ back₀)
both_written front₀ back₀ front back w v n ef eb =
    rw (
      ef,
      eb,
      length-append w v,
      n,
      drop-append-add front₀ back₀ (length v),
      append_assoc w v (drop (length v) back₀),
    )

-- samples `tab` from `at` to the end of the front part, the bodies in the part behind, the pairs over the samples, and the head before
-- them: what stood in the front part, and the samples, are gone
pub all_written : (at : ℕ) (front₀ back₀ tab head pairs bodies : List ℕ) → at ≤ length front₀ → length tab ≡ length front₀ - at
    → length head ≡ at → length pairs ≡ length front₀ - at → (back p m : List ℕ) → back ≡ over bodies back₀
    → p ≡ over pairs (part_from at (part_put at front₀ tab)) → m ≡ over head (part_put at (part_put at front₀ tab) p)
    → m ++ back ≡ over ((head ++ pairs) ++ bodies) (front₀ ++ back₀)
all_written at front₀ back₀ tab head pairs bodies low tab-size head-size pairs-size back p m eb ep em =
    let y = part_length at front₀ tab low tab-size in
    let n : length (head ++ pairs) ≡ length front₀ = length-append head pairs ∙ omega arith in
    let f = front_written at (part_put at front₀ tab) pairs head (omega arith) head-size (omega arith) p m ep em in
    both_written front₀ back₀ m back (head ++ pairs) bodies n f eb

-- ---- sizes, and the record part by part

module _ (s r : List ℕ) (table : ℕ) (marks : List ℕ) (m : Marked s r table marks) where
  -- how many are kept
  abbrev count : ℕ
  count = count_of (kept s r) (steps r)

  pub counted_all : {n : ℕ} → count_of (marked marks) 0 + n ≡ count_of (marked marks) (length marks) → n ≡ count_of (kept s r) (steps r)
  unfolding sum_of
  counted_all e =
      let a = counted s r table marks m (steps r) (omega arith) in
      let b = ap (count_of (marked marks)) (marks_length s r table marks m) in
      omega (arith, e, a, b)

  -- one at least, and fewer than a file has room for
  pub some_kept : 1 ≤ count_of (kept s r) (steps r)
  unfolding sum_of
  some_kept =
      let p = m.passed.before in
      count_rises (kept s r) 0 (steps r) p.stored.layout.t (kept_set s r p).last

  pub few_kept : count_of (kept s r) (steps r) < 2 ^ 29
  few_kept = omega (arith, count_at_most (kept s r) (steps r), few_steps s r table m.passed)

  pub whole_size : table + 8 * count_of (kept s r) (steps r) + length (bodies_to s r (length marks)) ≡ length (trimmed s r)
  unfolding bodies_to
  whole_size =
      let a = size_is s r m.passed.before in
      let e = m.passed.pairs in
      rw (marks_length s r table marks m) (omega (arith, a, e))

  pub whole_short : length (trimmed s r) < 2 ^ 32
  whole_short = omega (arith, trimmed_shorter s r m.passed.before, m.passed.before.stored.layout.size)

  pub pairs_size : (start : ℕ) → length (pairs_to s r start (length marks)) ≡ 8 * count_of (kept s r) (steps r)
  pairs_size start = length_pairs_to s r start (length marks) ∙ rw (marks_length s r table marks m)

  pub head_room : (12 ≤ table) × (table ≤ length r)
  head_room =
      let e = m.passed.pairs in
      let l = m.passed.before.stored.layout.room in
      (omega (arith, e), omega (arith, e, l))

  pub head_size : (n : ℕ) → length (head_bytes r table n) ≡ table
  unfolding head_bytes
  head_size n =
      let a = length-append (take 8 r ++ bytes_of 4 n) (take (table - 12) (drop 12 r)) in
      let b = length-append (take 8 r) (bytes_of 4 n) in
      let d = length-take 8 r in
      let e = length-take (table - 12) (drop 12 r) in
      let f = length-drop 12 r in
      let h = head_room in
      omega (arith, a, b, length_bytes 4 n, d, e, f, h)

  -- the parts as they are written are the definition's
  pub whole_is : IsBytes r → (n start : ℕ) → n ≡ count_of (kept s r) (steps r) → start ≡ table + 8 * n
      → (head_bytes r table n ++ pairs_to s r start (length marks)) ++ bodies_to s r (length marks) ≡ trimmed s r
  unfolding trimmed record_of file_of head_bytes pairs_to bodies_to
  whole_is bytes n start en es =
      let p = m.passed.pairs in
      let h = head_room in
      let c : n ≡ length (kept_bodies s r) =
      en ∙ sym (length-map (kept_steps s r) (new_body s r) ∙ length_chosen (kept s r) (steps r)) in
      let first : take 8 r ≡ bytes_of 8 (claim r) = sym (bytes_again 8 r bytes 0 (omega (arith, h))) in
      let bits : table - 12 ≡ assignment_size (variables s) = omega (arith, p) in
      let size : length (bytes_of 8 (claim r) ++ bytes_of 4 (length (kept_bodies s r)) ++ assignment_bytes s r) ≡ table =
      (let a = length-append (bytes_of 8 (claim r) ++ bytes_of 4 (length (kept_bodies s r))) (assignment_bytes s r) in
      let b = length-append (bytes_of 8 (claim r)) (bytes_of 4 (length (kept_bodies s r))) in
      let e = length-take (assignment_size (variables s)) (drop 12 r) in
      let f = length-drop 12 r in
      omega (arith, a, b, length_bytes 8 (claim r), length_bytes 4 (length (kept_bodies s r)), e, f, h, p)) in
      let z : start ≡ length (bytes_of 8 (claim r) ++ bytes_of 4 (length (kept_bodies s r)) ++ assignment_bytes s r) + 8 * length (kept_bodies s r) =
      omega (arith, size, c, es) in
      rw (marks_length s r table marks m, first, bits, ← z, c)

-- how many steps are kept, and how long the whole is
pub record Sizes (x : Selection) : Type 0 where
  pub some : 1 ≤ count_of (kept x.source.sheet.now x.source.«record».now) (steps x.source.«record».now)
  pub few : count_of (kept x.source.sheet.now x.source.«record».now) (steps x.source.«record».now) < 2 ^ 29
  pub whole : x.source.table + 8 * count_of (kept x.source.sheet.now x.source.«record».now) (steps x.source.«record».now)
      + length (bodies_to x.source.sheet.now x.source.«record».now (length x.marks.now)) ≡ length (trimmed x.source.sheet.now x.source.«record».now)
  pub short : length (trimmed x.source.sheet.now x.source.«record».now) < 2 ^ 32
  pub marked : (1 ≤ length x.marks.now) × (length x.marks.now < 2 ^ 29)

pub sizes : (x : Selection) → Sizes x
sizes x =
    let m = selected x in
    let n = marks_length (s x.source) (r x.source) x.source.table x.marks.now m in
    let f = few_steps (s x.source) (r x.source) x.source.table m.passed in
    let t = m.passed.before.stored.layout.t in
    record {
      some = some_kept (s x.source) (r x.source) x.source.table x.marks.now m;
      few = few_kept (s x.source) (r x.source) x.source.table x.marks.now m;
      whole = whole_size (s x.source) (r x.source) x.source.table x.marks.now m;
      short = whole_short (s x.source) (r x.source) x.source.table x.marks.now m;
      marked = (omega arith, omega arith);
    }

-- so either cast fits: what refuses the other count is the record that it writes
pub count_fits : (x : Selection) {n : ℕ} → n ≡ count_of (kept x.source.sheet.now x.source.«record».now) (steps x.source.«record».now) → n < 2 ^ 32
count_fits x e = let z = sizes x in omega (arith, e)

pub marks_fit : (x : Selection) → length x.marks.now < 2 ^ 32
marks_fit x = let z = sizes x in omega arith

-- ---- the answers

-- 28, or the record
abbrev pub Told : Finding → List ℕ → List ℕ → Written → List ℕ → Type 0
Told f w out a left = (a ≡ written_by f w) × (left ≡ left_by f w out)

pub too_short : (s r out : List ℕ) → length out < length (trimmed s r)
    → Told (short_output s r (length out)) (trimmed s r) out (record { number = 28; place = 0; length = 0 }) out
unfolding short_output
too_short s r out h = let e = lt-leb (length (trimmed s r)) (length out) h in (rw e, rw e)

pub long_enough : (s r out left : List ℕ) (n : ℕ) → length (trimmed s r) ≤ length out → n ≡ length (trimmed s r)
    → left ≡ over (trimmed s r) out
    → Told (short_output s r (length out)) (trimmed s r) out (record { number = 0; place = 0; length = n }) left
unfolding short_output
long_enough s r out left n h en el = let e = le-leb (length (trimmed s r)) (length out) h in (rw (e, en), rw (e, el))

-- the marks stand at the beginning of what is lent for them
pub marks_put : (s r marks m : List ℕ) (t : ℕ) → t ≡ steps r → m ≡ marks_of s r → m ++ drop t marks ≡ over (marks_of s r) marks
marks_put s r marks m t e h = rw (h, marks_size s r, e)

-- the answer and both buffers
abbrev pub Trims : List ℕ → List ℕ → List ℕ → List ℕ → Written → List ℕ → List ℕ → Type 0
Trims s r marks out a m l =
    (a ≡ trimming s r (length marks) (length out)) × (m ≡ marks_left s r marks) × (l ≡ output_left s r (length marks) out)

pub refused_record : (s r marks out : List ℕ) (a : Answer) → a ≡ judgement s r → (a.number ≡ 0 → ⊥)
    → Trims s r marks out (record { number = a.number; place = a.place; length = 0 }) marks out
unfolding judgement mark_finding trim_finding trimming marks_left output_left
refused_record s r marks out a e h = go (finding s r) refl
  where
    go : (f : Finding) → finding s r ≡ f → Trims s r marks out (record { number = a.number; place = a.place; length = 0 }) marks out
    go (Ok _) q = absurd (h (rw (e, q)))
    go (Err x) q = (rw (e, q), rw q, rw q)

module _ (s r marks out : List ℕ) (ok : passes (judgement s r) ≡ true) where
  pub few_marks_lem : length marks < steps r → Trims s r marks out (record { number = 27; place = 0; length = 0 }) marks out
  unfolding mark_finding trim_finding few_marks trimming marks_left output_left
  few_marks_lem h =
      let z = lt-leb (steps r) (length marks) h in
      (rw (passed_fine s r ok, z), rw (passed_fine s r ok, z), rw (passed_fine s r ok, z))

  pub marks_written : (a : Written) (m l : List ℕ) → steps r ≤ length marks → m ≡ over (marks_of s r) marks
      → Told (short_output s r (length out)) (trimmed s r) out a l → Trims s r marks out a m l
  unfolding mark_finding trim_finding few_marks trimming marks_left output_left
  marks_written a m l h em t =
      let z = le-leb (steps r) (length marks) h in
      (rw (passed_fine s r ok, z) t.0, rw (passed_fine s r ok, z) em, rw (passed_fine s r ok, z) t.1)

pub passed_by : (s r : List ℕ) (a : Answer) → a ≡ judgement s r → a.number ≡ 0 → passes (judgement s r) ≡ true
passed_by s r a e h = eq-eqb (judgement s r).number 0 (rw e at h)
