-- Which answer trimming gives when, and what both buffers hold after it; and that these facts leave no other answer and no other
-- byte.
-- Assumes nothing.
use Prim.Native.Nat.{ℕ, suc, ◌-◌, ◌≤◌, ◌<◌}
use mathlib.Core.Path.{◌≡◌, refl, sym, ◌∙◌}
use mathlib.Core.Bool.{true, false}
use mathlib.Core.List.{List}
use mathlib.Core.Logic.{◌≢◌, ◌⊎◌, inl, inr}
use native.Mathlib.Omega.{arith}
use native.Mathlib.Decide.{dec_lt}
use lib.ListN.{length, get_or, take, drop, get_or-append, take-append-drop}
use lib.Seq.{take-append_seam, drop-append_seam, drop_at, length-take-le, get_or-take, ext_get_or}
use borrow.Author.Tests.{le-leb, lt-leb}
use Rattle.std.specs.Prelude.{Ok}
use Rattle.judgement.specs.Finding.{Finding, fault}
use Rattle.judgement.specs.declared.Written.{Written}
use Rattle.judgement.specs.Scan.{one, list_of}
use Rattle.judgement.specs.Record.{steps}
use Rattle.judgement.specs.Buffer.{over}
use Rattle.judgement.specs.Judgement.{finding, judgement, passes}
use Rattle.judgement.specs.Facts.{Among}
use Rattle.judgement.proofs.Laws.Scan.{which, clash, length_list, list_at}
use Rattle.judgement.proofs.Laws.Buffer.{length_over}
use Rattle.judgement.proofs.Order.Shape.{numbered, shape}
use Rattle.judgement.proofs.Order.WhichFault.{answer_fault}
use Rattle.judgement.proofs.Facts.Accepted.{passed_fine}
use Rattle.trimmer.specs.Trim.{kept, trimmed, marks_of, few_marks, short_output, mark_finding, trim_finding, trimming, marks_left, output_left}
use Rattle.trimmer.specs.Promises.{TrimmedWhen}

-- ---- the judgement's own refusals

refusal_number : (s r : List ℕ) → passes (judgement s r) ≡ false → (1 ≤ (judgement s r).number) × ((judgement s r).number < 25)
refusal_number s r e = numbered s r (judgement s r).number (judgement s r).place ((shape s r).place e)

refusal : (s r : List ℕ) → passes (judgement s r) ≡ false → finding s r ≡ fault (judgement s r).number (judgement s r).place
unfolding judgement
refusal s r e = answer_fault s r (finding s r) _ _ (λ z. omega (arith, (refusal_number s r e).0, z)) refl refl

-- ---- which of the four answers it is, by the finding before the marks are written and that of all

data Case (s r : List ℕ) (marks room : ℕ) (f g : Finding) : Type 0 where
  refused : passes (judgement s r) ≡ false → f ≡ fault (judgement s r).number (judgement s r).place
      → g ≡ fault (judgement s r).number (judgement s r).place → Case s r marks room f g
  few : passes (judgement s r) ≡ true → marks < steps r → f ≡ fault 27 0 → g ≡ fault 27 0 → Case s r marks room f g
  short : passes (judgement s r) ≡ true → steps r ≤ marks → room < length (trimmed s r) → f ≡ Ok tt → g ≡ fault 28 0
      → Case s r marks room f g
  enough : passes (judgement s r) ≡ true → steps r ≤ marks → length (trimmed s r) ≤ room → f ≡ Ok tt → g ≡ Ok tt
      → Case s r marks room f g

case_of : (s r : List ℕ) (marks room : ℕ) → Case s r marks room (mark_finding s r marks) (trim_finding s r marks room)
unfolding mark_finding trim_finding few_marks short_output
case_of s r marks room = go (which (passes (judgement s r))) (dec_lt marks (steps r)) (dec_lt room (length (trimmed s r)))
  where
    go : (passes (judgement s r) ≡ true) ⊎ (passes (judgement s r) ≡ false) → Dec (marks < steps r) → Dec (room < length (trimmed s r))
        → Case s r marks room (mark_finding s r marks) (trim_finding s r marks room)
    go (inr u) c d = let e = refusal s r u in refused u (rw e) (rw e)
    go (inl ok) (yes h) d =
        let e = passed_fine s r ok in
        let few-is = lt-leb (steps r) marks h in
        few ok h (rw (e, few-is)) (rw (e, few-is))
    go (inl ok) (no h) (yes g) =
        let e = passed_fine s r ok in
        let all = le-leb (steps r) marks (omega arith) in
        short ok (omega arith) g (rw (e, all)) (rw (e, all, lt-leb (length (trimmed s r)) room g))
    go (inl ok) (no h) (no g) =
        let e = passed_fine s r ok in
        let all = le-leb (steps r) marks (omega arith) in
        enough ok (omega arith) (omega arith) (rw (e, all)) (rw (e, all, le-leb (length (trimmed s r)) room (omega arith)))

-- ---- the marks

pub marks_size : (s r : List ℕ) → length (marks_of s r) ≡ steps r
unfolding marks_of
marks_size s r = length_list (λ k. one (kept s r k)) (steps r)

module _ (s r marks : List ℕ) where
  abbrev after : List ℕ
  after = over (marks_of s r) marks

  marks_at : (k : ℕ) → Among (steps r) k → get_or after (k - 1) 0 ≡ one (kept s r k)
  unfolding marks_of
  marks_at k w =
      get_or-append (marks_of s r) (drop (length (marks_of s r)) marks) 0 (k - 1) (omega (arith, marks_size s r, w.0, w.1))
      ∙ list_at (λ k. one (kept s r k)) (steps r) k w

  marks_past : drop (steps r) after ≡ drop (steps r) marks
  marks_past = drop_at (marks_of s r) (drop (length (marks_of s r)) marks) (steps r) (marks_size s r) ∙ rw (marks_size s r)

  marks_length : steps r ≤ length marks → length after ≡ length marks
  marks_length h = length_over (marks_of s r) marks (rw (marks_size s r) h)

-- ---- what each of them says

module _ (s r marks out : List ℕ) where
  when_refused : passes (judgement s r) ≡ false
      → TrimmedWhen s r marks out (record { number = (judgement s r).number; place = (judgement s r).place; length = 0 }) marks out
  when_refused u =
      let n = refusal_number s r u in
      record {
        refused = λ z. (refl, refl);
        written = (λ z. absurd (omega (arith, n.0, z)), λ (ok, h, g). absurd (clash ok u));
        few = (λ z. absurd (omega (arith, n.1, z)), λ (ok, h). absurd (clash ok u));
        short = (λ z. absurd (omega (arith, n.1, z)), λ (ok, h, g). absurd (clash ok u));
        place = λ ok. absurd (clash ok u);
        size = λ z. absurd (omega (arith, n.0, z));
        none_written = λ z. refl;
        marked = λ z. elim z [ inl e ↦ absurd (omega (arith, n.0, e)) | inr e ↦ absurd (omega (arith, n.1, e)) ];
        past_marks = refl;
        unmarked = λ y z. refl;
        same_marks = refl;
        begins = λ z. absurd (omega (arith, n.0, z));
        behind = refl;
        same_room = refl;
      }

  when_few : passes (judgement s r) ≡ true → length marks < steps r
      → TrimmedWhen s r marks out (record { number = 27; place = 0; length = 0 }) marks out
  when_few ok h =
      record {
        refused = λ u. absurd (clash ok u);
        written = (λ z. absurd (omega (arith, z)), λ (ok, m, l). absurd (omega arith));
        few = (λ z. (ok, h), λ z. refl);
        short = (λ z. absurd (omega (arith, z)), λ (ok, m, l). absurd (omega arith));
        place = λ ok. refl;
        size = λ z. absurd (omega (arith, z));
        none_written = λ z. refl;
        marked = λ z. elim z [ inl e ↦ absurd (omega (arith, e)) | inr e ↦ absurd (omega (arith, e)) ];
        past_marks = refl;
        unmarked = λ y z. refl;
        same_marks = refl;
        begins = λ z. absurd (omega (arith, z));
        behind = refl;
        same_room = refl;
      }

  when_short : passes (judgement s r) ≡ true → steps r ≤ length marks → length out < length (trimmed s r)
      → TrimmedWhen s r marks out (record { number = 28; place = 0; length = 0 }) (over (marks_of s r) marks) out
  when_short ok h g =
      record {
        refused = λ u. absurd (clash ok u);
        written = (λ z. absurd (omega (arith, z)), λ (ok, m, l). absurd (omega arith));
        few = (λ z. absurd (omega (arith, z)), λ (ok, m). absurd (omega arith));
        short = (λ z. (ok, h, g), λ z. refl);
        place = λ ok. refl;
        size = λ z. absurd (omega (arith, z));
        none_written = λ z. refl;
        marked = λ z. marks_at s r marks;
        past_marks = marks_past s r marks;
        unmarked = λ y z. absurd (z refl);
        same_marks = marks_length s r marks h;
        begins = λ z. absurd (omega (arith, z));
        behind = refl;
        same_room = refl;
      }

  when_enough : passes (judgement s r) ≡ true → steps r ≤ length marks → length (trimmed s r) ≤ length out
      → TrimmedWhen s r marks out (record { number = 0; place = 0; length = length (trimmed s r) })
      (over (marks_of s r) marks) (over (trimmed s r) out)
  when_enough ok h g =
      record {
        refused = λ u. absurd (clash ok u);
        written = (λ z. (ok, h, g), λ z. refl);
        few = (λ z. absurd (omega (arith, z)), λ (ok, m). absurd (omega arith));
        short = (λ z. absurd (omega (arith, z)), λ (ok, m, l). absurd (omega arith));
        place = λ ok. refl;
        size = λ z. refl;
        none_written = λ z. absurd (z refl);
        marked = λ z. marks_at s r marks;
        past_marks = marks_past s r marks;
        unmarked = λ y z. absurd (y refl);
        same_marks = marks_length s r marks h;
        begins = λ z. take-append_seam (trimmed s r) (drop (length (trimmed s r)) out);
        behind = drop-append_seam (trimmed s r) (drop (length (trimmed s r)) out);
        same_room = length_over (trimmed s r) out g;
      }

pub trimmed_when : (s r marks out : List ℕ) (a : Written) (m l : List ℕ) → a ≡ trimming s r (length marks) (length out)
    → m ≡ marks_left s r marks → l ≡ output_left s r (length marks) out → TrimmedWhen s r marks out a m l
unfolding trimming marks_left output_left
trimmed_when s r marks out a m l ea em el = by_case (case_of s r (length marks) (length out))
  where
    by_case : Case s r (length marks) (length out) (mark_finding s r (length marks)) (trim_finding s r (length marks) (length out))
        → TrimmedWhen s r marks out a m l
    by_case (refused u f g) = rw (ea, em, el, f, g) (when_refused s r marks out u)
    by_case (few ok h f g) = rw (ea, em, el, f, g) (when_few s r marks out ok h)
    by_case (short ok h k f g) = rw (ea, em, el, f, g) (when_short s r marks out ok h k)
    by_case (enough ok h k f g) = rw (ea, em, el, f, g) (when_enough s r marks out ok h k)

-- ---- the facts alone

written_is : (a : Written) {N P L : ℕ} → a.number ≡ N → a.place ≡ P → a.length ≡ L → a ≡ record { number = N; place = P; length = L }
written_is a e f g = rw (← e, ← f, ← g)

-- the marks one by one, and what stands behind them
marks_back : (s r marks m : List ℕ) → ((k : ℕ) → Among (steps r) k → get_or m (k - 1) 0 ≡ one (kept s r k))
    → drop (steps r) m ≡ drop (steps r) marks → steps r ≤ length m → m ≡ over (marks_of s r) marks
unfolding marks_of
marks_back s r marks m each past h =
    let f : ℕ → ℕ = λ k. one (kept s r k) in
    let n : length (take (steps r) m) ≡ steps r = length-take-le (steps r) m h in
    let front : take (steps r) m ≡ list_of f (steps r) =
    ext_get_or 0 (take (steps r) m) (list_of f (steps r)) (n ∙ sym (length_list f (steps r))) (λ i g.
    (let z : suc i - 1 ≡ i = omega arith in
    let w : Among (steps r) (suc i) = (omega arith, omega (arith, n, g)) in
    get_or-take (steps r) m i 0 (omega (arith, n, g)) ∙ rw z at (each (suc i) w ∙ sym (list_at f (steps r) (suc i) w)))) in
    sym (take-append-drop (steps r) m) ∙ rw (front, past, length_list f (steps r))

output_back : (w out l : List ℕ) (n : ℕ) → n ≡ length w → take n l ≡ w → drop n l ≡ drop n out → l ≡ over w out
output_back w out l n e f g = sym (take-append-drop n l) ∙ rw (f, g, e)

module _ (s r marks out : List ℕ) (a : Written) (m l : List ℕ) (w : TrimmedWhen s r marks out a m l) where
  -- a refusal leaves the output
  output_stays : a.number ≢ 0 → l ≡ out
  output_stays n = rw (w.none_written n) at w.behind

  marks_are : (a.number ≡ 0) ⊎ (a.number ≡ 28) → steps r ≤ length marks → m ≡ over (marks_of s r) marks
  marks_are e h = marks_back s r marks m (w.marked e) w.past_marks (omega (arith, w.same_marks))

  pub when_only :
      (a ≡ trimming s r (length marks) (length out)) × (m ≡ marks_left s r marks) × (l ≡ output_left s r (length marks) out)
  unfolding trimming marks_left output_left
  when_only = by_case (case_of s r (length marks) (length out))
    where
      by_case : Case s r (length marks) (length out) (mark_finding s r (length marks)) (trim_finding s r (length marks) (length out))
          → (a ≡ trimming s r (length marks) (length out)) × (m ≡ marks_left s r marks) × (l ≡ output_left s r (length marks) out)
      by_case (refused u f g) =
          let (e, p) = w.refused u in
          let n = refusal_number s r u in
          let some : a.number ≢ 0 = λ z. omega (arith, e, n.0, z) in (
            rw g (written_is a e p (w.none_written some)),
            rw f (w.unmarked some (λ z. omega (arith, e, n.1, z))),
            rw g (output_stays some),
          )
      by_case (few ok h f g) =
          let e = w.few.1 (ok, h) in
          let some : a.number ≢ 0 = λ z. omega (arith, e, z) in (
            rw g (written_is a e (w.place ok) (w.none_written some)),
            rw f (w.unmarked some (λ z. omega (arith, e, z))),
            rw g (output_stays some),
          )
      by_case (short ok h k f g) =
          let e = w.short.1 (ok, h, k) in
          let some : a.number ≢ 0 = λ z. omega (arith, e, z) in
          (rw g (written_is a e (w.place ok) (w.none_written some)), rw f (marks_are (inr e) h), rw g (output_stays some))
      by_case (enough ok h k f g) =
          let e = w.written.1 (ok, h, k) in (
            rw g (written_is a e (w.place ok) (w.size e)),
            rw f (marks_are (inl e) h),
            rw g (output_back (trimmed s r) out l a.length (w.size e) (w.begins e) w.behind),
          )
