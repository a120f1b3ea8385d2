-- What is promised of the trimmed record of one that is not refused.
-- Assumes nothing.
use Prim.Native.Nat.{ℕ, ◌+◌, ◌*◌, ◌≤◌}
use mathlib.Core.Path.{◌≡◌, sym, ◌∙◌}
use mathlib.Core.Bool.{true}
use mathlib.Core.List.{List, [], ◌∷◌, ◌++◌, map}
use mathlib.Core.Logic.{inl, inr}
use native.Mathlib.Omega.{arith}
use lib.ListN.{length, drop, replicate, length-append}
use lib.Seq.{get_or-drop}
use lib.Dec.{leb}
use borrow.Author.Tests.{le-leb}
use Rattle.std.specs.Prelude.{Ok}
use Rattle.judgement.specs.declared.Kind.{Kind}
use Rattle.judgement.specs.declared.Kind.TheVariants.{Copy, Cost, IndependentSet, Resolvent, WeightedSet, Unknown}
use Rattle.judgement.specs.Scan.{count_of}
use Rattle.judgement.specs.Meaning.{none}
use Rattle.judgement.specs.Pairs.{pair_offset, pair_length, body}
use Rattle.judgement.specs.Record.{claim, steps, step_pairs_at, step}
use Rattle.judgement.specs.Step.{kind_of, literal_count, literals_at, stated}
use Rattle.judgement.specs.Writer.{joined, file_of, record_of}
use Rattle.judgement.specs.Judgement.{close, finding, judgement, passes}
use Rattle.judgement.specs.Facts.{BeforeClose}
use Rattle.judgement.specs.Demands.{IsBytes}
use Rattle.judgement.proofs.Laws.Scan.{which}
use Rattle.judgement.proofs.Laws.Stored.{number_below, part_bytes}
use Rattle.judgement.proofs.Laws.Buffer.{over_again}
use Rattle.judgement.proofs.Laws.Findings.{IsFine, fine_is}
use Rattle.judgement.proofs.Complete.Bytes.{nil_bytes, bytes_are_bytes, append_bytes}
use Rattle.judgement.proofs.Complete.Written.{pairs_bytes}
use Rattle.judgement.proofs.Facts.Close.{closes_fine, cost_fine, close_facts}
use Rattle.judgement.proofs.Facts.Accepted.{facts_fine, passed_fine, passes_close, passes_before}
use Rattle.trimmer.specs.Trim.{cites, kept, citing, new_number, renumbered, new_body, trimmed, marks_of, few_marks, short_output, mark_finding, trim_finding, trimming, output_left}
use Rattle.trimmer.specs.Promises.{LeastClosed, Renumbered, with_steps, Trimming}
use Rattle.trimmer.proofs.Kept.{least_only}
use Rattle.trimmer.proofs.Marking.{list_const}
use Rattle.trimmer.proofs.Chosen.{count_rises, count_from}
use Rattle.trimmer.proofs.Moving.{cites_when, same_body}
use Rattle.trimmer.proofs.Trimmed.{kept_set, new_alike, trimmed_shorter, trimmed_steps, number_among, moved, new_citations, trimmed_last, agree, trimmed_claim, trimmed_passes, trimmed_count, every_kept, trimmed_again}

-- ---- it is a file

drop_bytes : (l : List ℕ) → IsBytes l → (n : ℕ) → IsBytes (drop n l)
drop_bytes l h n i = rw (get_or-drop n l i 0) (h (n + i))

renumbered_bytes : (K : Kind) (number : ℕ → ℕ) (b : List ℕ) → IsBytes b → IsBytes (renumbered K number b)
unfolding renumbered citing
renumbered_bytes Copy number b h = h
renumbered_bytes Cost number b h = h
renumbered_bytes IndependentSet number b h = h
renumbered_bytes Resolvent number b h =
    let front = part_bytes b h (literals_at + 2 * literal_count b) 0 in
    search (append_bytes, bytes_are_bytes, drop_bytes, h)
renumbered_bytes WeightedSet number b h = h
renumbered_bytes Unknown number b h = h

bodies_bytes : (g : ℕ → List ℕ) (l : List ℕ) → ((k : ℕ) → IsBytes (g k)) → IsBytes (joined (map g l))
unfolding joined
bodies_bytes g [] h = nil_bytes
bodies_bytes g (k ∷ l) h = append_bytes (g k) (joined (map g l)) (h k) (bodies_bytes g l h)

trimmed_bytes : (s r : List ℕ) → IsBytes r → IsBytes (trimmed s r)
unfolding trimmed record_of file_of body
trimmed_bytes s r h =
    let new : (k : ℕ) → IsBytes (new_body s r k) = λ k.
    renumbered_bytes (kind_of (step s r k)) (new_number s r) (step s r k)
    (part_bytes r h (pair_length r (step_pairs_at s) k) (pair_offset r (step_pairs_at s) k)) in
    search (append_bytes, bytes_are_bytes, pairs_bytes, part_bytes, bodies_bytes, h, new)

module _ (s r : List ℕ) (bytes : IsBytes r) (ok : passes (judgement s r) ≡ true) where
  abbrev q : List ℕ
  q = trimmed s r

  abbrev total : ℕ
  total = count_of (kept s r) (steps r)

  before : BeforeClose s r
  before = passes_before s r ok

  small : claim r ≤ none
  unfolding none
  small = omega (arith, number_below 8 r bytes 0)

  set : LeastClosed (cites s q) (steps q) (kept s q)
  set = kept_set s q (trimmed_passes s r before small)

  -- ---- the judgement

  claim_is : claim q ≡ claim r
  claim_is = trimmed_claim s r before small

  still_closes : IsFine (close s q)
  still_closes =
      let last = trimmed_last s r before in
      elim (close_facts s r (passes_close s r ok)) [
        | inl h ↦ closes_fine s q (record { empty = last.count_is ∙ h.empty; reaches = rw (last.bound_is, claim_is) h.reaches })
        | inr h ↦ cost_fine s q (last.count_is ∙ h.empty) (λ z. h.some (sym claim_is ∙ z))
      ]

  still_fine : finding s q ≡ Ok tt
  still_fine =
      fine_is (finding s q) (facts_fine s q (trimmed_passes s r before small) still_closes)

  judged : judgement s q ≡ with_steps total (judgement s r)
  unfolding judgement
  judged =
      rw (passed_fine s r ok, still_fine, (trimmed_last s r before).bound_is, claim_is, trimmed_count s r before small, trimmed_steps s r before)

  -- ---- each step

  says : (k : ℕ) → kept s r k ≡ true → Renumbered (new_number s r) (step s r k) (new_body s r k)
  unfolding kind_of
  says k e =
      let a = new_alike s r before k ((kept_set s r before).among k e) in
      record {
        same_kind = rw a.first_is;
        same_statement = rw (a.literals_are, a.bound_is);
        same_pivot = λ kind. a.pivot_is;
        new_citations = new_citations s r before k e;
        same_body = same_body (kind_of (step s r k)) (new_number s r) (step s r k);
        same_size = a.size;
      }

  -- ---- trimmed again

  again : trimmed s q ≡ q
  again = trimmed_again s r before small set

  all_kept : marks_of s q ≡ replicate total 1
  unfolding marks_of
  all_kept =
      list_const _ 1 (steps q) (λ k w. rw (every_kept s r before small set k w))
      ∙ rw (trimmed_steps s r before)

  enough : (marks room : ℕ) → total ≤ marks → length q ≤ room
      → trimming s q marks room ≡ record { number = 0; place = 0; length = length q }
  unfolding trimming trim_finding mark_finding few_marks short_output
  enough marks room h g = rw (still_fine, again, trimmed_steps s r before, le-leb total marks h, le-leb (length q) room g)

  stays : (marks : ℕ) (l : List ℕ) → output_left s q marks (q ++ l) ≡ q ++ l
  unfolding output_left trim_finding mark_finding few_marks short_output
  stays marks l =
      rw (still_fine, again, le-leb (length q) (length (q ++ l)) (omega (arith, length-append q l))) (elim (which (leb (steps q) marks)) [
        | inl e ↦ rw e (over_again q l)
        | inr e ↦ rw e
      ])

  pub trimming_promised : Trimming s r
  trimming_promised =
      record {
        the_kept = record {
          cites_are = cites_when s r;
          is = kept_set s r before;
          only = λ K h. least_only (cites s r) (steps r) K (kept s r) h (kept_set s r before);
        };
        same_claim = claim_is;
        same_assignment = λ v w. sym (agree s r before v w);
        count = trimmed_steps s r before;
        there = λ k e. rw (trimmed_steps s r before) (number_among s r before k e);
        in_order = λ j k e f h. count_rises (kept s r) j k h f;
        no_other = λ j w.
            (let (k, v, e, z) = count_from (kept s r) (steps r) j (rw (trimmed_steps s r before) at w) in
            (k, e, z));
        body_is = moved s r before;
        says = says;
        bytes = trimmed_bytes s r bytes;
        no_longer = trimmed_shorter s r before;
        judged = judged;
        all_kept = all_kept;
        again = again;
        enough = enough;
        stays = stays;
      }

-- what the promises say of a kept step: in the trimmed record it states the same, by a step of the same kind
pub kept_states : (s r : List ℕ) → Trimming s r → (k : ℕ) → kept s r k ≡ true
    → (kind_of (step s (trimmed s r) (new_number s r k)) ≡ kind_of (step s r k)) × (stated (step s (trimmed s r) (new_number s r k)) ≡ stated (step s r k))
kept_states s r t k e = let a = t.says k e in (rw (t.body_is k e) a.same_kind, rw (t.body_is k e) a.same_statement)
