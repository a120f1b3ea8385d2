-- The trimmed record of one that passes all before the close: what it has at which place, that it passes all before the close too, and
-- that trimming it again changes nothing.
-- Assumes nothing.
use Prim.Native.Nat.{ℕ, suc, ◌+◌, ◌-◌, ◌*◌, ◌/◌, ◌^◌, ◌≤◌, ◌<◌}
use mathlib.Core.Path.{◌≡◌, sym, ◌∙◌}
use mathlib.Core.Bool.{Bool, true, cond, ◌&&◌}
use mathlib.Core.List.{List, [], map}
use mathlib.Core.Logic.{inl, inr}
use native.Mathlib.Omega.{arith}
use lib.ListN.{length, get_or, drop, length-map, length-take, length-drop}
use lib.Seq.{get_or-take, get_or-drop, ext_get_or}
use Rattle.judgement.specs.Scan.{sum_of, count_of, list_of}
use Rattle.judgement.specs.Meaning.{none}
use Rattle.judgement.specs.Pairs.{pair_offset, pair_length, body}
use Rattle.judgement.specs.Sheet.{variables}
use Rattle.judgement.specs.Record.{claim, steps, assignment_at, assignment_size, step_pairs_at, assigned, step, last_step, true_count}
use Rattle.judgement.specs.declared.Kind.TheVariants.{Resolvent}
use Rattle.judgement.specs.Step.{kind_of, cited}
use Rattle.judgement.specs.Writer.{joined}
use Rattle.judgement.specs.Facts.{Among, PairRule, ValidSheet, RecordLayout, StepLayout, Inference, BeforeClose}
use Rattle.judgement.proofs.Laws.Scan.{which, and_i, and_l, and_r, sum_same, sum_most, count_same, length_list, list_at}
use Rattle.judgement.proofs.Laws.Table.{map_at, lengths_fill}
use Rattle.judgement.proofs.Complete.Written.{record_claim, record_steps, record_bit, record_bits, record_length, record_body, record_pairs}
use Rattle.judgement.proofs.Complete.Least.{Agree, model_local, cost_local}
use Rattle.trimmer.specs.Trim.{cites, kept, kept_steps, new_number, new_body, kept_bodies, assignment_bytes, trimmed}
use Rattle.trimmer.specs.Promises.{LeastClosed}
use Rattle.trimmer.proofs.Kept.{kept_closed_least}
use Rattle.trimmer.proofs.Chosen.{count_at_most, count_rises, count_grows, count_all, count_from, length_chosen, chosen_at, chosen_all, chosen_size}
use Rattle.trimmer.proofs.Renumbering.{Alike, renumbered_alike, layout_alike}
use Rattle.trimmer.proofs.Moving.{cites_earlier, whole_resolution, Moved, moved_alike, Stands, cites_new, inference_moved, cites_moved, moved_again}

cond_most : (b : Bool) (x y : ℕ) → x ≤ y → cond b x 0 ≤ y
cond_most b x y h = elim (which b) [ inl e ↦ rw e h | inr e ↦ rw e (omega arith) ]

-- ---- of a record that passes all before the close

module _ (s r : List ℕ) (p : BeforeClose s r) where
  abbrev q : List ℕ
  q = trimmed s r

  -- how many are kept
  abbrev total : ℕ
  total = count_of (kept s r) (steps r)

  pub kept_set : LeastClosed (cites s r) (steps r) (kept s r)
  kept_set =
      kept_closed_least (cites s r) (steps r) p.stored.layout.t (λ k j w c. cites_earlier s r k j (p.inferences k w) c)

  pub new_alike : (k : ℕ) → Among (steps r) k → Alike (step s r k) (new_body s r k)
  new_alike k w =
      renumbered_alike (kind_of (step s r k)) (new_number s r) (step s r k) (whole_resolution s r k (p.forms k w) (p.inferences k w))

  -- ---- sizes

  bits_size : length (assignment_bytes s r) ≡ assignment_size (variables s)
  bits_size =
      omega (
        arith,
        length-take (assignment_size (variables s)) (drop assignment_at r),
        length-drop assignment_at r,
        p.stored.layout.room,
      )

  bodies_count : length (kept_bodies s r) ≡ total
  bodies_count = length-map (kept_steps s r) (new_body s r) ∙ length_chosen (kept s r) (steps r)

  pub size_is : length (trimmed s r) ≡ step_pairs_at s + 8 * count_of (kept s r) (steps r) + length (joined (kept_bodies s r))
  unfolding trimmed
  size_is = rw (record_length (claim r) (assignment_bytes s r) (kept_bodies s r), bits_size, bodies_count)

  -- the kept bodies are as long as they were
  bodies_short : length (joined (kept_bodies s r)) ≤ sum_of (pair_length r (step_pairs_at s)) (steps r)
  unfolding body
  bodies_short =
      let old : sum_of (λ k. cond (kept s r k) (length (new_body s r k)) 0) (steps r) ≡ sum_of (λ k. cond (kept s r k) (length (step s r k)) 0) (steps r) =
      sum_same _ _ (steps r) (λ k w. rw (new_alike k w).size) in
      let most = sum_most (λ k. cond (kept s r k) (length (step s r k)) 0) (pair_length r (step_pairs_at s)) (steps r) (λ k.
      cond_most (kept s r k) (length (step s r k)) (pair_length r (step_pairs_at s) k)
      (omega (arith, length-take (pair_length r (step_pairs_at s) k) (drop (pair_offset r (step_pairs_at s) k) r)))) in
      omega (arith, chosen_size (kept s r) (new_body s r) (steps r), old, most)

  pub trimmed_shorter : length (trimmed s r) ≤ length r
  trimmed_shorter =
      omega (
        arith,
        lengths_fill r (step_pairs_at s) (steps r) p.stored.layout.pairs,
        bodies_short,
        count_at_most (kept s r) (steps r),
        size_is,
      )

  fits : 12 + length (assignment_bytes s r) + 8 * length (kept_bodies s r) + length (joined (kept_bodies s r)) < 256 ^ 4
  fits = rw (bits_size, bodies_count) (omega (arith, size_is, trimmed_shorter, p.stored.layout.size))

  -- ---- what stands in it

  pub trimmed_steps : steps (trimmed s r) ≡ count_of (kept s r) (steps r)
  unfolding trimmed
  trimmed_steps = record_steps (claim r) (assignment_bytes s r) (kept_bodies s r) (omega (arith, fits)) ∙ bodies_count

  trimmed_step : (j : ℕ) → Among (count_of (kept s r) (steps r)) j → step s (trimmed s r) j ≡ get_or (kept_bodies s r) (j - 1) []
  unfolding trimmed
  trimmed_step j w =
      rw bits_size at (record_body (claim r) (assignment_bytes s r) (kept_bodies s r) fits j (rw bodies_count w))

  trimmed_pairs : PairRule q (step_pairs_at s) total
  unfolding trimmed
  trimmed_pairs = rw (bits_size, bodies_count) at (record_pairs (claim r) (assignment_bytes s r) (kept_bodies s r) fits)

  -- the new number of a kept step
  pub number_among : (k : ℕ) → kept s r k ≡ true → Among (count_of (kept s r) (steps r)) (new_number s r k)
  unfolding sum_of
  number_among k e =
      let w = kept_set.among k e in
      (count_rises (kept s r) 0 k w.0 e, count_grows (kept s r) k (steps r) w.1)

  -- has its body
  pub moved : (k : ℕ) → kept s r k ≡ true → Moved s r (trimmed s r) (new_number s r) k
  moved k e =
      let w = number_among k e in
      trimmed_step (new_number s r k) w
      ∙ map_at (new_body s r) (kept_steps s r) (new_number s r k - 1) (omega (arith, length_chosen (kept s r) (steps r), w.0, w.1))
      ∙ rw (chosen_at (kept s r) (steps r) k (kept_set.among k e) e)

  alike : (k : ℕ) → kept s r k ≡ true → Alike (step s r k) (step s q (new_number s r k))
  alike k e =
      let w = kept_set.among k e in
      moved_alike s r q (new_number s r) k (p.forms k w) (p.inferences k w) (moved k e)

  -- and fits in 4 bytes
  number_small : (k : ℕ) → kept s r k ≡ true → new_number s r k < 256 ^ 4
  number_small k e =
      omega (arith, (number_among k e).1, count_at_most (kept s r) (steps r), p.stored.layout.room, p.stored.layout.size)

  stands : (k : ℕ) → kept s r k ≡ true → (j : ℕ) → cites s r k j ≡ true → Stands s r q (new_number s r) k j
  stands k e j c =
      let f = kept_set.closed k j e c in
      record {
        some = (number_among j f).0;
        earlier = count_rises (kept s r) j k (cites_earlier s r k j (p.inferences k (kept_set.among k e)) c).1 e;
        alike = alike j f;
      }

  pub new_citations : (k : ℕ) → kept s r k ≡ true → kind_of (step s r k) ≡ Resolvent → (j : ℕ) → Among 2 j
      → cited (new_body s r k) j ≡ new_number s r (cited (step s r k) j)
  new_citations k e kind =
      let w = kept_set.among k e in
      rw (moved k e) at
      (cites_new s r q (new_number s r) k (p.forms k w) (p.inferences k w) (moved k e) (omega (arith, number_small k e)) (stands k e) kind)

  -- step j of the trimmed record has what every kept step has there
  each_step : (P : ℕ → Type 0) → ((k : ℕ) → Among (steps r) k → kept s r k ≡ true → P (new_number s r k))
      → (j : ℕ) → Among (steps q) j → P j
  each_step P h j w =
      let (k, v, e, z) = count_from (kept s r) (steps r) j (rw trimmed_steps at w) in
      rw z at (h k v e)

  new_forms : (j : ℕ) → Among (steps q) j → StepLayout s (step s q j)
  new_forms = each_step (λ j. StepLayout s (step s q j)) (λ k w e.
      layout_alike s (step s r k) (step s q (new_number s r k)) (alike k e) (p.forms k w))

  new_inferences : (j : ℕ) → Among (steps q) j → Inference s q j
  new_inferences = each_step (Inference s q) (λ k w e.
      inference_moved s r q (new_number s r) k (p.forms k w) (p.inferences k w) (moved k e) (omega (arith, number_small k e)) (stands k e))

  pub trimmed_last : Alike (last_step s r) (last_step s (trimmed s r))
  trimmed_last = rw trimmed_steps (alike (steps r) kept_set.last)

  -- ---- claim and assignment

  pub same_bits : assignment_bytes s (trimmed s r) ≡ assignment_bytes s r
  unfolding trimmed
  same_bits = rw bits_size at (record_bits (claim r) (assignment_bytes s r) (kept_bodies s r))

  -- every bit of these bytes, spare ones too
  trimmed_bit : (v : ℕ) → 1 ≤ v → v ≤ 8 * assignment_size (variables s) → assigned q v ≡ assigned r v
  unfolding trimmed assigned
  trimmed_bit v l h =
      let i : (v - 1) / 8 < assignment_size (variables s) = omega arith in
      record_bit (claim r) (assignment_bytes s r) (kept_bodies s r) v l (rw bits_size h)
      ∙ rw (get_or-take (assignment_size (variables s)) (drop assignment_at r) ((v - 1) / 8) 0 i, get_or-drop assignment_at r ((v - 1) / 8) 0)

  pub agree : Agree (variables s) (assigned r) (assigned (trimmed s r))
  agree v w = sym (trimmed_bit v w.0 (omega (arith, w.1)))

  module _ (small : claim r ≤ none) where
    pub trimmed_claim : claim (trimmed s r) ≡ claim r
    unfolding trimmed
    trimmed_claim = record_claim (claim r) (assignment_bytes s r) (kept_bodies s r) small

    new_layout : RecordLayout s q
    new_layout =
        record {
          size = omega (arith, trimmed_shorter, p.stored.layout.size);
          t = rw trimmed_steps (number_among (steps r) kept_set.last).0;
          room = rw trimmed_steps (omega (arith, size_is));
          spare = λ v l h. trimmed_bit v (omega arith) h ∙ p.stored.layout.spare v l h;
          clear = λ e v w. sym (agree v w) ∙ p.stored.layout.clear (sym trimmed_claim ∙ e) v w;
          pairs = rw trimmed_steps trimmed_pairs;
        }

    -- it passes all before the close too
    pub trimmed_passes : BeforeClose s (trimmed s r)
    trimmed_passes =
        record {
          stored = record {
            sheet = valid;
            layout = new_layout;
            model = λ h. model_local s valid (assigned r) (assigned q) agree (p.stored.model (λ e. h (trimmed_claim ∙ e)));
            cost_is = λ h.
                sym (cost_local s valid (assigned r) (assigned q) agree) ∙ p.stored.cost_is (λ e. h (trimmed_claim ∙ e)) ∙ sym trimmed_claim;
          };
          forms = new_forms;
          inferences = new_inferences;
        }
      where
        valid : ValidSheet s
        valid = p.stored.sheet

    pub trimmed_count : true_count s (trimmed s r) ≡ true_count s r
    unfolding true_count
    trimmed_count = rw (trimmed_claim, count_same (assigned q) (assigned r) (variables s) (λ v w. sym (agree v w)))

    -- ---- trimmed again

    -- where the kept steps of the trimmed record are known to be the least set
    module _ (set : LeastClosed (cites s (trimmed s r)) (steps (trimmed s r)) (kept s (trimmed s r))) where
      last_at : (j : ℕ) → j ≡ steps q → kept s q j ≡ true
      last_at j e = rw e set.last

      cites_kept : (k j : ℕ) → kept s r k ≡ true → cites s r k j ≡ true → cites s q (new_number s r k) (new_number s r j) ≡ true
      cites_kept k j e c =
          let w = kept_set.among k e in
          cites_moved s r q (new_number s r) k (p.forms k w) (p.inferences k w) (moved k e) (omega (arith, number_small k e)) (stands k e) j c

      -- the steps of r that are kept, also when the trimmed record is trimmed
      abbrev still : ℕ → Bool
      still k = kept s r k && kept s q (new_number s r k)

      still_closed : (k j : ℕ) → Among (steps r) k → still k ≡ true → cites s r k j ≡ true → still j ≡ true
      still_closed k j w h c =
          let a : kept s r k ≡ true = search (h, and_l) in
          let b : kept s q (new_number s r k) ≡ true = search (h, and_r) in
          and_i (kept s r j) (kept s q (new_number s r j)) (kept_set.closed k j a c)
          (set.closed (new_number s r k) (new_number s r j) b (cites_kept k j a c))

      kept_still : (k : ℕ) → kept s r k ≡ true → kept s q (new_number s r k) ≡ true
      kept_still k e =
          and_r (kept s r k) (kept s q (new_number s r k))
          (kept_set.least still (and_i (kept s r (steps r)) (kept s q total) kept_set.last (last_at total (sym trimmed_steps))) still_closed k e)

      pub every_kept : (j : ℕ) → Among (steps (trimmed s r)) j → kept s (trimmed s r) j ≡ true
      every_kept = each_step (λ j. kept s q j ≡ true) (λ k w e. kept_still k e)

      same_number : (j : ℕ) → j ≤ steps q → new_number s q j ≡ j
      same_number j h = count_all (kept s q) j (λ k w. every_kept k (w.0, omega (arith, w.1, h)))

      same_step : (j : ℕ) → Among (steps q) j → new_body s q j ≡ step s q j
      same_step = each_step (λ j. new_body s q j ≡ step s q j) (λ k w e.
          moved_again s r q (new_number s r) k (p.forms k w) (p.inferences k w) (moved k e) (omega (arith, number_small k e)) (stands k e)
          (new_number s q) (λ j a h. same_number j (omega (arith, (number_among k e).1, trimmed_steps, h))))

      same_bodies : kept_bodies s q ≡ kept_bodies s r
      same_bodies = rw (chosen_all (kept s q) (steps q) every_kept) (ext_get_or [] (map (new_body s q) all) (kept_bodies s r) same_length each)
        where
          all : List ℕ
          all = list_of (λ k. k) (steps q)

          size : length all ≡ steps q
          size = length_list (λ k. k) (steps q)

          same_length : length (map (new_body s q) all) ≡ length (kept_bodies s r)
          same_length = length-map all (new_body s q) ∙ size ∙ trimmed_steps ∙ sym bodies_count

          each : (i : ℕ) → i < length (map (new_body s q) all) → get_or (map (new_body s q) all) i [] ≡ get_or (kept_bodies s r) i []
          each i h =
              let z : suc i - 1 ≡ i = omega arith in
              let l : i < length all = omega (arith, length-map all (new_body s q), h) in
              let w : Among (steps q) (suc i) = (omega arith, omega (arith, size)) in
              map_at (new_body s q) all i l
              ∙ rw (rw z at (list_at (λ k. k) (steps q) (suc i) w)) (same_step (suc i) w)
              ∙ rw z at (trimmed_step (suc i) (rw trimmed_steps at w))

      pub trimmed_again : trimmed s (trimmed s r) ≡ trimmed s r
      unfolding trimmed
      trimmed_again = rw (trimmed_claim, same_bits, same_bodies)
