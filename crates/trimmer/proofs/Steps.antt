-- What the code knows of the steps of a record that has passed: where they stand, what they cite, what their marks say, and what
-- each adds to the trimmed record.
-- Assumes nothing.
use Prim.Native.Nat.{ℕ, zero, suc, ◌+◌, ◌-◌, ◌^◌, ◌≤◌, ◌<◌}
use mathlib.Core.Path.{◌≡◌, refl, sym, ◌∙◌}
use mathlib.Core.Bool.{Bool, true, false, cond}
use mathlib.Core.List.{List, [], ◌∷◌, ◌++◌, map, map-append, append-nil}
use mathlib.Core.Logic.{◌⊎◌, inl, inr}
use native.Mathlib.Omega.{arith}
use native.Mathlib.Numerals.{add-one}
use lib.ListN.{length, get_or, drop, length-append, length-take, length-drop}
use lib.Dec.{eqb}
use borrow.Author.Tests.{eq-eqb, ne_eqb}
use Rattle.judgement.specs.Scan.{one, count_of}
use Rattle.judgement.specs.Pairs.{pair_offset, pair_length, body}
use Rattle.judgement.specs.Record.{steps, step}
use Rattle.judgement.specs.declared.Kind.{Kind}
use Rattle.judgement.specs.declared.Kind.TheVariants.{Copy, Cost, IndependentSet, Resolvent, WeightedSet, Unknown}
use Rattle.judgement.specs.Step.{kind_of, cited}
use Rattle.judgement.specs.Writer.{bytes_of, pairs_of, joined}
use Rattle.judgement.specs.Facts.{Among}
use Rattle.judgement.proofs.Laws.Scan.{which, or_l, or_r, list_at, count_same}
use Rattle.judgement.proofs.Laws.Table.{pairs_end}
use Rattle.checker.specs.Read.{Within}
use Rattle.checker.proofs.Known.{step_within}
use Rattle.trimmer.specs.Trim.{cites_step, kept, chosen, new_number, renumbered, new_body, marks_of}
use Rattle.trimmer.specs.Work.{Passed, Marked, Citing, marked, kept_body, bodies_to, pair_if, pairs_to}
use Rattle.trimmer.proofs.Chosen.{chosen_taken, chosen_left, chosen_joined}
use Rattle.trimmer.proofs.Moving.{cites_earlier, whole_resolution}
use Rattle.trimmer.proofs.Trimmed.{new_alike}
use Rattle.trimmer.proofs.When.{marks_size}
use Rattle.trimmer.proofs.Marking.{mark_bit}

-- ---- a record that has passed

module _ (s r : List ℕ) (table : ℕ) (p : Passed s r table) where
  -- the pairs of the steps fit into a file of less than 2 ^ 32 bytes
  pub few_steps : steps r < 2 ^ 29
  few_steps = let l = p.before.stored.layout in omega (arith, l.size, l.room)

  module _ (k : ℕ) (w : Among (steps r) k) where
    pub within : Within r table k
    within = step_within s r k p.before.stored.layout w p.pairs

    -- the pair has the body's length
    pub size_is : {x : ℕ} → x ≡ pair_length r table k → x ≡ length (step s r k)
    unfolding body
    size_is e =
        let ends = within.body in
        let l = length-take (pair_length r table k) (drop (pair_offset r table k) r) in
        let d = length-drop (pair_offset r table k) r in
        rw (← p.pairs) (omega (arith, e, ends, l, d))

    pub citing_of : (n : ℕ) {b : List ℕ} → k ≤ n → b ≡ step s r k → Citing b n
    unfolding cites_step
    citing_of n {b} h e =
        rw e (record {
          head = (let l = (p.before.forms k w).room in omega (arith, l));
          whole = whole_resolution s r k (p.before.forms k w) (p.before.inferences k w);
          first = λ z. (let c = cites_earlier s r k (cited (step s r k) 1) (p.before.inferences k w)
              (rw z (or_l (eqb (cited (step s r k) 1) (cited (step s r k) 1)) (eqb (cited (step s r k) 2) (cited (step s r k) 1)) (eq-eqb (cited (step s r k) 1) (cited (step s r k) 1) refl))) in
              (c.0, omega (arith, c.1)));
          second = λ z. (let c = cites_earlier s r k (cited (step s r k) 2) (p.before.inferences k w)
              (rw z (or_r (eqb (cited (step s r k) 1) (cited (step s r k) 2)) (eqb (cited (step s r k) 2) (cited (step s r k) 2)) (eq-eqb (cited (step s r k) 2) (cited (step s r k) 2) refl))) in
              (c.0, omega (arith, c.1)));
        })

-- ---- whose marks are written

module _ (s r : List ℕ) (table : ℕ) (marks : List ℕ) (m : Marked s r table marks) where
  pub marks_length : length marks ≡ steps r
  marks_length = rw m.marks_are (marks_size s r)

  marked_kept : (k : ℕ) → Among (steps r) k → marked marks k ≡ kept s r k
  unfolding marks_of marked
  marked_kept k w = rw (m.marks_are, list_at (λ k. one (kept s r k)) (steps r) k w) (mark_bit (kept s r k))

  pub counted : (x : ℕ) → x ≤ steps r → count_of (marked marks) x ≡ new_number s r x
  counted x h = count_same (marked marks) (kept s r) x (λ k w. marked_kept k (w.0, omega (arith, w.1)))

  module _ (k : ℕ) (w : Among (length marks) k) where
    pub own_step : Among (steps r) k
    own_step = rw (← marks_length) w

    kept_by : {b : Bool} → eqb (get_or marks (k - 1) 0) 1 ≡ b → kept s r k ≡ b
    unfolding marked
    kept_by e = sym (marked_kept k own_step) ∙ e

    -- without a mark, and with one
    pub kept_none : (get_or marks (k - 1) 0 ≡ 1 → ⊥) → kept_body s r k ≡ []
    unfolding kept_body
    kept_none h = rw (kept_by (ne_eqb (get_or marks (k - 1) 0) 1 h))

    kept_one : get_or marks (k - 1) 0 ≡ 1 → kept_body s r k ≡ new_body s r k
    unfolding kept_body
    kept_one h = rw (kept_by (eq-eqb (get_or marks (k - 1) 0) 1 h))

    pub kept_length : get_or marks (k - 1) 0 ≡ 1 → length (kept_body s r k) ≡ length (step s r k)
    kept_length h = rw (kept_one h) (new_alike s r m.passed.before k own_step).size

    same_numbers : (K : Kind) (b : List ℕ) → (K ≡ Resolvent → Among (steps r) (cited b 1)) → (K ≡ Resolvent → Among (steps r) (cited b 2))
        → renumbered K (count_of (marked marks)) b ≡ renumbered K (new_number s r) b
    unfolding renumbered
    same_numbers Copy b x y = refl
    same_numbers Cost b x y = refl
    same_numbers IndependentSet b x y = refl
    same_numbers Resolvent b x y = rw (counted (cited b 1) (x refl).1, counted (cited b 2) (y refl).1)
    same_numbers WeightedSet b x y = refl
    same_numbers Unknown b x y = refl

    -- renumbered by the marks it is what the definition has
    pub kept_renumbered : {b : List ℕ} → get_or marks (k - 1) 0 ≡ 1 → b ≡ step s r k
        → renumbered (kind_of b) (count_of (marked marks)) b ≡ kept_body s r k
    kept_renumbered h e =
        let c = citing_of s r table m.passed k own_step (steps r) own_step.1 refl in
        rw (e, kept_one h) (same_numbers (kind_of (step s r k)) (step s r k) c.first c.second)

-- ---- what a loop of n turns has written grows by what each turn adds

module _ (whole more : ℕ → List ℕ) (n : ℕ) (next : (k : ℕ) → k < n → whole (k + 1) ≡ whole k ++ more k) where
  pub grows_by : (k : ℕ) → k < n → length (whole (k + 1)) ≡ length (whole k) + length (more k)
  grows_by k h = rw (next k h) (length-append (whole k) (more k))

  grows_from : (d k : ℕ) → k + d ≡ n → length (whole k) ≤ length (whole n)
  grows_from zero k e = let z : k ≡ n = omega arith in rw z (omega arith)
  grows_from (suc d) k e =
      let a = grows_from d (k + 1) (omega arith) in
      let b = grows_by k (omega arith) in
      omega (arith, a, b)

  pub grows : (k : ℕ) → k ≤ n → length (whole k) ≤ length (whole n)
  grows k h = grows_from (n - k) k (omega arith)

  -- there is room for one more
  pub grows_room : (k : ℕ) → k < n → length (whole k) + length (more k) ≤ length (whole n)
  grows_room k h =
      let a = grows (k + 1) (omega arith) in
      let b = grows_by k h in
      omega (arith, a, b)

-- ---- bodies and pairs of the first k steps

pub bodies_none : (s r : List ℕ) → bodies_to s r 0 ≡ []
unfolding bodies_to chosen joined
bodies_none s r = refl

pub bodies_next : (s r : List ℕ) (k : ℕ) → bodies_to s r (k + 1) ≡ bodies_to s r k ++ kept_body s r (k + 1)
unfolding bodies_to kept_body
bodies_next s r k = rw (add-one k) (chosen_joined (kept s r) (new_body s r) k)

pub pairs_none : (s r : List ℕ) (start : ℕ) → pairs_to s r start 0 ≡ []
unfolding pairs_to chosen pairs_of
pairs_none s r start = refl

-- what step k + 1 adds to the pairs
abbrev pub next_pair : List ℕ → List ℕ → List ℕ → ℕ → ℕ → List ℕ
next_pair s r marks start k = pair_if (get_or marks k 0) (start + length (bodies_to s r k)) (length (kept_body s r (k + 1)))

pub pairs_next : (s r : List ℕ) (table : ℕ) (marks : List ℕ) → Marked s r table marks → (start k : ℕ) → k < length marks
    → pairs_to s r start (k + 1) ≡ pairs_to s r start k ++ next_pair s r marks start k
unfolding pairs_to bodies_to pair_if kept_body marked
pairs_next s r table marks m start k h =
    let z : suc k - 1 ≡ k = omega arith in
    let e : eqb (get_or marks k 0) 1 ≡ kept s r (suc k) = rw z at (marked_kept s r table marks m (suc k) (own_step s r table marks m (suc k) (omega arith, omega arith))) in
    rw (add-one k, e) (go (which (kept s r (suc k))))
  where
    go : (kept s r (suc k) ≡ true) ⊎ (kept s r (suc k) ≡ false)
        → pairs_of start (map (new_body s r) (chosen (kept s r) (suc k)))
        ≡ pairs_of start (map (new_body s r) (chosen (kept s r) k))
        ++ cond (kept s r (suc k)) (bytes_of 4 (start + length (joined (map (new_body s r) (chosen (kept s r) k)))) ++ bytes_of 4 (length (cond (kept s r (suc k)) (new_body s r (suc k)) []))) []
    go (inl e) =
        rw (
          chosen_taken (kept s r) k e,
          e,
          map-append (new_body s r) (chosen (kept s r) k) (suc k ∷ []),
          pairs_end start (map (new_body s r) (chosen (kept s r) k)) (new_body s r (suc k)),
        )
    go (inr e) = rw (chosen_left (kept s r) k e, e, append-nil)
