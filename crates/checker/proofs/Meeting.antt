-- Kind 5: where the numbers that are kept begin, and what one literal does to them and to the total: the literal c, of variable u, of
-- a clause of weight y is met.
-- Assumes nothing.
use Rattle.std.proofs.Common.{◌≡◌, ℕ, ◌+◌, ◌-◌, ◌*◌, ◌%◌, ◌^◌, ◌<◌, ◌≤◌, Bool, true, false, cond, eqb, ◌≢◌, ◌⊎◌, List, length, set, ℤ, pos, ◌+ℤ◌, ◌-ℤ◌, neg_ℤ, nat_abs, sym, refl, ◌∙◌, inl, inr, arith, length-set, eq-eqb, ne_eqb, eqb-true}
use native.Mathlib.Decide.{ℕ_discrete}
use borrow.Author.Tests.{eqb-false}
use Rattle.judgement.specs.Integers.{below_zero}
use Rattle.judgement.specs.Meaning.{positive, negative, variable_of, is_positive}
use Rattle.judgement.specs.Literals.{count, code, variable, holds, mentions}
use Rattle.judgement.specs.Linear.{addend}
use Rattle.judgement.specs.Facts.{Among, LiteralList}
use Rattle.judgement.proofs.Laws.Scan.{which, clash, false_i}
use Rattle.judgement.proofs.Laws.Membership.{holds_in, in_holds, mentions_in, in_mentions, in_mention}
use Rattle.judgement.proofs.Laws.Integers.{equal_parts, sum_parts, minus_parts, less_parts, one_part, size_parts}
use Rattle.checker.specs.Marks.{mark_at, Stale}
use Rattle.checker.specs.Weighing.{shift, negative_weight, moved, rest_at, kept_of, far, far_of, offset, Settling, Weighing}
use Rattle.checker.proofs.Bits.{add_size, minus_size, neg_size}
use Rattle.checker.proofs.Marking.{set_place, set_mark, stale_set, stale_later, one_way, not_before}

-- ---- the weight of a literal, as it is computed

-- y where c is negative, and else 0
pub weight_by : (c y : ℕ) → c % 2 * y ≡ negative_weight c y
weight_by c y = go (which (is_positive c))
  where
    go : (is_positive c ≡ true) ⊎ (is_positive c ≡ false) → c % 2 * y ≡ negative_weight c y
    go (inl p) =
        let even = eqb-true (c % 2) 0 p in
        rw (even) (omega arith)
    go (inr p) =
        let odd = eqb-false (c % 2) 0 p in
        let one : c % 2 ≡ 1 = omega (arith, odd) in
        rw one (omega arith)

pub shift_by : (x : ℤ) (c y : ℕ) → x +ℤ pos (2 * (c % 2 * y)) -ℤ pos y ≡ x +ℤ shift c y
shift_by x c y = rw (weight_by c y) (go (is_positive c))
  where
    go : (b : Bool) → x +ℤ pos (2 * cond b 0 y) -ℤ pos y ≡ x +ℤ cond b (neg_ℤ (pos y)) (pos y)
    go true =
        let a = sum_parts x (pos (2 * 0)) in
        let b = minus_parts (x +ℤ pos (2 * 0)) (pos y) in
        let d = minus_parts x (pos y) in
        equal_parts (x +ℤ pos (2 * 0) -ℤ pos y) (x -ℤ pos y) (omega (arith, a, b, d))
    go false =
        let a = sum_parts x (pos (2 * y)) in
        let b = minus_parts (x +ℤ pos (2 * y)) (pos y) in
        let d = sum_parts x (pos y) in
        equal_parts (x +ℤ pos (2 * y) -ℤ pos y) (x +ℤ pos y) (omega (arith, a, b, d))

-- the places of two variables
apart : (u v : ℕ) → 1 ≤ u → 1 ≤ v → u ≢ v → u - 1 ≡ v - 1 → ⊥
apart u v a b n e = n (omega (arith, a, b, e))

-- ---- the step's own literals

pub settling_start : (D : List ℕ) (t : ℕ) (marks : List ℕ) (rest : List ℤ) → Stale 1024 marks t → length rest ≡ 1024
    → Settling D 0 t marks rest
settling_start D t marks rest old size =
    record {
      stale = stale_later (omega arith) old;
      size = size;
      marked = λ h w. absurd (omega (arith, w.0, w.1));
      begins = λ h w. absurd (omega (arith, w.0, w.1));
      others = λ v w n. old.below (v - 1);
    }

pub settling_more : (D : List ℕ) (i t : ℕ) (marks : List ℕ) (rest : List ℤ) {c : ℕ} {x : ℤ} → LiteralList 1024 D → i < count D
    → c ≡ code D (i + 1) → Among 1024 (variable_of c) → x ≡ far_of c → Settling D i t marks rest
    → Settling D (i + 1) t (set marks (variable_of c - 1) t) (set rest (variable_of c - 1) x)
settling_more D i t marks rest {c} {x} list more c-is a x_is so =
    record {
      stale = stale_set marks (t + 1) (u - 1) t (omega (arith, a)) (omega arith) so.stale;
      size = rw length-set so.size;
      marked = λ h w. rw (set_mark marks (u - 1) t in_marks (variable D h - 1)) (mark_of_lem h w (ℕ_discrete h (i + 1)));
      begins = λ h w. rw (set_place rest (u - 1) x in_rest (pos 0) (variable D h - 1)) (begin_of h w (ℕ_discrete h (i + 1)));
      others = λ v w n.
          rw (set_mark marks (u - 1) t in_marks (v - 1), ne_eqb (u - 1) (v - 1) (apart u v a.0 w.0 (λ e. n (i + 1) (omega arith, omega arith) (rw (← c-is) e))))
          (so.others v w (λ h k. n h (k.0, omega (arith, k.1))));
    }
  where
    u : ℕ
    u = variable_of c

    in_marks : u - 1 < length marks
    in_marks = omega (arith, so.stale.size, a)

    in_rest : u - 1 < length rest
    in_rest = omega (arith, so.size, a)

    either : (b : Bool) (y : ℕ) → y ≡ t → cond b t y ≡ t
    either true y e = refl
    either false y e = e

    mark_of_lem : (h : ℕ) → Among (i + 1) h → Dec (h ≡ i + 1) → cond (eqb (u - 1) (variable D h - 1)) t (mark_at marks (variable D h - 1)) ≡ t
    mark_of_lem h w (yes e) = rw (e, ← c-is, eq-eqb (u - 1) (u - 1) refl)
    mark_of_lem h w (no e) = either (eqb (u - 1) (variable D h - 1)) _ (so.marked h (w.0, omega (arith, w.1, e)))

    begin_of : (h : ℕ) → Among (i + 1) h → Dec (h ≡ i + 1)
        → cond (eqb (u - 1) (variable D h - 1)) x (rest_at rest (variable D h - 1)) ≡ far_of (code D h)
    begin_of h w (yes e) = rw (e, ← c-is, eq-eqb (u - 1) (u - 1) refl) x_is
    begin_of h w (no e) =
        let before : Among i h = (w.0, omega (arith, w.1, e)) in
        let range = list.variables.range h (w.0, omega (arith, before.1, more)) in
        rw (ne_eqb (u - 1) (variable D h - 1) (apart u (variable D h) a.0 range.0 (λ q. not_before D i list more c-is h before (sym q))))
        (so.begins h before)

held_mentions : (D : List ℕ) (c v : ℕ) → holds D c ≡ true → variable_of c ≡ v → mentions D v ≡ true
held_mentions D c v h e = in_mentions D v (rw e at (in_mention D c (holds_in D c h)))

above_full : (x f : ℕ) → pos x ≡ pos f +ℤ (pos x -ℤ pos f)
above_full x f =
    let m = minus_parts (pos x) (pos f) in
    let s = sum_parts (pos f) (pos x -ℤ pos f) in
    equal_parts (pos x) (pos f +ℤ (pos x -ℤ pos f)) (omega (arith, m, s))

below_full : (x f : ℕ) → neg_ℤ (pos x) ≡ pos f +ℤ neg_ℤ (pos (x + f))
below_full x f =
    let m = minus_parts (pos f) (pos (x + f)) in
    let z = minus_parts (pos 0) (pos x) in
    let i = sum_parts (pos 0) (neg_ℤ (pos x)) in
    equal_parts (neg_ℤ (pos x)) (pos f -ℤ pos (x + f)) (omega (arith, m, z, i))

at_full : (f : ℕ) → pos f ≡ pos f +ℤ pos 0
at_full f =
    let s = sum_parts (pos f) (pos 0) in
    equal_parts (pos f) (pos f +ℤ pos 0) (omega (arith, s))

-- all of them are settled, and no entry is weighed
pub weighing_settled : (n : ℕ) (D : List ℕ) (full : ℕ → ℕ) (t : ℕ) (marks : List ℕ) (rest : List ℤ) → n ≤ 1024 → LiteralList n D
    → Settling D (count D) t marks rest → Weighing n D full (λ v. pos (full v)) t marks rest
weighing_settled n D full t marks rest top list so =
    record { stale = so.stale; size = so.size; kept = λ v w. go v w (which (mentions D v)) }
  where
    go : (v : ℕ) → Among n v → (mentions D v ≡ true) ⊎ (mentions D v ≡ false)
        → kept_of marks rest t (full v) v ≡ pos (full v) +ℤ offset D (full v) v
    go v w (inr out) =
        let below = so.others v (w.0, omega (arith, w.1, top)) (λ h a e. clash (in_mentions D v (h, a, e)) out) in
        let none = false_i (holds D (negative v)) (λ p. clash (held_mentions D (negative v) v p (omega arith)) out) in
        rw (ne_eqb (mark_at marks (v - 1)) t (λ e. omega (arith, below, e)), none, out) (at_full (full v))
    go v w (inl inside) =
        let (h, a, e) = mentions_in D v inside in
        let mark : mark_at marks (v - 1) ≡ t = rw e at (so.marked h a) in
        rw (eq-eqb (mark_at marks (v - 1)) t mark) (by h a e (rw e at (so.begins h a)) (which (is_positive (code D h))))
      where
        by : (h : ℕ) → Among (count D) h → variable D h ≡ v → rest_at rest (v - 1) ≡ far_of (code D h)
            → (is_positive (code D h) ≡ true) ⊎ (is_positive (code D h) ≡ false)
            → rest_at rest (v - 1) ≡ pos (full v) +ℤ offset D (full v) v
        by h a e begins (inl p) =
            let even = eqb-true (code D h % 2) 0 p in
            let in-D = in_holds D (positive v) (h, a, omega (arith, even, e)) in
            begins ∙ rw (p, one_way D n v list in-D, inside) (above_full far (full v))
        by h a e begins (inr p) =
            let odd = eqb-false (code D h % 2) 0 p in
            let in-D = in_holds D (negative v) (h, a, omega (arith, odd, e)) in
            begins ∙ rw (p, in-D) (below_full far (full v))

-- ---- one literal

-- what is far below 0 moves as the remainder does
moves_true : (r z : ℤ) (f : ℕ) → nat_abs r ≤ 2 ^ 52 → nat_abs z ≤ 2 ^ 16
    → below_zero (r -ℤ pos (far + f) +ℤ z) -ℤ below_zero (r -ℤ pos (far + f)) ≡ r +ℤ z -ℤ r
moves_true r z f hr hz =
    let o = r -ℤ pos (far + f) in
    let a = minus_parts r (pos (far + f)) in
    let b = sum_parts o z in
    let c = less_parts o in
    let d = less_parts (o +ℤ z) in
    let g = minus_parts (below_zero (o +ℤ z)) (below_zero o) in
    let k = sum_parts r z in
    let l = minus_parts (r +ℤ z) r in
    equal_parts (below_zero (o +ℤ z) -ℤ below_zero o) (r +ℤ z -ℤ r)
    (omega (arith, a, b, c, d, g, k, l, one_part o, one_part (o +ℤ z), one_part r, one_part z, size_parts r, size_parts z, hr, hz))

-- and what is far above 0 adds nothing
moves_false : (r z : ℤ) (f : ℕ) → nat_abs r ≤ 2 ^ 52 → nat_abs z ≤ 2 ^ 16 → f ≤ 2 ^ 48
    → below_zero (r +ℤ (pos far -ℤ pos f) +ℤ z) -ℤ below_zero (r +ℤ (pos far -ℤ pos f)) ≡ pos 0 -ℤ pos 0
moves_false r z f hr hz hf =
    let x = pos far -ℤ pos f in
    let o = r +ℤ x in
    let e = minus_parts (pos far) (pos f) in
    let a = sum_parts r x in
    let b = sum_parts o z in
    let c = less_parts o in
    let d = less_parts (o +ℤ z) in
    let g = minus_parts (below_zero (o +ℤ z)) (below_zero o) in
    let l = minus_parts (pos 0) (pos 0) in
    equal_parts (below_zero (o +ℤ z) -ℤ below_zero o) (pos 0 -ℤ pos 0)
    (omega (arith, e, a, b, c, d, g, l, one_part x, one_part o, one_part (o +ℤ z), one_part r, one_part z, size_parts r, size_parts z, hr, hz, hf))

no_offset : (r : ℤ) → r +ℤ pos 0 ≡ r
no_offset r =
    let s = sum_parts r (pos 0) in
    equal_parts (r +ℤ pos 0) r (omega (arith, s))

-- what is kept moves with the remainder
moved_kept : (o r z x : ℤ) → o ≡ r +ℤ x → o +ℤ z ≡ r +ℤ z +ℤ x
moved_kept o r z x e = rw e (go r z x)
  where
    go : (r z x : ℤ) → r +ℤ x +ℤ z ≡ r +ℤ z +ℤ x
    go r z x =
        let a = sum_parts r x in
        let b = sum_parts (r +ℤ x) z in
        let c = sum_parts r z in
        let d = sum_parts (r +ℤ z) x in
        equal_parts (r +ℤ x +ℤ z) (r +ℤ z +ℤ x) (omega (arith, a, b, c, d))

offset_size : (D : List ℕ) (f v : ℕ) → f ≤ 2 ^ 48 → nat_abs (offset D f v) ≤ 2 ^ 59 + 2 ^ 48
offset_size D f v h = go (holds D (negative v)) (mentions D v)
  where
    go : (p m : Bool) → nat_abs (cond p (neg_ℤ (pos (far + f))) (cond m (pos far -ℤ pos f) (pos 0))) ≤ 2 ^ 59 + 2 ^ 48
    go true m = let e = neg_size (pos (far + f)) in omega (arith, e, h)
    go false true = let s = minus_size (pos far) (pos f) in omega (arith, s, h)
    go false false = omega arith

module _ (n : ℕ) (D : List ℕ) (full : ℕ → ℕ) (rem : ℕ → ℤ) (t : ℕ) (marks : List ℕ) (rest : List ℤ) (c y : ℕ) (top : n ≤ 1024)
    (a : Among n (variable_of c)) (w : Weighing n D full rem t marks rest) where
  abbrev u : ℕ
  u = variable_of c

  -- the number that was kept, or where it begins
  abbrev old : ℤ
  old = kept_of marks rest t (full u) u

  pub met_state : Weighing n D full (moved rem u (shift c y)) t (set marks (u - 1) t) (set rest (u - 1) (old +ℤ shift c y))
  met_state =
      record {
        stale = stale_set marks (t + 1) (u - 1) t (omega (arith, a, top)) (omega arith) w.stale;
        size = rw length-set w.size;
        kept = λ v b.
            rw (set_mark marks (u - 1) t (omega (arith, a, top, w.stale.size)) (v - 1), set_place rest (u - 1) (old +ℤ shift c y) (omega (arith, a, top, w.size)) (pos 0) (v - 1))
            (go v b (ℕ_discrete u v));
      }
    where
      go : (v : ℕ) → Among n v → Dec (u ≡ v)
          → cond (eqb (cond (eqb (u - 1) (v - 1)) t (mark_at marks (v - 1))) t) (cond (eqb (u - 1) (v - 1)) (old +ℤ shift c y) (rest_at rest (v - 1))) (pos (full v))
          ≡ moved rem u (shift c y) v +ℤ offset D (full v) v
      go v b (yes e) =
          rw (← e, eq-eqb (u - 1) (u - 1) refl, eq-eqb t t refl, eq-eqb u u refl)
          (moved_kept old (rem u) (shift c y) (offset D (full u) u) (w.kept u a))
      go v b (no e) = rw (ne_eqb (u - 1) (v - 1) (apart u v a.0 b.0 e), ne_eqb u v e) (w.kept v b)

  module _ (small : nat_abs (rem u) ≤ 2 ^ 52) (paid : full u ≤ 2 ^ 48) where
    pub old_size : nat_abs old < 2 ^ 60
    old_size =
        let s = add_size (rem u) (offset D (full u) u) in
        let o = offset_size D (full u) u paid in
        rw (w.kept u a) (omega (arith, s, o, small))

    -- what is told of the numbers goes for the remainders
    pub met_told : (z : ℤ) → nat_abs z ≤ 2 ^ 16
        → below_zero (old +ℤ z) -ℤ below_zero old ≡ addend D u (rem u +ℤ z) -ℤ addend D u (rem u)
    unfolding addend
    met_told z h = rw (w.kept u a) (go (holds D (negative u)) (mentions D u))
      where
        go : (p m : Bool)
            → below_zero (rem u +ℤ cond p (neg_ℤ (pos (far + full u))) (cond m (pos far -ℤ pos (full u)) (pos 0)) +ℤ z)
            -ℤ below_zero (rem u +ℤ cond p (neg_ℤ (pos (far + full u))) (cond m (pos far -ℤ pos (full u)) (pos 0)))
            ≡ cond p (rem u +ℤ z) (cond m (pos 0) (below_zero (rem u +ℤ z))) -ℤ cond p (rem u) (cond m (pos 0) (below_zero (rem u)))
        go true m = moves_true (rem u) z (full u) small h
        go false true = moves_false (rem u) z (full u) small h paid
        go false false = rw (no_offset (rem u))
