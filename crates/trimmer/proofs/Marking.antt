-- Marks in a buffer, one step back after the other: they are what the definition has when as many steps have been looked at.
-- Assumes nothing.
use Prim.Native.Nat.{ℕ, zero, suc, ◌+◌, ◌-◌, ◌≤◌}
use mathlib.Core.Path.{◌≡◌, refl, sym, ◌∙◌}
use mathlib.Core.Bool.{Bool, true, false, cond, ◌||◌, ◌&&◌, or-false}
use mathlib.Core.List.{List, [], ◌∷◌, ◌++◌}
use mathlib.Core.Logic.{◌⊎◌, inl, inr}
use native.Mathlib.Omega.{arith}
use native.Mathlib.Numerals.{add-one}
use lib.ListN.{length, get_or, set, replicate, length-set, replicate-append-replicate}
use lib.Seq.{set_at, set-append_left}
use lib.Dec.{eqb}
use borrow.Author.Tests.{eq-eqb, ne_eqb, eqb-true}
use Rattle.judgement.specs.Scan.{one, list_of}
use Rattle.judgement.specs.Record.{steps, step}
use Rattle.judgement.specs.declared.Kind.{Kind}
use Rattle.judgement.specs.declared.Kind.TheVariants.{Copy, Cost, IndependentSet, Resolvent, WeightedSet, Unknown}
use Rattle.judgement.specs.Step.{kind_of, cited}
use Rattle.judgement.specs.Facts.{Among}
use Rattle.judgement.proofs.Laws.Scan.{which, clash, last_or, length_list, list_at, list_same}
use Rattle.layout.proofs.Number.{number_byte}
use Rattle.judgement.proofs.Facts.FirstByte.{kind_begins, begins_kind}
use Rattle.trimmer.specs.Trim.{cites_step, cites, kept_after, marks_of}
use Rattle.trimmer.specs.Work.{Citing, marked, marks_to, marks_after, with_cited, passed_on}

-- ---- a list by its places

-- another value at x
list_set : (f : ℕ → ℕ) (v n x : ℕ) → Among n x → set (list_of f n) (x - 1) v ≡ list_of (λ j. cond (eqb x j) v (f j)) n
unfolding list_of
list_set f v zero x w = absurd (omega (arith, w.0, w.1))
list_set f v (suc n) x w = last_or n x w here (λ u. there u (list_set f v n x u))
  where
    here : x ≡ suc n
        → set (list_of f n ++ (f (suc n) ∷ [])) (x - 1) v ≡ list_of (λ j. cond (eqb x j) v (f j)) n ++ (cond (eqb x (suc n)) v (f (suc n)) ∷ [])
    here e =
        let z : x - 1 ≡ n = omega arith in
        rw (
          z,
          set_at (list_of f n) (f (suc n)) [] v n (length_list f n),
          eq-eqb x (suc n) e,
          list_same f (λ j. cond (eqb x j) v (f j)) n (λ j u. rw (ne_eqb x j (λ q. omega (arith, q, e, u.1)))),
        )

    there : Among n x → set (list_of f n) (x - 1) v ≡ list_of (λ j. cond (eqb x j) v (f j)) n
        → set (list_of f n ++ (f (suc n) ∷ [])) (x - 1) v ≡ list_of (λ j. cond (eqb x j) v (f j)) n ++ (cond (eqb x (suc n)) v (f (suc n)) ∷ [])
    there u r =
        let l = length_list f n in
        rw (
          set-append_left (list_of f n) (f (suc n) ∷ []) (x - 1) v (omega (arith, l, u.0, u.1)),
          r,
          ne_eqb x (suc n) (λ q. omega (arith, q, u.1)),
        )

pub list_const : (f : ℕ → ℕ) (c n : ℕ) → ((k : ℕ) → Among n k → f k ≡ c) → list_of f n ≡ replicate n c
unfolding list_of
list_const f c zero h = refl
list_const f c (suc n) h =
    rw (list_const f c n (λ k w. h k (w.0, omega (arith, w.1))), h (suc n) (omega arith, omega arith))
    (rw add-one at (replicate-append-replicate n 1 c))

-- ---- the last step's mark

eqb_sym : (x y : ℕ) → eqb x y ≡ eqb y x
eqb_sym x y = go (which (eqb x y))
  where
    go : (eqb x y ≡ true) ⊎ (eqb x y ≡ false) → eqb x y ≡ eqb y x
    go (inl q) = let e = eqb-true x y q in rw (q, eq-eqb y x (sym e))
    go (inr q) = rw (q, ne_eqb y x (λ z. clash (eq-eqb x y (sym z)) q))

last_marked : (t : ℕ) → 1 ≤ t → set (replicate t 0) (t - 1) 1 ≡ marks_to (λ k. eqb k t) t
unfolding marks_to
last_marked t h =
    rw (
      ← (list_const (λ k. 0) 0 t (λ k w. refl)),
      list_set (λ k. 0) 1 t t (h, omega arith),
      list_same (λ j. cond (eqb t j) 1 0) (λ k. one (eqb k t)) t (λ j w. rw (eqb_sym t j)),
    )

pub last_set : (l z : List ℕ) → 1 ≤ length l → length z ≡ length l → z ≡ replicate (length l) 0
    → set z (length z - 1) 1 ≡ marks_to (λ k. eqb k (length l)) (length l)
last_set l z h n e = rw (n, e) (last_marked (length l) h)

-- ---- marks and tests

-- a mark says what the test says
pub mark_bit : (b : Bool) → eqb (one b) 1 ≡ b
mark_bit true = refl
mark_bit false = refl

length_marks : (f : ℕ → Bool) (t : ℕ) → length (marks_to f t) ≡ t
unfolding marks_to
length_marks f t = length_list (λ k. one (f k)) t

marks_same : (f g : ℕ → Bool) (t : ℕ) → ((k : ℕ) → f k ≡ g k) → marks_to f t ≡ marks_to g t
unfolding marks_to
marks_same f g t h = list_same (λ k. one (f k)) (λ k. one (g k)) t (λ k w. rw (h k))

marked_at : (f : ℕ → Bool) (t k : ℕ) → Among t k → marked (marks_to f t) k ≡ f k
unfolding marked marks_to
marked_at f t k w = rw (list_at (λ k. one (f k)) t k w) (mark_bit (f k))

-- ---- two marks more

either : (a b c : Bool) → ◌≡◌ {A = ℕ} (cond c 1 (cond b 1 (one a))) (one (a || (b || c)))
either true true true = refl
either true false true = refl
either false true true = refl
either false false true = refl
either true true false = refl
either true false false = refl
either false true false = refl
either false false false = refl

set_two : (f : ℕ → Bool) (t x y : ℕ) → Among t x → Among t y
    → set (set (marks_to f t) (x - 1) 1) (y - 1) 1 ≡ marks_to (λ j. f j || (eqb x j || eqb y j)) t
unfolding marks_to
set_two f t x y wx wy =
    rw (
      list_set (λ j. one (f j)) 1 t x wx,
      list_set (λ j. cond (eqb x j) 1 (one (f j))) 1 t y wy,
      list_same (λ j. cond (eqb y j) 1 (cond (eqb x j) 1 (one (f j)))) (λ j. one (f j || (eqb x j || eqb y j))) t
          (λ j w. either (f j) (eqb x j) (eqb y j)),
    )

-- a body of kind K that has a mark passes it on as the definition says
cited_marks : (K : Kind) (b : List ℕ) (f : ℕ → Bool) (t : ℕ)
    → (K ≡ Resolvent → Among t (cited b 1)) → (K ≡ Resolvent → Among t (cited b 2))
    → with_cited K b (marks_to f t) ≡ marks_to (λ j. f j || cites_step K b j) t
unfolding with_cited cites_step
cited_marks Copy b f t x y = marks_same f (λ j. f j || false) t (λ j. sym (or-false (f j)))
cited_marks Cost b f t x y = marks_same f (λ j. f j || false) t (λ j. sym (or-false (f j)))
cited_marks IndependentSet b f t x y = marks_same f (λ j. f j || false) t (λ j. sym (or-false (f j)))
cited_marks Resolvent b f t x y = set_two f t (cited b 1) (cited b 2) (x refl) (y refl)
cited_marks WeightedSet b f t x y = marks_same f (λ j. f j || false) t (λ j. sym (or-false (f j)))
cited_marks Unknown b f t x y = marks_same f (λ j. f j || false) t (λ j. sym (or-false (f j)))

-- ---- one step back

module _ (s r : List ℕ) (k n : ℕ) (w : Among (steps r) k) (e : k + n ≡ steps r) (citing : Citing (step s r k) (steps r)) where
  abbrev f : ℕ → Bool
  f = kept_after (cites s r) (steps r) n

  marks_turn : passed_on (step s r k) k (marks_after s r n) ≡ marks_after s r (suc n)
  unfolding passed_on kept_after marks_to
  marks_turn =
      let h : steps r - n ≡ k = omega arith in
      rw (marked_at f (steps r) k w, h) (go (which (f k)))
    where
      go : (f k ≡ true) ⊎ (f k ≡ false)
          → cond (f k) (with_cited (kind_of (step s r k)) (step s r k) (marks_to f (steps r))) (marks_to f (steps r))
          ≡ marks_to (λ j. f j || f k && cites s r k j) (steps r)
      go (inl q) = rw q (cited_marks (kind_of (step s r k)) (step s r k) f (steps r) citing.first citing.second)
      go (inr q) = rw q (marks_same f (λ j. f j || false) (steps r) (λ j. sym (or-false (f j))))

-- ---- the code's cases

-- kind 4, by the first byte
pub is_four : (b : List ℕ) → get_or b 0 0 ≡ 4 → kind_of b ≡ Resolvent
is_four b e = begins_kind Resolvent b (omega arith) (number_byte b 0 ∙ e)

pub not_four : (b : List ℕ) → (get_or b 0 0 ≡ 4 → ⊥) → kind_of b ≡ Resolvent → ⊥
not_four b h e = h (sym (number_byte b 0) ∙ (rw e at (kind_begins b)) (omega arith))

other_cited : (K : Kind) (b marks : List ℕ) → (K ≡ Resolvent → ⊥) → with_cited K b marks ≡ marks
unfolding with_cited
other_cited Copy b marks h = refl
other_cited Cost b marks h = refl
other_cited IndependentSet b marks h = refl
other_cited Resolvent b marks h = absurd (h refl)
other_cited WeightedSet b marks h = refl
other_cited Unknown b marks h = refl

pub cited_none : (b marks : List ℕ) → (get_or b 0 0 ≡ 4 → ⊥) → marks ≡ with_cited (kind_of b) b marks
cited_none b marks h = sym (other_cited (kind_of b) b marks (not_four b h))

pub cited_two : (b marks : List ℕ) (x y : ℕ) → get_or b 0 0 ≡ 4 → x ≡ cited b 1 → y ≡ cited b 2
    → set (set marks (x - 1) 1) (y - 1) 1 ≡ with_cited (kind_of b) b marks
unfolding with_cited
cited_two b marks x y e p q = rw (p, q, is_four b e)

-- the same as an equation of the marks
pub two_cited : (b marks : List ℕ) → get_or b 0 0 ≡ 4 → with_cited (kind_of b) b marks ≡ set (set marks (cited b 1 - 1) 1) (cited b 2 - 1) 1
two_cited b marks e = sym (cited_two b marks (cited b 1) (cited b 2) e refl refl)

pub pass_unmarked : (b : List ℕ) (k : ℕ) (marks : List ℕ) → (get_or marks (k - 1) 0 ≡ 1 → ⊥) → marks ≡ passed_on b k marks
unfolding passed_on marked
pass_unmarked b k marks h = rw (ne_eqb (get_or marks (k - 1) 0) 1 h)

pub pass_marked : (b c : List ℕ) (k : ℕ) (marks m : List ℕ) → get_or marks (k - 1) 0 ≡ 1 → c ≡ b → m ≡ with_cited (kind_of c) c marks
    → m ≡ passed_on b k marks
unfolding passed_on marked
pass_marked b c k marks m h e q = rw (eq-eqb (get_or marks (k - 1) 0) 1 h, ← e) q

-- no mark is added behind the last, and none is lost
length_cited : (K : Kind) (b marks : List ℕ) → length (with_cited K b marks) ≡ length marks
unfolding with_cited
length_cited Copy b marks = refl
length_cited Cost b marks = refl
length_cited IndependentSet b marks = refl
length_cited Resolvent b marks = simp length-set
length_cited WeightedSet b marks = refl
length_cited Unknown b marks = refl

pub length_passed : (b : List ℕ) (k : ℕ) (marks : List ℕ) → length (passed_on b k marks) ≡ length marks
unfolding passed_on
length_passed b k marks = go (marked marks k)
  where
    go : (c : Bool) → length (cond c (with_cited (kind_of b) b marks) marks) ≡ length marks
    go true = length_cited (kind_of b) b marks
    go false = refl

-- ---- the loop: t is the number of steps

module _ (s r : List ℕ) (t : ℕ) (t-is : t ≡ steps r) where
  pub marks_start : (n : ℕ) → marks_to (λ k. eqb k t) t ≡ marks_after s r (n - n)
  unfolding kept_after
  marks_start n = let z : n - n ≡ 0 = omega arith in rw (z, t-is)

  pub marks_next : (k : ℕ) (l m : List ℕ) → Among t k → Citing (step s r k) (steps r) → l ≡ marks_after s r (t - k)
      → m ≡ passed_on (step s r k) k l → m ≡ marks_after s r (t - (k - 1))
  marks_next k l m w c h q =
      let n : t - (k - 1) ≡ suc (t - k) = omega (arith, w.0, w.1) in
      rw (n, q, h) (marks_turn s r k (t - k) (rw (← t-is) w) (omega (arith, w.1)) c)

  -- all of them have been looked at
  pub marks_end : (l : List ℕ) → l ≡ marks_after s r (t - 0) → l ≡ marks_of s r
  unfolding marks_of marks_to
  marks_end l h = let n : t - 0 ≡ steps r = omega arith in rw n at h
