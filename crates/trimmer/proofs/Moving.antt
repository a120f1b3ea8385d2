-- A step that stands in another record, under a new number and with new numbers for the steps that it cites, follows there too: what
-- a step has to obey depends on its body, on the bodies that it cites, and on their being earlier.
-- Assumes nothing.
use Prim.Native.Nat.{ℕ, ◌+◌, ◌*◌, ◌^◌, ◌≤◌, ◌<◌}
use mathlib.Core.Path.{◌≡◌, refl, ap, ◌∙◌}
use mathlib.Core.Bool.{true, ◌||◌}
use mathlib.Core.List.{List}
use mathlib.Core.Logic.{◌↔◌, ◌≢◌, ◌⊎◌, inl, inr}
use native.Mathlib.Omega.{arith}
use lib.ListN.{length, length-drop}
use lib.Dec.{eqb}
use borrow.Author.Tests.{eq-eqb, eqb-true}
use Rattle.judgement.specs.Number.{number_at}
use Rattle.judgement.specs.declared.Kind.{Kind}
use Rattle.judgement.specs.declared.Kind.TheVariants.{Copy, Cost, IndependentSet, Resolvent, WeightedSet, Unknown}
use Rattle.judgement.specs.Record.{step}
use Rattle.judgement.specs.Step.{kind_number, kind_of, literal_count, literals_at, cited}
use Rattle.judgement.specs.Facts.{Among, StepLayout, Resolution, Inference, copies, costs, independent, resolution, linear}
use Rattle.judgement.proofs.Laws.Scan.{or_l, or_r, or_e, clash, last_or}
use Rattle.judgement.proofs.Facts.FirstByte.{kind_begins, begins_kind}
use Rattle.trimmer.specs.Trim.{cites_step, cites, renumbered}
use Rattle.trimmer.specs.Promises.{Cites}
use Rattle.trimmer.proofs.Renumbering.{Alike, renumbered_alike, new_first, new_second, new_again, resolves_alike}

-- ---- what a step cites

-- kind 4 alone cites steps
cites_kind : (K : Kind) (b : List ℕ) (j : ℕ) → cites_step K b j ≡ true → K ≡ Resolvent
unfolding cites_step
cites_kind Copy b j c = absurd (clash c refl)
cites_kind Cost b j c = absurd (clash c refl)
cites_kind IndependentSet b j c = absurd (clash c refl)
cites_kind Resolvent b j c = refl
cites_kind WeightedSet b j c = absurd (clash c refl)
cites_kind Unknown b j c = absurd (clash c refl)

-- as the promise has it
pub cites_when : (s r : List ℕ) (k j : ℕ) → (cites s r k j ≡ true) ↔ Cites s r k j
unfolding cites_step
cites_when s r k j = (there, λ (e, h). rw e (back h))
  where
    b : List ℕ
    b = step s r k

    there : cites s r k j ≡ true → Cites s r k j
    there c =
        let e = cites_kind (kind_of b) b j c in (
          e,
          elim (or_e (eqb (cited b 1) j) (eqb (cited b 2) j) (rw e at c)) [
            | inl q ↦ inl (eqb-true (cited b 1) j q)
            | inr q ↦ inr (eqb-true (cited b 2) j q)
          ],
        )

    back : (cited b 1 ≡ j) ⊎ (cited b 2 ≡ j) → eqb (cited b 1) j || eqb (cited b 2) j ≡ true
    back (inl q) = or_l (eqb (cited b 1) j) (eqb (cited b 2) j) (eq-eqb (cited b 1) j q)
    back (inr q) = or_r (eqb (cited b 1) j) (eqb (cited b 2) j) (eq-eqb (cited b 2) j q)

-- and changes by new numbers
pub same_body : (K : Kind) (number : ℕ → ℕ) (b : List ℕ) → K ≢ Resolvent → renumbered K number b ≡ b
unfolding renumbered
same_body Copy number b h = refl
same_body Cost number b h = refl
same_body IndependentSet number b h = refl
same_body Resolvent number b h = absurd (h refl)
same_body WeightedSet number b h = refl
same_body Unknown number b h = refl

-- step k is of another kind, and follows wherever its body stands
abbrev Alone : List ℕ → List ℕ → ℕ → Type 0
Alone s r k = (kind_of (step s r k) ≢ Resolvent) × ((q : List ℕ) (j : ℕ) → step s q j ≡ step s r k → Inference s q j)

not_resolvent : (b : List ℕ) → number_at b 0 1 ≢ kind_number Resolvent → kind_of b ≢ Resolvent
not_resolvent b h e = h ((rw e at (kind_begins b)) (omega arith))

by_kind : (s r : List ℕ) (k : ℕ) → Inference s r k → Resolution s r k ⊎ Alone s r k
by_kind s r k (resolution h) = inl h
by_kind s r k (copies h) = inr (not_resolvent (step s r k) (λ e. omega (arith, h.kind)), λ q j e. copies (rw e h))
by_kind s r k (costs h) = inr (not_resolvent (step s r k) (λ e. omega (arith, h.kind)), λ q j e. costs (rw e h))
by_kind s r k (independent h) = inr (not_resolvent (step s r k) (λ e. omega (arith, h.citing.kind)), λ q j e. independent (rw e h))
by_kind s r k (linear h) = inr (not_resolvent (step s r k) (λ e. omega (arith, h.citing.kind)), λ q j e. linear (rw e h))

-- a step that follows cites earlier steps
pub cites_earlier : (s r : List ℕ) (k j : ℕ) → Inference s r k → cites s r k j ≡ true → (1 ≤ j) × (j < k)
unfolding cites_step
cites_earlier s r k j i c = go (by_kind s r k i)
  where
    b : List ℕ
    b = step s r k

    kind : kind_of b ≡ Resolvent
    kind = cites_kind (kind_of b) b j c

    go : Resolution s r k ⊎ Alone s r k → (1 ≤ j) × (j < k)
    go (inl h) = elim (or_e (eqb (cited b 1) j) (eqb (cited b 2) j) (rw kind at c)) [
      | inl e ↦ let z = eqb-true (cited b 1) j e in (rw z at h.citing.some_x, rw z at h.citing.earlier_x)
      | inr e ↦ let z = eqb-true (cited b 2) j e in (rw z at h.citing.some_y, rw z at h.citing.earlier_y)
    ]
    go (inr h) = absurd (h.0 kind)

-- the length of a body of kind 4
pub whole_resolution : (s r : List ℕ) (k : ℕ) → StepLayout s (step s r k) → Inference s r k → kind_of (step s r k) ≡ Resolvent
    → 12 + 2 * literal_count (step s r k) + 10 ≡ length (step s r k)
whole_resolution s r k l i e = elim (by_kind s r k i) [
  | inl h ↦ omega (arith, length-drop (literals_at + 2 * literal_count (step s r k)) (step s r k), h.citing.size, l.room)
  | inr h ↦ absurd (h.0 e)
]

-- ---- the step elsewhere

-- step k of r stands in q under its new number
abbrev pub Moved : List ℕ → List ℕ → List ℕ → (ℕ → ℕ) → ℕ → Type 0
Moved s r q number k = step s q (number k) ≡ renumbered (kind_of (step s r k)) number (step s r k)

-- what step k has to know of a step j that it cites
pub record Stands (s r q : List ℕ) (number : ℕ → ℕ) (k j : ℕ) : Type 0 where
  pub some : 1 ≤ number j
  pub earlier : number j < number k
  pub alike : Alike (step s r j) (step s q (number j))

pub moved_alike : (s r q : List ℕ) (number : ℕ → ℕ) (k : ℕ) → StepLayout s (step s r k) → Inference s r k → Moved s r q number k
    → Alike (step s r k) (step s q (number k))
moved_alike s r q number k l i m = rw m (renumbered_alike (kind_of (step s r k)) number (step s r k) (whole_resolution s r k l i))

module _ (s r q : List ℕ) (number : ℕ → ℕ) (k : ℕ) (l : StepLayout s (step s r k)) (i : Inference s r k) (m : Moved s r q number k)
    (small : number k ≤ 256 ^ 4) (stands : (j : ℕ) → cites s r k j ≡ true → Stands s r q number k j) where
  abbrev b : List ℕ
  b = step s r k

  same : Alike b (step s q (number k))
  same = moved_alike s r q number k l i m

  -- of another kind
  alone_stays : kind_of b ≢ Resolvent → step s q (number k) ≡ b
  alone_stays h = m ∙ same_body (kind_of b) number b h

  -- of kind 4
  module _ (kind : kind_of b ≡ Resolvent) where
    stands_x : Stands s r q number k (cited b 1)
    unfolding cites_step
    stands_x = stands (cited b 1) (rw kind (or_l (eqb (cited b 1) (cited b 1)) (eqb (cited b 2) (cited b 1)) (eq-eqb (cited b 1) (cited b 1) refl)))

    stands_y : Stands s r q number k (cited b 2)
    unfolding cites_step
    stands_y = stands (cited b 2) (rw kind (or_r (eqb (cited b 1) (cited b 2)) (eqb (cited b 2) (cited b 2)) (eq-eqb (cited b 2) (cited b 2) refl)))

    new_is : step s q (number k) ≡ renumbered Resolvent number b
    new_is = rw (m, kind)

    new_kind : kind_of (step s q (number k)) ≡ Resolvent
    new_kind =
        begins_kind Resolvent (step s q (number k)) (omega arith) (same.first_is ∙ (rw kind at (kind_begins b)) (omega arith))

    whole : literals_at + 2 * literal_count b + 10 ≡ length b
    whole = whole_resolution s r k l i kind

    small_x : number (cited b 1) < 256 ^ 4
    small_x = omega (arith, stands_x.earlier, small)

    small_y : number (cited b 2) < 256 ^ 4
    small_y = omega (arith, stands_y.earlier, small)

    cites_x : cited (step s q (number k)) 1 ≡ number (cited b 1)
    unfolding renumbered
    cites_x = rw new_is (new_first b (number (cited b 1)) (number (cited b 2)) whole small_x)

    cites_y : cited (step s q (number k)) 2 ≡ number (cited b 2)
    unfolding renumbered
    cites_y = rw new_is (new_second b (number (cited b 1)) (number (cited b 2)) whole small_y)

    -- it cites there by the new numbers
    pub cites_new : (j : ℕ) → Among 2 j → cited (step s q (number k)) j ≡ number (cited (step s r k) j)
    cites_new j w = last_or 1 j w (λ e. rw e cites_y) (λ v. let e : j ≡ 1 = omega (arith, v.0, v.1) in rw e cites_x)

    resolution_moved : Resolution s r k → Resolution s q (number k)
    resolution_moved h =
        record {
          citing = record {
            kind = same.first_is ∙ h.citing.kind;
            size = same.tail_size ∙ h.citing.size;
            some_x = rw cites_x stands_x.some;
            earlier_x = rw cites_x stands_x.earlier;
            some_y = rw cites_y stands_y.some;
            earlier_y = rw cites_y stands_y.earlier;
          };
          resolves = rw (cites_x, cites_y)
              (resolves_alike (step s r (cited b 1)) (step s r (cited b 2)) b (step s q (number (cited b 1))) (step s q (number (cited b 2)))
              (step s q (number k)) stands_x.alike stands_y.alike same h.resolves);
        }

    resolution_again : (again : ℕ → ℕ) → ((j : ℕ) → 1 ≤ j → j < number k → again j ≡ j)
        → renumbered (kind_of (step s q (number k))) again (step s q (number k)) ≡ step s q (number k)
    unfolding renumbered
    resolution_again again e =
        rw (new_kind, new_is)
        (new_again b (number (cited b 1)) (number (cited b 2)) whole again small_x small_y
        (e (number (cited b 1)) stands_x.some stands_x.earlier) (e (number (cited b 2)) stands_y.some stands_y.earlier))

  pub inference_moved : Inference s q (number k)
  inference_moved = elim (by_kind s r k i) [
    | inl h ↦ resolution (resolution_moved (begins_kind Resolvent b (omega arith) h.citing.kind) h)
    | inr h ↦ h.1 q (number k) (alone_stays h.0)
  ]

  -- what it cites it cites there by the new number
  pub cites_moved : (j : ℕ) → cites s r k j ≡ true → cites s q (number k) (number j) ≡ true
  unfolding cites_step
  cites_moved j c =
      rw (new_kind kind, cites_x kind, cites_y kind) (elim (or_e (eqb (cited b 1) j) (eqb (cited b 2) j) (rw kind at c)) [
        | inl e ↦ or_l (eqb (number (cited b 1)) (number j)) (eqb (number (cited b 2)) (number j))
            (eq-eqb (number (cited b 1)) (number j) (ap number (eqb-true (cited b 1) j e)))
        | inr e ↦ or_r (eqb (number (cited b 1)) (number j)) (eqb (number (cited b 2)) (number j))
            (eq-eqb (number (cited b 2)) (number j) (ap number (eqb-true (cited b 2) j e)))
      ])
    where
      kind : kind_of b ≡ Resolvent
      kind = cites_kind (kind_of b) b j c

  -- numbers that leave the new ones leave its body
  pub moved_again : (again : ℕ → ℕ) → ((j : ℕ) → 1 ≤ j → j < number k → again j ≡ j)
      → renumbered (kind_of (step s q (number k))) again (step s q (number k)) ≡ step s q (number k)
  moved_again again e = elim (by_kind s r k i) [
    | inl h ↦ resolution_again (begins_kind Resolvent b (omega arith) h.citing.kind) again e
    | inr h ↦ rw (alone_stays h.0) (same_body (kind_of b) again b h.0)
  ]
