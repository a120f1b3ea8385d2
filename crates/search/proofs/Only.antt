-- What the promises alone fix: a refusal shows one thing, and ended answers to one problem have one plan and one floor.
-- Assumes nothing.
use Prim.Native.Nat.{ℕ, ◌≤◌, ◌<◌}
use mathlib.Core.Path.{◌≡◌, refl, sym, ◌∙◌}
use mathlib.Core.Bool.{Bool, true, false}
use mathlib.Core.List.{List}
use mathlib.Core.Logic.{◌⊎◌, inl, inr}
use native.Mathlib.Omega.{arith}
use native.Mathlib.Decide.{dec_lt}
use Rattle.judgement.specs.Meaning.{Assignment, Problem}
use Rattle.judgement.specs.Sheet.{variables}
use Rattle.judgement.specs.Facts.{Among, ValidSheet}
use Rattle.judgement.proofs.Laws.Scan.{clash}
use Rattle.search.specs.declared.Found.{Found}
use Rattle.search.specs.Node.{has}
use Rattle.search.specs.Answer.{most_searched, refused}
use Rattle.search.specs.Promises.{Agree, Before, RefusedWhen, ShowsNothing, KeepsBudget, Searched}
use Rattle.search.proofs.Sets.{set_ext}

pub shows_one : (a : Found) → ShowsNothing a → a ≡ refused a.number a.place
shows_one a (f, p, c, e, l) = rw (f, p, c, e, l)

-- a valid sheet has one number and one place
pub when_one : (s : List ℕ) (a b : Found) → RefusedWhen s a → RefusedWhen s b → ValidSheet s → (a.number ≡ b.number) × (a.place ≡ b.place)
when_one s a b x y v = (go (dec_lt most_searched (variables s)), x.place v ∙ sym (y.place v))
  where
    go : Dec (most_searched < variables s) → a.number ≡ b.number
    go (yes l) = x.too_many.1 (v, l) ∙ sym (y.too_many.1 (v, l))
    go (no l) = let h : variables s ≤ most_searched = omega (arith, l) in x.searched.1 (v, h) ∙ sym (y.searched.1 (v, h))

-- searches that have not ended made the same number of choices
pub choices_one : (budget : ℕ) (a b : Found) → KeepsBudget budget a → KeepsBudget budget b → a.ended ≡ false → b.ended ≡ false
    → a.choices ≡ b.choices
choices_one budget a b x y e f = x.spent e ∙ sym (y.spent f)

-- a plan that says the same of variables 1 to n is the same plan
agree_one : (n a b : ℕ) → ((v : ℕ) → has a v ≡ true → Among n v) → ((v : ℕ) → has b v ≡ true → Among n v) → Agree n (has a) (has b) → a ≡ b
agree_one n a b ia ib g = set_ext a b (λ v. go v (has a v) refl (has b v) refl)
  where
    go : (v : ℕ) (x : Bool) → has a v ≡ x → (y : Bool) → has b v ≡ y → has a v ≡ has b v
    go v true e y f = g v (ia v e)
    go v false e true f = g v (ib v f)
    go v false e false f = e ∙ sym f

-- of two none is before the other and after it, and nothing is before itself
before_once : (n : ℕ) (α β : Assignment) → Before n α β → Before n β α → ⊥
before_once n α β (v, w, s, f, t) (u, x, r, g, h) = go (dec_lt u v) (dec_lt v u)
  where
    go : Dec (u < v) → Dec (v < u) → ⊥
    go (yes l) d = clash (sym (s u x.0 l) ∙ h) g
    go (no l) (yes m) = clash (sym (r v w.0 m) ∙ t) f
    go (no l) (no m) = let e : u ≡ v = omega (arith, l, m) in clash t (rw e at g)

before_agree : (n : ℕ) (α β : Assignment) → Before n α β → Agree n β α → ⊥
before_agree n α β (v, w, s, f, t) g = clash t (g v w ∙ f)

module _ (P : Problem) (budget : ℕ) (a b : Found) (x : Searched P budget a) (y : Searched P budget b)
    (a-ended : a.ended ≡ true) (b-ended : b.ended ≡ true) where
  found_one : a.found ≡ true → b.found ≡ true
  found_one f = (y.ended b-ended).exists.1 ((x.ended a-ended).exists.0 f)

  unfound_one : b.found ≡ true → a.found ≡ true
  unfound_one f = (x.ended a-ended).exists.1 ((y.ended b-ended).exists.0 f)

  both : a.found ≡ true → b.found ≡ true → (a.plan ≡ b.plan) × (a.floor ≡ b.floor)
  both f g =
      let p = (x.ended a-ended).plan f in
      let q = (y.ended b-ended).plan g in
      let l = x.floor (has b.plan) (y.plan g).model in
      let m = y.floor (has a.plan) (x.plan f).model in
      let e : a.floor ≡ b.floor = omega (arith, l, m, p.costs, q.costs) in
      (go (p.first (has b.plan) (y.plan g).model (q.costs ∙ sym e)) (q.first (has a.plan) (x.plan f).model (p.costs ∙ e)), e)
    where
      go : Agree P.variables (has a.plan) (has b.plan) ⊎ Before P.variables (has a.plan) (has b.plan)
          → Agree P.variables (has b.plan) (has a.plan) ⊎ Before P.variables (has b.plan) (has a.plan)
          → a.plan ≡ b.plan
      go (inl s) t = agree_one P.variables a.plan b.plan (x.plan f).variables (y.plan g).variables s
      go (inr s) (inl t) = absurd (before_agree P.variables (has a.plan) (has b.plan) s t)
      go (inr s) (inr t) = absurd (before_once P.variables (has a.plan) (has b.plan) s t)

  pub ended_one : (a.found ≡ b.found) × (a.plan ≡ b.plan) × (a.floor ≡ b.floor)
  ended_one = go a.found refl b.found refl
    where
      go : (i : Bool) → a.found ≡ i → (j : Bool) → b.found ≡ j → (a.found ≡ b.found) × (a.plan ≡ b.plan) × (a.floor ≡ b.floor)
      go true f true g = let (p, e) = both f g in (f ∙ sym g, p, e)
      go true f false g = absurd (clash (found_one f) g)
      go false f true g = absurd (clash (unfound_one g) f)
      go false f false g = (
        f ∙ sym g,
        x.no_plan f ∙ sym (y.no_plan g),
        ((x.ended a-ended).none_exists f).1 ∙ sym ((y.ended b-ended).none_exists g).1,
      )
