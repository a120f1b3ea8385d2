-- The refusals of a step's kind: the answer is one of them exactly when nothing is wrong before the step's tail and what it cites,
-- and its kind finds it.
-- Assumes nothing.
use Prim.Native.Nat.{ℕ, ◌≤◌, ◌<◌}
use mathlib.Core.Path.{◌≡◌, refl}
use mathlib.Core.Bool.{Bool, true, false, not, cond, ◌&&◌}
use mathlib.Core.List.{List}
use mathlib.Core.Logic.{inl, inr}
use native.Mathlib.Omega.{arith}
use native.Mathlib.Decide.{dec_lt}
use lib.Dec.{eqb, leb}
use Rattle.judgement.specs.Finding.{Finding, fault, ◌then◌}
use Rattle.judgement.specs.Sheet.{sheet_finding}
use Rattle.judgement.specs.Record.{steps, step, record_finding}
use Rattle.judgement.specs.declared.Kind.{Kind}
use Rattle.judgement.specs.declared.Kind.TheVariants.{Copy, Cost, IndependentSet, Resolvent, WeightedSet, Unknown}
use Rattle.judgement.specs.Step.{kind_of, step_form, citation}
use Rattle.judgement.specs.Kinds.{true_finding, negative_finding, settled_finding, shared_finding, depends_on, dependence}
use Rattle.judgement.specs.Kinds.{copy_finding, cost_bound, independent_bound, pivot_finding, resolvent_finding, lesser_bound, resolution_finding, kind_finding}
use Rattle.judgement.specs.Linear.{weights_finding, linear_bound}
use Rattle.judgement.specs.Judgement.{oversize, assignment_finding, step_finding, close, finding}
use Rattle.judgement.specs.Facts.{Among, StepLayout}
use Rattle.judgement.specs.Refusals.{Reached, is_of_independent, is_of_resolution, is_of_linear}
use Rattle.judgement.proofs.Laws.Findings.{IsFine, fine_is, over_found, found_over, then_found}
use Rattle.judgement.proofs.Laws.Findings.{Faults, faults_map, faults, not_told, fault_has}
use Rattle.judgement.proofs.Order.Early.{Early, oversize_early, sheet_early, record_early, assignment_early, form_early, citation_early}
use Rattle.judgement.proofs.Facts.Layouts.{stored_by, stored_fine}
use Rattle.judgement.proofs.Facts.Inferences.{step_layout, step_facts, facts_step}

-- the number is one that a step's kind tells
abbrev pub is_of_kind : ℕ → Bool
is_of_kind number = not (leb number 11) && not (eqb number 19)

-- the kind whose tests tell it
abbrev pub teller : ℕ → Kind
teller number =
    cond (eqb number 12) Copy
    (cond (eqb number 13) Cost
    (cond (is_of_independent number) IndependentSet
    (cond (is_of_resolution number) Resolvent
    (cond (is_of_linear number) WeightedSet
    Unknown))))

-- what the form and the citations of step k, and its kind, have found
pub record KindFound (s r : List ℕ) (k N : ℕ) : Type 0 where
  pub reached : Reached s r k
  pub form : IsFine (step_form s (step s r k) k)
  pub cites : IsFine (citation s (step s r k) k)
  pub found : kind_finding (kind_of (step s r k)) s r k ≡ fault N k

-- ---- no other test has one of these numbers

abbrev Plain : Finding → Type 0
Plain f = Faults (λ N P. is_of_kind N ≡ false) f

early_plain : (f : Finding) → Early f → Plain f
early_plain f = faults_map (λ N P. leb N 11 ≡ true) (λ N P. is_of_kind N ≡ false) (λ N P e. rw e) f

module _ (s r : List ℕ) where
  close_plain : Plain (close s r)
  unfolding close
  close_plain = search faults

  -- ---- a kind tells its own refusals, and at the step

  abbrev pub Here : ℕ → Kind → ℕ → ℕ → Type 0
  Here k K N P = (is_of_kind N ≡ true) × (P ≡ k) × (teller N ≡ K)

  pub kind_here : (k : ℕ) (K : Kind) → Faults (Here k K) (kind_finding K s r k)
  unfolding kind_finding copy_finding cost_bound true_finding negative_finding settled_finding shared_finding depends_on dependence independent_bound resolution_finding pivot_finding resolvent_finding lesser_bound weights_finding linear_bound
  kind_here k Copy = search faults
  kind_here k Cost = search faults
  kind_here k IndependentSet = search faults depth 12
  kind_here k Resolvent = search faults depth 12
  kind_here k WeightedSet = search faults depth 12
  kind_here k Unknown = tt

  pub found_kind : (k N : ℕ) → KindFound s r k N → teller N ≡ kind_of (step s r k)
  found_kind k N f =
      let K = kind_of (step s r k) in
      (fault_has (Here k K) (kind_finding K s r k) (kind_here k K) f.found).2

  -- ---- what the tests have shown that come before the tail of step k

  reached_by : IsFine (oversize s r) → IsFine (sheet_finding s) → IsFine (record_finding s r) → IsFine (assignment_finding s r)
      → (k : ℕ) → Among (steps r) k → ((h : ℕ) → 1 ≤ h → h < k → IsFine (step_finding s r h)) → IsFine (step_form s (step s r k) k)
      → Reached s r k
  reached_by sizes sheet layout plan k w before form =
      record {
        stored = stored_by s r sizes sheet layout plan;
        among = w;
        forms = λ h l m. form_at h l m (dec_lt h k);
        inferences = λ h l m. (step_facts s r h (before h l m)).1;
      }
    where
      form_at : (h : ℕ) → 1 ≤ h → h ≤ k → Dec (h < k) → StepLayout s (step s r h)
      form_at h l m (yes less) = (step_facts s r h (before h l less)).0
      form_at h l m (no less) =
          let e : h ≡ k = omega arith in
          rw e (step_layout s (step s r k) k form)

  module _ (N P : ℕ) (mine : is_of_kind N ≡ true) where
    skip : (f g : Finding) → Early f → f then g ≡ fault N P → IsFine f × (g ≡ fault N P)
    skip f g early e = elim (then_found f g N P e) [ inl q ↦ absurd (not_told is_of_kind f mine (early_plain f early) q) | inr q ↦ q ]

    stay : (f g : Finding) → Plain g → f then g ≡ fault N P → f ≡ fault N P
    stay f g plain e = elim (then_found f g N P e) [ inl q ↦ q | inr q ↦ absurd (not_told is_of_kind g mine plain q.1) ]

    -- the form of step k and what it cites are fine, and this is what its kind finds
    step_found : (k : ℕ) → step_finding s r k ≡ fault N P
        → IsFine (step_form s (step s r k) k) × IsFine (citation s (step s r k) k)
        × (P ≡ k) × (kind_finding (kind_of (step s r k)) s r k ≡ fault N P)
    unfolding step_finding
    step_found k e =
        let b = step s r k in
        let (form, after-form) = skip (step_form s b k) _ (form_early s b k) e in
        let (cites, after-cites) = skip (citation s b k) _ (citation_early s b k) after-form in
        (form, cites, (fault_has (Here k (kind_of b)) (kind_finding (kind_of b) s r k) (kind_here k (kind_of b)) after-cites).1, after-cites)

    found_there : (k : ℕ) → P ≡ k → {f : Finding} → f ≡ fault N P → f ≡ fault N k
    found_there k place e = rw place at e

    told_there : (k : ℕ) → P ≡ k → KindFound s r k N → KindFound s r P N
    told_there k place f = rw place f

    pub finding_kind : finding s r ≡ fault N P → KindFound s r P N
    unfolding finding
    finding_kind e =
        let (size, after_size) = skip (oversize s r) _ (oversize_early s r) e in
        let (sheet, after-sheet) = skip (sheet_finding s) _ (sheet_early s) after_size in
        let (layout, after-layout) = skip (record_finding s r) _ (record_early s r) after-sheet in
        let (plan, after-plan) = skip (assignment_finding s r) _ (assignment_early s r) after-layout in
        let (k, w, before, here) = over_found (step_finding s r) (steps r) N P (stay _ (close s r) close_plain after-plan) in
        let (form, cites, place, found) = step_found k here in
        told_there k place record {
          reached = reached_by size sheet layout plan k w before form;
          form = form;
          cites = cites;
          found = found_there k place found;
        }

  pub kind_finding_lem : (N k : ℕ) → KindFound s r k N → finding s r ≡ fault N k
  unfolding finding step_finding
  kind_finding_lem N k f =
      let h = f.reached in
      let (size, sheet, layout, plan) = stored_fine s r h.stored in
      rw (
        fine_is (oversize s r) size,
        fine_is (sheet_finding s) sheet,
        fine_is (record_finding s r) layout,
        fine_is (assignment_finding s r) plan,
        found_over (step_finding s r) (steps r) (fault N k) refl (k, h.among, earlier h, here),
      )
    where
      earlier : Reached s r k → (g : ℕ) → 1 ≤ g → g < k → IsFine (step_finding s r g)
      earlier h g l m = facts_step s r g h.stored.sheet.lists (h.forms g l (omega arith)) (h.inferences g l m)

      here : step_finding s r k ≡ fault N k
      here =
          rw (fine_is (step_form s (step s r k) k) f.form, fine_is (citation s (step s r k) k) f.cites) f.found
