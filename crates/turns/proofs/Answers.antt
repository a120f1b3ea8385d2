-- The answer and the buffers, from the findings on the way.
-- Assumes nothing.
use Prim.Native.Nat.{◌*◌, ◌+◌, ◌-◌, ◌/◌, ◌<◌, ◌^◌, ◌≤◌, ℕ}
use mathlib.Core.Path.{◌∙◌, ◌≡◌, refl}
use mathlib.Core.Bool.{◌&&◌, false, true}
use mathlib.Core.List.{List}
use native.Mathlib.Numerals.{add-one}
use native.Mathlib.Omega.{arith}
use borrow.Author.Tests.{le-leb, leb-true, lt-leb}
use lib.Dec.{leb}
use lib.ListN.{get_or, length}
use Rattle.std.specs.Prelude.{Option, Some, Ok, Err}
use Rattle.judgement.specs.Buffer.{Kept, over}
use Rattle.judgement.specs.Facts.{ValidSheet}
use Rattle.judgement.specs.Finding.{Finding, fault, need, over_all}
use Rattle.judgement.specs.declared.Refusal.{Refusal}
use Rattle.judgement.specs.Literals.{count}
use Rattle.judgement.specs.Record.{assignment_size}
use Rattle.judgement.specs.Scan.{sum_of}
use Rattle.judgement.specs.Sheet.{alone_finding, clause, clauses, variables}
use Rattle.judgement.proofs.Facts.Layouts.{alone_valid}
use Rattle.judgement.proofs.Laws.Findings.{found_over, over_each}
use Rattle.judgement.proofs.Laws.Patch.{kept_next}
use Rattle.judgement.proofs.Laws.Scan.{and_l, and_r, sum_last}
use Rattle.turns.specs.Counts.{CountedFor, wrong_at}
use Rattle.turns.specs.declared.Turned.{Turned}
use Rattle.turns.specs.Index.{index_end}
use Rattle.turns.specs.Turning.{Lent, answer_of, broken_total, has_room, index_of, index_size, left, left_in, lent, lent_finding, no_room, turn_finding, turned, turning, value_in, wrong_turn}
use Rattle.turns.proofs.Counting.{count_within}
use Rattle.turns.proofs.Walking.{counts_whole}
use Rattle.turns.proofs.Whole.{index_length}

-- ---- the size of the index

pub record SizeTo (s : List ℕ) (k size : ℕ) : Type 0 where
  pub within : k ≤ clauses s
  pub size_is : size ≡ 8 * variables s + 4 * sum_of (λ j. count (clause s j)) k
  pub most : size ≤ 8 * 1024 + 4 * (1024 * k)

pub size_start : (s : List ℕ) → ValidSheet s → (n : ℕ) → n ≡ variables s → SizeTo s 0 (8 * n)
unfolding sum_of
size_start s valid n e = let h = valid.n.1 in record { within = omega arith; size_is = rw e (omega arith); most = omega (arith, e, h) }

pub size_one : (s : List ℕ) → ValidSheet s → (k : ℕ) (part : List ℕ) → k < clauses s → part ≡ clause s (k + 1) → length part / 2 ≤ 1024
size_one s valid k part h e =
    let a = count_within (variables s) (clause s (k + 1)) (valid.lists (k + 1) (omega arith, omega arith)) in
    let n = valid.n.1 in
    rw e (omega arith)

pub size_turn : (s : List ℕ) → ValidSheet s → (k size : ℕ) (part : List ℕ) → k < clauses s → part ≡ clause s (k + 1) → SizeTo s k size
    → SizeTo s (k + 1) (size + 4 * (length part / 2))
size_turn s valid k size part h e l =
    let e1 : k + 1 - 1 ≡ k = omega arith in
    let z = rw e1 at (sum_last (λ j. count (clause s j)) (k + 1) (omega arith)) in
    let a = size_one s valid k part h e in
    let m = l.most in
    let q = l.size_is in
    let p : length part / 2 ≡ count (clause s (k + 1)) = rw e in
    record { within = omega arith; size_is = omega (arith, z, q, p); most = omega arith }

pub size_done : (s : List ℕ) → ValidSheet s → (k size : ℕ) → clauses s ≤ k → SizeTo s k size → (size ≡ index_size s) × (size < 2 ^ 32)
unfolding index_size
size_done s valid k size h l =
    let w = l.within in
    let e : k ≡ clauses s = omega arith in
    let m = valid.m in
    let a = l.most in
    (l.size_is ∙ rw e, omega arith)

-- ---- 29

pub short_assignment : (s : List ℕ) (a i c n : ℕ) → n ≡ variables s → a < (n + 7) / 8 → false ≡ has_room s a i c
unfolding has_room
short_assignment s a i c n e h = rw (lt-leb (assignment_size (variables s)) a (rw e at h))

pub short_index : (s : List ℕ) (a i c n size : ℕ) → n ≡ variables s → size ≡ index_size s → (n + 7) / 8 ≤ a → i < size → false ≡ has_room s a i c
unfolding has_room
short_index s a i c n size e f g h = rw (le-leb (assignment_size (variables s)) a (rw e at g), lt-leb (index_size s) i (rw f at h))

pub room_counts : (s : List ℕ) (a i c n size m : ℕ) → n ≡ variables s → size ≡ index_size s → m ≡ clauses s → (n + 7) / 8 ≤ a → size ≤ i
    → leb (2 * m) c ≡ has_room s a i c
unfolding has_room
room_counts s a i c n size m e f d g h = rw (le-leb (assignment_size (variables s)) a (rw e at g), le-leb (index_size s) i (rw f at h), d)

-- what is known where there is room
pub record Room (s : List ℕ) (a i c : ℕ) : Type 0 where
  pub assignment : assignment_size (variables s) ≤ a
  pub index : index_size s ≤ i
  pub counts : 2 * clauses s ≤ c

pub room_is : (s : List ℕ) (a i c : ℕ) → has_room s a i c ≡ true → Room s a i c
unfolding has_room
room_is s a i c e =
    let ab = and_l (leb (assignment_size (variables s)) a && leb (index_size s) i) (leb (2 * clauses s) c) e in
    record {
      assignment = leb-true (assignment_size (variables s)) a (and_l (leb (assignment_size (variables s)) a) (leb (index_size s) i) ab);
      index = leb-true (index_size s) i (and_r (leb (assignment_size (variables s)) a) (leb (index_size s) i) ab);
      counts = leb-true (2 * clauses s) c (and_r (leb (assignment_size (variables s)) a && leb (index_size s) i) (leb (2 * clauses s) c) e);
    }

pub is_room : (s : List ℕ) (a i c : ℕ) → Room s a i c → has_room s a i c ≡ true
unfolding has_room
is_room s a i c r =
    rw (le-leb (assignment_size (variables s)) a r.assignment, le-leb (index_size s) i r.index, le-leb (2 * clauses s) c r.counts)

-- ---- 30

over_next : (f : ℕ → Finding) (i : ℕ) → over_all f i ≡ Ok tt → f (i + 1) ≡ Ok tt → over_all f (i + 1) ≡ Ok tt
unfolding over_all
over_next f i p q = rw (add-one, p) (rw add-one at q)

over_at : (f : ℕ → Finding) (i n number place : ℕ) → i < n → over_all f i ≡ Ok tt → f (i + 1) ≡ fault number place → over_all f n ≡ fault number place
over_at f i n number place h p q =
    found_over f n (fault number place) refl (i + 1, (omega arith, omega arith), λ d low m. over_each f i (rw p) d (low, omega arith), q)

wrong_test : (n : ℕ) (turns : List ℕ) (i : ℕ) → wrong_turn n turns (i + 1) ≡ need (leb 1 (get_or turns i 0) && leb (get_or turns i 0) n) 30 (i + 1)
unfolding wrong_turn
wrong_test n turns i = let e : i + 1 - 1 ≡ i = omega arith in rw e

pub wrong_next : (n : ℕ) (turns : List ℕ) (i : ℕ) → over_all (wrong_turn n turns) i ≡ Ok tt → 1 ≤ get_or turns i 0 → get_or turns i 0 ≤ n
    → over_all (wrong_turn n turns) (i + 1) ≡ Ok tt
wrong_next n turns i p g h =
    over_next (wrong_turn n turns) i p (wrong_test n turns i ∙ rw (le-leb 1 (get_or turns i 0) g, le-leb (get_or turns i 0) n h))

pub wrong_here : (n : ℕ) (turns : List ℕ) (i : ℕ) → i < length turns → over_all (wrong_turn n turns) i ≡ Ok tt
    → (leb 1 (get_or turns i 0) && leb (get_or turns i 0) n) ≡ false → over_all (wrong_turn n turns) (length turns) ≡ fault 30 (i + 1)
wrong_here n turns i h p t = over_at (wrong_turn n turns) i (length turns) 30 (i + 1) h p (wrong_test n turns i ∙ rw t)

pub wrong_low : (n : ℕ) (turns : List ℕ) (i : ℕ) → i < length turns → over_all (wrong_turn n turns) i ≡ Ok tt → get_or turns i 0 < 1
    → over_all (wrong_turn n turns) (length turns) ≡ fault 30 (i + 1)
wrong_low n turns i h p g = wrong_here n turns i h p (rw (lt-leb 1 (get_or turns i 0) g))

pub wrong_high : (n : ℕ) (turns : List ℕ) (i : ℕ) → i < length turns → over_all (wrong_turn n turns) i ≡ Ok tt → 1 ≤ get_or turns i 0 → n < get_or turns i 0
    → over_all (wrong_turn n turns) (length turns) ≡ fault 30 (i + 1)
wrong_high n turns i h p f g = wrong_here n turns i h p (rw (le-leb 1 (get_or turns i 0) f, lt-leb (get_or turns i 0) n g))

-- the three buffers after the work
pub run_done : (s turns a₀ i₀ c₀ a i₁ i c c₁ : List ℕ) (total : ℕ) → Kept (index_end s) i₀ i₁ → i ≡ over (index_of s) i₁ → a ≡ turned a₀ turns
    → CountedFor s (value_in a) total c → Kept (2 * clauses s) c₀ c₁ → Kept (2 * clauses s) c₁ c
    → (total ≡ broken_total s (value_in (turned a₀ turns))) × (lent a i c ≡ left_in (Ok tt) s turns (lent a₀ i₀ c₀))
run_done s turns a₀ i₀ c₀ a i₁ i c c₁ total ki ei ea h k k' =
    let (ec, et) = counts_whole s (value_in a) total c₀ c h (kept_next (2 * clauses s) c₀ c₁ c k k') in
    let same : over (index_of s) i₁ ≡ over (index_of s) i₀ = rw (index_length s, ki.behind) in
    (et ∙ rw ea, rw (ec, ea, ei, same))

-- ---- the answer and the buffers of a valid sheet

-- the answer to a finding f, and what is left, are these
abbrev pub Outcome : Finding → List ℕ → List ℕ → Lent → Turned → Lent → Type 0
Outcome f s turns b r l = (r ≡ answer_of f (broken_total s (value_in (turned b.assignment turns)))) × (l ≡ left_in f s turns b)

fault_outcome : (f : Finding) (number place : ℕ) (s turns : List ℕ) (b : Lent) → f ≡ fault number place
    → Outcome f s turns b (record { number = number; place = place; total = 0 }) b
fault_outcome f number place s turns b e = rw e (refl, refl)

-- what is told of n variables and of a list that is that of the turns
pub wrong_told : (s turns l : List ℕ) (n : ℕ) (r o : Option ℕ) → l ≡ turns → n ≡ variables s → over_all (wrong_turn n l) (length l) ≡ wrong_at r → r ≡ o
    → over_all (wrong_turn (variables s) turns) (length turns) ≡ wrong_at o
wrong_told s turns l n r o el en w e = rw (← en, ← el) (w ∙ rw e)

module _ (s turns a i c : List ℕ) where
  pub no_room_lem : has_room s (length a) (length i) (length c) ≡ false
      → Outcome (lent_finding s turns (lent a i c)) s turns (lent a i c) (record { number = 29; place = 0; total = 0 }) (lent a i c)
  unfolding lent_finding no_room
  no_room_lem e = fault_outcome (lent_finding s turns (lent a i c)) 29 0 s turns (lent a i c) (rw e)

  -- where there is room, the turns alone are looked at
  pub with_room : has_room s (length a) (length i) (length c) ≡ true
      → lent_finding s turns (lent a i c) ≡ over_all (wrong_turn (variables s) turns) (length turns)
  unfolding lent_finding no_room
  with_room e = rw e

  pub wrong_turn_lem : (n : ℕ) (r : Option ℕ) (place : ℕ) → n ≡ variables s → has_room s (length a) (length i) (length c) ≡ true
      → over_all (wrong_turn n turns) (length turns) ≡ wrong_at r → r ≡ Some place
      → Outcome (lent_finding s turns (lent a i c)) s turns (lent a i c) (record { number = 30; place = place; total = 0 }) (lent a i c)
  wrong_turn_lem n r place en e w d =
      fault_outcome (lent_finding s turns (lent a i c)) 30 place s turns (lent a i c)
      (with_room e ∙ wrong_told s turns turns n r (Some place) refl en w d)

  pub all_turned : (total : ℕ) (l : Lent) → has_room s (length a) (length i) (length c) ≡ true
      → over_all (wrong_turn (variables s) turns) (length turns) ≡ Ok tt
      → total ≡ broken_total s (value_in (turned a turns)) → l ≡ left_in (Ok tt) s turns (lent a i c)
      → Outcome (lent_finding s turns (lent a i c)) s turns (lent a i c) (record { number = 0; place = 0; total = total }) l
  all_turned total l e w et el = rw (with_room e ∙ w) (rw et, el)

-- ---- the sheet first

module _ (s turns : List ℕ) (b : Lent) where
  pub valid_by : {u : Unit {0}} → Ok u ≡ alone_finding s → ValidSheet s
  valid_by e = alone_valid s (rw (← e))

  outcome : (f : Finding) (r : Turned) (l : Lent) → turn_finding s turns b ≡ f → Outcome f s turns b r l → (r ≡ turning s turns b) × (l ≡ left s turns b)
  unfolding turning left
  outcome f r l e w = rw e w

  -- 1 to 4
  pub refused_sheet : (x : Refusal) → Err x ≡ alone_finding s
      → ◌≡◌ {A = Turned} (record { number = x.number; place = x.place; total = 0 }) (turning s turns b) × (b ≡ left s turns b)
  unfolding turn_finding
  refused_sheet x e = outcome (Err x) _ b (rw (← e)) (refl, refl)

  -- of a sheet that has passed, what comes of the turns and of the buffers
  pub passed_sheet : (r : Turned) (l : Lent) {u : Unit {0}} → Ok u ≡ alone_finding s → Outcome (lent_finding s turns b) s turns b r l
      → (r ≡ turning s turns b) × (l ≡ left s turns b)
  unfolding turn_finding
  passed_sheet r l e w = outcome (lent_finding s turns b) r l (rw (← e)) w

  pub no_room_told : {u : Unit {0}} → Ok u ≡ alone_finding s → has_room s (length b.assignment) (length b.index) (length b.counts) ≡ false
      → ◌≡◌ {A = Turned} (record { number = 29; place = 0; total = 0 }) (turning s turns b) × (b ≡ left s turns b)
  no_room_told e r = passed_sheet _ b e (no_room_lem s turns b.assignment b.index b.counts r)

  pub wrong_turn_told : (place : ℕ) {u : Unit {0}} → Ok u ≡ alone_finding s
      → has_room s (length b.assignment) (length b.index) (length b.counts) ≡ true
      → over_all (wrong_turn (variables s) turns) (length turns) ≡ fault 30 place
      → ◌≡◌ {A = Turned} (record { number = 30; place = place; total = 0 }) (turning s turns b) × (b ≡ left s turns b)
  wrong_turn_told place e r w =
      passed_sheet _ b e (wrong_turn_lem s turns b.assignment b.index b.counts (variables s) (Some place) place refl r w refl)

  pub all_turned_told : (total : ℕ) (l : Lent) {u : Unit {0}} → Ok u ≡ alone_finding s
      → has_room s (length b.assignment) (length b.index) (length b.counts) ≡ true
      → over_all (wrong_turn (variables s) turns) (length turns) ≡ Ok tt
      → (total ≡ broken_total s (value_in (turned b.assignment turns))) × (l ≡ left_in (Ok tt) s turns b)
      → ◌≡◌ {A = Turned} (record { number = 0; place = 0; total = total }) (turning s turns b) × (l ≡ left s turns b)
  all_turned_told total l e r w d = passed_sheet _ l e (all_turned s turns b.assignment b.index b.counts total l r w d.0 d.1)
