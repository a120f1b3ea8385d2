-- Which answer turning gives when.
-- Assumes nothing.
use Prim.Native.Nat.{◌-◌, ℕ}
use mathlib.Core.Path.{◌∙◌, ◌≡◌, ap, refl, sym}
use mathlib.Core.Bool.{Bool, ◌&&◌, false, true, true≢false}
use mathlib.Core.List.{List}
use mathlib.Core.Logic.{◌⊎◌, inl, inr}
use native.Mathlib.Omega.{arith}
use borrow.Author.Tests.{le-leb, leb-true}
use lib.Dec.{leb}
use lib.ListN.{get_or, length}
use Rattle.judgement.specs.Facts.{Among, ValidSheet}
use Rattle.std.specs.Prelude.{Ok, Err}
use Rattle.judgement.specs.Finding.{Finding, fault, ◌then◌, is_fine, need, over_all}
use Rattle.judgement.specs.Sheet.{alone_finding, variables}
use Rattle.judgement.proofs.Facts.Alone.{judge_alone}
use Rattle.judgement.proofs.Facts.Layouts.{alone_number, alone_valid, valid_alone}
use Rattle.judgement.proofs.Laws.Findings.{IsFine, fine_is, need_true, not_fine, over_each, over_found, over_of}
use Rattle.judgement.proofs.Laws.Scan.{and_l, and_r, which}
use Rattle.turns.specs.Promises.{AllTurns, Enough, FirstWrong, TurnedWhen}
use Rattle.turns.specs.declared.Turned.{Turned}
use Rattle.turns.specs.Turning.{Lent, broken_total, has_room, left, left_in, lent_finding, no_room, turn_finding, turned, turning, value_in, wrong_turn}
use Rattle.turns.proofs.Answers.{is_room, room_is}

-- ---- the turns

turn_test : (n : ℕ) (turns : List ℕ) (i : ℕ) → IsFine (wrong_turn n turns i) → Among n (get_or turns (i - 1) 0)
unfolding wrong_turn
turn_test n turns i p =
    let t = need_true (leb 1 (get_or turns (i - 1) 0) && leb (get_or turns (i - 1) 0) n) 30 i p in (
      leb-true 1 (get_or turns (i - 1) 0) (and_l (leb 1 (get_or turns (i - 1) 0)) (leb (get_or turns (i - 1) 0) n) t),
      leb-true (get_or turns (i - 1) 0) n (and_r (leb 1 (get_or turns (i - 1) 0)) (leb (get_or turns (i - 1) 0) n) t),
    )

test_turn : (n : ℕ) (turns : List ℕ) (i : ℕ) → Among n (get_or turns (i - 1) 0) → wrong_turn n turns i ≡ Ok tt
unfolding wrong_turn
test_turn n turns i w = rw (le-leb 1 (get_or turns (i - 1) 0) w.0, le-leb (get_or turns (i - 1) 0) n w.1)

-- a fault of turn i is 30 at i
turn_fault : (n : ℕ) (turns : List ℕ) (i N P : ℕ) → wrong_turn n turns i ≡ fault N P → fault 30 i ≡ fault N P
unfolding wrong_turn
turn_fault n turns i N P e = go (leb 1 (get_or turns (i - 1) 0) && leb (get_or turns (i - 1) 0) n) e
  where
    go : (b : Bool) → need b 30 i ≡ fault N P → fault 30 i ≡ fault N P
    go true q = absurd (not_fine q)
    go false q = q

pub all_fine : (n : ℕ) (turns : List ℕ) → AllTurns n turns → over_all (wrong_turn n turns) (length turns) ≡ Ok tt
all_fine n turns all = fine_is (over_all (wrong_turn n turns) (length turns)) (over_of (wrong_turn n turns) (length turns) (λ i w. rw (test_turn n turns i (all i w))))

pub fine_all : (n : ℕ) (turns : List ℕ) → over_all (wrong_turn n turns) (length turns) ≡ Ok tt → AllTurns n turns
fine_all n turns e i w = turn_test n turns i (over_each (wrong_turn n turns) (length turns) (rw e) i w)

first_found : (n : ℕ) (turns : List ℕ) (N P : ℕ) → over_all (wrong_turn n turns) (length turns) ≡ fault N P
    → (i : ℕ) × FirstWrong n turns i × (fault 30 i ≡ fault N P)
first_found n turns N P e =
    let (i, w, before, here) = over_found (wrong_turn n turns) (length turns) N P e in (
      i,
      record {
        there = w;
        wrong = λ a. not_fine (sym (test_turn n turns i a) ∙ here);
        before = λ j l h. turn_test n turns j (before j l h);
      },
      turn_fault n turns i N P here,
    )

-- ---- the buffers

abbrev room_in : List ℕ → Lent → Bool
room_in s b = has_room s (length b.assignment) (length b.index) (length b.counts)

pub enough_is : (s : List ℕ) (b : Lent) → room_in s b ≡ true → Enough s b
enough_is s b e =
    let r = room_is s (length b.assignment) (length b.index) (length b.counts) e in
    record { assignment = r.assignment; index = r.index; counts = r.counts }

pub is_enough : (s : List ℕ) (b : Lent) → Enough s b → room_in s b ≡ true
is_enough s b r =
    is_room s (length b.assignment) (length b.index) (length b.counts)
    (record { assignment = r.assignment; index = r.index; counts = r.counts })

-- ---- which of the four it is, by the finding

pub data Case (s turns : List ℕ) (b : Lent) (f : Finding) : Type 0 where
  done : ValidSheet s → Enough s b → AllTurns (variables s) turns → f ≡ Ok tt → Case s turns b f
  short : ValidSheet s → (Enough s b → ⊥) → f ≡ fault 29 0 → Case s turns b f
  wrong : ValidSheet s → Enough s b → (i : ℕ) → FirstWrong (variables s) turns i → f ≡ fault 30 i → Case s turns b f
  unfit : (N P : ℕ) → (ValidSheet s → ⊥) → alone_finding s ≡ fault N P → f ≡ fault N P → Case s turns b f

pub case_of : (s turns : List ℕ) (b : Lent) → Case s turns b (turn_finding s turns b)
unfolding turn_finding lent_finding no_room
case_of s turns b =
    go (alone_finding s) refl (which (room_in s b))
    (over_all (wrong_turn (variables s) turns) (length turns)) refl
  where
    go : (f : Finding) → alone_finding s ≡ f → (room_in s b ≡ true) ⊎ (room_in s b ≡ false) → (g : Finding)
        → over_all (wrong_turn (variables s) turns) (length turns) ≡ g → Case s turns b (f then (need (room_in s b) 29 0 then g))
    go (Err x) e r g q = unfit x.number x.place (λ v. true≢false (sym (valid_alone s v) ∙ ap is_fine e)) e refl
    go (Ok _) e (inr n) g q = short (alone_valid s (ap is_fine e)) (λ h. true≢false (sym (is_enough s b h) ∙ n)) (rw n)
    go (Ok _) e (inl y) (Ok _) q = done (alone_valid s (ap is_fine e)) (enough_is s b y) (fine_all (variables s) turns q) (rw y)
    go (Ok _) e (inl y) (Err x) q =
        let (i, first, z) = first_found (variables s) turns x.number x.place q in
        wrong (alone_valid s (ap is_fine e)) (enough_is s b y) i first (rw (y, z))

module _ (s turns : List ℕ) (b : Lent) where
  none_of_all : (i : ℕ) → FirstWrong (variables s) turns i → AllTurns (variables s) turns → ⊥
  none_of_all i w all = w.wrong (all i w.there)

  when_done : ValidSheet s → Enough s b → AllTurns (variables s) turns → (total : ℕ) (l : Lent)
      → TurnedWhen s turns b (record { number = 0; place = 0; total = total }) l
  when_done v h all total l = record {
    done = (λ z. (v, h, all), λ z. refl);
    short = (λ z. absurd (omega (arith, z)), λ (z, n). absurd (n h));
    wrong = (λ z. absurd (omega (arith, z)), λ (z, y, n). absurd (n all));
    unfit = (λ z. absurd (omega (arith, z.0)), λ z. absurd (z v));
    told = λ u. absurd (u v);
    place = λ z. refl;
    short_place = λ z. refl;
    first = λ z. absurd (omega (arith, z));
    none_broken = λ z. absurd (z refl);
    stays = λ z. absurd (z refl);
  }

  when_short : ValidSheet s → (Enough s b → ⊥) → TurnedWhen s turns b (record { number = 29; place = 0; total = 0 }) b
  when_short v none = record {
    done = (λ z. absurd (omega (arith, z)), λ (z, h, all). absurd (none h));
    short = (λ z. (v, none), λ z. refl);
    wrong = (λ z. absurd (omega (arith, z)), λ (z, h, n). absurd (none h));
    unfit = (λ z. absurd (omega (arith, z.1)), λ z. absurd (z v));
    told = λ u. absurd (u v);
    place = λ z. refl;
    short_place = λ z. refl;
    first = λ z. absurd (omega (arith, z));
    none_broken = λ z. refl;
    stays = λ z. refl;
  }

  when_wrong : ValidSheet s → Enough s b → (i : ℕ) → FirstWrong (variables s) turns i
      → TurnedWhen s turns b (record { number = 30; place = i; total = 0 }) b
  when_wrong v h i w = record {
    done = (λ z. absurd (omega (arith, z)), λ (z, y, all). absurd (none_of_all i w all));
    short = (λ z. absurd (omega (arith, z)), λ (z, n). absurd (n h));
    wrong = (λ z. (v, h, none_of_all i w), λ z. refl);
    unfit = (λ z. absurd (omega (arith, z.1)), λ z. absurd (z v));
    told = λ u. absurd (u v);
    place = λ z. absurd (omega (arith, z));
    short_place = λ z. absurd (omega (arith, z));
    first = λ z. w;
    none_broken = λ z. refl;
    stays = λ z. refl;
  }

  when_unfit : (N P : ℕ) → (ValidSheet s → ⊥) → alone_finding s ≡ fault N P → TurnedWhen s turns b (record { number = N; place = P; total = 0 }) b
  when_unfit N P u e =
      let n = alone_number s N P e in
      record {
        done = (λ z. absurd (omega (arith, n.0, z)), λ (z, h, all). absurd (u z));
        short = (λ z. absurd (omega (arith, n.1, z)), λ (z, h). absurd (u z));
        wrong = (λ z. absurd (omega (arith, n.1, z)), λ (z, h, w). absurd (u z));
        unfit = (λ z. u, λ z. n);
        told = λ z q h. judge_alone s q N P h e;
        place = λ z. absurd (omega (arith, n.0, z));
        short_place = λ z. absurd (omega (arith, n.1, z));
        first = λ z. absurd (omega (arith, n.1, z));
        none_broken = λ z. refl;
        stays = λ z. refl;
      }

pub turned_when : (s turns : List ℕ) (b l : Lent) (r : Turned) → r ≡ turning s turns b → l ≡ left s turns b → TurnedWhen s turns b r l
unfolding turning left
turned_when s turns b l r er el = by_case (case_of s turns b)
  where
    by_case : Case s turns b (turn_finding s turns b) → TurnedWhen s turns b r l
    by_case (done v h all e) = rw (er, el, e) (when_done s turns b v h all (broken_total s (value_in (turned b.assignment turns))) (left_in (Ok tt) s turns b))
    by_case (short v none e) = rw (er, el, e) (when_short s turns b v none)
    by_case (wrong v h i w e) = rw (er, el, e) (when_wrong s turns b v h i w)
    by_case (unfit N P u a e) = rw (er, el, e) (when_unfit s turns b N P u a)
