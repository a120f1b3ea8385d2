-- The order of turns does not matter, and a variable turned twice stays as it was.
-- Assumes nothing.
use Prim.Native.Nat.{◌-◌, suc, zero, ℕ}
use mathlib.Core.Path.{◌∙◌, ◌≡◌, ap, refl}
use mathlib.Core.List.{List, ◌++◌, ◌∷◌, []}
use native.Mathlib.Omega.{arith}
use lib.ListN.{get_or, length}
use Rattle.judgement.specs.Facts.{Among}
use Rattle.judgement.specs.Finding.{over_all}
use Rattle.judgement.specs.Sheet.{alone_finding, variables}
use Rattle.judgement.proofs.Laws.Findings.{fine_is, then_l, then_r}
use Rattle.turns.specs.Promises.{AllTurns, Reordered, same, under, swap, through, SameTurns, TurnLaws}
use Rattle.turns.specs.Turning.{left, lent_finding, no_room, turn, turn_finding, turned, turning, wrong_turn}
use Rattle.turns.proofs.Switching.{turn_swap, turn_twice}
use Rattle.turns.proofs.When.{all_fine, fine_all}

-- ---- on the assignment

pub turned_any_order : {l m : List ℕ} (a : List ℕ) → Reordered l m → turned a l ≡ turned a m
unfolding turned
turned_any_order a same = refl
turned_any_order a (under {v} r) = turned_any_order (turn a v) r
turned_any_order a (swap {u} {v} {l}) = ap (λ (x : List ℕ). turned x l) (turn_swap a u v)
turned_any_order a (through r t) = turned_any_order a r ∙ turned_any_order a t

pub turned_twice : (a p q : List ℕ) (v : ℕ) → turned a (p ++ (v ∷ v ∷ q)) ≡ turned a (p ++ q)
unfolding turned
turned_twice a [] q v = ap (λ (x : List ℕ). turned x q) (turn_twice a v)
turned_twice a (u ∷ p) q v = turned_twice (turn a u) p q v

-- ---- all of them are of variables

-- by recursion on the list
abbrev pub Every : ℕ → List ℕ → Type 0
Every n [] = Unit {0}
Every n (v ∷ vs) = Among n v × Every n vs

pub every_of : (n : ℕ) (l : List ℕ) → AllTurns n l → Every n l
every_of n [] h = tt
every_of n (v ∷ l) h = (h 1 (omega arith, omega arith), every_of n l (λ i w. later i w))
  where
    later : (i : ℕ) → Among (length l) i → Among n (get_or l (i - 1) 0)
    later i w =
        let e : suc i - 1 ≡ suc (i - 1) = omega (arith, w.0) in
        rw e at (h (suc i) (omega arith, omega (arith, w.1)))

pub of_every : (n : ℕ) (l : List ℕ) → Every n l → AllTurns n l
of_every n [] h i w = absurd (omega (arith, w.0, w.1))
of_every n (v ∷ l) h i w = go (i - 1) refl (of_every n l h.1)
  where
    go : (j : ℕ) → i - 1 ≡ j → AllTurns n l → Among n (get_or (v ∷ l) (i - 1) 0)
    go zero e r = rw e h.0
    go (suc j) e r =
        let z : suc j - 1 ≡ j = omega arith in
        rw e (rw z at (r (suc j) (omega arith, omega (arith, e, w.1))))

every_order : {l m : List ℕ} (n : ℕ) → Reordered l m → Every n l → Every n m
every_order n same h = h
every_order n (under r) h = (h.0, every_order n r h.1)
every_order n swap h = (h.1.0, (h.0, h.1.1))
every_order n (through r t) h = every_order n t (every_order n r h)

every_twice : (n : ℕ) (p q : List ℕ) (v : ℕ) → Every n (p ++ (v ∷ v ∷ q)) → Every n (p ++ q)
every_twice n [] q v h = h.1.1
every_twice n (u ∷ p) q v h = (h.0, every_twice n p q v h.1)

-- ---- of the call

-- what is done with one list is done with another that is of variables and turns to the same
same_turns : (s turns others : List ℕ) → (Every (variables s) turns → Every (variables s) others)
    → ((a : List ℕ) → turned a turns ≡ turned a others) → SameTurns s turns others
unfolding turning left turn_finding lent_finding
same_turns s turns others every alike b fine =
    let sheet = fine_is (alone_finding s) (then_l (alone_finding s) (lent_finding s turns b) (rw fine refl)) in
    let rest = then_r (alone_finding s) (lent_finding s turns b) (rw fine refl) in
    let room = fine_is (no_room s b) (then_l (no_room s b) (over_all (wrong_turn (variables s) turns) (length turns)) rest) in
    let all = fine_is (over_all (wrong_turn (variables s) turns) (length turns))
    (then_r (no_room s b) (over_all (wrong_turn (variables s) turns) (length turns)) rest) in
    let others-all = all_fine (variables s) others
    (of_every (variables s) others (every (every_of (variables s) turns (fine_all (variables s) turns all)))) in
    let e = alike b.assignment in
    (rw (sheet, room, all, others-all, e), rw (sheet, room, all, others-all, e))

pub turn_laws : (s : List ℕ) → TurnLaws s
turn_laws s = record {
  any_order = λ {turns} {others} r. same_turns s turns others (every_order (variables s) r) (λ a. turned_any_order a r);
  twice = λ p q v. same_turns s (p ++ (v ∷ v ∷ q)) (p ++ q) (every_twice (variables s) p q v) (λ a. turned_twice a p q v);
}
