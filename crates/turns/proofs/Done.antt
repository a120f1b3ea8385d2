-- What is left when the turns are done.
-- Assumes nothing.
use Prim.Native.Nat.{◌%◌, ◌*◌, ◌+◌, ◌-◌, ◌/◌, ◌<◌, ◌^◌, ◌≤◌, suc, zero, ℕ}
use mathlib.Core.Path.{◌∙◌, ◌≡◌, ap, refl, sym}
use mathlib.Core.Bool.{Bool, cond, false, not, true, true≢false}
use mathlib.Core.List.{List, ◌∷◌, []}
use mathlib.Core.Logic.{◌↔◌, ◌⊎◌, inl, inr}
use native.Mathlib.Nat.{zero-add}
use native.Mathlib.Omega.{arith}
use borrow.Author.Tests.{eq-eqb, eqb-false, eqb-true, ne_eqb}
use lib.Dec.{eqb}
use lib.ListN.{get_or-append, drop, get_or, length, set}
use lib.Seq.{drop-append_seam, get_or_at, take-append_seam, take-length}
use Rattle.std.specs.Prelude.{Ok}
use Rattle.judgement.specs.Buffer.{over}
use Rattle.judgement.specs.Facts.{Among, Mentions, PairRule, Rising, ValidSheet}
use Rattle.judgement.specs.Literals.{holds, mentions}
use Rattle.judgement.specs.Meaning.{Assignment, Model, Satisfies}
use Rattle.judgement.specs.Number.{number_at}
use Rattle.judgement.specs.Pairs.{body}
use Rattle.judgement.specs.Record.{assignment_size, satisfied}
use Rattle.judgement.specs.Scan.{count_of, one}
use Rattle.turns.specs.Listed.{list_of}
use Rattle.judgement.specs.Sheet.{clause, clauses, problem_of, variables}
use Rattle.judgement.specs.Writer.{joined, numbers_of}
use Rattle.judgement.proofs.Complete.Bytes.{length_numbers}
use Rattle.judgement.proofs.Complete.Tables.{file_body, file_pairs, length_file}
use Rattle.judgement.proofs.Laws.Buffer.{length_over}
use Rattle.turns.proofs.Chosen.{chosen_at, count_grows, count_rises, length_chosen}
use Rattle.judgement.proofs.Laws.Membership.{in_mentions, mentions_in}
use Rattle.judgement.proofs.Laws.Models.{satisfied_satisfies, satisfies_satisfied}
use Rattle.judgement.proofs.Laws.Patch.{at_numbers}
use Rattle.judgement.proofs.Laws.Scan.{count_same, last_or, sum_zero, which}
use Rattle.turns.proofs.Listed.{length_list, list_at}
use Rattle.turns.specs.Index.{uses}
use Rattle.turns.specs.Promises.{AllTurns, Enough, Turning, after, named, named_count, times_in}
use Rattle.turns.specs.Turning.{Lent, broken_total, counts_of, index_of, index_size, left_in, mentioning, switched, true_in, turn, turned, value_in}
use Rattle.turns.proofs.Clauses.{end_small}
use Rattle.turns.proofs.Coding.{in_bytes}
use Rattle.turns.proofs.Counting.{count_within, true_within, zero_broken}
use Rattle.turns.proofs.Laws.{Every, every_of}
use Rattle.turns.proofs.Lists.{Next, chosen_next, chosen_rises, either, previous}
use Rattle.turns.proofs.Room.{size_is}
use Rattle.turns.proofs.Switching.{length_turn, length_turned, value_other, value_same}
use Rattle.turns.proofs.Whole.{index_length}

-- ---- the assignment

after_more : (times : ℕ) (value : Bool) → after times (not value) ≡ after (1 + times) value
unfolding after
after_more times value = go (which (eqb (times % 2) 1)) value
  where
    go : (eqb (times % 2) 1 ≡ true) ⊎ (eqb (times % 2) 1 ≡ false) → (b : Bool)
        → cond (eqb (times % 2) 1) (not (not b)) (not b) ≡ cond (eqb ((1 + times) % 2) 1) (not b) b
    go (inl e) b =
        let z = eqb-true (times % 2) 1 e in
        rw (e, ne_eqb ((1 + times) % 2) 1 (omega (arith, z))) (not_not b)
      where
        not_not : (b : Bool) → not (not b) ≡ b
        not_not true = refl
        not_not false = refl
    go (inr e) b =
        let z = eqb-false (times % 2) 1 e in
        rw (e, eq-eqb ((1 + times) % 2) 1 (omega (arith, z)))

-- each turn lies within the buffer
abbrev Inside : ℕ → List ℕ → Type 0
Inside size [] = Unit {0}
Inside size (v ∷ vs) = (1 ≤ v) × ((v - 1) / 8 < size) × Inside size vs

turned_value : (a turns : List ℕ) → Inside (length a) turns → (v : ℕ) → 1 ≤ v → value_in (turned a turns) v ≡ after (times_in turns v) (value_in a v)
unfolding turned times_in after
turned_value a [] i v h = refl
turned_value a (u ∷ us) i v h =
    either u v
    (λ e.
    (let r = turned_value (turn a u) us (rw (length_turn a u) i.2) v h in
    let s = value_same a v (rw (← e) i.1) in
    r ∙ rw (eq-eqb u v e) (rw e (ap (after (times_in us v)) s ∙ after_more (times_in us v) (value_in a v)))))
    (λ d.
    (let r = turned_value (turn a u) us (rw (length_turn a u) i.2) v h in
    let s = value_other a v u h i.0 (λ q. d (sym q)) i.1 in
    r ∙ rw (ne_eqb u v d, s, zero-add (times_in us v))))

drop_set : (l : List ℕ) (i n x : ℕ) → i < n → drop n (set l i x) ≡ drop n l
drop_set [] i n x h = refl
drop_set (y ∷ l) zero zero x h = absurd (omega arith)
drop_set (y ∷ l) zero (suc n) x h = refl
drop_set (y ∷ l) (suc i) zero x h = absurd (omega arith)
drop_set (y ∷ l) (suc i) (suc n) x h = drop_set l i n x (omega arith)

turned_behind : (a turns : List ℕ) (size : ℕ) → Inside size turns → drop size (turned a turns) ≡ drop size a
unfolding turned turn
turned_behind a [] size i = refl
turned_behind a (v ∷ vs) size i =
    turned_behind (turn a v) vs size i.2
    ∙ drop_set a ((v - 1) / 8) size (switched (get_or a ((v - 1) / 8) 0) ((v - 1) % 8)) i.1

inside_of : (n size : ℕ) (turns : List ℕ) → assignment_size n ≤ size → Every n turns → Inside size turns
inside_of n size [] h e = tt
inside_of n size (v ∷ vs) h e = (e.0.0, in_bytes n v size e.0 h, inside_of n size vs h e.1)

never : (n : ℕ) (turns : List ℕ) → Every n turns → (v : ℕ) → n < v → times_in turns v ≡ 0
unfolding times_in
never n [] e v h = refl
never n (u ∷ us) e v h = rw (ne_eqb u v (λ q. omega (arith, q, e.0.1)), never n us e.1 v h)

-- ---- the index

body_at : (f : ℕ → List ℕ) (n k : ℕ) → Among n k → get_or (list_of f n) (k - 1) [] ≡ f k
unfolding list_of
body_at f zero k w = absurd (omega (arith, w.0, w.1))
body_at f (suc n) k w =
    last_or n k w
    (λ e. (let z : suc n - 1 ≡ n = omega arith in rw (e, z) (get_or_at (list_of f n) (f (suc n)) [] [] n (length_list f n))))
    (λ w. (let l = length_list f n in
    get_or-append (list_of f n) (f (suc n) ∷ []) [] (k - 1) (omega (arith, l, w.0, w.1)) ∙ body_at f n k w))

module _ (s : List ℕ) (valid : ValidSheet s) where
  size : length (index_of s) ≡ index_size s
  size = index_length s ∙ sym (size_is s valid)

  small : length {A = ℕ} [] + 8 * length (list_of (λ v. numbers_of 4 (mentioning s v)) (variables s)) + length (joined (list_of (λ v. numbers_of 4 (mentioning s v)) (variables s))) < 256 ^ 4
  unfolding index_of
  small =
      let a = length_file [] (list_of (λ v. numbers_of 4 (mentioning s v)) (variables s)) in
      let b = end_small s valid in
      let c = index_length s in
      omega (arith, a, b, c)

  as_many : length (list_of (λ v. numbers_of 4 (mentioning s v)) (variables s)) ≡ variables s
  as_many = length_list (λ v. numbers_of 4 (mentioning s v)) (variables s)

  index_pairs : PairRule (index_of s) 0 (variables s)
  unfolding index_of
  index_pairs = rw as_many at (file_pairs [] (list_of (λ v. numbers_of 4 (mentioning s v)) (variables s)) small)

  index_body : (v : ℕ) → Among (variables s) v → body (index_of s) 0 v ≡ numbers_of 4 (mentioning s v)
  unfolding index_of
  index_body v w =
      file_body [] (list_of (λ v. numbers_of 4 (mentioning s v)) (variables s)) small v (rw as_many w)
      ∙ body_at (λ v. numbers_of 4 (mentioning s v)) (variables s) v w

  body_size : (v : ℕ) → Among (variables s) v → length (body (index_of s) 0 v) ≡ 4 * uses s v
  body_size v w = ap length (index_body v w) ∙ length_numbers 4 (mentioning s v)

  named_count_lem : (v : ℕ) → Among (variables s) v → named_count s v ≡ uses s v
  named_count_lem v w = let e = body_size v w in omega (arith, e)

  -- entry j of list v, from 1
  named_is : (v : ℕ) → Among (variables s) v → (j : ℕ) → Among (uses s v) j → named s v j ≡ get_or (mentioning s v) (j - 1) 0
  named_is v w j x =
      let z : 0 + 4 * (j - 1) ≡ 4 * (j - 1) = omega arith in
      let m = valid.m in
      let n = (chosen_next (λ k. mentions (clause s k) v) (clauses s) (j - 1) (omega (arith, x.0, x.1))).within in
      rw (index_body v w, ← z)
      (at_numbers 4 (numbers_of 4 (mentioning s v)) 0 (mentioning s v) (j - 1) (record { is = take-length (numbers_of 4 (mentioning s v)) })
      (omega (arith, x.0, x.1)) (omega (arith, m, n)))

  -- what is named is a clause that mentions v
  next_of : (v j : ℕ) → Among (uses s v) j
      → Next (λ k. mentions (clause s k) v) (clauses s) (previous (mentioning s v) (j - 1)) (get_or (mentioning s v) (j - 1) 0)
  next_of v j x = chosen_next (λ k. mentions (clause s k) v) (clauses s) (j - 1) (omega (arith, x.0, x.1))

  named_among : (v : ℕ) → Among (variables s) v → (j : ℕ) → Among (uses s v) j → Among (clauses s) (named s v j)
  named_among v w j x =
      let n = next_of v j x in
      let a = n.above in
      let b = n.within in
      rw (named_is v w j x) (omega arith, b)

  lists_rise : (v : ℕ) → Among (variables s) v → Rising (named s v) (clauses s) (named_count s v)
  lists_rise v w = record {
    range = λ j x. named_among v w j (rw (named_count_lem v w) at x);
    rising = λ i j l h q.
        (let q = rw (named_count_lem v w) at q in
        rw (named_is v w i (l, omega arith), named_is v w j (omega arith, q))
        (chosen_rises (λ k. mentions (clause s k) v) (clauses s) (j - 1) (i - 1) (omega arith) (omega arith)));
  }

  named_mentions : (v : ℕ) → Among (variables s) v → (k : ℕ) → (j : ℕ) → Among (uses s v) j → named s v j ≡ k
      → Among (clauses s) k × Mentions (clause s k) v
  named_mentions v w k j x e =
      let n = next_of v j x in
      let z : get_or (mentioning s v) (j - 1) 0 ≡ k = sym (named_is v w j x) ∙ e in
      (rw e at (named_among v w j x), mentions_in (clause s k) v (rw z at n.passes))

  mentions_named : (v : ℕ) → Among (variables s) v → (k : ℕ) → Among (clauses s) k → Mentions (clause s k) v
      → (j : ℕ) × Among (named_count s v) j × (named s v j ≡ k)
  mentions_named v w k a m =
      let e = in_mentions (clause s k) v m in
      let p = count_rises (λ k. mentions (clause s k) v) 0 k a.0 e in
      let q = count_grows (λ k. mentions (clause s k) v) k (clauses s) a.1 in
      let l = length_chosen (λ k. mentions (clause s k) v) (clauses s) in
      let x : Among (uses s v) (count_of (λ k. mentions (clause s k) v) k) = (omega (arith, p), omega (arith, q, l)) in (
        count_of (λ k. mentions (clause s k) v) k,
        rw (named_count_lem v w) x,
        named_is v w (count_of (λ k. mentions (clause s k) v) k) x ∙ chosen_at (λ k. mentions (clause s k) v) (clauses s) k a e,
      )

  -- ---- the counts

  count_small : (α : Assignment) (k : ℕ) → Among (clauses s) k → true_in α (clause s k) < 256 ^ 2
  count_small α k w =
      let a = count_within (variables s) (clause s k) (valid.lists k w) in
      let b = true_within α (clause s k) in
      let n = valid.n.1 in
      omega (arith, a, b, n)

  count_stored : (α : Assignment) (c : List ℕ) (k : ℕ) → Among (clauses s) k
      → number_at (over (counts_of s α) c) (2 * (k - 1)) 2 ≡ true_in α (clause s k)
  unfolding counts_of
  count_stored α c k w =
      let z : 0 + 2 * (k - 1) ≡ 2 * (k - 1) = omega arith in
      let e = list_at (λ k. true_in α (clause s k)) (clauses s) k w in
      let l = length_list (λ k. true_in α (clause s k)) (clauses s) in
      rw (← z)
      (at_numbers 2 (over (counts_of s α) c) 0 (list_of (λ k. true_in α (clause s k)) (clauses s)) (k - 1)
      (record { is = take-append_seam (counts_of s α) (drop (length (counts_of s α)) c) })
      (omega (arith, l, w.0, w.1)) (rw e (count_small α k w)))
      ∙ e

  counts_size : (α : Assignment) → length (counts_of s α) ≡ 2 * clauses s
  unfolding counts_of
  counts_size α =
      length_numbers 2 (list_of (λ k. true_in α (clause s k)) (clauses s)) ∙ rw (length_list (λ k. true_in α (clause s k)) (clauses s))

zero_is : (α : Assignment) (part : List ℕ) → (true_in α part ≡ 0) ↔ (Satisfies α (holds part) → ⊥)
zero_is α part = (there, λ none. back none (which (satisfied α part)))
  where
    there : true_in α part ≡ 0 → Satisfies α (holds part) → ⊥
    there e h =
        let z = sym (zero_broken α part) ∙ eq-eqb (true_in α part) 0 e in
        true≢false (sym z ∙ ap not (satisfies_satisfied α part h))

    back : (Satisfies α (holds part) → ⊥) → (satisfied α part ≡ true) ⊎ (satisfied α part ≡ false) → true_in α part ≡ 0
    back none (inl y) = absurd (none (satisfied_satisfies α part y))
    back none (inr n) = eqb-true (true_in α part) 0 (zero_broken α part ∙ ap not n)

model_is : (s : List ℕ) (α : Assignment) → (broken_total s α ≡ 0) ↔ Model (problem_of s) α
unfolding broken_total
model_is s α = (there, back)
  where
    there : count_of (λ k. eqb (true_in α (clause s k)) 0) (clauses s) ≡ 0 → Model (problem_of s) α
    there e k l h = go (which (satisfied α (clause s k)))
      where
        go : (satisfied α (clause s k) ≡ true) ⊎ (satisfied α (clause s k) ≡ false) → Satisfies α (holds (clause s k))
        go (inl y) = satisfied_satisfies α (clause s k) y
        go (inr n) =
            let p = count_rises (λ k. eqb (true_in α (clause s k)) 0) 0 k l (zero_broken α (clause s k) ∙ ap not n) in
            let q = count_grows (λ k. eqb (true_in α (clause s k)) 0) k (clauses s) h in
            absurd (omega (arith, p, q, e))

    back : Model (problem_of s) α → count_of (λ k. eqb (true_in α (clause s k)) 0) (clauses s) ≡ 0
    back m =
        count_same (λ k. eqb (true_in α (clause s k)) 0) (λ k. false) (clauses s)
        (λ k w. zero_broken α (clause s k) ∙ ap not (satisfies_satisfied α (clause s k) (m k w.0 w.1)))
        ∙ sum_zero (λ k. one false) (clauses s) (λ k. refl)

-- ---- all of it

pub turning_done : (s turns : List ℕ) (b : Lent) → ValidSheet s → Enough s b → AllTurns (variables s) turns
    → Turning s turns b (left_in (Ok tt) s turns b) (broken_total s (value_in (turned b.assignment turns)))
turning_done s turns b valid enough all =
    let every = every_of (variables s) turns all in
    let z = size s valid in
    let c = counts_size s valid (value_in (turned b.assignment turns)) in
    record {
      values = λ v w. turned_value b.assignment turns (inside_of (variables s) (length b.assignment) turns enough.assignment every) v w.0;
      spare = never (variables s) turns every;
      index_long = z;
      begins = rw (← z) (take-append_seam (index_of s) (drop (length (index_of s)) b.index));
      pairs = index_pairs s valid;
      whole = λ v w. (let e = body_size s valid v w in omega (arith, e));
      rising = lists_rise s valid;
      names = λ v w k.
          (λ (j, x, e). named_mentions s valid v w k j (rw (named_count_lem s valid v w) at x) e, λ (a, m). mentions_named s valid v w k a m);
      counts = λ k w. count_stored s valid (value_in (turned b.assignment turns)) b.counts k w;
      zero = λ k w. zero_is (value_in (turned b.assignment turns)) (clause s k);
      model = model_is s (value_in (turned b.assignment turns));
      assignment_behind = turned_behind b.assignment turns (assignment_size (variables s)) (inside_of (variables s) (assignment_size (variables s)) turns (omega arith) every);
      index_behind = rw (← z) (drop-append_seam (index_of s) (drop (length (index_of s)) b.index));
      counts_behind =
          rw (← c) (drop-append_seam (counts_of s (value_in (turned b.assignment turns))) (drop (length (counts_of s (value_in (turned b.assignment turns)))) b.counts));
      assignment_length = length_turned b.assignment turns;
      index_length = length_over (index_of s) b.index (let e = enough.index in omega (arith, z, e));
      counts_length = length_over (counts_of s (value_in (turned b.assignment turns))) b.counts (let e = enough.counts in omega (arith, c, e));
    }
