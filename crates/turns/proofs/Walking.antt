-- The counts kept up to date while the list of a turned variable is walked.
-- Assumes nothing.
use Prim.Native.Nat.{◌*◌, ◌+◌, ◌-◌, ◌<◌, ◌≤◌, suc, zero, ℕ}
use mathlib.Core.Path.{◌∙◌, ◌≡◌, ap, refl, sym}
use mathlib.Core.Bool.{Bool, cond, false, true}
use mathlib.Core.List.{List, ◌++◌, map}
use mathlib.Core.Logic.{◌≢◌, ◌⊎◌, inl, inr}
use native.Mathlib.Decide.{dec_lt}
use native.Mathlib.Numerals.{add-one}
use native.Mathlib.Omega.{arith}
use borrow.Author.Tests.{le-leb, lt-leb}
use lib.Dec.{eqb, leb}
use lib.ListN.{get_or, length, length-map}
use Rattle.judgement.specs.Buffer.{At, Kept, over, patch}
use Rattle.judgement.specs.Facts.{Among, ValidSheet}
use Rattle.judgement.specs.Literals.{mentions}
use Rattle.judgement.specs.Meaning.{Assignment}
use Rattle.judgement.specs.Number.{number_at}
use Rattle.judgement.specs.Scan.{sum_of}
use Rattle.turns.specs.Listed.{list_of}
use Rattle.judgement.specs.Sheet.{clause, clauses, variables}
use Rattle.judgement.specs.Writer.{bytes_of, numbers_of}
use Rattle.judgement.proofs.Complete.Bytes.{length_bytes, length_numbers}
use Rattle.judgement.proofs.Laws.Patch.{at_append, at_left, at_nothing, at_number, at_numbers, at_over, at_right, kept_same, length_patch, patch_kept, patch_other, patch_same}
use Rattle.judgement.proofs.Laws.Scan.{sum_apart, sum_bound, sum_last, sum_part, sum_same}
use Rattle.turns.proofs.Listed.{length_list}
use Rattle.judgement.proofs.Laws.Stored.{numbers_end}
use Rattle.turns.specs.Counts.{Counted, CountedFor, Steps, at_zero, goes_up, stepped}
use Rattle.turns.specs.Index.{FilledTo, entry, start_of, uses}
use Rattle.turns.specs.Turning.{broken_total, counts_of, mentioning, true_in}
use Rattle.turns.proofs.Clauses.{end_small}
use Rattle.turns.proofs.Counting.{CountStep, Turned, count_other, count_turn, count_within, true_within}
use Rattle.turns.proofs.Filling.{start_after, start_next}
use Rattle.turns.proofs.Lists.{Next, chosen_next, chosen_rest, either, mapped, previous}
use Rattle.turns.proofs.Signs.{entry_below}

-- ---- reading a filled index

-- what the pair and the list of v give
pub record Listed (s : List ℕ) (v : ℕ) (l : List ℕ) : Type 0 where
  pub pair : 8 * (v - 1) + 8 ≤ length l
  pub start : number_at l (8 * (v - 1)) 4 ≡ start_of (variables s) (uses s) v
  pub size : number_at l (8 * (v - 1) + 4) 4 ≡ 4 * uses s v
  pub end : start_of (variables s) (uses s) v + 4 * uses s v ≤ length l
  pub numbers : (j : ℕ) → j < uses s v
      → number_at l (start_of (variables s) (uses s) v + 4 * j) 4 ≡ entry s v (get_or (mentioning s v) j 0)

pub listed : (s : List ℕ) → ValidSheet s → (v : ℕ) → Among (variables s) v → (l : List ℕ) → FilledTo s (clauses s) l → Listed s v l
listed s valid v w l h =
    let n = variables s in
    let a = start_next (variables s) (uses s) v (variables s + 1) w.0 (omega (arith, w.1)) in
    let b = end_small s valid in
    let c = start_after (variables s) (uses s) v in
    let r = h.room in
    let e = length-map (mentioning s v) (entry s v) in
    let p : At l (8 * (v - 1)) (bytes_of 4 (start_of (variables s) (uses s) v) ++ bytes_of 4 (4 * uses s v)) = rw (← e) (h.pairs v w) in
    record {
      pair = omega (arith, w.0, w.1);
      start =
          at_number l (8 * (v - 1)) 4 (start_of (variables s) (uses s) v)
          (at_left l (8 * (v - 1)) (bytes_of 4 (start_of (variables s) (uses s) v)) (bytes_of 4 (4 * uses s v)) p) (omega arith);
      size =
          at_number l (8 * (v - 1) + 4) 4 (4 * uses s v)
          (rw (length_bytes 4 (start_of (variables s) (uses s) v)) at
          (at_right l (8 * (v - 1)) (bytes_of 4 (start_of (variables s) (uses s) v)) (bytes_of 4 (4 * uses s v)) p)) (omega arith);
      end = omega arith;
      numbers = λ j d.
          at_numbers 4 l (start_of (variables s) (uses s) v) (map (entry s v) (mentioning s v)) j (h.numbers v w) (rw e d) (entry_below s valid v j)
          ∙ mapped (entry s v) (mentioning s v) j d;
    }

-- ---- one count changed

zero_most : (x : ℕ) → at_zero x ≤ 1
zero_most x = go (eqb x 0)
  where
    go : (b : Bool) → cond b 1 0 ≤ 1
    go true = omega arith
    go false = omega arith

module _ (m : ℕ) (g : ℕ → ℕ) (total : ℕ) (l : List ℕ) (c : Counted m g total l) (e : ℕ) (w : Among m e) where
  fits : (y : ℕ) → 2 * (e - 1) + length (bytes_of 2 y) ≤ length l
  fits y = let r = c.room in rw (length_bytes 2 y) (omega (arith, w.0, w.1))

  pub counted_read : g e < 65536 → number_at l (2 * (e - 1)) 2 ≡ g e
  counted_read h = at_number l (2 * (e - 1)) 2 (g e) (c.stored e w) h

  pub counted_zeros : (at_zero (g e) ≤ total) × (total ≤ m)
  counted_zeros =
      let a = sum_part (λ k. at_zero (g k)) m e w.1 in
      let b = sum_last (λ k. at_zero (g k)) e w.0 in
      let d = sum_bound (λ k. at_zero (g k)) 1 m (λ k. zero_most (g k)) in
      let t = c.total_is in
      (omega arith, omega arith)

  pub counted_kept : (y : ℕ) (l₀ : List ℕ) → Kept (2 * m) l₀ l → Kept (2 * m) l₀ (patch (2 * (e - 1)) (bytes_of 2 y) l)
  counted_kept y l₀ k =
      patch_kept (2 * (e - 1)) (bytes_of 2 y) l (fits y) (2 * m) l₀ (rw (length_bytes 2 y) (omega (arith, w.0, w.1))) k

  pub counted_turn : (h : ℕ → ℕ) → ((k : ℕ) → Among m k → k ≢ e → h k ≡ g k)
      → Counted m h (total + at_zero (h e) - at_zero (g e)) (patch (2 * (e - 1)) (bytes_of 2 (h e)) l)
  counted_turn h other =
      let z = counted_zeros in
      let t = c.total_is in
      let s = sum_apart (λ k. at_zero (h k)) (λ k. at_zero (g k)) m e w (λ k x d. ap at_zero (other k x d)) in
      record {
        stored = λ k x.
            either k e
            (λ q. rw q (patch_same (2 * (e - 1)) (bytes_of 2 (h e)) l (fits (h e))))
            (λ d.
            patch_other (2 * (e - 1)) (bytes_of 2 (h e)) l (fits (h e)) (2 * (k - 1)) (bytes_of 2 (h k))
            (rw (length_bytes 2 (h k), length_bytes 2 (h e)) (apart k x d (dec_lt k e)))
            (rw (other k x d) (c.stored k x)));
        total_is = omega (arith, z.0, s);
        room = rw (length_patch (2 * (e - 1)) (bytes_of 2 (h e)) l (fits (h e))) c.room;
      }
    where
      apart : (k : ℕ) → Among m k → k ≢ e → Dec (k < e) → (2 * (k - 1) + 2 ≤ 2 * (e - 1)) ⊎ (2 * (e - 1) + 2 ≤ 2 * (k - 1))
      apart k x d (yes b) = inl (omega (arith, x.0))
      apart k x d (no b) = inr (omega (arith, d, b, w.0))

pub counted_same : (m : ℕ) (g h : ℕ → ℕ) (total : ℕ) (l : List ℕ) → Counted m g total l → ((k : ℕ) → Among m k → h k ≡ g k) → Counted m h total l
counted_same m g h total l c e =
    record {
      stored = λ k w. rw (e k w) (c.stored k w);
      total_is = c.total_is ∙ sym (sum_alike m e);
      room = c.room;
    }
  where
    sum_alike : (n : ℕ) → ((k : ℕ) → Among n k → h k ≡ g k) → sum_of (λ k. at_zero (h k)) n ≡ sum_of (λ k. at_zero (g k)) n
    sum_alike n q = sum_same (λ k. at_zero (h k)) (λ k. at_zero (g k)) n (λ k w. ap at_zero (q k w))

-- ---- the walk

module _ (s : List ℕ) (v : ℕ) (α β : Assignment) where
  -- clauses up to the last one done have their new counts
  abbrev pub mixed : ℕ → ℕ → ℕ
  mixed j k =
      cond (leb k (previous (mentioning s v) j)) (true_in β (clause s k)) (true_in α (clause s k))

pub record WalkAt (s : List ℕ) (v : ℕ) (α β : Assignment) (j total : ℕ) (l₀ l : List ℕ) : Type 0 where
  pub within : j ≤ uses s v
  pub counted : Counted (clauses s) (mixed s v α β j) total l
  pub kept : Kept (2 * clauses s) l₀ l

module _ (s : List ℕ) (valid : ValidSheet s) (v : ℕ) (α β : Assignment) (t : Turned α β v) where
  alike : (k : ℕ) → Among (clauses s) k → mentions (clause s k) v ≡ false → true_in β (clause s k) ≡ true_in α (clause s k)
  alike k w e = count_other (variables s) (clause s k) (valid.lists k w) α β v t e

  pub walk_start : (total : ℕ) (l : List ℕ) → CountedFor s α total l → WalkAt s v α β 0 total l l
  walk_start total l c =
      record {
        within = omega arith;
        counted =
            counted_same (clauses s) (λ k. true_in α (clause s k)) (mixed s v α β 0) total l c
            (λ k w. rw (lt-leb k 0 w.0));
        kept = kept_same (2 * clauses s) l;
      }

  pub walk_done : (j total : ℕ) (l₀ l : List ℕ) → uses s v ≤ j → WalkAt s v α β j total l₀ l
      → CountedFor s β total l × Kept (2 * clauses s) l₀ l
  walk_done j total l₀ l d h =
      let i = h.within in
      let e : j ≡ uses s v = omega arith in (
        counted_same (clauses s) (mixed s v α β j) (λ k. true_in β (clause s k)) total l h.counted
            (λ k w. rw e (last k w (dec_lt (previous (mentioning s v) (uses s v)) k))),
        h.kept,
      )
    where
      last : (k : ℕ) → Among (clauses s) k → Dec (previous (mentioning s v) (uses s v) < k)
          → true_in β (clause s k) ≡ mixed s v α β (uses s v) k
      last k w (yes b) =
          rw (lt-leb k (previous (mentioning s v) (uses s v)) b)
          (alike k w ((chosen_rest (λ k. mentions (clause s k) v) (clauses s)).between k b w.1))
      last k w (no b) = rw (le-leb k (previous (mentioning s v) (uses s v)) (omega (arith, b)))

  module _ (j total : ℕ) (l₀ l : List ℕ) (h : WalkAt s v α β j total l₀ l) (more : j < uses s v) (e : ℕ)
      (is : e ≡ get_or (mentioning s v) j 0) where
    next : Next (λ k. mentions (clause s k) v) (clauses s) (previous (mentioning s v) j) e
    next = rw is (chosen_next (λ k. mentions (clause s k) v) (clauses s) j more)

    pub walk_among : Among (clauses s) e
    walk_among = let n = next in let a = n.above in let b = n.within in (omega arith, omega arith)

    old_is : mixed s v α β j e ≡ true_in α (clause s e)
    old_is = rw (lt-leb e (previous (mentioning s v) j) next.above)

    new_is : mixed s v α β (j + 1) e ≡ true_in β (clause s e)
    new_is = rw (add-one j, ← is, le-leb e e (omega arith))

    step : CountStep (goes_up (clause s e) v (β v)) (true_in α (clause s e)) (true_in β (clause s e))
    step = count_turn (variables s) (clause s e) (valid.lists e walk_among) α β v t next.passes

    small : (γ : Assignment) → true_in γ (clause s e) ≤ 1024
    small γ =
        let a = count_within (variables s) (clause s e) (valid.lists e walk_among) in
        let b = true_within γ (clause s e) in
        let n = valid.n.1 in
        omega arith

    pub walk_read : number_at l (2 * (e - 1)) 2 ≡ true_in α (clause s e)
    walk_read =
        let a = small α in
        counted_read (clauses s) (mixed s v α β j) total l h.counted e walk_among (rw old_is (omega arith)) ∙ old_is

    stepped_is : (up : Bool) (x y : ℕ) → CountStep up x y → stepped up x ≡ y
    stepped_is true x y q = sym q
    stepped_is false x y q = omega (arith, q)

    pub walk_steps : Steps (goes_up (clause s e) v (β v)) (number_at l (2 * (e - 1)) 2) total
    walk_steps =
        let z = counted_zeros (clauses s) (mixed s v α β j) total l h.counted e walk_among in
        let m = valid.m in
        rw walk_read
        (record {
          above = λ q. (let a = small α in omega arith);
          below = λ q. down (goes_up (clause s e) v (β v)) q step;
          zeros = rw old_is at z.0;
          most = omega (arith, z.1, m);
        })
      where
        down : (up : Bool) → up ≡ false → CountStep up (true_in α (clause s e)) (true_in β (clause s e)) → 1 ≤ true_in α (clause s e)
        down up q c = let d = rw q at c in omega (arith, d)

    other : (k : ℕ) → Among (clauses s) k → k ≢ e → mixed s v α β (j + 1) k ≡ mixed s v α β j k
    other k w d = rw (add-one j, ← is) (go (dec_lt (previous (mentioning s v) j) k) (dec_lt e k))
      where
        go : Dec (previous (mentioning s v) j < k) → Dec (e < k)
            → cond (leb k e) (true_in β (clause s k)) (true_in α (clause s k)) ≡ mixed s v α β j k
        go (no a) b =
            let n = next.above in
            rw (le-leb k e (omega (arith, a, n)), le-leb k (previous (mentioning s v) j) (omega (arith, a)))
        go (yes a) (yes b) = rw (lt-leb k e b, lt-leb k (previous (mentioning s v) j) a)
        go (yes a) (no b) =
            rw (le-leb k e (omega (arith, b)), lt-leb k (previous (mentioning s v) j) a)
            (alike k w (next.between k a (omega (arith, b, d))))

    pub walk_turn : (x y total' : ℕ) (r : List ℕ) → x ≡ number_at l (2 * (e - 1)) 2 → y ≡ stepped (goes_up (clause s e) v (β v)) x
        → total' ≡ total + at_zero y - at_zero x → r ≡ patch (2 * (e - 1)) (bytes_of 2 y) l → WalkAt s v α β (j + 1) total' l₀ r
    walk_turn x y total' r ex ey et er =
        let old : x ≡ mixed s v α β j e = ex ∙ walk_read ∙ sym old_is in
        let new : y ≡ mixed s v α β (j + 1) e =
        ey ∙ ap (stepped (goes_up (clause s e) v (β v))) (ex ∙ walk_read) ∙ stepped_is (goes_up (clause s e) v (β v)) (true_in α (clause s e)) (true_in β (clause s e)) step ∙ sym new_is in
        rw (er, et, new, old)
        (record {
          within = omega arith;
          counted = counted_turn (clauses s) (mixed s v α β j) total l h.counted e walk_among (mixed s v α β (j + 1)) other;
          kept = counted_kept (clauses s) (mixed s v α β j) total l h.counted e walk_among (mixed s v α β (j + 1) e) l₀ h.kept;
        })

-- ---- the counts as bytes

counts_at : (g : ℕ → ℕ) (total : ℕ) (l : List ℕ) (m : ℕ) → ((k : ℕ) → Among m k → At l (2 * (k - 1)) (bytes_of 2 (g k)))
    → At l 0 (numbers_of 2 (list_of g m))
unfolding list_of numbers_of
counts_at g total l zero c = at_nothing l 0
counts_at g total l (suc m) c =
    let e : 2 * (suc m - 1) ≡ 0 + 2 * m = omega arith in
    rw (numbers_end 2 (list_of g m) (g (suc m)))
    (at_append l 0 (numbers_of 2 (list_of g m)) (bytes_of 2 (g (suc m))) (counts_at g total l m (λ k w. c k (w.0, omega (arith, w.1))))
    (rw (length_numbers 2 (list_of g m), length_list g m, ← e) (c (suc m) (omega arith, omega arith))))

pub counts_whole : (s : List ℕ) (α : Assignment) (total : ℕ) (l₀ l : List ℕ) → CountedFor s α total l → Kept (2 * clauses s) l₀ l
    → (l ≡ over (counts_of s α) l₀) × (total ≡ broken_total s α)
unfolding counts_of broken_total
counts_whole s α total l₀ l c k = (
  at_over l₀ l (numbers_of 2 (list_of (λ k. true_in α (clause s k)) (clauses s)))
      (counts_at (λ k. true_in α (clause s k)) total l (clauses s) c.stored)
      (rw (length_numbers 2 (list_of (λ k. true_in α (clause s k)) (clauses s)), length_list (λ k. true_in α (clause s k)) (clauses s)) k),
  c.total_is,
)

-- ---- the counts taken afresh

pub record FreshTo (s : List ℕ) (α : Assignment) (k total : ℕ) (l₀ l : List ℕ) : Type 0 where
  pub within : k ≤ clauses s
  pub counted : Counted k (λ j. true_in α (clause s j)) total l
  pub most : total ≤ k
  pub kept : Kept (2 * clauses s) l₀ l

pub fresh_start : (s : List ℕ) (α : Assignment) (l : List ℕ) → FreshTo s α 0 0 l l
unfolding sum_of
fresh_start s α l =
    record {
      within = omega arith;
      counted = record { stored = λ k w. absurd (omega (arith, w.0, w.1)); total_is = refl; room = omega arith };
      most = omega arith;
      kept = kept_same (2 * clauses s) l;
    }

pub fresh_turn : (s : List ℕ) (α : Assignment) (k total x z : ℕ) (l₀ l r : List ℕ) → 2 * clauses s ≤ length l₀ → k < clauses s → FreshTo s α k total l₀ l
    → x ≡ true_in α (clause s (k + 1)) → z ≡ at_zero x → r ≡ patch (2 * k) (bytes_of 2 x) l → FreshTo s α (k + 1) (total + z) l₀ r
fresh_turn s α k total x z l₀ l r room more h ex ez er =
    let long = h.kept.long in
    let f : 2 * k + length (bytes_of 2 x) ≤ length l = rw (length_bytes 2 x) (omega arith) in
    let t = h.counted.total_is in
    let e : k + 1 - 1 ≡ k = omega arith in
    let sum = rw e at (sum_last (λ j. at_zero (true_in α (clause s j))) (k + 1) (omega arith)) in
    let most = zero_most x in
    let g = h.most in
    rw er (record {
      within = omega arith;
      counted = record {
        stored = λ j w.
            either j (k + 1)
            (λ q.
            (let y : 2 * (k + 1 - 1) ≡ 2 * k = omega arith in
            rw (q, y, ← ex) (patch_same (2 * k) (bytes_of 2 x) l f)))
            (λ d.
            patch_other (2 * k) (bytes_of 2 x) l f (2 * (j - 1)) (bytes_of 2 (true_in α (clause s j)))
            (inl (rw (length_bytes 2 (true_in α (clause s j))) (omega (arith, w.0, w.1, d))))
            (h.counted.stored j (w.0, omega (arith, w.1, d))));
        total_is = (let y : z ≡ at_zero (true_in α (clause s (k + 1))) = ez ∙ ap at_zero ex in omega (arith, sum, y, t));
        room = rw (length_patch (2 * k) (bytes_of 2 x) l f) (omega arith);
      };
      most = omega (arith, ez);
      kept = patch_kept (2 * k) (bytes_of 2 x) l f (2 * clauses s) l₀ (rw (length_bytes 2 x) (omega arith)) h.kept;
    })
