-- Kind 5: the total is the least, over the assignments that falsify the step's literals, of d times what true variables cost and of
-- each cited clause its weight times 1 minus the number of its true literals. So the total, which is defined by remainders, is the
-- best bound that these weights give; and what a step of kind 5 states is entailed, since a model pays for the weights, and the loss.
-- Assumes nothing.
use Prim.Native.Nat.{ℕ, zero, suc, ◌+◌, ◌-◌, ◌*◌, ◌/◌, ◌%◌, ◌≤◌, ◌<◌}
use mathlib.Core.Path.{◌≡◌, refl, sym, ap, ◌∙◌}
use mathlib.Core.Bool.{Bool, true, false, not, cond}
use mathlib.Core.List.{List}
use mathlib.Core.Logic.{◌⊎◌, inl, inr}
use native.Mathlib.Omega.{arith}
use native.Mathlib.Nat.{le-mul_of_pos_right}
use native.Mathlib.Decide.{dec_lt}
use lib.Dec.{ltb, le→leb}
use lib.IntN.{ℤ, pos, negsuc, ◌-ℤ◌, ◌*ℤ◌}
use lib.Signed.{◌≤ℤ◌}
use borrow.Author.Tests.{eqb-true, eqb-false, lt-ltb, le-ltb}
use Rattle.judgement.specs.Scan.{sum_of, one, count_of}
use Rattle.judgement.specs.Meaning.{Assignment, positive, negative, variable_of, is_positive, literal_true, cost_of_true, cost, Satisfies, Falsifies, Entailed}
use Rattle.judgement.specs.Literals.{count, code, holds, mentions}
use Rattle.judgement.specs.Sheet.{variables, clauses, cost_of, problem_of}
use Rattle.judgement.specs.Step.{literals, stated, tail, divisor, entry_count, entry_cites, weight}
use Rattle.judgement.specs.Integers.{sum_of_ℤ}
use Rattle.judgement.specs.Linear.{entry_clause, weight_of, negatives, total}
use Rattle.judgement.specs.Facts.{Among, In, LiteralList, ValidSheet, Linear, true_literals, weighed, LeastWeighed}
use Rattle.judgement.proofs.Laws.Scan.{which, false_i, sum_same, sum_split, sum_zero, sum_most, sum_times, sum_more}
use Rattle.judgement.proofs.Laws.Membership.{holds_in, in_mentions, in_mention}
use Rattle.judgement.proofs.Laws.Truth.{positive_true, negative_true}
use Rattle.judgement.proofs.Laws.Integers.{cover_diff, Diff, pos_diff, add_diff, sum_diff, equal_parts}
use Rattle.judgement.proofs.Laws.ByVariable.{literals_by_variable, negatives_by_variable}
use Rattle.judgement.proofs.Sound.Weighing.{true_sum, true_split, true_times, takes, adds, no_value, credit, debit, gain, loss, entry_diff, total_diff, variable_covered}

-- ---- integers by their differences

-- a minus b is at most c minus e where a plus e is at most c plus b
at_most_diff : (z w : ℤ) (a b c e : ℕ) → Diff z a b → Diff w c e → a + e ≤ c + b → z ≤ℤ w
at_most_diff (pos n) (pos m) a b c e h k l = record { le = le→leb n m (omega (arith, h, k, l)) }
at_most_diff (pos n) (negsuc m) a b c e h k l = absurd (omega (arith, h, k, l))
at_most_diff (negsuc n) (pos m) a b c e h k l = record { le = tt }
at_most_diff (negsuc n) (negsuc m) a b c e h k l = record { le = le→leb m n (omega (arith, h, k, l)) }

-- and they are equal where these are
equal_diff : (z w : ℤ) (a b c e : ℕ) → Diff z a b → Diff w c e → a + e ≡ c + b → z ≡ w
equal_diff z w a b c e h k l = equal_parts z w (omega (arith, h, k, l))

-- ---- one clause

-- of one variable, with truth t, that a clause holds (p) or holds negated (m): y for each of its true literals is what the
-- clause takes from it where it is true, and adds to it where it is false
variable_balanced : (t p m : Bool) (y : ℕ)
    → y * (cond p (one t) 0 + cond m (one (not t)) 0) + cond t (cond m y 0) 0 ≡ cond t (cond p y 0) 0 + cond m y 0
variable_balanced true true true y = omega arith
variable_balanced true true false y = omega arith
variable_balanced true false true y = omega arith
variable_balanced true false false y = omega arith
variable_balanced false true true y = omega arith
variable_balanced false true false y = omega arith
variable_balanced false false true y = omega arith
variable_balanced false false false y = omega arith

-- the number of negative literals of a clause, y times
negatives_scaled : (n : ℕ) (C : List ℕ) (y : ℕ) → LiteralList n C → y * negatives C ≡ sum_of (adds C y) n
unfolding negatives
negatives_scaled n C y list = rw (counted, negatives_by_variable n C (λ v. 1) list) scaled
  where
    flip : (b : Bool) → one (not b) ≡ cond b 0 1
    flip true = refl
    flip false = refl

    counted : count_of (λ i. not (is_positive (code C i))) (count C) ≡ sum_of (λ i. cond (is_positive (code C i)) 0 1) (count C)
    counted = sum_same (λ i. one (not (is_positive (code C i)))) (λ i. cond (is_positive (code C i)) 0 1) (count C)
        (λ i w. flip (is_positive (code C i)))

    y_fold : (b : Bool) → y * cond b 1 0 ≡ cond b y 0
    y_fold true = omega arith
    y_fold false = omega arith

    scaled : y * sum_of (λ v. cond (holds C (negative v)) 1 0) n ≡ sum_of (adds C y) n
    scaled = sum_times y (λ v. cond (holds C (negative v)) 1 0) (adds C y) n (λ v. y_fold (holds C (negative v)))

-- the true literals of a clause are the true variables that it holds, and the false ones that it holds negated
clause_balanced : (n : ℕ) (α : Assignment) (C : List ℕ) (y : ℕ) → LiteralList n C
    → y * true_literals α C + true_sum α (adds C y) n ≡ true_sum α (takes C y) n + y * negatives C
clause_balanced n α C y list =
    let by-variable = literals_by_variable n C (λ c. one (literal_true α c)) list in
    let scaled = sum_times y held (λ v. y * held v) n (λ v. refl) in
    let same = sum_same f g n (λ v w. each v) in
    let left = sum_split f (λ v. y * held v) (λ v. cond (α v) (adds C y v) 0) n (λ v. refl) in
    let right = sum_split g (λ v. cond (α v) (takes C y v) 0) (adds C y) n (λ v. refl) in
    let negated = negatives_scaled n C y list in
    rw by-variable (omega (arith, scaled, same, left, right, negated))
  where
    -- how many literals of v in C are true
    held : ℕ → ℕ
    held v =
        cond (holds C (positive v)) (one (literal_true α (positive v))) 0
        + cond (holds C (negative v)) (one (literal_true α (negative v))) 0

    f : ℕ → ℕ
    f v = y * held v + cond (α v) (adds C y v) 0

    g : ℕ → ℕ
    g v = cond (α v) (takes C y v) 0 + adds C y v

    each : (v : ℕ) → f v ≡ g v
    each v =
        rw (positive_true α v, negative_true α v) (variable_balanced (α v) (holds C (positive v)) (holds C (negative v)) y)

-- ---- all entries

-- the weights of the true literals of all clauses, by variable
entries_balanced : (s e : List ℕ) (α : Assignment) (q : ℕ)
    → ((j : ℕ) → Among q j → LiteralList (variables s) (entry_clause s e j))
    → sum_of (λ j. weight e j * true_literals α (entry_clause s e j)) q
    + true_sum α (λ v. weight_of s e q (negative v)) (variables s)
    ≡ true_sum α (λ v. weight_of s e q (positive v)) (variables s)
    + sum_of (λ j. weight e j * negatives (entry_clause s e j)) q
unfolding weight_of sum_of
entries_balanced s e α zero lists =
    let z = sum_zero (λ v. cond (α v) 0 0) (variables s) (λ v. no_value (α v)) in
    omega (arith, z)
entries_balanced s e α (suc q) lists =
    let earlier = entries_balanced s e α q (λ j w. lists j (w.0, omega (arith, w.1))) in
    let last = clause_balanced (variables s) α C y (lists (suc q) (omega arith, omega arith)) in
    let positives = true_split α (λ v. weight_of s e q (positive v)) (takes C y) (variables s) in
    let negated = true_split α (λ v. weight_of s e q (negative v)) (adds C y) (variables s) in
    omega (arith, earlier, last, positives, negated)
  where
    C : List ℕ
    C = entry_clause s e (suc q)

    y : ℕ
    y = weight e (suc q)

-- ---- what an assignment is weighed, and the total, as differences

-- d times what true variables cost and the weights, minus the weights of the true literals
abbrev weighed_up : List ℕ → List ℕ → Assignment → ℕ
weighed_up s e α = divisor e * cost_of_true (problem_of s) α + sum_of (weight e) (entry_count e)

abbrev weighed_down : List ℕ → List ℕ → Assignment → ℕ
weighed_down s e α = sum_of (λ j. weight e j * true_literals α (entry_clause s e j)) (entry_count e)

weighed_diff : (s e : List ℕ) (α : Assignment) → Diff (weighed s e α) (weighed_up s e α) (weighed_down s e α)
weighed_diff s e α =
    let both = add_diff (pos x) (sum_of_ℤ entry q) x 0 (sum_of (weight e) q) (weighed_down s e α) (pos_diff x) entries in
    omega (arith, both)
  where
    q : ℕ
    q = entry_count e

    x : ℕ
    x = divisor e * cost_of_true (problem_of s) α

    entry : ℕ → ℤ
    entry j = pos (weight e j) *ℤ (pos 1 -ℤ pos (true_literals α (entry_clause s e j)))

    entries : Diff (sum_of_ℤ entry q) (sum_of (weight e) q) (weighed_down s e α)
    entries = sum_diff entry (weight e) (λ j. weight e j * true_literals α (entry_clause s e j)) q
        (λ j. entry_diff (weight e j) (true_literals α (entry_clause s e j)))

-- the weights and gains, minus the weights of the negative literals and the losses: `total_diff` at all entries
abbrev total_up : List ℕ → List ℕ → List ℕ → ℕ
total_up s D e = sum_of (weight e) (entry_count e) + sum_of (λ v. gain D v (credit s e (entry_count e) v)) (variables s)

abbrev total_down : List ℕ → List ℕ → List ℕ → ℕ
total_down s D e =
    sum_of (λ j. weight e j * negatives (entry_clause s e j)) (entry_count e)
    + sum_of (λ v. loss D v (credit s e (entry_count e) v) (debit s e (entry_count e) v)) (variables s)

-- ---- the assignment that reaches the total

-- true where falsifying D makes v true, and where D does not mention v and its remainder, a minus p, is negative
abbrev cheapest : List ℕ → (ℕ → ℕ) → (ℕ → ℕ) → Assignment
cheapest D a p v = cond (holds D (negative v)) true (cond (mentions D v) false (ltb (a v) (p v)))

-- a list in form has one literal of each of its variables
one_of_variable : (n : ℕ) (D : List ℕ) → LiteralList n D → (c d : ℕ) → In D c → In D d → variable_of c ≡ variable_of d → c ≡ d
one_of_variable n D list c d (i, w, e) (j, x, f) same = go (dec_lt i j) (dec_lt j i)
  where
    go : Dec (i < j) → Dec (j < i) → c ≡ d
    go (yes l) r =
        let less = list.variables.rising i j w.0 l x.1 in
        absurd (omega (arith, less, e, f, same))
    go (no l) (yes r) =
        let less = list.variables.rising j i x.0 r w.1 in
        absurd (omega (arith, less, e, f, same))
    go (no l) (no r) =
        let z : i ≡ j = omega (arith, l, r) in
        sym e ∙ ap (code D) z ∙ f

-- so that this assignment falsifies D
cheapest_falsifies : (n : ℕ) (D : List ℕ) (a p : ℕ → ℕ) → LiteralList n D → Falsifies (cheapest D a p) (holds D)
unfolding literal_true
cheapest_falsifies n D a p list c h = go (which (is_positive c))
  where
    v : ℕ
    v = c / 2

    absent : is_positive c ≡ true → holds D (negative v) ≡ true → ⊥
    absent e t =
        let even = eqb-true (c % 2) 0 e in
        let same = one_of_variable n D list c (negative v) (holds_in D c h) (holds_in D (negative v) t) (omega arith) in
        omega (arith, even, same)

    go : (is_positive c ≡ true) ⊎ (is_positive c ≡ false)
        → cond (is_positive c) (cheapest D a p v) (not (cheapest D a p v)) ≡ false
    go (inl e) = rw (e, false_i (holds D (negative v)) (absent e), in_mentions D v (in_mention D c (holds_in D c h)))
    go (inr e) =
        let odd = eqb-false (c % 2) 0 e in
        let same : negative v ≡ c = omega (arith, odd) in
        let stands : holds D (negative v) ≡ true = rw same h in
        rw (e, stands)

-- the total has of each variable exactly what this assignment pays for it
variable_reached : (D : List ℕ) (a p : ℕ → ℕ) (v : ℕ)
    → gain D v (a v) + cond (cheapest D a p v) (p v) 0 ≡ loss D v (a v) (p v) + cond (cheapest D a p v) (a v) 0
variable_reached D a p v = go (holds D (negative v)) (mentions D v) (dec_lt (a v) (p v))
  where
    go : (t m : Bool) → Dec (a v < p v)
        → cond t (a v) 0 + cond (cond t true (cond m false (ltb (a v) (p v)))) (p v) 0
        ≡ cond t (p v) (cond m 0 (p v - a v)) + cond (cond t true (cond m false (ltb (a v) (p v)))) (a v) 0
    go true m l = omega arith
    go false true l = omega arith
    go false false (yes l) = rw (lt-ltb (a v) (p v) l) (omega (arith, l))
    go false false (no l) = rw (le-ltb (a v) (p v) (omega (arith, l))) (omega (arith, l))

-- ---- the total against what an assignment is weighed

-- what the total has of v, and the weights that are taken from v where α makes it true
abbrev had : List ℕ → List ℕ → List ℕ → Assignment → ℕ → ℕ
had s D e α v = gain D v (credit s e (entry_count e) v) + cond (α v) (debit s e (entry_count e) v) 0

-- what the total lacks of v, and what v costs, d times, with the weights that are added to it where α makes it true
abbrev lacked : List ℕ → List ℕ → List ℕ → Assignment → ℕ → ℕ
lacked s D e α v =
    loss D v (credit s e (entry_count e) v) (debit s e (entry_count e) v) + cond (α v) (credit s e (entry_count e) v) 0

-- the total and what α is weighed differ by what these two differ, over all variables
total_weighed : (s D e : List ℕ) (α : Assignment)
    → ((j : ℕ) → Among (entry_count e) j → LiteralList (variables s) (entry_clause s e j))
    → total_up s D e + weighed_down s e α + sum_of (lacked s D e α) (variables s)
    ≡ weighed_up s e α + total_down s D e + sum_of (had s D e α) (variables s)
unfolding cost_of_true
total_weighed s D e α lists =
    let entries = entries_balanced s e α q lists in
    let scaled = true_times α (divisor e) (cost_of s) n in
    let credits = true_split α (λ v. divisor e * cost_of s v) (λ v. weight_of s e q (negative v)) n in
    let left = sum_split (had s D e α) g (λ v. cond (α v) (debit s e q v) 0) n (λ v. refl) in
    let right = sum_split (lacked s D e α) l (λ v. cond (α v) (credit s e q v) 0) n (λ v. refl) in
    omega (arith, entries, scaled, credits, left, right)
  where
    n : ℕ
    n = variables s

    q : ℕ
    q = entry_count e

    g : ℕ → ℕ
    g v = gain D v (credit s e q v)

    l : ℕ → ℕ
    l v = loss D v (credit s e q v) (debit s e q v)

-- ---- kind 5

-- no assignment that falsifies the literals is weighed less than the total, and one is weighed just that
pub total_least : (s b : List ℕ) → ValidSheet s → LiteralList (variables s) (literals b)
    → ((j : ℕ) → Among (entry_count (tail b)) j → Among (clauses s) (entry_cites (tail b) j))
    → LeastWeighed s b (total s b)
unfolding total
total_least s b valid list cites = record { reached = (best, cheapest_falsifies n D a p list, reached); below = below }
  where
    D : List ℕ
    D = literals b

    e : List ℕ
    e = tail b

    n : ℕ
    n = variables s

    q : ℕ
    q = entry_count e

    a : ℕ → ℕ
    a v = credit s e q v

    p : ℕ → ℕ
    p v = debit s e q v

    lists : (j : ℕ) → Among q j → LiteralList n (entry_clause s e j)
    lists j w = valid.lists (entry_cites e j) (cites j w)

    best : Assignment
    best = cheapest D a p

    reached : weighed s e best ≡ total s b
    reached =
        let same = sum_same (had s D e best) (lacked s D e best) n (λ v w. variable_reached D a p v) in
        equal_diff (weighed s e best) (total s b) (weighed_up s e best) (weighed_down s e best) (total_up s D e) (total_down s D e)
        (weighed_diff s e best) (total_diff s D e q) (omega (arith, total_weighed s D e best lists, same))

    below : (α : Assignment) → Falsifies α (holds D) → total s b ≤ℤ weighed s e α
    below α falsified =
        let most = sum_most (had s D e α) (lacked s D e α) n (λ v. variable_covered α D v (a v) (p v) falsified) in
        at_most_diff (total s b) (weighed s e α) (total_up s D e) (total_down s D e) (weighed_up s e α) (weighed_down s e α)
        (total_diff s D e q) (weighed_diff s e α) (omega (arith, total_weighed s D e α lists, most))

-- ---- a model is weighed at most d times what its true variables cost, so that what a step of kind 5 states is entailed

-- a satisfied clause has a true literal
some_true : (α : Assignment) (C : List ℕ) → Satisfies α (holds C) → 1 ≤ true_literals α C
some_true α C (c, held, t) =
    let (i, w, e) = holds_in C c held in
    let more = sum_more (λ k. 0) (λ i. one (literal_true α (code C i))) 1 (count C) i w (λ k. omega arith) (rw (e, t) (omega arith)) in
    omega (arith, more)

-- so that the weights are not more than the weights times these numbers
weights_paid : (s e : List ℕ) (α : Assignment) (q : ℕ) → ((j : ℕ) → Among q j → Satisfies α (holds (entry_clause s e j)))
    → sum_of (weight e) q ≤ sum_of (λ j. weight e j * true_literals α (entry_clause s e j)) q
unfolding sum_of
weights_paid s e α zero each = omega arith
weights_paid s e α (suc q) each =
    let earlier = weights_paid s e α q (λ j w. each j (w.0, omega (arith, w.1))) in
    let last = le-mul_of_pos_right (weight e (suc q)) (some_true α (entry_clause s e (suc q)) (each (suc q) (omega arith, omega arith))) in
    omega (arith, earlier, last)

pub linear_entailed : (s b : List ℕ) → ValidSheet s → Linear s b → Entailed (problem_of s) (stated b)
unfolding total cost
linear_entailed s b valid linear α model falsified =
    let D = literals b in
    let e = tail b in
    let n = variables s in
    let q = entry_count e in
    let cites = linear.citing.cites.range in
    let paid = weights_paid s e α q (λ j w. model (entry_cites e j) (cites j w).0 (cites j w).1) in
    let most = sum_most (had s D e α) (lacked s D e α) n (λ v. variable_covered α D v (credit s e q v) (debit s e q v) falsified) in
    let same = total_weighed s D e α (λ j w. valid.lists (entry_cites e j) (cites j w)) in
    let (x, rounded, bound_is) = linear.bounded in
    let covered = cover_diff (total s b) (total_up s D e) (total_down s D e) (divisor e) x (cost_of_true (problem_of s) α)
    (total_diff s D e q) (omega (arith, linear.weighted.divides)) rounded (omega (arith, paid, most, same)) in
    rw bound_is (omega (arith, covered))
