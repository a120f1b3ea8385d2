-- The canonical sheet: valid, of the same problem, and one for all sheets of it.
-- Assumes nothing.
use Prim.Native.Nat.{ℕ, zero, suc, ◌+◌, ◌-◌, ◌*◌, ◌≤◌, ◌<◌}
use mathlib.Core.Path.{◌≡◌, refl, sym, ap, ◌∙◌}
use mathlib.Core.List.{List, [], ◌∷◌, ◌++◌, map}
use mathlib.Core.Logic.{◌↔◌, inl, inr}
use native.Mathlib.Omega.{arith}
use borrow.Author.Tests.{le-leb}
use lib.ListN.{length, get_or, drop, length-append, length-take, length-map, get_or-map}
use Rattle.std.specs.Prelude.{Ok}
use Rattle.judgement.specs.Scan.{sum_of, list_of}
use Rattle.judgement.specs.Meaning.{Problem, Assignment, Model, Least, Breaks}
use Rattle.judgement.specs.Pairs.{pair_offset, pair_length, body}
use Rattle.judgement.specs.Literals.{count, code, codes_in}
use Rattle.judgement.specs.Sheet.{variables, clauses, loss_at, clause_pairs_at, cost_of, loss, clause, problem_of, alone_finding}
use Rattle.judgement.specs.Writer.{numbers_of, joined, loss_of, sheet_of}
use Rattle.judgement.specs.Facts.{Among, OneOf, SameMembers, LiteralList, ValidSheet, Alike}
use Rattle.judgement.specs.Demands.{IsBytes}
use Rattle.judgement.proofs.Laws.Scan.{sum_most, length_list, list_at, list_same}
use Rattle.judgement.proofs.Laws.Stored.{number_below}
use Rattle.judgement.proofs.Laws.Cost.{loss_below, same_cost}
use Rattle.judgement.proofs.Laws.Members.{one_at}
use Rattle.judgement.proofs.Laws.Membership.{members_sym, members_trans}
use Rattle.judgement.proofs.Laws.Models.{same_satisfied}
use Rattle.judgement.proofs.Facts.Copy.{members_same}
use Rattle.judgement.proofs.Complete.Typed.{Ascending}
use Rattle.judgement.proofs.Complete.Codes.{codes_ascending}
use Rattle.judgement.proofs.Laws.Findings.{fine_is}
use Rattle.judgement.proofs.Laws.Buffer.{over_again}
use Rattle.judgement.proofs.Laws.Table.{lengths_fill}
use Rattle.judgement.proofs.Facts.Layouts.{valid_alone}
use Rattle.judgement.proofs.Complete.Bytes.{length_bytes, length_numbers, nil_bytes, append_bytes, numbers_are_bytes}
use Rattle.judgement.proofs.Complete.Stored.{codes_back, in_codes, in_member, ascending_fits, ascending_list}
use Rattle.std.specs.declared.cmp.Ordering.{Ordering}
use Rattle.std.specs.declared.cmp.Ordering.TheVariants.{Less, Equal, Greater}
use Rattle.writer.specs.Order.{Precedes, Rises, clause_codes}
use Rattle.writer.specs.Sorted.{compare, by_case, insert, sorted}
use Rattle.writer.specs.Canonical.{ordered, canonical, write_finding, shortage, writing, leaves}
use Rattle.writer.specs.Promises.{ClausesWithin, SameProblem, NoIdleMark, OneWay}
use Rattle.writer.proofs.Order.{sorted_rises, sorted_has, sorted_from, in_order, in_order_same}
use Rattle.writer.proofs.Only.{in_place}
use Rattle.writer.proofs.SheetBack.{loss_or, size_of, length_sheet, back_variables, back_mark, back_clauses, back_cost, back_loss, back_clause, back_valid, sheet_bytes}
use Rattle.writer.specs.Words.{codes_of, body_of, EachWord, head_end}
use Rattle.writer.proofs.Raw.{lossy_marked, counted_size}

-- stored lists with the same literals have the same codes
codes_same : (n : ℕ) (part other : List ℕ) → LiteralList n part → LiteralList n other → SameMembers part other
    → codes_in part ≡ codes_in other
codes_same n part other p q same =
    let (long, each) = members_same n part other p q same in
    list_same (code part) (code other) (count part) each ∙ ap (list_of (code other)) long

-- ---- sizes

-- the bytes of these code lists
abbrev bytes_in : List (List ℕ) → ℕ
bytes_in l = length (joined (map (numbers_of 2) l))

insert_size : (b : List ℕ) (l : List (List ℕ)) → bytes_in (insert b l) ≤ length (numbers_of 2 b) + bytes_in l
unfolding insert joined
insert_size b [] = rw length-append (omega arith)
insert_size b (c ∷ l) = go (compare b c) (insert_size b l)
  where
    go : (o : Ordering) → bytes_in (insert b l) ≤ length (numbers_of 2 b) + bytes_in l
        → bytes_in (by_case o (b ∷ c ∷ l) (c ∷ l) (c ∷ insert b l)) ≤ length (numbers_of 2 b) + bytes_in (c ∷ l)
    go Less r = rw (length-append, length-append) (omega arith)
    go Equal r = omega arith
    go Greater r = rw (length-append, length-append) (omega arith)

sorted_size : (f : ℕ → List ℕ) (m : ℕ) → bytes_in (sorted f m) ≤ sum_of (λ k. length (numbers_of 2 (f k))) m
unfolding sorted sum_of joined
sorted_size f zero = omega arith
sorted_size f (suc m) =
    let a = insert_size (f (suc m)) (sorted f m) in
    let b = sorted_size f m in
    omega arith

insert_length : (b : List ℕ) (l : List (List ℕ)) → length (insert b l) ≤ suc (length l)
unfolding insert
insert_length b [] = omega arith
insert_length b (c ∷ l) = go (compare b c) (insert_length b l)
  where
    go : (o : Ordering) → length (insert b l) ≤ suc (length l)
        → length (by_case o (b ∷ c ∷ l) (c ∷ l) (c ∷ insert b l)) ≤ suc (suc (length l))
    go Less r = omega arith
    go Equal r = omega arith
    go Greater r = omega arith

sorted_length : (f : ℕ → List ℕ) (m : ℕ) → length (sorted f m) ≤ m
unfolding sorted
sorted_length f zero = omega arith
sorted_length f (suc m) =
    let a = insert_length (f (suc m)) (sorted f m) in
    let b = sorted_length f m in
    omega arith

-- a body written anew is not longer than its pair says
written_size : (f : List ℕ) (at k : ℕ) → length (numbers_of 2 (codes_in (body f at k))) ≤ pair_length f at k
unfolding body
written_size f at k =
    let a = length_numbers 2 (codes_in (body f at k)) in
    let b = length_list (code (body f at k)) (count (body f at k)) in
    let c = length-take (pair_length f at k) (drop (pair_offset f at k) f) in
    omega (arith, a, b, c)

-- ---- a list that rises, by its places

rises_at_lem : (l : List (List ℕ)) → Rises l → (i j : ℕ) → i < j → j < length l → Precedes (get_or l i []) (get_or l j [])
rises_at_lem [] r i j h k = absurd (omega arith)
rises_at_lem (x ∷ l) r zero zero h k = absurd (omega arith)
rises_at_lem (x ∷ l) r zero (suc j) h k = r.0 (get_or l j []) (one_at l j [] (omega arith))
rises_at_lem (x ∷ l) r (suc i) zero h k = absurd (omega arith)
rises_at_lem (x ∷ l) r (suc i) (suc j) h k = rises_at_lem l r.1 i j (omega arith) (omega arith)

place_of : (l : List (List ℕ)) (b : List ℕ) → OneOf b l → (i : ℕ) × (i < length l) × (get_or l i [] ≡ b)
place_of [] b m = absurd m
place_of (x ∷ l) b (inl e) = (0, omega arith, sym e)
place_of (x ∷ l) b (inr m) = let (i, h, e) = place_of l b m in (suc i, omega arith, e)

-- ---- the canonical sheet

module _ (s : List ℕ) (valid : ValidSheet s) where
  costs : List ℕ
  costs = list_of (cost_of s) (variables s)

  lists : List (List ℕ)
  lists = sorted (clause_codes s) (clauses s)

  bodies : List (List ℕ)
  bodies = map (numbers_of 2) lists

  is_written : canonical s ≡ sheet_of (loss s) costs bodies
  unfolding canonical costs bodies lists
  is_written = refl

  costs_count : length costs ≡ variables s
  unfolding costs
  costs_count = length_list (cost_of s) (variables s)

  bodies_count : length bodies ≡ length lists
  unfolding bodies
  bodies_count = length-map lists (numbers_of 2)

  n_fits : length costs ≤ 1024
  n_fits = rw costs_count valid.n.1

  m_fits : length bodies ≤ clauses s
  unfolding lists
  m_fits = rw bodies_count (sorted_length (clause_codes s) (clauses s))

  m_top : length bodies ≤ 4096
  m_top = let a = m_fits in let b = valid.m in omega (arith, a, b)

  -- a loss that is written has its four bytes in s
  loss_fits : loss_at s + length (loss_of (loss s)) ≤ clause_pairs_at s
  loss_fits = elim (loss_or (loss s)) [
    | inl o ↦ rw o.bytes_are (omega arith)
    | inr o ↦ rw (o.bytes_are, length_bytes 4 (loss s), (lossy_marked s o).0) (omega arith)
  ]

  -- no longer than the sheet itself
  size_fits : size_of (loss s) costs bodies ≤ length s
  unfolding bodies lists
  size_fits =
      let a = sorted_size (clause_codes s) (clauses s) in
      let b = sum_most (λ k. length (numbers_of 2 (clause_codes s k))) (pair_length s (clause_pairs_at s)) (clauses s)
      (written_size s (clause_pairs_at s)) in
      let c = lengths_fill s (clause_pairs_at s) (clauses s) valid.pairs in
      let d = m_fits in
      let e = costs_count in
      let f = loss_fits in
      omega (arith, a, b, c, d, e, f)

  size_top : size_of (loss s) costs bodies ≤ 4294967295
  size_top = let a = size_fits in let b = valid.size in omega (arith, a, b)

  pub canonical_length : length (canonical s) ≤ length s
  canonical_length = rw (is_written, length_sheet (loss s) costs bodies) size_fits

  -- the codes of a clause ascend
  clause_ascends : (k : ℕ) → Among (clauses s) k → Ascending 0 (variables s) (clause_codes s k)
  clause_ascends k w = codes_ascending (clause s k) (variables s) (count (clause s k)) (valid.lists k w).variables

  ascends : (b : List ℕ) → OneOf b lists → Ascending 0 (variables s) b
  unfolding lists
  ascends b m =
      let (k, w, e) = sorted_from (clause_codes s) (clauses s) b m in
      rw e at (clause_ascends k w)

  -- body k, from 1
  body_at : (k : ℕ) → get_or bodies (k - 1) [] ≡ numbers_of 2 (get_or lists (k - 1) [])
  unfolding bodies numbers_of
  body_at k = get_or-map (numbers_of 2) lists (k - 1) []

  canonical_valid : ValidSheet (canonical s)
  canonical_valid =
      rw is_written
      (back_valid (loss s) costs bodies n_fits m_top size_top (rw costs_count valid.n.0)
      (λ k w. rw (body_at k, costs_count)
      (ascending_list (variables s) (get_or lists (k - 1) []) valid.n.1
      (ascends (get_or lists (k - 1) []) (one_at lists (k - 1) [] (let e = bodies_count in omega (arith, e, w.0, w.1)))))))

  canonical_clauses : clauses (canonical s) ≡ length lists
  canonical_clauses = rw is_written (back_clauses (loss s) costs bodies n_fits m_top size_top ∙ bodies_count)

  canonical_clause : (k : ℕ) → Among (length lists) k → clause (canonical s) k ≡ numbers_of 2 (get_or lists (k - 1) [])
  canonical_clause k w =
      rw is_written (back_clause (loss s) costs bodies n_fits m_top size_top k (rw bodies_count w) ∙ body_at k)

  canonical_codes : (k : ℕ) → Among (length lists) k → clause_codes (canonical s) k ≡ get_or lists (k - 1) []
  canonical_codes k w =
      let b = get_or lists (k - 1) [] in
      rw (canonical_clause k w)
      (codes_back b (ascending_fits (variables s) b valid.n.1 (ascends b (one_at lists (k - 1) [] (omega (arith, w.0, w.1))))))

  canonical_rises : (j k : ℕ) → 1 ≤ j → j < k → k ≤ clauses (canonical s)
      → Precedes (clause_codes (canonical s) j) (clause_codes (canonical s) k)
  unfolding lists
  canonical_rises j k a b c =
      let c : k ≤ length lists = rw canonical_clauses at c in
      rw (canonical_codes j (a, omega arith), canonical_codes k (omega arith, c))
      (rises_at_lem lists (sorted_rises (clause_codes s) (clauses s)) (j - 1) (k - 1) (omega arith) (omega arith))

  canonical_variables : variables (canonical s) ≡ variables s
  canonical_variables = rw is_written (back_variables (loss s) costs bodies n_fits m_top size_top ∙ costs_count)

  canonical_cost : IsBytes s → (v : ℕ) → Among (variables s) v → cost_of (canonical s) v ≡ cost_of s v
  unfolding costs
  canonical_cost bytes v w =
      let e = list_at (cost_of s) (variables s) v w in
      rw is_written
      (back_cost (loss s) costs bodies n_fits m_top size_top v (rw costs_count w) (rw e (number_below 4 s bytes (4 + 4 * (v - 1)))) ∙ e)

  canonical_loss : IsBytes s → loss (canonical s) ≡ loss s
  canonical_loss bytes =
      let below = loss_below s bytes in
      rw is_written (back_loss (loss s) costs bodies n_fits m_top size_top (omega (arith, below)))

  -- it has no mark whose loss is 0
  canonical_mark : IsBytes s → NoIdleMark (canonical s)
  canonical_mark bytes = rw (canonical_loss bytes, is_written) (back_mark (loss s) costs bodies n_fits m_top size_top)

  -- the literals of a clause are those of its list, written
  same_literals : (k : ℕ) → Among (clauses s) k → (b : List ℕ) → clause_codes s k ≡ b → SameMembers (clause s k) (numbers_of 2 b)
  same_literals k w b e c =
      let f = ascending_fits (variables s) b valid.n.1 (rw e at (clause_ascends k w)) in
      let p = rw e at (in_codes (clause s k) c) in
      let q = in_member b f c in
      (λ h. q.1 (p.0 h), λ h. p.1 (q.0 h))

  clauses_there : ClausesWithin s (canonical s)
  unfolding lists
  clauses_there k w =
      let (i, h, e) = place_of lists (clause_codes s k) (sorted_has (clause_codes s) (clauses s) k w) in
      let z : suc i - 1 ≡ i = omega arith in (
        suc i,
        (omega arith, rw canonical_clauses (omega arith)),
        λ c. rw (canonical_clause (suc i) (omega arith, omega arith), z) (same_literals k w (get_or lists i []) (sym e) c),
      )

  clauses_back : ClausesWithin (canonical s) s
  unfolding lists
  clauses_back j w =
      let w : Among (length lists) j = rw canonical_clauses at w in
      let (k, v, e) = sorted_from (clause_codes s) (clauses s) (get_or lists (j - 1) []) (one_at lists (j - 1) [] (omega (arith, w.0, w.1))) in (
        k,
        v,
        λ c.
            (let p = same_literals k v (get_or lists (j - 1) []) e c in
            rw (canonical_clause j w) (p.1, p.0)),
      )

  same_canonical : IsBytes s → SameProblem s (canonical s)
  same_canonical bytes =
      record {
        alike = record {
          same_variables = sym canonical_variables;
          same_costs = λ v w. sym (canonical_cost bytes v w);
          same_loss = sym (canonical_loss bytes);
        };
        there = clauses_there;
        back = clauses_back;
      }

-- ---- one for all

list_of_lem : (m n : ℕ) (part : List ℕ) → m ≡ n → LiteralList m part → LiteralList n part
list_of_lem m n part e l = rw e at l

within_codes : (s t : List ℕ) → ValidSheet s → ValidSheet t → variables s ≡ variables t → ClausesWithin s t
    → (k : ℕ) → Among (clauses s) k → (j : ℕ) × Among (clauses t) j × (clause_codes s k ≡ clause_codes t j)
within_codes s t p q n h k w =
    let (j, v, e) = h k w in
    (j, v, codes_same (variables t) (clause s k) (clause t j) (list_of_lem (variables s) (variables t) (clause s k) n (p.lists k w)) (q.lists j v) e)

canonical_same : (s t : List ℕ) → ValidSheet s → ValidSheet t → SameProblem s t → canonical s ≡ canonical t
unfolding canonical
canonical_same s t p q h =
    let n = h.alike.same_variables in
    let c : list_of (cost_of s) (variables s) ≡ list_of (cost_of t) (variables t) =
    list_same (cost_of s) (cost_of t) (variables s) h.alike.same_costs ∙ ap (list_of (cost_of t)) n in
    let l = in_order_same s t (ordered s) (ordered t) (in_order s) (in_order t)
    (within_codes s t p q n h.there) (within_codes t s q p (sym n) h.back) in
    rw (h.alike.same_loss, c, l)

alike_sym : (P Q : Problem) → Alike P Q → Alike Q P
alike_sym P Q h =
    record {
      same_variables = sym h.same_variables;
      same_costs = λ v w. sym (h.same_costs v (rw h.same_variables w));
      same_loss = sym h.same_loss;
    }

same_sym : (s t : List ℕ) → SameProblem s t → SameProblem t s
same_sym s t h = record { alike = alike_sym (problem_of s) (problem_of t) h.alike; there = h.back; back = h.there }

within_trans : (s t u : List ℕ) → ClausesWithin s t → ClausesWithin t u → ClausesWithin s u
within_trans s t u p q k w =
    let (j, v, e) = p k w in
    let (i, x, d) = q j v in
    (i, x, members_trans (clause s k) (clause t j) (clause u i) e d)

alike_trans : (P Q R : Problem) → Alike P Q → Alike Q R → Alike P R
alike_trans P Q R p q =
    record {
      same_variables = p.same_variables ∙ q.same_variables;
      same_costs = λ v w. p.same_costs v w ∙ q.same_costs v (rw p.same_variables at w);
      same_loss = p.same_loss ∙ q.same_loss;
    }

same_trans : (s t u : List ℕ) → SameProblem s t → SameProblem t u → SameProblem s u
same_trans s t u p q =
    record {
      alike = alike_trans (problem_of s) (problem_of t) (problem_of u) p.alike q.alike;
      there = within_trans s t u p.there q.there;
      back = within_trans u t s q.back p.back;
    }

-- equal bytes exactly for the same problem
canonical_exactly : (s t : List ℕ) → ValidSheet s → ValidSheet t → IsBytes s → IsBytes t
    → (canonical s ≡ canonical t) ↔ SameProblem s t
canonical_exactly s t p q bs bt = (
  λ e. same_trans s (canonical t) t (rw e at (same_canonical s p bs)) (same_sym t (canonical t) (same_canonical t q bt)),
  canonical_same s t p q,
)

-- writing it again changes nothing
canonical_again : (s : List ℕ) → ValidSheet s → IsBytes s → canonical (canonical s) ≡ canonical s
canonical_again s p b =
    canonical_same (canonical s) s (canonical_valid s p) p (same_sym s (canonical s) (same_canonical s p b))

-- ---- the same problem: the same models, at the same cost

same_model : (s t : List ℕ) → SameProblem s t → (α : Assignment) → Model (problem_of s) α → Model (problem_of t) α
same_model s t h α m k l u =
    let (j, w, e) = h.back k (l, u) in
    same_satisfied α (clause s j) (clause t k) (members_sym (clause t k) (clause s j) e) (m j w.0 w.1)

same_models : (s t : List ℕ) → SameProblem s t → (α : Assignment) → Model (problem_of s) α ↔ Model (problem_of t) α
same_models s t h α = (same_model s t h α, same_model t s (same_sym s t h) α)

same_least : (s t : List ℕ) → SameProblem s t → (L : ℕ) → Least (problem_of s) L → Least (problem_of t) L
same_least s t h L l =
    let (α, m, e) = l.reached in
    record {
      reached = (α, same_model s t h α m, sym (same_cost (problem_of s) (problem_of t) h.alike α) ∙ e);
      below = λ β n. rw (same_cost (problem_of s) (problem_of t) h.alike β) at (l.below β (same_model t s (same_sym s t h) β n));
    }

-- an assignment breaks a clause of the one that has the literals of the clause that it breaks of the other
same_breaks : (s t : List ℕ) → SameProblem s t → (α : Assignment) → Breaks (problem_of s) α → Breaks (problem_of t) α
same_breaks s t h α (k, l, u, b) =
    let (j, w, e) = h.there k (l, u) in
    (j, w.0, w.1, λ p. b (same_satisfied α (clause t j) (clause s k) (members_sym (clause s k) (clause t j) e) p))

-- ---- writing it again

module _ (s : List ℕ) (valid : ValidSheet s) (bytes : IsBytes s) where
  fine_again : (room : ℕ) → length (canonical s) ≤ room → write_finding (canonical s) room ≡ Ok tt
  unfolding write_finding shortage
  fine_again room h =
      rw (fine_is (alone_finding (canonical s)) (valid_alone (canonical s) (canonical_valid s valid)), canonical_again s valid bytes, le-leb (length (canonical s)) room h)

  enough : (room : ℕ) → length (canonical s) ≤ room
      → writing (canonical s) room ≡ record { number = 0; place = 0; length = length (canonical s) }
  unfolding writing
  enough room h = rw (fine_again room h, canonical_again s valid bytes)

  stays : (l : List ℕ) → leaves (canonical s) (canonical s ++ l) ≡ canonical s ++ l
  unfolding leaves
  stays l =
      let z = length-append (canonical s) l in
      rw (fine_again (length (canonical s ++ l)) (omega (arith, z)), canonical_again s valid bytes) (over_again (canonical s) l)

-- ---- a file

joined_bytes : (l : List (List ℕ)) → IsBytes (joined (map (numbers_of 2) l))
unfolding joined
joined_bytes [] = nil_bytes
joined_bytes (b ∷ l) = append_bytes (numbers_of 2 b) (joined (map (numbers_of 2) l)) (numbers_are_bytes 2 b) (joined_bytes l)

canonical_bytes : (s : List ℕ) → IsBytes (canonical s)
unfolding canonical
canonical_bytes s = sheet_bytes (loss s) (list_of (cost_of s) (variables s)) (map (numbers_of 2) (ordered s)) (joined_bytes (ordered s))

pub one_way : (s : List ℕ) → ValidSheet s → IsBytes s → OneWay s
one_way s p b =
    let same = same_canonical s p b in
    let back = same_sym s (canonical s) same in
    record {
      valid = canonical_valid s p;
      bytes = canonical_bytes s;
      no_longer = canonical_length s p;
      rises = canonical_rises s p;
      mark = canonical_mark s p b;
      same = same;
      only = λ t q c h o m. sym (in_place t q c o m) ∙ canonical_same t s q p (same_sym s t h);
      models = same_models s (canonical s) same;
      costs = same_cost (problem_of s) (problem_of (canonical s)) same.alike;
      least = λ L. (same_least s (canonical s) same L, same_least (canonical s) s back L);
      none_exists = (λ h α. same_breaks s (canonical s) same α (h α), λ h α. same_breaks (canonical s) s back α (h α));
      again = canonical_again s p b;
      enough = enough s p b;
      stays = stays s p b;
      exactly = λ t q c. canonical_exactly s t p q b c;
    }

-- the size that the code counts is within that of s
pub counted_room : (s order : List ℕ) → ValidSheet s → IsBytes s → EachWord s order → map (codes_of s) order ≡ ordered s
    → length (joined (map (body_of s) order)) + 8 * length order + head_end s ≤ length s
counted_room s order valid bytes inside sorted = omega (arith, counted_size s order valid bytes inside sorted, canonical_length s valid)
