-- A sheet with clauses added behind its own: whatever they are, in form and within the limits, there is such a file, and the sheet is
-- extended by it. So what `judge` promises of every longer sheet speaks of these.
-- Assumes nothing.
use Prim.Native.Nat.{ℕ, ◌+◌, ◌-◌, ◌*◌, ◌≤◌, ◌<◌}
use mathlib.Core.Path.{◌≡◌, refl, sym, ◌∙◌}
use mathlib.Core.List.{List, [], ◌∷◌, ◌++◌, map}
use native.Mathlib.Omega.{arith}
use native.Mathlib.Decide.{dec_lt}
use lib.ListN.{length, get_or, length-append, length-map, get_or-append}
use lib.Seq.{get_or-append-add}
use Rattle.judgement.specs.Scan.{list_of}
use Rattle.judgement.specs.Sheet.{most_bytes, most_clauses, variables, clauses, clause_pairs_at, cost_of, loss, clause}
use Rattle.judgement.specs.Pairs.{pair_offset, pair_length, body}
use Rattle.judgement.specs.Writer.{joined, sheet_of}
use Rattle.judgement.specs.Facts.{Among, LiteralList, ValidSheet}
use Rattle.judgement.specs.Demands.{IsBytes}
use Rattle.judgement.specs.Longer.{ExtendedBy}
use Rattle.judgement.proofs.Laws.Scan.{length_list, list_at}
use Rattle.judgement.proofs.Laws.Stored.{number_below, part_bytes}
use Rattle.judgement.proofs.Laws.Cost.{loss_below}
use Rattle.judgement.proofs.Laws.Table.{joined_append, map_at}
use Rattle.judgement.proofs.Complete.Bytes.{nil_bytes, append_bytes}
use Rattle.writer.proofs.SheetBack.{size_of, length_sheet, back_variables, back_clauses, back_cost, back_loss, back_clause, back_valid, sheet_bytes}

-- the clauses of s, and these behind
unfoldable pub with_more : List ℕ → List (List ℕ) → List (List ℕ)
with_more s more = map (clause s) (list_of (λ k. k) (clauses s)) ++ more

-- written as a sheet
unfoldable pub longer_by : List ℕ → List (List ℕ) → List ℕ
longer_by s more = sheet_of (loss s) (list_of (cost_of s) (variables s)) (with_more s more)

module _ (s : List ℕ) (more : List (List ℕ)) where
  more_count : length (with_more s more) ≡ clauses s + length more
  unfolding with_more
  more_count = rw (length-append, length-map (list_of (λ k. k) (clauses s)) (clause s), length_list (λ k. k) (clauses s))

  old_at : (k : ℕ) → Among (clauses s) k → get_or (with_more s more) (k - 1) [] ≡ clause s k
  unfolding with_more
  old_at k w =
      let l = length_list (λ k. k) (clauses s) in
      let m = length-map (list_of (λ k. k) (clauses s)) (clause s) in
      get_or-append (map (clause s) (list_of (λ k. k) (clauses s))) more [] (k - 1) (omega (arith, l, m, w.0, w.1))
      ∙ map_at (clause s) (list_of (λ k. k) (clauses s)) (k - 1) (omega (arith, l, w.0, w.1))
      ∙ rw (list_at (λ k. k) (clauses s) k w)

  new_at : (i : ℕ) → Among (length more) i → get_or (with_more s more) (clauses s + i - 1) [] ≡ get_or more (i - 1) []
  unfolding with_more
  new_at i w =
      let l = length_list (λ k. k) (clauses s) in
      let m = length-map (list_of (λ k. k) (clauses s)) (clause s) in
      let e : clauses s + i - 1 ≡ length (map (clause s) (list_of (λ k. k) (clauses s))) + (i - 1) = omega (arith, l, m, w.0) in
      rw e (get_or-append-add (map (clause s) (list_of (λ k. k) (clauses s))) more (i - 1) [])

module _ (s : List ℕ) (valid : ValidSheet s) (bytes : IsBytes s) (more : List (List ℕ))
    (lists : (i : ℕ) → Among (length more) i → LiteralList (variables s) (get_or more (i - 1) []))
    (few : clauses s + length more ≤ most_clauses) (short : length (longer_by s more) ≤ most_bytes) where
  costs : List ℕ
  costs = list_of (cost_of s) (variables s)

  n_is : length costs ≡ variables s
  unfolding costs
  n_is = length_list (cost_of s) (variables s)

  is : longer_by s more ≡ sheet_of (loss s) costs (with_more s more)
  unfolding longer_by costs
  is = refl

  n_fits : length costs ≤ 1024
  n_fits = rw n_is valid.n.1

  m_fits : length (with_more s more) ≤ 4096
  m_fits = rw (more_count s more) few

  fits : size_of (loss s) costs (with_more s more) ≤ 4294967295
  fits = rw (← length_sheet (loss s) costs (with_more s more), ← is) short

  pub longer_clauses : clauses (longer_by s more) ≡ clauses s + length more
  longer_clauses = rw is (back_clauses (loss s) costs (with_more s more) n_fits m_fits fits ∙ more_count s more)

  clause_at : (k : ℕ) → Among (clauses s + length more) k → clause (longer_by s more) k ≡ get_or (with_more s more) (k - 1) []
  clause_at k w = rw is (back_clause (loss s) costs (with_more s more) n_fits m_fits fits k (rw (more_count s more) w))

  -- each added clause stands behind those of s, at its place
  pub longer_added : (i : ℕ) → Among (length more) i → clause (longer_by s more) (clauses s + i) ≡ get_or more (i - 1) []
  longer_added i w = clause_at (clauses s + i) (omega (arith, w.0), omega (arith, w.1)) ∙ new_at s more i w

  -- a clause of s, or an added one
  in_form : (k : ℕ) → Among (clauses s + length more) k → LiteralList (variables s) (get_or (with_more s more) (k - 1) [])
  in_form k w = go (dec_lt (clauses s) k)
    where
      go : Dec (clauses s < k) → LiteralList (variables s) (get_or (with_more s more) (k - 1) [])
      go (no old) =
          let v : Among (clauses s) k = (w.0, omega (arith, old)) in
          rw (old_at s more k v) (valid.lists k v)
      go (yes new) =
          let e : clauses s + (k - clauses s) - 1 ≡ k - 1 = omega arith in
          let v : Among (length more) (k - clauses s) = (omega arith, omega (arith, w.1)) in
          rw (← e, new_at s more (k - clauses s) v) (lists (k - clauses s) v)

  longer_valid : ValidSheet (longer_by s more)
  longer_valid =
      rw is (back_valid (loss s) costs (with_more s more) n_fits m_fits fits (rw n_is valid.n.0)
      (λ k w. rw n_is (in_form k (rw (more_count s more) at w))))

  pub longer_extends : ExtendedBy s (longer_by s more)
  unfolding costs
  longer_extends = record {
    valid = longer_valid;
    alike = record {
      same_variables = rw is (sym (back_variables (loss s) costs (with_more s more) n_fits m_fits fits ∙ n_is));
      same_costs = λ v w.
          let e = list_at (cost_of s) (variables s) v w in
          rw is (sym (back_cost (loss s) costs (with_more s more) n_fits m_fits fits v (rw n_is w)
          (rw e (number_below 4 s bytes (4 + 4 * (v - 1)))) ∙ e));
      same_loss = rw is (sym (back_loss (loss s) costs (with_more s more) n_fits m_fits fits (let b = loss_below s bytes in omega (arith, b))));
    };
    more = rw longer_clauses (omega arith);
    same = λ k w c. rw (clause_at k (w.0, omega (arith, w.1)), old_at s more k w) (λ h. h, λ h. h);
  }

  clauses_bytes : (l : List ℕ) → IsBytes (joined (map (clause s) l))
  unfolding joined body
  clauses_bytes [] = nil_bytes
  clauses_bytes (k ∷ l) =
      append_bytes (clause s k) (joined (map (clause s) l))
      (part_bytes s bytes (pair_length s (clause_pairs_at s) k) (pair_offset s (clause_pairs_at s) k)) (clauses_bytes l)

  -- of added clauses that are bytes it is a file
  pub longer_bytes : IsBytes (joined more) → IsBytes (longer_by s more)
  unfolding with_more
  longer_bytes behind =
      rw is
      (sheet_bytes (loss s) costs (with_more s more)
      (rw (joined_append (map (clause s) (list_of (λ k. k) (clauses s))) more)
      (append_bytes (joined (map (clause s) (list_of (λ k. k) (clauses s)))) (joined more) (clauses_bytes (list_of (λ k. k) (clauses s))) behind)))
