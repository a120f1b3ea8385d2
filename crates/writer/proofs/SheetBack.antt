-- A written sheet reads back: n, m, costs, loss and clauses, and it is valid where its lists are.
-- Assumes nothing.
use Prim.Native.Nat.{ℕ, suc, ◌+◌, ◌-◌, ◌*◌, ◌^◌, ◌≤◌, ◌<◌}
use mathlib.Core.Path.{◌≡◌, sym, ◌∙◌}
use mathlib.Core.Bool.{true}
use mathlib.Core.List.{List, [], ◌++◌, append_assoc}
use mathlib.Core.Logic.{◌≢◌, ◌⊎◌, inl, inr}
use native.Mathlib.Omega.{arith}
use native.Mathlib.Decide.{ℕ_discrete}
use borrow.Author.Tests.{eq-eqb, ne_eqb}
use lib.ListN.{length, get_or, drop, length-append}
use lib.Seq.{drop-drop, drop-cons, drop-append-le}
use lib.Dec.{eqb}
use Rattle.std.specs.Prelude.{not}
use Rattle.std.specs.Int.{from_bool}
use Rattle.judgement.specs.Sheet.{first_field, mark, marked, variables, clauses, loss_at, loss_size, clause_pairs_at, cost_of, loss, clause}
use Rattle.judgement.specs.Writer.{bytes_of, numbers_of, pairs_of, joined, file_of, mark_of, loss_of, sheet_of}
use Rattle.judgement.specs.Facts.{Among, PairRule, LiteralList, ValidSheet}
use Rattle.judgement.proofs.Laws.Scan.{clash}
use Rattle.judgement.proofs.Laws.Mark.{WithMark, NoMark, mark_or, variables_are}
use Rattle.judgement.specs.Demands.{IsBytes}
use Rattle.judgement.proofs.Complete.Bytes.{length_bytes, number_of, drop_past, length_numbers, drop_numbers, nil_bytes, bytes_are_bytes, append_bytes, numbers_are_bytes}
use Rattle.judgement.proofs.Complete.Written.{pairs_bytes}
use Rattle.judgement.proofs.Complete.Tables.{length_file, file_body, file_pairs}

-- ---- what states a loss

-- nothing where nothing is lost
pub record Lossless (lost : ℕ) : Type 0 where
  pub is : lost ≡ 0
  pub mark_is : mark_of lost ≡ 0
  pub bytes_are : loss_of lost ≡ []

-- else the mark and four bytes
pub record Lossy (lost : ℕ) : Type 0 where
  pub is : lost ≢ 0
  pub mark_is : mark_of lost ≡ mark
  pub bytes_are : loss_of lost ≡ bytes_of 4 lost

pub loss_or : (lost : ℕ) → Lossless lost ⊎ Lossy lost
loss_or lost = go (ℕ_discrete lost 0)
  where
    go : Dec (lost ≡ 0) → Lossless lost ⊎ Lossy lost
    go (yes e) = inl (record { is = e; mark_is = rw (eq-eqb lost 0 e); bytes_are = rw (eq-eqb lost 0 e) })
    go (no h) = inr (record { is = h; mark_is = rw (ne_eqb lost 0 h); bytes_are = rw (ne_eqb lost 0 h) })

-- four bytes where something is lost
pub loss_length : (lost : ℕ) → length (loss_of lost) ≡ 4 * from_bool (not (eqb lost 0))
loss_length lost = elim (loss_or lost) [
  | inl o ↦ rw (eq-eqb lost 0 o.is)
  | inr o ↦ rw (ne_eqb lost 0 o.is) (length_bytes 4 lost)
]

-- and the mark where these are
pub mark_tells : (lost : ℕ) → eqb (mark_of lost) 0 ≡ eqb lost 0
mark_tells lost = elim (loss_or lost) [
  | inl o ↦ rw (o.mark_is, o.is)
  | inr o ↦ rw (o.mark_is, ne_eqb lost 0 o.is)
]

-- ---- the head

-- what stands before the pairs
abbrev pub head_of : ℕ → List ℕ → ℕ → List ℕ
head_of lost costs m = bytes_of 2 (mark_of lost + length costs) ++ bytes_of 2 m ++ numbers_of 4 costs ++ loss_of lost

pub length_head : (lost : ℕ) (costs : List ℕ) (m : ℕ) → length (head_of lost costs m) ≡ 4 + 4 * length costs + length (loss_of lost)
length_head lost costs m =
    rw (length-append, length-append, length-append, length_bytes 2 (mark_of lost + length costs), length_bytes 2 m, length_numbers 4 costs)
    (omega arith)

-- the size of the file
abbrev pub size_of : ℕ → List ℕ → List (List ℕ) → ℕ
size_of lost costs bodies = 4 + 4 * length costs + length (loss_of lost) + 8 * length bodies + length (joined bodies)

pub length_sheet : (lost : ℕ) (costs : List ℕ) (bodies : List (List ℕ)) → length (sheet_of lost costs bodies) ≡ size_of lost costs bodies
unfolding sheet_of
length_sheet lost costs bodies = length_file (head_of lost costs (length bodies)) bodies ∙ rw (length_head lost costs (length bodies))

module _ (lost : ℕ) (costs : List ℕ) (bodies : List (List ℕ))
    (n_fits : length costs ≤ 1024) (m_fits : length bodies ≤ 4096) (fits : size_of lost costs bodies ≤ 4294967295) where
  abbrev written : List ℕ
  written = sheet_of lost costs bodies

  rest : List ℕ
  rest = pairs_of (length (head_of lost costs (length bodies)) + 8 * length bodies) bodies ++ joined bodies

  field : ℕ
  field = mark_of lost + length costs

  at_0 : drop 0 written ≡ bytes_of 2 field ++ (bytes_of 2 (length bodies) ++ (numbers_of 4 costs ++ (loss_of lost ++ rest)))
  unfolding sheet_of file_of rest field
  at_0 = simp append_assoc

  at_2 : drop 2 written ≡ bytes_of 2 (length bodies) ++ (numbers_of 4 costs ++ (loss_of lost ++ rest))
  at_2 = drop_past written 0 2 (bytes_of 2 field) _ at_0 (length_bytes 2 field)

  at_4 : drop 4 written ≡ numbers_of 4 costs ++ (loss_of lost ++ rest)
  at_4 = drop_past written 2 2 (bytes_of 2 (length bodies)) _ at_2 (length_bytes 2 (length bodies))

  -- ---- n and the mark

  field_fits : field < 2 ^ 16
  unfolding field
  field_fits = elim (loss_or lost) [
    | inl o ↦ omega (arith, o.mark_is)
    | inr o ↦ omega (arith, o.mark_is)
  ]

  back_field : first_field written ≡ field
  back_field = number_of 2 field 0 written _ at_0 field_fits

  pub back_variables : variables written ≡ length costs
  unfolding field
  back_variables =
      let f = back_field in
      let v = variables_are written in
      elim (loss_or lost) [
        | inl o ↦ omega (arith, o.mark_is, f, v)
        | inr o ↦ omega (arith, o.mark_is, f, v)
      ]

  -- the mark stands exactly where something is lost
  marked_lossy : WithMark written → Lossy lost
  unfolding field
  marked_lossy m =
      let f = back_field in
      elim (loss_or lost) [
        | inl o ↦ absurd (omega (arith, o.mark_is, f, m.field))
        | inr o ↦ o
      ]

  unmarked_lossless : NoMark written → Lossless lost
  unfolding field
  unmarked_lossless m =
      let f = back_field in
      elim (loss_or lost) [
        | inl o ↦ o
        | inr o ↦ absurd (omega (arith, o.mark_is, f, m.field))
      ]

  pub back_mark : marked written ≡ true → lost ≢ 0
  back_mark e = elim (mark_or written) [
    | inl m ↦ (marked_lossy m).is
    | inr m ↦ absurd (clash e m.is)
  ]

  pub back_clauses : clauses written ≡ length bodies
  back_clauses = number_of 2 (length bodies) 2 written _ at_2 (omega arith)

  pub back_cost : (v : ℕ) → Among (length costs) v → get_or costs (v - 1) 0 < 2 ^ 32 → cost_of written v ≡ get_or costs (v - 1) 0
  unfolding numbers_of
  back_cost v (l, h) f =
      number_of 4 (get_or costs (v - 1) 0) (4 + 4 * (v - 1)) written (numbers_of 4 (drop (suc (v - 1)) costs) ++ (loss_of lost ++ rest))
      (sym (drop-drop (4 * (v - 1)) 4 written)
      ∙ rw (
        at_4,
        drop-append-le (4 * (v - 1)) (numbers_of 4 costs) (loss_of lost ++ rest) (rw (length_numbers 4 costs) (omega arith)),
        drop_numbers 4 (v - 1) costs,
        drop-cons costs (v - 1) 0 (omega arith),
        append_assoc,
      ))
      (omega arith)

  -- ---- the loss

  size_back : loss_size written ≡ length (loss_of lost)
  size_back = elim (mark_or written) [
    | inl m ↦ rw (marked_lossy m).bytes_are (m.size ∙ sym (length_bytes 4 lost))
    | inr m ↦ rw (unmarked_lossless m).bytes_are m.size
  ]

  pub back_loss : lost < 2 ^ 32 → loss written ≡ lost
  back_loss f = elim (mark_or written) [
    | inl m ↦ m.lost ∙ number_of 4 lost (loss_at written) written rest (at_loss (marked_lossy m)) (omega (arith, f))
    | inr m ↦ m.lost ∙ sym (unmarked_lossless m).is
  ]
    where
      at_loss : Lossy lost → drop (loss_at written) written ≡ bytes_of 4 lost ++ rest
      at_loss o =
          rw (back_variables, ← o.bytes_are)
          (drop_past written 4 (4 * length costs) (numbers_of 4 costs) (loss_of lost ++ rest) at_4 (length_numbers 4 costs))

  -- ---- the clauses

  pairs_at : clause_pairs_at written ≡ length (head_of lost costs (length bodies))
  pairs_at = rw (back_variables, size_back) (sym (length_head lost costs (length bodies)))

  table_fits : length (head_of lost costs (length bodies)) + 8 * length bodies + length (joined bodies) < 256 ^ 4
  table_fits = rw (length_head lost costs (length bodies)) (omega arith)

  pub back_clause : (k : ℕ) → Among (length bodies) k → clause written k ≡ get_or bodies (k - 1) []
  unfolding sheet_of
  back_clause k w = rw pairs_at (file_body (head_of lost costs (length bodies)) bodies table_fits k w)

  back_pairs : PairRule written (clause_pairs_at written) (clauses written)
  unfolding sheet_of
  back_pairs = rw (pairs_at, back_clauses) (file_pairs (head_of lost costs (length bodies)) bodies table_fits)

  pub back_valid : 1 ≤ length costs
      → ((k : ℕ) → Among (length bodies) k → LiteralList (length costs) (get_or bodies (k - 1) [])) → ValidSheet written
  back_valid some lists =
      let l = length_sheet lost costs bodies in
      record {
        size = omega (arith, l);
        n = rw back_variables (some, n_fits);
        m = rw back_clauses m_fits;
        room = rw (back_variables, size_back, back_clauses) (omega (arith, l));
        pairs = back_pairs;
        lists = λ k w.
            (let w = rw back_clauses at w in
            rw (back_clause k w, back_variables) (lists k w));
      }

-- ---- a file

loss_bytes : (lost : ℕ) → IsBytes (loss_of lost)
loss_bytes lost = elim (loss_or lost) [
  | inl o ↦ rw o.bytes_are nil_bytes
  | inr o ↦ rw o.bytes_are (bytes_are_bytes 4 lost)
]

head_bytes : (lost : ℕ) (costs : List ℕ) (m : ℕ) → IsBytes (head_of lost costs m)
head_bytes lost costs m =
    append_bytes (bytes_of 2 field ++ bytes_of 2 m ++ numbers_of 4 costs) (loss_of lost)
    (append_bytes (bytes_of 2 field ++ bytes_of 2 m) (numbers_of 4 costs)
    (append_bytes (bytes_of 2 field) (bytes_of 2 m) (bytes_are_bytes 2 field) (bytes_are_bytes 2 m))
    (numbers_are_bytes 4 costs))
    (loss_bytes lost)
  where
    field : ℕ
    field = mark_of lost + length costs

pub sheet_bytes : (lost : ℕ) (costs : List ℕ) (bodies : List (List ℕ)) → IsBytes (joined bodies) → IsBytes (sheet_of lost costs bodies)
unfolding sheet_of file_of
sheet_bytes lost costs bodies bytes =
    let m = length bodies in
    let pairs = pairs_of (length (head_of lost costs m) + 8 * m) bodies in
    append_bytes (head_of lost costs m ++ pairs) (joined bodies)
    (append_bytes (head_of lost costs m) pairs (head_bytes lost costs m) (pairs_bytes (length (head_of lost costs m) + 8 * m) bodies))
    bytes
