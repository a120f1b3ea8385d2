-- Laws of kind 1: lists of literals that are compared as bytes, and what of a step's form follows from a clause's.
-- Assumes nothing.
use Rattle.std.proofs.Common.{◌≡◌, ℕ, ◌+◌, ◌-◌, ◌*◌, ◌/◌, ◌%◌, ◌^◌, ◌<◌, ◌≤◌, Bool, true, false, ◌&&◌, eqb, leb, List, length, get_or, take, drop, sym, refl, ◌∙◌, arith, length-drop, length-take, eq-eqb, eqb-true, le-leb, leb-true}
use Rattle.std.proofs.lemmas.Bool.Decides.{Decides-eqb}
use Rattle.std.proofs.lemmas.List.{ext_get_or, get_or_past, get_or-take, get_or-drop, take_all}
use Rattle.std.proofs.lemmas.Slice.Eq.{slice_eq-Decides}
use Rattle.std.specs.Cmp.Lexicographic.{pointwise}
use native.Mathlib.Decide.{ℕ_discrete, dec_lt}
use Rattle.judgement.specs.Meaning.{none}
use Rattle.judgement.specs.Number.{number_at}
use Rattle.judgement.specs.Pairs.{body}
use Rattle.judgement.specs.Literals.{count, code, same_literals, literals_fine}
use Rattle.std.specs.Prelude.{Ok}
use Rattle.judgement.specs.Finding.{fault, need, ◌then◌}
use Rattle.judgement.specs.Sheet.{variables, clauses}
use Rattle.judgement.specs.declared.Kind.TheVariants.{Copy}
use Rattle.judgement.specs.Step.{kind_of, literal_count, bound, literals, tail, cited, cited_clause, tail_fine, form_fine, step_form, cites_fine, citation}
use Rattle.judgement.specs.Kinds.{copy_finding}
use Rattle.judgement.specs.Demands.{IsBytes}
use Rattle.judgement.specs.Facts.{Among, LiteralList, ValidSheet}
use Rattle.judgement.proofs.Laws.Scan.{true_same, and_l, and_r, all_each, all_of_lem}
use Rattle.judgement.proofs.Laws.Findings.{need_true}
use Rattle.judgement.proofs.Laws.Lists.{list_fine}
use Rattle.checker.specs.Known.{Formed}
use Rattle.checker.specs.Copy.{is_copied, copies}
use Rattle.checker.proofs.Known.{fine_need}

-- ---- lists of bytes

-- a part of a file
bytes_part : (n m : ℕ) (s : List ℕ) → IsBytes s → IsBytes (take n (drop m s))
bytes_part n m s bytes i = go (dec_lt i n)
  where
    go : Dec (i < n) → get_or (take n (drop m s)) i 0 < 256
    go (yes h) = rw (get_or-take n (drop m s) i 0 h, get_or-drop m s i 0) (bytes (m + i))
    go (no h) = rw (get_or_past (take n (drop m s)) i 0 (omega (arith, length-take n (drop m s)))) (omega arith)

-- a code and the bytes that it is made of
code_bytes : (s : List ℕ) (i : ℕ) → code s (i + 1) ≡ get_or s (2 * i) 0 + 256 * get_or s (2 * i + 1) 0
unfolding number_at
code_bytes s i =
    let e : 2 * (i + 1 - 1) ≡ 2 * i = omega arith in
    rw e (omega arith)

-- two bytes are told from the number that they make
two_bytes : (a b c d : ℕ) → a < 2 ^ 8 → c < 2 ^ 8 → a + 256 * b ≡ c + 256 * d → (a ≡ c) × (b ≡ d)
two_bytes a b c d a-fits c-fits e = (omega arith, omega arith)

module _ (part other : List ℕ) where
  -- whole codes are the same exactly where the bytes are
  module _ (bytes : IsBytes part) (others : IsBytes other) (whole : length part ≡ 2 * count part) (other-whole : length other ≡ 2 * count other) where
    same_bytes : same_literals part other ≡ true → part ≡ other
    unfolding same_literals
    same_bytes p = ext_get_or 0 part other (omega (arith, as_long)) (λ i h. each i h (ℕ_discrete (i % 2) 0))
      where
        as_long : count part ≡ count other
        as_long = eqb-true (count part) (count other) (search (and_l))

        same : (i : ℕ) → i < count part
            → (get_or part (2 * i) 0 ≡ get_or other (2 * i) 0) × (get_or part (2 * i + 1) 0 ≡ get_or other (2 * i + 1) 0)
        same i h =
            let all = all_each (λ i. eqb (code part i) (code other i)) (count part) (search (and_r)) in
            let e = eqb-true (code part (i + 1)) (code other (i + 1)) (all (i + 1) (omega arith, omega arith)) in
            two_bytes _ _ _ _ (bytes (2 * i)) (others (2 * i)) (sym (code_bytes part i) ∙ e ∙ code_bytes other i)

        each : (i : ℕ) → i < length part → Dec (i % 2 ≡ 0) → get_or part i 0 ≡ get_or other i 0
        each i h (yes even) =
            let e : i ≡ 2 * (i / 2) = omega arith in
            rw e (same (i / 2) (omega arith)).0
        each i h (no odd) =
            let e : i ≡ 2 * (i / 2) + 1 = omega arith in
            rw e (same (i / 2) (omega arith)).1

    same_lists : part ≡ other → same_literals part other ≡ true
    unfolding same_literals
    same_lists e =
        rw (← e, eq-eqb (count part) (count part) refl)
        (all_of_lem (λ i. eqb (code part i) (code part i)) (count part) (λ i w. eq-eqb (code part i) (code part i) refl))

    pub same_slices : {r : Bool} → r ≡ pointwise eqb part other → r ≡ same_literals part other
    same_slices {r} is =
        let (to, from) = slice_eq-Decides Decides-eqb part other r is in
        true_same r (same_literals part other) (λ p. same_lists (to p)) (λ p. from (same_bytes p))

  -- a list with the literals of one in form is in form
  same_list : (n : ℕ) → length part ≡ 2 * count part → same_literals part other ≡ true → LiteralList n other → LiteralList n part
  unfolding same_literals
  same_list n whole p l =
      record {
        whole = whole;
        variables = record {
          range = λ i w. rw (same i w) (l.variables.range i (w.0, omega (arith, w.1, as_long)));
          rising = λ i j a b h.
              rw (same i (a, omega arith), same j (omega arith, h)) (l.variables.rising i j a b (omega (arith, h, as_long)));
        };
      }
    where
      as_long : count part ≡ count other
      as_long = eqb-true (count part) (count other) (search (and_l))

      same : (i : ℕ) → Among (count part) i → code part i ≡ code other i
      same i w =
          let each = all_each (λ i. eqb (code part i) (code other i)) (count part) (search (and_r)) in
          eqb-true (code part i) (code other i) (each i w)

-- ---- a step of kind 1, with the body b

-- it has its literals
whole_list : (b : List ℕ) → 12 + 2 * literal_count b ≤ length b → length (literals b) ≡ 2 * count (literals b)
whole_list b room = omega (arith, room, length-take (2 * literal_count b) (drop 12 b), length-drop 12 b)

-- and one citation
pub whole_tail : (b : List ℕ) → length b ≡ 16 + 2 * literal_count b → length (tail b) ≡ 4
whole_tail b size = omega (arith, size, length-drop (12 + 2 * literal_count b) b)

module _ (s b : List ℕ) where
  -- what refusal 12 looks at
  pub copied_when : is_copied s b ≡ same_literals (literals b) (cited_clause s b 1) && eqb (bound b) none
  unfolding is_copied copy_finding
  copied_when = sym (fine_need _ 12 0)

  -- what it has if it passes
  module _ (p : copies s b ≡ true) where
    pub passing_size : length b ≡ 16 + 2 * literal_count b
    unfolding copies form_fine tail_fine
    passing_size =
        let room = leb-true (12 + 2 * literal_count b) (length b) (search (p, and_l, and_r) depth 8) in
        let size = eqb-true (length (tail b)) 4 (search (p, and_l, and_r) depth 8) in
        omega (arith, room, size, length-drop (12 + 2 * literal_count b) b)

    pub passing_byte : number_at b 1 1 ≡ 0
    unfolding copies form_fine
    passing_byte = eqb-true (number_at b 1 1) 0 (search (p, and_l, and_r) depth 8)

    pub passing_cited : leb 1 (cited b 1) && leb (cited b 1) (clauses s) ≡ true
    unfolding copies cites_fine
    passing_cited = search (p, and_l, and_r) depth 8

  -- a step that passes has as many literals as the clause
  pub passing_length : 12 + 2 * literal_count b ≤ length b → LiteralList (variables s) (cited_clause s b 1) → copies s b ≡ true
      → length (cited_clause s b 1) ≡ length (literals b)
  unfolding copies same_literals
  passing_length room l p =
      let C = cited_clause s b 1 in
      let copied : is_copied s b ≡ true = search (p, and_r) in
      let same = and_l (same_literals (literals b) C) (eqb (bound b) none) (sym copied_when ∙ copied) in
      let long = eqb-true (count (literals b)) (count C) (search (same, and_l)) in
      omega (arith, long, whole_list b room, l.whole)

  -- what refusal 12 asks, of a step that has its literals and a citation
  pub copied_bytes : IsBytes s → IsBytes b → 12 + 2 * literal_count b ≤ length b → LiteralList (variables s) (cited_clause s b 1)
      → {x : Bool} → x ≡ pointwise eqb (literals b) (cited_clause s b 1) → x && eqb (bound b) none ≡ is_copied s b
  unfolding body
  copied_bytes of-s of-b room l p =
      rw (copied_when, ← same_slices _ _ (bytes_part _ 12 b of-b) (bytes_part _ _ s of-s) (whole_list b room) l.whole p)

  -- and of a list p that the clause begins with: it has to be all of the literals
  pub copied_start : IsBytes s → IsBytes b → 12 + 2 * literal_count b ≤ length b → LiteralList (variables s) (cited_clause s b 1)
      → length (cited_clause s b 1) ≡ length (literals b) → (p : List ℕ) {x : Bool}
      → x ≡ pointwise eqb p (take (length p) (cited_clause s b 1)) → p ≡ literals b → x && eqb (bound b) none ≡ is_copied s b
  copied_start of-s of-b room l long p starts whole =
      let all = take_all (length (literals b)) (cited_clause s b 1) (omega (arith, long)) in
      copied_bytes of-s of-b room l (rw (whole, all) at starts)

  module _ (valid : ValidSheet s) (cites : leb 1 (cited b 1) && leb (cited b 1) (clauses s) ≡ true) where
    pub cited_among : Among (clauses s) (cited b 1)
    cited_among = (leb-true 1 (cited b 1) (search (cites, and_l)), leb-true (cited b 1) (clauses s) (search (cites, and_r)))

    -- one that is as long as it has to be passes exactly where it copies the clause: its literals are then in form as the clause's
    module _ (size : length b ≡ 16 + 2 * literal_count b) where
      in_form : is_copied s b ≡ true → literals_fine (variables s) (literals b) ≡ true
      in_form p =
          let C = cited_clause s b 1 in
          let same = and_l (same_literals (literals b) C) (eqb (bound b) none) (sym copied_when ∙ p) in
          list_fine (variables s) (literals b)
          (same_list (literals b) C (variables s) (whole_list b (omega (arith, size))) same (valid.lists (cited b 1) cited_among))

      pub copies_is : number_at b 1 1 ≡ 0 → is_copied s b ≡ copies s b
      unfolding copies form_fine tail_fine cites_fine
      copies_is byte =
          let room = le-leb (12 + 2 * literal_count b) (length b) (omega (arith, size)) in
          let zero-byte = eq-eqb (number_at b 1 1) 0 byte in
          let end = eq-eqb (length (tail b)) 4 (whole_tail b size) in
          true_same (is_copied s b) (copies s b) (λ p. rw (room, zero-byte, in_form p, end, cites, p)) (λ p. search (p, and_r))

  -- ---- refusals 8, 9 and 12

  -- which step it is matters only for the fault's place
  copy_when : (k : ℕ) → copy_finding s b k ≡ need (is_copied s b) 12 k
  unfolding copy_finding
  copy_when k = rw copied_when

  module _ (k : ℕ) (kind : kind_of b ≡ Copy) where
    pub copy_fine : copies s b ≡ true → Ok tt ≡ (step_form s b k then citation s b k then copy_finding s b k)
    unfolding copies step_form citation cites_fine
    copy_fine p =
        let form : form_fine Copy s b ≡ true = search (p, and_l) in
        let copied : is_copied s b ≡ true = search (p, and_r) in
        rw (kind, form, passing_cited p, copy_when k, copied)

    pub copy_fault : Formed s b k → copies s b ≡ false → fault 12 k ≡ copy_finding s b k
    unfolding copies step_form citation cites_fine
    copy_fault formed e =
        let form = rw kind at (need_true (form_fine (kind_of b) s b) 8 k formed.form) in
        let cites = rw kind at (need_true (cites_fine (kind_of b) s k b) 9 k formed.cites) in
        let z : is_copied s b ≡ false = rw (form, cites) at e in
        rw (copy_when k, z)
