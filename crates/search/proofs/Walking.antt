-- The loops that look at clauses: those of one word, all, those of the last plane. Forcing asks for no costs, so that what a
-- loop keeps is said of any.
-- Assumes nothing.
use Prim.Native.Nat.{ℕ, ◌+◌, ◌-◌, ◌*◌, ◌/◌, ◌%◌, ◌^◌, ◌≤◌, ◌<◌}
use mathlib.Core.Path.{◌≡◌, sym, ap, ap₂, ◌∙◌}
use mathlib.Core.Bool.{Bool, true, false, not, cond, ◌&&◌, ◌||◌}
use mathlib.Core.List.{List}
use mathlib.Core.Logic.{◌⊎◌, inl, inr}
use Rattle.std.specs.Prelude.{Option, Some, None}
use native.Mathlib.Omega.{arith}
use native.Mathlib.Decide.{dec_lt, ℕ_discrete}
use lib.Dec.{eqb, leb, ltb}
use lib.Bits.{bit_and}
use lib.ListN.{get_or}
use lib.Count.{count_trailing_zeros}
use borrow.Author.Tests.{eqb-true, eq-eqb, ne_eqb, ltb-true, lt-ltb, leb-true, le-leb}
use Rattle.judgement.specs.Meaning.{variable_of, is_positive}
use Rattle.judgement.specs.Facts.{Among}
use Rattle.judgement.proofs.Laws.Scan.{clash, and_i, and_l, and_r, or_l, or_r, or_e}
use Rattle.search.specs.declared.Size.{Size}
use Rattle.search.specs.declared.tables.Tables.{Tables}
use Rattle.search.specs.declared.Work.{Work}
use Rattle.search.specs.Node.{has}
use Rattle.search.specs.Tables.{clause_of, positives, negatives, table_problem, FineClause, FineMasks}
use Rattle.search.specs.Stated.{stated}
use Rattle.search.specs.Work.{Looked, Keeps, Leads, nothing, in_word}
use Rattle.search.specs.Counts.{plane, words_for, LowInside}
use Rattle.search.proofs.Sets.{has_empty}
use Rattle.search.proofs.Masks.{has_and, lowest_in, lowest_small, has_rest}
use Rattle.search.proofs.Nodes.{Bounded}
use Rattle.search.proofs.Looking.{keeps_look, keeps_more, keeps_less, keeps_dead, keeps_self, keeps_then, leads_self, leads_then, leads_look}

-- clauses of tables in form speak of variables 1 to n alone
pub tables_bounded : (size : Size) (costs masks : List ℕ) → FineMasks size masks → Bounded (table_problem size costs masks)
tables_bounded size costs masks fine k w c e = go (is_positive c) e
  where
    go : (s : Bool) → cond s (has (positives masks k) (variable_of c)) (has (negatives masks k) (variable_of c)) ≡ true → Among size.variables (variable_of c)
    go true e = (fine.each k w).positives (variable_of c) e
    go false e = (fine.each k w).negatives (variable_of c) e

pub stated_bounded : (t : Tables) → Bounded (stated t)
stated_bounded t = tables_bounded t.size t.costs t.masks t.fine.clauses

-- what the code says of the clause with the masks a and b
abbrev pub Told : ℕ → ℕ → Work → Option Work → Type 0
Told a b w r = (n : ℕ) → n ≤ 64 → FineClause n a b → Looked n (clause_of a b) w r

-- ---- one clause of the tables

module _ (t : Tables) (j : ℕ) (among : j < t.size.clauses) (w : Work) (r : Option Work)
    (told : Told (get_or t.masks (2 * j) 0) (get_or t.masks (2 * j + 1) 0) w r) where
  here : Among t.size.clauses (j + 1)
  here = (omega arith, omega (arith, among))

  looked : Looked t.size.variables (clause_of (positives t.masks (j + 1)) (negatives t.masks (j + 1))) w r
  looked =
      let e : j + 1 - 1 ≡ j = omega arith in
      rw e (told t.size.variables t.fine.clauses.variables (rw e at (t.fine.clauses.each (j + 1) here)))

  pub told_leads : Leads w r
  told_leads = leads_look t.size.variables _ w r (λ c i. stated_bounded t (j + 1) here c i) looked

  pub told_keeps : (costs : List ℕ) (R R' : ℕ → Bool) → ((k : ℕ) → Among t.size.clauses k → R k ≡ true → (k ≡ j + 1) ⊎ (R' k ≡ true))
      → Keeps (table_problem t.size costs t.masks) w R r R'
  told_keeps costs R R' less =
      keeps_look (table_problem t.size costs t.masks) (tables_bounded t.size costs t.masks t.fine.clauses) w r R R' (j + 1) here looked less

-- ---- all clauses, of which those up to k have been looked at

abbrev pub AllUpTo : Tables → Work → ℕ → Option Work → Type 0
AllUpTo t w k r = Leads w r × ((costs : List ℕ) → Keeps (table_problem t.size costs t.masks) w (λ j. true) r (ltb k))

module _ (t : Tables) where
  pub all_first : (w : Work) → AllUpTo t w 0 (Some w)
  all_first w = (
    leads_self w,
    λ costs. keeps_less (table_problem t.size costs t.masks) w (Some w) (λ j. true) (λ j. true) (ltb 0)
        (keeps_self (table_problem t.size costs t.masks) w (λ j. true)) (λ j a t. lt-ltb 0 j a.0),
  )

  pub all_next : (w u : Work) (r : Option Work) (k : ℕ) → k < t.size.clauses
      → Told (get_or t.masks (2 * k) 0) (get_or t.masks (2 * k + 1) 0) u r → AllUpTo t w k (Some u) → AllUpTo t w (k + 1) r
  all_next w u r k l told (leads, keeps) = (
    leads_then w u r leads (told_leads t k l u r told),
    λ costs. keeps_then (table_problem t.size costs t.masks) w u r (λ j. true) (ltb k) (ltb (k + 1)) (keeps costs)
        (told_keeps t k l u r told costs (ltb k) (ltb (k + 1)) less),
  )
    where
      less : (j : ℕ) → Among t.size.clauses j → ltb k j ≡ true → (j ≡ k + 1) ⊎ (ltb (k + 1) j ≡ true)
      less j a b = elim (ℕ_discrete j (k + 1)) [
        | yes e ↦ inl e
        | no e ↦ inr (lt-ltb (k + 1) j (omega (arith, e, ltb-true k j b)))
      ]

  -- a clause is false, or all have been looked at
  pub all_last : (w : Work) (r : Option Work) (k : ℕ) → (r ≡ None) ⊎ (t.size.clauses ≤ k) → AllUpTo t w k r
      → Leads w r × ((costs : List ℕ) → Keeps (table_problem t.size costs t.masks) w (λ j. true) r nothing)
  all_last w r k end (leads, keeps) = (
    leads,
    λ costs. elim end [
      | inl d ↦ keeps_dead (table_problem t.size costs t.masks) w r (λ j. true) (ltb k) nothing d (keeps costs)
      | inr l ↦ keeps_less (table_problem t.size costs t.masks) w r (λ j. true) (ltb k) nothing (keeps costs)
          (λ j a b. absurd (omega (arith, a.1, l, ltb-true k j b)))
    ],
  )

-- ---- the clauses of a word

module _ (i x : ℕ) (some : 1 ≤ x) (word : x < 2 ^ 64) where
  -- the lowest of them is looked at
  pub word_less : (R : ℕ → Bool) (m k : ℕ) → Among m k → in_word i x k || R k ≡ true
      → (k ≡ 64 * i + count_trailing_zeros 64 x + 1) ⊎ (in_word i (bit_and x (x - 1)) k || R k ≡ true)
  word_less R m k a t = elim (or_e (in_word i x k) (R k) t) [
    | inr q ↦ inr (or_r (in_word i (bit_and x (x - 1)) k) (R k) q)
    | inl q ↦
        let e = and_l (eqb ((k - 1) / 64) i) (has x ((k - 1) % 64 + 1)) q in
        let h = and_r (eqb ((k - 1) / 64) i) (has x ((k - 1) % 64 + 1)) q in
        elim (ℕ_discrete ((k - 1) % 64 + 1) (count_trailing_zeros 64 x + 1)) [
          | yes z ↦ inl (let y = eqb-true ((k - 1) / 64) i e in omega (arith, y, z, a.0))
          | no z ↦ inr (or_l (in_word i (bit_and x (x - 1)) k) (R k)
              (and_i (eqb ((k - 1) / 64) i) (has (bit_and x (x - 1)) ((k - 1) % 64 + 1)) e
              (has_rest x ((k - 1) % 64 + 1) some word (omega arith) ∙ ap₂ ◌&&◌ h (ap not (ne_eqb ((k - 1) % 64 + 1) (count_trailing_zeros 64 x + 1) z)))))
        ]
  ]

  pub word_low : count_trailing_zeros 64 x < 64
  word_low = lowest_small x word (λ e. omega (arith, e, some))

  pub word_inside : (m : ℕ) → ((j : ℕ) → Among 64 j → has x j ≡ true → 64 * i + j ≤ m) → 64 * i + count_trailing_zeros 64 x < m
  word_inside m h = let g = h (count_trailing_zeros 64 x + 1) (omega arith, omega (arith, word_low)) (lowest_in x word_low) in omega (arith, g)

-- a word that is left has nothing that it had not
pub rest_part : (x j : ℕ) → has (bit_and x (x - 1)) j ≡ true → has x j ≡ true
rest_part x j t = and_l (has x j) (has (x - 1) j) (sym (has_and x (x - 1) j) ∙ t)

-- from w, where the clauses of `bits` were to be looked at, to r, where those of x are
abbrev pub WordDownTo : Tables → ℕ → ℕ → Work → ℕ → Option Work → Type 0
WordDownTo t i bits w x r = Leads w r × ((costs : List ℕ) (R : ℕ → Bool)
    → Keeps (table_problem t.size costs t.masks) w (λ k. in_word i bits k || R k) r (λ k. in_word i x k || R k))

module _ (t : Tables) (i bits : ℕ) where
  pub word_first : (w : Work) → WordDownTo t i bits w bits (Some w)
  word_first w = (leads_self w, λ costs R. keeps_self (table_problem t.size costs t.masks) w (λ k. in_word i bits k || R k))

  pub word_next : (w u : Work) (r : Option Work) (x : ℕ) → 1 ≤ x → x < 2 ^ 64 → 64 * i + count_trailing_zeros 64 x < t.size.clauses
      → Told (get_or t.masks (2 * (64 * i + count_trailing_zeros 64 x)) 0) (get_or t.masks (2 * (64 * i + count_trailing_zeros 64 x) + 1) 0) u r
      → WordDownTo t i bits w x (Some u) → WordDownTo t i bits w (bit_and x (x - 1)) r
  word_next w u r x some word l told (leads, keeps) = (
    leads_then w u r leads (told_leads t (64 * i + count_trailing_zeros 64 x) l u r told),
    λ costs R. keeps_then (table_problem t.size costs t.masks) w u r (λ k. in_word i bits k || R k) (λ k. in_word i x k || R k)
        (λ k. in_word i (bit_and x (x - 1)) k || R k) (keeps costs R)
        (told_keeps t (64 * i + count_trailing_zeros 64 x) l u r told costs (λ k. in_word i x k || R k)
        (λ k. in_word i (bit_and x (x - 1)) k || R k) (word_less i x some word R t.size.clauses)),
  )

  pub word_last : (w : Work) (r : Option Work) (x : ℕ) → (r ≡ None) ⊎ (x ≡ 0) → WordDownTo t i bits w x r
      → Leads w r × ((costs : List ℕ) (R : ℕ → Bool) → Keeps (table_problem t.size costs t.masks) w (λ k. in_word i bits k || R k) r R)
  word_last w r x end (leads, keeps) = (
    leads,
    λ costs R. elim end [
      | inl d ↦ keeps_dead (table_problem t.size costs t.masks) w r (λ k. in_word i bits k || R k) (λ k. in_word i x k || R k) R d (keeps costs R)
      | inr z ↦ keeps_less (table_problem t.size costs t.masks) w r (λ k. in_word i bits k || R k) (λ k. in_word i x k || R k) R (keeps costs R)
          (λ k a b. elim (or_e (in_word i x k) (R k) b) [
            | inl q ↦ absurd (clash (rw z at (and_r (eqb ((k - 1) / 64) i) (has x ((k - 1) % 64 + 1)) q)) (has_empty ((k - 1) % 64 + 1)))
            | inr q ↦ q
          ])
    ],
  )

-- ---- the last plane of a level, of which words up to i have been looked at

-- clause k stands in it, in word i or a later one
abbrev pub from_word : List ℕ → ℕ → ℕ → ℕ → Bool
from_word table at i k = leb i ((k - 1) / 64) && plane table at 4 k

module _ (table : List ℕ) (at i : ℕ) where
  low_first : (m k : ℕ) → Among m k → plane table at 4 k ≡ true → from_word table at 0 k ≡ true
  low_first m k a t = and_i (leb 0 ((k - 1) / 64)) (plane table at 4 k) (le-leb 0 ((k - 1) / 64) (omega arith)) t

  low_next : (m k : ℕ) → Among m k → from_word table at i k ≡ true
      → in_word i (get_or table (at + 256 + i) 0) k || from_word table at (i + 1) k ≡ true
  low_next m k a t =
      let l = leb-true i ((k - 1) / 64) (and_l (leb i ((k - 1) / 64)) (plane table at 4 k) t) in
      let h = and_r (leb i ((k - 1) / 64)) (plane table at 4 k) t in
      elim (ℕ_discrete ((k - 1) / 64) i) [
        | yes e ↦ or_l _ (from_word table at (i + 1) k) (and_i (eqb ((k - 1) / 64) i) _ (eq-eqb ((k - 1) / 64) i e)
            (sym (ap (λ (y : ℕ). has (get_or table (at + 256 + y) 0) ((k - 1) % 64 + 1)) e) ∙ h))
        | no e ↦ or_r (in_word i (get_or table (at + 256 + i) 0) k) _ (and_i (leb (i + 1) ((k - 1) / 64)) (plane table at 4 k)
            (le-leb (i + 1) ((k - 1) / 64) (omega (arith, l, e))) h)
      ]

  low_last : (m k : ℕ) → Among m k → m ≤ 64 * i → from_word table at i k ≡ true → nothing k ≡ true
  low_last m k a l t =
      let g = leb-true i ((k - 1) / 64) (and_l (leb i ((k - 1) / 64)) (plane table at 4 k) t) in
      absurd (omega (arith, g, l, a.0, a.1))

  -- a bit of word i is a clause's
  pub low_inside : (m : ℕ) → LowInside m table at → i < words_for m
      → (j : ℕ) → Among 64 j → has (get_or table (at + 256 + i) 0) j ≡ true → 64 * i + j ≤ m
  low_inside m inside l j a t =
      let d : (64 * i + j - 1) / 64 ≡ i = omega (arith, a.0, a.1) in
      let e : (64 * i + j - 1) % 64 + 1 ≡ j = omega (arith, a.0, a.1) in
      inside (64 * i + j) (omega (arith, a.0), omega (arith, a.1, l)) (rw (d, e) t)

-- from w, where the clauses of the last plane were to be looked at, to r, where those from word i on are
abbrev pub LowUpTo : Tables → List ℕ → ℕ → Work → ℕ → Option Work → Type 0
LowUpTo t table at w i r =
    Leads w r × ((costs : List ℕ) → Keeps (table_problem t.size costs t.masks) w (plane table at 4) r (from_word table at i))

module _ (t : Tables) (table : List ℕ) (at : ℕ) where
  pub low_begins : (w : Work) → LowUpTo t table at w 0 (Some w)
  low_begins w = (
    leads_self w,
    λ costs. keeps_less (table_problem t.size costs t.masks) w (Some w) (plane table at 4) (plane table at 4) (from_word table at 0)
        (keeps_self (table_problem t.size costs t.masks) w (plane table at 4)) (low_first table at 0 t.size.clauses),
  )

  pub low_goes_on : (w u : Work) (r : Option Work) (i : ℕ) → Leads u r
      → ((costs : List ℕ) (R : ℕ → Bool)
      → Keeps (table_problem t.size costs t.masks) u (λ k. in_word i (get_or table (at + 256 + i) 0) k || R k) r R)
      → LowUpTo t table at w i (Some u) → LowUpTo t table at w (i + 1) r
  low_goes_on w u r i leads' keeps' (leads, keeps) = (
    leads_then w u r leads leads',
    λ costs. keeps_then (table_problem t.size costs t.masks) w u r (plane table at 4) (from_word table at i) (from_word table at (i + 1))
        (keeps costs) (keeps_more (table_problem t.size costs t.masks) u r (from_word table at i)
        (λ k. in_word i (get_or table (at + 256 + i) 0) k || from_word table at (i + 1) k) (from_word table at (i + 1))
        (low_next table at i t.size.clauses) (keeps' costs (from_word table at (i + 1)))),
  )

  -- words that are 0 have no clause
  pub low_skips : (w u : Work) (i r : ℕ) → ((j : ℕ) → i ≤ j → j < r → get_or table (at + 256 + j) 0 ≡ 0) → LowUpTo t table at w i (Some u)
      → LowUpTo t table at w r (Some u)
  low_skips w u i r none (leads, keeps) = (
    leads,
    λ costs. keeps_less (table_problem t.size costs t.masks) w (Some u) (plane table at 4) (from_word table at i) (from_word table at r) (keeps costs) (λ k a b.
        let l = leb-true i ((k - 1) / 64) (and_l (leb i ((k - 1) / 64)) (plane table at 4 k) b) in
        let h = and_r (leb i ((k - 1) / 64)) (plane table at 4 k) b in
        elim (dec_lt ((k - 1) / 64) r) [
          | yes m ↦ absurd (clash (rw (none ((k - 1) / 64) l m) at h) (has_empty ((k - 1) % 64 + 1)))
          | no m ↦ and_i (leb r ((k - 1) / 64)) (plane table at 4 k) (le-leb r ((k - 1) / 64) (omega (arith, m))) h
        ]),
  )

  pub low_ends : (w : Work) (r : Option Work) (i : ℕ) → (r ≡ None) ⊎ (t.size.clauses ≤ 64 * i) → LowUpTo t table at w i r
      → Leads w r × ((costs : List ℕ) → Keeps (table_problem t.size costs t.masks) w (plane table at 4) r nothing)
  low_ends w r i end (leads, keeps) = (
    leads,
    λ costs. elim end [
      | inl d ↦ keeps_dead (table_problem t.size costs t.masks) w r (plane table at 4) (from_word table at i) nothing d (keeps costs)
      | inr l ↦ keeps_less (table_problem t.size costs t.masks) w r (plane table at 4) (from_word table at i) nothing (keeps costs)
          (λ k a b. low_last table at i t.size.clauses k a l b)
    ],
  )
