-- What is promised of trimming: which answer comes when and what the buffers hold then, that the kept steps are the least set that
-- the owner's sentence describes, and what the trimmed record is beside the record.
-- Assumes nothing.
use Rattle.std.specs.Prelude.{ℕ, ◌-◌, ◌≤◌, ◌<◌, ◌≡◌, Bool, true, false, List, ◌++◌, ◌↔◌, ◌≢◌, ◌⊎◌, length, get_or, take, drop, replicate}
use Rattle.judgement.specs.Scan.{one}
use Rattle.judgement.specs.declared.Answer.{Answer}
use Rattle.judgement.specs.declared.Written.{Written}
use Rattle.judgement.specs.declared.Kind.TheVariants.{Resolvent}
use Rattle.judgement.specs.Sheet.{variables}
use Rattle.judgement.specs.Record.{claim, steps, assigned, step}
use Rattle.judgement.specs.Step.{kind_of, stated, cited, pivot_of}
use Rattle.judgement.specs.Judgement.{judgement, passes}
use Rattle.judgement.specs.Facts.{Among}
use Rattle.judgement.specs.Demands.{IsBytes}
use Rattle.trimmer.specs.Trim.{cites, kept, kept_count, new_number, new_body, trimmed, marks_of, trimming, output_left}

-- ---- which answer comes when

-- what the answer a to a sheet s, a record r and two buffers says, and what these hold after it
pub record TrimmedWhen (s r marks out : List ℕ) (a : Written) (marks-left out-left : List ℕ) : Type 0 where
  -- a refused record gives its own refusal
  pub refused : passes (judgement s r) ≡ false → (a.number ≡ (judgement s r).number) × (a.place ≡ (judgement s r).place)
  -- one that is not refused is trimmed exactly when both buffers are long enough; 27 looks at the marks alone, 28 comes after it
  pub written : (a.number ≡ 0)
      ↔ ((passes (judgement s r) ≡ true) × (steps r ≤ length marks) × (length (trimmed s r) ≤ length out))
  pub few : (a.number ≡ 27) ↔ ((passes (judgement s r) ≡ true) × (length marks < steps r))
  pub short : (a.number ≡ 28)
      ↔ ((passes (judgement s r) ≡ true) × (steps r ≤ length marks) × (length out < length (trimmed s r)))
  pub place : passes (judgement s r) ≡ true → a.place ≡ 0
  -- a refusal has length 0
  pub size : a.number ≡ 0 → a.length ≡ length (trimmed s r)
  pub none_written : a.number ≢ 0 → a.length ≡ 0
  -- the first t marks are written where the record is trimmed, and by 28; the bytes past them stay, and every other refusal
  -- leaves all
  pub marked : (a.number ≡ 0) ⊎ (a.number ≡ 28) → (k : ℕ) → Among (steps r) k → get_or marks-left (k - 1) 0 ≡ one (kept s r k)
  pub past_marks : drop (steps r) marks-left ≡ drop (steps r) marks
  pub unmarked : a.number ≢ 0 → a.number ≢ 28 → marks-left ≡ marks
  pub same_marks : length marks-left ≡ length marks
  -- the output begins with what is written; the bytes past that stay, which after a refusal are all
  pub begins : a.number ≡ 0 → take a.length out-left ≡ trimmed s r
  pub behind : drop a.length out-left ≡ drop a.length out
  pub same_room : length out-left ≡ length out

-- ---- the kept steps

-- K is the least set of steps from 1 to t that has step t and each step that one of its own cites
pub record LeastClosed (cites : ℕ → ℕ → Bool) (t : ℕ) (K : ℕ → Bool) : Type 0 where
  pub among : (k : ℕ) → K k ≡ true → Among t k
  pub last : K t ≡ true
  pub closed : (k j : ℕ) → K k ≡ true → cites k j ≡ true → K j ≡ true
  -- any other set of that sort has what K has
  pub least : (P : ℕ → Bool) → P t ≡ true → ((k j : ℕ) → Among t k → P k ≡ true → cites k j ≡ true → P j ≡ true)
      → (k : ℕ) → K k ≡ true → P k ≡ true

-- step k is of kind 4, and step j one of the two that it names
abbrev pub Cites : List ℕ → List ℕ → ℕ → ℕ → Type 0
Cites s r k j = (kind_of (step s r k) ≡ Resolvent) × ((cited (step s r k) 1 ≡ j) ⊎ (cited (step s r k) 2 ≡ j))

-- `kept`, computed backwards, is this set, and there is no other
pub record TheKept (s r : List ℕ) : Type 0 where
  pub cites_are : (k j : ℕ) → (cites s r k j ≡ true) ↔ Cites s r k j
  pub is : LeastClosed (cites s r) (steps r) (kept s r)
  pub only : (K : ℕ → Bool) → LeastClosed (cites s r) (steps r) K → (k : ℕ) → K k ≡ kept s r k

-- ---- the trimmed record

-- the body c says what b says, by the same kind, and cites by new numbers
pub record Renumbered (number : ℕ → ℕ) (b c : List ℕ) : Type 0 where
  pub same_kind : kind_of c ≡ kind_of b
  pub same_statement : stated c ≡ stated b
  pub same_pivot : kind_of b ≡ Resolvent → pivot_of c ≡ pivot_of b
  pub new_citations : kind_of b ≡ Resolvent → (j : ℕ) → Among 2 j → cited c j ≡ number (cited b j)
  -- but for kind 4 the body is the same
  pub same_body : kind_of b ≢ Resolvent → c ≡ b
  pub same_size : length c ≡ length b

-- the answer with another step count
abbrev pub with_steps : ℕ → Answer → Answer
with_steps t a =
    record { number = a.number; place = a.place; cost = a.cost; open_count = a.open_count; step_count = t; gap = a.gap }

-- of a record that is not refused
pub record Trimming (s r : List ℕ) : Type 0 where
  pub the_kept : TheKept s r
  -- the trimmed record has the same claim and assignment
  pub same_claim : claim (trimmed s r) ≡ claim r
  pub same_assignment : (v : ℕ) → Among (variables s) v → assigned (trimmed s r) v ≡ assigned r v
  -- its steps are the kept ones, in their order, and no others
  pub count : steps (trimmed s r) ≡ kept_count s r
  pub there : (k : ℕ) → kept s r k ≡ true → Among (steps (trimmed s r)) (new_number s r k)
  pub in_order : (j k : ℕ) → kept s r j ≡ true → kept s r k ≡ true → j < k → new_number s r j < new_number s r k
  pub no_other : (j : ℕ) → Among (steps (trimmed s r)) j → (k : ℕ) × (kept s r k ≡ true) × (new_number s r k ≡ j)
  -- with their citations renumbered
  pub body_is : (k : ℕ) → kept s r k ≡ true → step s (trimmed s r) (new_number s r k) ≡ new_body s r k
  pub says : (k : ℕ) → kept s r k ≡ true → Renumbered (new_number s r) (step s r k) (new_body s r k)
  -- it is a file, and no longer than the record
  pub bytes : IsBytes (trimmed s r)
  pub no_longer : length (trimmed s r) ≤ length r
  -- it is judged as the record is, but for the step count
  pub judged : judgement s (trimmed s r) ≡ with_steps (kept_count s r) (judgement s r)
  -- trimmed again it stays the same: every step is kept, the bytes are its own, its own length is room enough, and an output that
  -- begins with it is left as it is
  pub all_kept : marks_of s (trimmed s r) ≡ replicate (kept_count s r) 1
  pub again : trimmed s (trimmed s r) ≡ trimmed s r
  pub enough : (marks room : ℕ) → kept_count s r ≤ marks → length (trimmed s r) ≤ room
      → trimming s (trimmed s r) marks room ≡ record { number = 0; place = 0; length = length (trimmed s r) }
  pub stays : (marks : ℕ) (l : List ℕ) → output_left s (trimmed s r) marks (trimmed s r ++ l) ≡ trimmed s r ++ l
