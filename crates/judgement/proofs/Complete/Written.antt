-- The record that is written from a derivation: it reads back as what was written, and has the facts of acceptance.
-- Assumes nothing.
use Prim.Native.Nat.{ℕ, zero, suc, ◌+◌, ◌-◌, ◌*◌, ◌/◌, ◌^◌, ◌≤◌, ◌<◌}
use mathlib.Core.Path.{◌≡◌, refl, ap, ◌∙◌}
use mathlib.Core.Bool.{false, ◌&&◌}
use mathlib.Core.List.{List, [], ◌∷◌, ◌++◌, append_assoc}
use mathlib.Core.Logic.{◌≢◌}
use native.Mathlib.Omega.{arith}
use lib.ListN.{length, get_or, take, drop, replicate, length-append, length-replicate, get_or-append}
use lib.Dec.{leb}
use lib.Seq.{get_or-drop, take-append_seam}
use Rattle.judgement.specs.Meaning.{Assignment, positive, cost, Model, none}
use Rattle.judgement.specs.Pairs.{body}
use Rattle.judgement.specs.Sheet.{most_bytes, variables, clauses, problem_of}
use Rattle.judgement.specs.Record.{claim, steps, assignment_size, step_pairs_at, assigned, step}
use Rattle.judgement.specs.declared.Kind.TheVariants.{Resolvent}
use Rattle.judgement.specs.Step.{kind_number, cited, pivot_of}
use Rattle.judgement.specs.Writer.{bytes_of, pairs_of, joined, file_of, assignment_of, record_of}
use Rattle.judgement.specs.Facts.{Among, PairRule, ValidSheet, StepLayout, Resolution, Inference, copies, costs, resolution, Closes, Acceptable}
use Rattle.judgement.specs.Demands.{IsBytes}
use Rattle.judgement.proofs.Complete.Typed.{Typed, copy_step, cost_step, resolve_step, codes_of, bound_of, typed_kind, tail_of, body_of, bodies_of, nth, Obeys, Derivation}
use Rattle.judgement.proofs.Complete.Bytes.{length_bytes, number_of, drop_past, nil_bytes, bytes_are_bytes, append_bytes}
use Rattle.judgement.proofs.Complete.Stored.{AllFit, ascending_fits}
use Rattle.judgement.proofs.Complete.Tables.{length_file, file_body, file_pairs}
use Rattle.judgement.proofs.Complete.Packed.{stored_bit, packed_length, packed_bit, clear_bit}
use Rattle.judgement.proofs.Complete.Bodies.{none_fits, body_short, body_bytes, Stores, stores_body, says_in, says_layout, stores_copies, stores_costs}
use Rattle.judgement.proofs.Complete.Bodies.{resolution_x, resolution_y, resolution_pivot, resolution_size, States, resolves_bodies}

-- ---- the record of any bodies

module _ (c : ℕ) (bits : List ℕ) (bodies : List (List ℕ)) where
  abbrev it : List ℕ
  it = record_of c bits bodies

  -- what stands before the pairs
  abbrev before : List ℕ
  before = bytes_of 8 c ++ bytes_of 4 (length bodies) ++ bits

  -- the pairs and the bodies
  abbrev behind : List ℕ
  behind = pairs_of (length before + 8 * length bodies) bodies ++ joined bodies

  length_before : length before ≡ 12 + length bits
  length_before = simp (length-append, length_bytes) (omega arith)

  record_0 : drop 0 it ≡ bytes_of 8 c ++ (bytes_of 4 (length bodies) ++ (bits ++ behind))
  unfolding record_of file_of
  record_0 = simp append_assoc

  record_8 : drop 8 it ≡ bytes_of 4 (length bodies) ++ (bits ++ behind)
  record_8 = drop_past it 0 8 (bytes_of 8 c) (bytes_of 4 (length bodies) ++ (bits ++ behind)) record_0 (length_bytes 8 c)

  record_12 : drop 12 it ≡ bits ++ behind
  record_12 = drop_past it 8 4 (bytes_of 4 (length bodies)) (bits ++ behind) record_8 (length_bytes 4 (length bodies))

  pub record_claim : c ≤ none → claim (record_of c bits bodies) ≡ c
  record_claim h =
      let n = none_fits in
      number_of 8 c 0 it (bytes_of 4 (length bodies) ++ (bits ++ behind)) record_0 (omega (arith, n))

  pub record_steps : length bodies < 256 ^ 4 → steps (record_of c bits bodies) ≡ length bodies
  record_steps h = number_of 4 (length bodies) 8 it (bits ++ behind) record_8 h

  pub record_bit : (v : ℕ) → 1 ≤ v → v ≤ 8 * length bits → assigned (record_of c bits bodies) v ≡ stored_bit bits v
  unfolding assigned
  record_bit v l h =
      let i : (v - 1) / 8 < length bits = omega arith in
      rw (← (get_or-drop 12 it ((v - 1) / 8) 0), record_12, get_or-append bits behind 0 ((v - 1) / 8) i)

  -- all of them at once
  pub record_bits : take (length bits) (drop 12 (record_of c bits bodies)) ≡ bits
  record_bits = rw record_12 (take-append_seam bits behind)

  pub record_length : length (record_of c bits bodies) ≡ 12 + length bits + 8 * length bodies + length (joined bodies)
  unfolding record_of
  record_length = rw (length_file before bodies, length_before)

  module _ (fits : 12 + length bits + 8 * length bodies + length (joined bodies) < 256 ^ 4) where
    before_fits : length before + 8 * length bodies + length (joined bodies) < 256 ^ 4
    before_fits = rw length_before fits

    pub record_body : (k : ℕ) → Among (length bodies) k
        → body (record_of c bits bodies) (12 + length bits) k ≡ get_or bodies (k - 1) []
    unfolding record_of
    record_body = rw length_before at (file_body before bodies before_fits)

    pub record_pairs : PairRule (record_of c bits bodies) (12 + length bits) (length bodies)
    unfolding record_of
    record_pairs = rw length_before at (file_pairs before bodies before_fits)

pub pairs_bytes : (start : ℕ) (bodies : List (List ℕ)) → IsBytes (pairs_of start bodies)
unfolding pairs_of
pairs_bytes start [] = nil_bytes
pairs_bytes start (b ∷ bs) = search (append_bytes, bytes_are_bytes, pairs_bytes (start + length b) bs)

-- the record of an assignment: a variable up to n reads as its value, and a spare bit is clear
pub record_packed : (c n : ℕ) (α : Assignment) (bodies : List (List ℕ)) (v : ℕ) → 1 ≤ v → v ≤ 8 * assignment_size n
    → assigned (record_of c (assignment_of n α) bodies) v ≡ (leb v n && α v)
record_packed c n α bodies v l h =
    record_bit c (assignment_of n α) bodies v l (rw (packed_length n α) h) ∙ packed_bit n α v l h

-- the record of clear bits
pub record_clear : (c w : ℕ) (bodies : List (List ℕ)) (v : ℕ) → 1 ≤ v → v ≤ 8 * w
    → assigned (record_of c (replicate w 0) bodies) v ≡ false
record_clear c w bodies v l h =
    record_bit c (replicate w 0) bodies v l (rw (length-replicate {A = ℕ} w 0) h) ∙ clear_bit w v

-- ---- the bodies of a list of steps

length_bodies : (ts : List Typed) → length (bodies_of ts) ≡ length ts
length_bodies [] = refl
length_bodies (t ∷ ts) = ap suc (length_bodies ts)

body_at : (ts : List Typed) (i : ℕ) → i < length ts → get_or (bodies_of ts) i [] ≡ body_of (get_or ts i (cost_step [] 0))
body_at [] i h = absurd (omega arith)
body_at (t ∷ ts) zero h = refl
body_at (t ∷ ts) (suc i) h = body_at ts i (omega arith)

bodies_bytes : (ts : List Typed) → IsBytes (joined (bodies_of ts))
unfolding joined
bodies_bytes [] = nil_bytes
bodies_bytes (t ∷ ts) = append_bytes (body_of t) (joined (bodies_of ts)) (body_bytes t) (bodies_bytes ts)

bodies_short : (ts : List Typed) → ((i : ℕ) → i < length ts → length (codes_of (get_or ts i (cost_step [] 0))) ≤ 16)
    → length (joined (bodies_of ts)) ≤ 54 * length ts
unfolding joined
bodies_short [] h = omega arith
bodies_short (t ∷ ts) h =
    let a = body_short t (h 0 (omega arith)) in
    let b = bodies_short ts (λ i g. h (suc i) (omega arith)) in
    rw length-append (omega (arith, a, b))

-- ---- the record of a derivation

abbrev pub written : ℕ → List ℕ → List Typed → List ℕ
written c bits ts = record_of c bits (bodies_of ts)

pub written_bytes : (c : ℕ) (bits : List ℕ) (ts : List Typed) → IsBytes bits → IsBytes (record_of c bits (bodies_of ts))
unfolding record_of file_of
written_bytes c bits ts p = search (append_bytes, bytes_are_bytes, pairs_bytes, bodies_bytes)

-- of the claim c over assignment bytes of the right length
module _ (s : List ℕ) (valid : ValidSheet s) (ts : List Typed) (d : Derivation s ts) (c : ℕ) (small : c ≤ none) (bits : List ℕ)
    (whole : length bits ≡ assignment_size (variables s)) where
  -- a step takes 62 bytes at most, its pair among them, and there are at most 2 ^ 17
  size_fits : 12 + length bits + 8 * length (bodies_of ts) + length (joined (bodies_of ts)) < 256 ^ 4
  size_fits =
      let n = valid.n.1 in
      let t = d.short in
      let b = bodies_short ts (λ i h. (let e : suc i - 1 ≡ i = omega arith in rw e at (d.fits (suc i) (omega arith, h)).0)) in
      rw (length_bodies ts, whole) (omega (arith, n, t, b))

  pub written_claim : claim (written c bits ts) ≡ c
  written_claim = record_claim c bits (bodies_of ts) small

  pub written_steps : steps (written c bits ts) ≡ length ts
  written_steps =
      let t = d.short in
      let n = length_bodies ts in
      record_steps c bits (bodies_of ts) (omega (arith, t, n)) ∙ n

  pub written_size : length (written c bits ts) ≤ most_bytes
  written_size =
      let h = size_fits in
      rw (record_length c bits (bodies_of ts)) (omega (arith, h))

  pub written_room : step_pairs_at s + 8 * steps (written c bits ts) ≤ length (written c bits ts)
  written_room =
      let n = length_bodies ts in
      rw (written_steps, record_length c bits (bodies_of ts), whole, n) (omega arith)

  pub written_pairs : PairRule (written c bits ts) (step_pairs_at s) (steps (written c bits ts))
  written_pairs =
      rw written_steps (rw (length_bodies ts, whole) at (record_pairs c bits (bodies_of ts) size_fits))

  pub written_step : (k : ℕ) → Among (length ts) k → step s (written c bits ts) k ≡ body_of (nth ts k)
  written_step k w =
      (rw whole at (record_body c bits (bodies_of ts) size_fits k (rw (length_bodies ts) w)))
      ∙ body_at ts (k - 1) (omega (arith, w.0, w.1))

  -- a stored step says what was written
  written_stores : (k : ℕ) → Among (length ts) k → Stores (step s (written c bits ts) k) (nth ts k)
  written_stores k w = let f = d.fits k w in rw (written_step k w) (stores_body (nth ts k) f.0 f.1)

  codes_fit : (k : ℕ) → Among (length ts) k → AllFit (codes_of (nth ts k))
  codes_fit k w = ascending_fits (variables s) (codes_of (nth ts k)) valid.n.1 (d.ascending k w)

  pub written_forms : (k : ℕ) → Among (steps (written c bits ts)) k → StepLayout s (step s (written c bits ts) k)
  written_forms k w =
      let t = nth ts k in
      let w = rw written_steps at w in
      says_layout (step s (written c bits ts) k) (kind_number (typed_kind t)) (codes_of t) (bound_of t) (tail_of t) (written_stores k w) s valid.n.1
      (d.ascending k w)

  -- the cost clause of step k
  states : (k : ℕ) → Among (length ts) k → States (step s (written c bits ts) k) (codes_of (nth ts k)) (bound_of (nth ts k))
  states k w =
      let t = nth ts k in
      record {
        members = says_in (step s (written c bits ts) k) (kind_number (typed_kind t)) (codes_of t) (bound_of t) (tail_of t) (written_stores k w) (codes_fit k w);
        bound_is = (written_stores k w).bound_is;
      }

  resolution_of : (k : ℕ) → Among (length ts) k → (codes : List ℕ) (b x y p : ℕ)
      → Stores (step s (written c bits ts) k) (resolve_step codes b x y p) → AllFit codes → Obeys s (nth ts) k (resolve_step codes b x y p)
      → Resolution s (written c bits ts) k
  resolution_of k w codes b x y p says f (x1, xk, y1, yk, px, py, res, bound_is) =
      record {
        citing = record {
          kind = says.kind_is;
          size = resolution_size here codes b x y p says;
          some_x = rw cites_x x1;
          earlier_x = rw cites_x xk;
          some_y = rw cites_y y1;
          earlier_y = rw cites_y yk;
        };
        resolves = rw (cites_x, cites_y)
            (resolves_bodies (step s (written c bits ts) x) (step s (written c bits ts) y) here (codes_of (nth ts x)) (codes_of (nth ts y)) codes
            (bound_of (nth ts x)) (bound_of (nth ts y)) p (states x wx) (states y wy)
            (record { members = says_in here (kind_number Resolvent) codes b (tail_of (resolve_step codes b x y p)) says f; bound_is = says.bound_is ∙ bound_is })
            pivot px py res);
      }
    where
      here : List ℕ
      here = step s (written c bits ts) k

      wx : Among (length ts) x
      wx = (x1, omega (arith, xk, w.1))

      wy : Among (length ts) y
      wy = (y1, omega (arith, yk, w.1))

      cites_x : cited here 1 ≡ x
      cites_x = resolution_x here codes b x y p says (let t = d.short in omega (arith, wx.1, t))

      cites_y : cited here 2 ≡ y
      cites_y = resolution_y here codes b x y p says (let t = d.short in omega (arith, wy.1, t))

      pivot : pivot_of here ≡ p
      pivot = resolution_pivot here codes b x y p says (let h = codes_fit x wx (positive p) px in omega (arith, h))

  -- what a step obeys is an inference by its kind
  infers : (k : ℕ) → Among (length ts) k → (t : Typed) → Stores (step s (written c bits ts) k) t → AllFit (codes_of t)
      → Obeys s (nth ts) k t → Inference s (written c bits ts) k
  infers k w (copy_step codes j) says f o =
      let m = valid.m in
      let h : j ≤ clauses s = o.0.1 in
      copies (stores_copies s (step s (written c bits ts) k) codes j says f (omega (arith, m, h)) o.0 o.1)
  infers k w (cost_step codes b) says f o = costs (stores_costs s (step s (written c bits ts) k) codes b says f o)
  infers k w (resolve_step codes b x y p) says f o = resolution (resolution_of k w codes b x y p says f o)

  pub written_inferences : (k : ℕ) → Among (steps (written c bits ts)) k → Inference s (written c bits ts) k
  written_inferences k w =
      let w = rw written_steps at w in
      infers k w (nth ts k) (written_stores k w) (codes_fit k w) (d.obeys k w)

  -- the last step is one of them
  last : Among (length ts) (length ts)
  last = (d.some, omega arith)

  pub written_closes : c ≤ bound_of (nth ts (length ts)) → Closes s (written c bits ts)
  written_closes h =
      let says = written_stores (length ts) last in
      record {
        empty = rw written_steps (says.count_is ∙ rw d.empty);
        reaches = rw (written_steps, written_claim, says.bound_is) h;
      }

-- what is left to know of the record: its spare bits are clear, all are under "none", the claim is its assignment's cost
-- otherwise, and the last step's bound reaches the claim
pub written_acceptable : (s : List ℕ) → ValidSheet s → (ts : List Typed) → Derivation s ts → (c : ℕ) → c ≤ none
    → (bits : List ℕ) → length bits ≡ assignment_size (variables s)
    → ((v : ℕ) → variables s < v → v ≤ 8 * assignment_size (variables s) → assigned (record_of c bits (bodies_of ts)) v ≡ false)
    → (c ≡ none → (v : ℕ) → Among (variables s) v → assigned (record_of c bits (bodies_of ts)) v ≡ false)
    → (c ≢ none → Model (problem_of s) (assigned (record_of c bits (bodies_of ts))))
    → (c ≢ none → cost (problem_of s) (assigned (record_of c bits (bodies_of ts))) ≡ c)
    → c ≤ bound_of (nth ts (length ts)) → Acceptable s (record_of c bits (bodies_of ts))
written_acceptable s valid ts d c small bits whole spare clear model cost_is reaches =
    let e = written_claim s valid ts d c small bits whole in (
      record {
        stored = record {
          sheet = valid;
          layout = record {
            size = written_size s valid ts d c small bits whole;
            t = rw (written_steps s valid ts d c small bits whole) d.some;
            room = written_room s valid ts d c small bits whole;
            spare = spare;
            clear = rw e clear;
            pairs = written_pairs s valid ts d c small bits whole;
          };
          model = rw e model;
          cost_is = rw e cost_is;
        };
        forms = written_forms s valid ts d c small bits whole;
        inferences = written_inferences s valid ts d c small bits whole;
      },
      written_closes s valid ts d c small bits whole reaches,
    )
