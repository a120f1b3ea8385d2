-- New numbers: marks counted, counts sampled, and a number found again from a sample and a few marks.
-- Assumes nothing.
use Prim.Native.Nat.{ℕ, suc, ◌+◌, ◌-◌, ◌*◌, ◌/◌, ◌%◌, ◌^◌, ◌≤◌, ◌<◌, min}
use mathlib.Core.Path.{◌≡◌, ◌∙◌}
use mathlib.Core.Bool.{Bool, true, false}
use mathlib.Core.List.{List, ◌++◌, append_assoc}
use native.Mathlib.Omega.{arith}
use native.Mathlib.Numerals.{add-one}
use native.Mathlib.Decide.{dec_lt}
use native.Mathlib.Nat.{div-mul-le_self, lt-mul-div-succ, lt_of_mul-lt-mul_right, mul-le-mul_right, add_assoc}
use Rattle.std.proofs.lemmas.Grind.{div_ceil_times}
use Rattle.std.proofs.lemmas.List.Edits.{get_or-between}
use lib.ListN.{length, get_or, take, drop, length-append, length-take, length-drop}
use lib.Seq.{length-take-le, drop_at}
use lib.Dec.{eqb}
use mir.Val.{bool_byte}
use Rattle.judgement.specs.Scan.{sum_of, one, count_of}
use Rattle.judgement.specs.Number.{number_at}
use Rattle.judgement.specs.Writer.{bytes_of}
use Rattle.judgement.specs.Buffer.{put}
use Rattle.judgement.specs.Facts.{Among}
use Rattle.judgement.proofs.Complete.Bytes.{length_bytes, number_of}
use Rattle.judgement.proofs.Laws.Buffer.{part_from, part_put, length_from, put_room}
use Rattle.trimmer.specs.Work.{marked, Sampled}
use Rattle.trimmer.proofs.Chosen.{count_at_most}
use Rattle.trimmer.proofs.Renumbering.{number_front}
use Rattle.trimmer.proofs.Behind.{behind_written}

-- ---- counting

-- one more mark
pub count_next : (m : List ℕ) (i a n x : ℕ) → a + n ≡ count_of (marked m) i → x ≡ one (eqb (get_or m i 0) 1)
    → a + (n + x) ≡ count_of (marked m) (i + 1)
unfolding sum_of marked
count_next m i a n x h e =
    let z : suc i - 1 ≡ i = omega arith in
    rw (add-one, z) (omega arith)

-- the number of a test, as `usize::from` has it
pub byte_one : {x : ℕ} (b : Bool) → x ≡ bool_byte b → (x ≡ one b) × (x ≤ 1)
byte_one true e = (e, omega arith)
byte_one false e = (e, omega arith)

-- one more of those from a up to e
pub count_turn : (m : List ℕ) (a e i n x : ℕ) → e ≤ length m → i < length (take (e - a) (drop a m)) → n ≤ i
    → count_of (marked m) a + n ≡ count_of (marked m) (a + i) → x ≡ bool_byte (eqb (get_or (take (e - a) (drop a m)) i 0) 1)
    → (n + x ≤ i + 1) × (count_of (marked m) a + (n + x) ≡ count_of (marked m) (a + (i + 1)))
count_turn m a e i n x h g l c z =
    let t = length-take (e - a) (drop a m) in
    let q = byte_one _ z in
    let y = rw (get_or-between m a e i 0 (omega (arith, t))) at q.0 in
    (omega (arith, q.1), rw (← (add_assoc a i 1)) (count_next m (a + i) (count_of (marked m) a) n x c y))

-- ---- how wide the samples lie apart

-- with w at the width that the code takes, there is room for all of t samples
pub wide_enough : (t room : ℕ) → 1 ≤ t → 1 ≤ room → t ≤ room * ((t - 1) / room + 1)
wide_enough t room s h = let z = lt-mul-div-succ (t - 1) {b = room} h in omega (arith, z)

-- ---- a number found again

-- sample i is the last before step x
module _ (table m : List ℕ) (w x i : ℕ) (s : Sampled table m w) (r : Among (length m) x) (i-is : i ≡ (x - 1) / w) where
  pub sample_before : i * w < x
  sample_before = rw i-is (omega (arith, div-mul-le_self (x - 1) w, r.0))

  low : i * w < length m
  low = omega (arith, sample_before, r.1)

  pub number_found : (a b : ℕ) → a ≡ number_at table (4 * i) 4 → count_of (marked m) (i * w) + b ≡ count_of (marked m) x
      → (a + b ≡ count_of (marked m) x) × (a + b < 2 ^ 32)
  number_found a b e h =
      let z = s.sample i low in
      let n = count_at_most (marked m) x in
      (omega (arith, e, h, z), omega (arith, e, h, z, n, s.few, r.1))

-- ---- the samples

pub no_count : (marks : List ℕ) (w : ℕ) → ◌≡◌ {A = ℕ} 0 (count_of (marked marks) (min (0 * w) (length marks)))
unfolding sum_of
no_count marks w = let z : min (0 * w) (length marks) ≡ 0 = omega arith in rw z

-- sample i of as many as the code writes has its place among the marks, and there is room for it
pub sample_at : (i w t room : ℕ) → 1 ≤ w → t ≤ room * w → i < t / w + min 1 (t % w) → (i * w < t) × (i < room)
sample_at i w t room h g l =
    let d = div_ceil_times t w h in
    let m : (i + 1) * w ≤ (t / w + min 1 (t % w)) * w = mul-le-mul_right w (omega arith) in
    let p : i * w < t = omega (arith, d.1, m) in
    (p, lt_of_mul-lt-mul_right w (omega arith))

pub next_product : (i w : ℕ) → i * w + w ≡ (i + 1) * w
next_product i w = omega arith

-- value f i put behind those before it
module _ (f : ℕ → ℕ) (table p : List ℕ) (i n : ℕ) (room : 4 * i + 4 ≤ length table) (small : n < 256 ^ 4) (value : n ≡ f i)
    (earlier : (j : ℕ) → j < i → number_at table (4 * j) 4 ≡ f j) (is-put : p ≡ put (bytes_of 4 n) (part_from (4 * i) table)) where
  table_is : part_put (4 * i) table p ≡ take (4 * i) table ++ (bytes_of 4 n ++ drop (4 * i + 4) table)
  table_is =
      let b = length_bytes 4 n in
      let f = length_from (4 * i) table in
      let z = length-take-le (4 * i) table (omega arith) in
      let y : length (take (4 * i) table ++ bytes_of 4 n) ≡ 4 * i + 4 = rw (length-append, z, length_bytes 4 n) in
      behind_written (4 * i) table (bytes_of 4 n) p (omega arith) (is-put ∙ put_room (bytes_of 4 n) (part_from (4 * i) table) (omega (arith, b, f)))
      ∙ rw (y, append_assoc)

  pub samples_turn : (j : ℕ) → j < i + 1 → number_at (part_put (4 * i) table p) (4 * j) 4 ≡ f j
  samples_turn j h = rw table_is (go (dec_lt j i))
    where
      go : Dec (j < i) → number_at (take (4 * i) table ++ (bytes_of 4 n ++ drop (4 * i + 4) table)) (4 * j) 4 ≡ f j
      go (yes l) = number_front (4 * i) table (bytes_of 4 n ++ drop (4 * i + 4) table) (omega arith) 4 (4 * j) (omega arith) ∙ earlier j l
      go (no l) =
          let e : j ≡ i = omega (arith, l) in
          rw e (number_of 4 n (4 * i) (take (4 * i) table ++ (bytes_of 4 n ++ drop (4 * i + 4) table)) (drop (4 * i + 4) table)
          (drop_at (take (4 * i) table) (bytes_of 4 n ++ drop (4 * i + 4) table) (4 * i) (length-take-le (4 * i) table (omega arith))) small ∙ value)

  pub table_length : length (part_put (4 * i) table p) ≡ length table
  table_length =
      let a = length-take-le (4 * i) table (omega arith) in
      let b = length-drop (4 * i + 4) table in
      rw (table_is, length-append, length-append, length_bytes 4 n) (omega (arith, a, b))

pub sampled_all : (table marks : List ℕ) (w i room : ℕ) → 1 ≤ w → length marks < 2 ^ 29
    → i ≡ length marks / w + min 1 (length marks % w) → length marks ≤ room * w → 4 * room ≤ length table
    → ((j : ℕ) → j < i → number_at table (4 * j) 4 ≡ count_of (marked marks) (j * w)) → Sampled table marks w
sampled_all table marks w i room h f e most fits each =
    let d = (div_ceil_times (length marks) w h).0 in
    record {
      wide = h;
      few = f;
      room = λ j g. let z : j < room = lt_of_mul-lt-mul_right w (omega arith) in omega (arith, z);
      sample = λ j g. each j (lt_of_mul-lt-mul_right w (rw e (omega (arith, d))));
    }
