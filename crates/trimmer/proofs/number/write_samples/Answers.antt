use Rattle.std.proofs.Common.{◌≡◌, ℕ, ◌+◌, ◌*◌, min, length, refl, ◌∙◌, arith}
use Rattle.judgement.specs.Scan.{count_of}
use Rattle.trimmer.specs.Work.{marked}
use Rattle.trimmer.proofs.Chosen.{count_at_most}
use Rattle.trimmer.proofs.Numbering.{no_count, sample_at, next_product, samples_turn, table_length, sampled_all}
use Rattle.trimmer.proofs.number.write_samples.Goals as goal

pub loop-i-init : goal.loop-i-init
loop-i-init c = (no_count c.args.marks.now c.args.w, refl, λ j h. absurd (omega arith))

pub overflow_cast-n : goal.overflow_cast-n
overflow_cast-n c =
    let l = c.loop-i in
    let h = count_at_most (marked c.args.marks.now) (min (l.i * c.args.w) (length c.args.marks.now)) in
    omega (arith, h)

pub overflow_add-n : goal.overflow_add-n
overflow_add-n c =
    let a = c.args in
    let l = c.loop-i in
    let p = sample_at l.i a.w (length a.marks.now) a.room (omega arith) (omega arith) (rw c.div_ceil-i-end.ensures at c.loop-i-test.true) in
    let m : min (l.i * a.w) (length a.marks.now) ≡ l.i * a.w = omega arith in
    let n : l.n ≡ count_of (marked a.marks.now) (l.i * a.w) = rw m at l.invariant.0 in
    let e = c.count_marks-n.ensures in
    let h = count_at_most (marked a.marks.now) c.min.result in
    omega (arith, h, e, n)

pub loop-i-preserved : goal.loop-i-preserved
loop-i-preserved c =
    let a = c.args in
    let l = c.loop-i in
    let p = sample_at l.i a.w (length a.marks.now) a.room (omega arith) (omega arith) (rw c.div_ceil-i-end.ensures at c.loop-i-test.true) in
    let m : min (l.i * a.w) (length a.marks.now) ≡ l.i * a.w = omega arith in
    let n : l.n ≡ count_of (marked a.marks.now) (l.i * a.w) = rw m at l.invariant.0 in
    let q = next_product l.i a.w in
    let x : c.min.result ≡ min ((l.i + 1) * a.w) (length a.marks.now) = omega (arith, c.min.ensures, q) in
    let e = rw x at c.count_marks-n.ensures in
    let most = count_at_most (marked a.marks.now) (l.i * a.w) in
    let f : ℕ → ℕ = λ j. count_of (marked a.marks.now) (j * a.w) in (
      omega (arith, e, n),
      table_length f l.table _ l.i l.n (omega arith) (omega (arith, n, most)) n l.invariant.2 c.put_u32.ensures ∙ l.invariant.1,
      samples_turn f l.table _ l.i l.n (omega arith) (omega (arith, n, most)) n l.invariant.2 c.put_u32.ensures,
    )

pub returns : goal.returns
returns c =
    let a = c.args in
    let l = c.loop-i in
    let e = c.div_ceil-i-end.ensures in
    (sampled_all l.table a.marks.now a.w l.i a.room (omega arith) (omega arith) (omega arith) (omega arith) (omega arith) l.invariant.2, l.invariant.1)
