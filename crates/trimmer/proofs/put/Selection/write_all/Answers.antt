-- `trimmer::put::Selection::write_all` meets its contract: samples, pairs over them and the head in front, and the bodies behind, come
-- to the trimmed record.
-- Assumes nothing.
use native.Mathlib.Omega.{arith}
use Prim.Native.Nat.{◌+◌, ◌-◌, ◌*◌}
use mathlib.Core.Path.{refl, ap}
use lib.ListN.{length}
use native.Mathlib.Nat.{div-le_self}
use Rattle.trimmer.proofs.Numbering.{wide_enough}
use Rattle.judgement.proofs.Laws.Buffer.{length_from}
use Rattle.trimmer.specs.Work.{bodies_to, pairs_to, head_bytes}
use Rattle.trimmer.proofs.Behind.{part_is}
use Rattle.trimmer.proofs.Whole.{sizes, pairs_size, head_size, all_written, whole_is}
use Rattle.trimmer.proofs.Placed.{s, r, selected}
use Rattle.trimmer.proofs.put.Selection.write_all.Goals as goal

pub overflow_mul-start : goal.overflow_mul-start
overflow_mul-start c = let z = sizes c.args.self.now in omega arith

pub overflow_add-start : goal.overflow_add-start
overflow_add-start c = let z = sizes c.args.self.now in omega arith

pub overflow_sub-w : goal.overflow_sub-w
overflow_sub-w c = let z = sizes c.args.self.now in omega arith

pub overflow_mul-w : goal.overflow_mul-w
overflow_mul-w c = let z = sizes c.args.self.now in omega arith

pub nonzero_div-w : goal.nonzero_div-w
nonzero_div-w c = let z = sizes c.args.self.now in omega arith

pub split_at_mut-front-requires : goal.split_at_mut-front-requires
split_at_mut-front-requires c = let z = sizes c.args.self.now in omega arith

pub write_samples-requires : goal.write_samples-requires
write_samples-requires c =
    let z = sizes c.args.self.now in
    let n = length c.args.self.now.marks.now in
    let front = c.split_at_mut-front.result.0.now in
    let e = c.split_at_mut-front.ensures.front_len in
    let d = div-le_self (n - 1) (2 * c.args.count) in
    let l = length_from c.args.self.now.source.table front in
    (omega arith, omega arith, omega arith, wide_enough n (2 * c.args.count) (omega arith) (omega arith), omega arith)

pub write_bodies-requires : goal.write_bodies-requires
write_bodies-requires c =
    let z = sizes c.args.self.now in
    let e = c.split_at_mut-front.ensures.back_len in
    omega arith

pub write_pairs-requires : goal.write_pairs-requires
write_pairs-requires c =
    let x = c.args.self.now in
    let z = sizes x in
    let front = c.split_at_mut-front.result.0.now in
    let e = c.split_at_mut-front.ensures.front_len in
    let l = length_from x.source.table front in
    let t = c.write_samples.ensures.1 in
    let n = pairs_size (s x.source) (r x.source) x.source.table x.marks.now (selected x) (x.source.table + 8 * c.args.count) in
    let p = part_is x.source.table front c.write_samples.new.table (omega arith) (omega arith) in
    let q = ap length p in
    (omega arith, omega arith)

pub returns : goal.returns
returns c =
    let x = c.args.self.now in
    let z = sizes x in
    let m = selected x in
    let front = c.split_at_mut-front.result.0.now in
    let e = c.split_at_mut-front.ensures.front_len in
    let l = length_from x.source.table front in
    let t = c.write_samples.ensures.1 in
    let start = x.source.table + 8 * c.args.count in
    let n = pairs_size (s x.source) (r x.source) x.source.table x.marks.now m start in
    let h = head_size (s x.source) (r x.source) x.source.table x.marks.now m c.args.count in
    let value = c.split_at_mut-front.ensures.value in
    rw (value, ← (whole_is (s x.source) (r x.source) x.source.table x.marks.now m x.source.bytes c.args.count start c.requires.0 refl))
    (all_written x.source.table front c.split_at_mut-front.result.1.now c.write_samples.new.table
    (head_bytes (r x.source) x.source.table c.args.count) (pairs_to (s x.source) (r x.source) start (length x.marks.now))
    (bodies_to (s x.source) (r x.source) (length x.marks.now))
    (omega arith) (omega arith) h (omega arith) c.write_bodies.new.out c.write_pairs.new.out c.write_head.new.out
    c.write_bodies.ensures c.write_pairs.ensures (grind (arith, c.write_head.ensures)))
