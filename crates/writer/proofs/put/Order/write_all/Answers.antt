-- `writer::put::Order::write_all` meets its contract: head, pairs and bodies, one behind the other, are the canonical sheet.
-- Assumes nothing.
use Prim.Native.Nat.{◌+◌, ◌*◌, ◌≤◌}
use mathlib.Core.Path.{◌≡◌}
use mathlib.Core.List.{map}
use native.Mathlib.Omega.{arith}
use lib.ListN.{length}
use Rattle.judgement.specs.Writer.{joined}
use Rattle.writer.specs.declared.put.Order.{Order}
use Rattle.writer.specs.Canonical.{canonical}
use Rattle.writer.specs.Words.{body_of, head_end}
use Rattle.writer.proofs.Canonical.{canonical_length}
use Rattle.writer.proofs.Raw.{end_some, raw_size, written_all}
use Rattle.writer.proofs.put.Order.write_all.Goals as goal

-- the parts make up the canonical sheet, which is no longer than the sheet itself
parts : (o : Order)
    → (length (canonical o.clauses.sheet.now) ≡ head_end o.clauses.sheet.now + 8 * length o.words.now + length (joined (map (body_of o.clauses.sheet.now) o.words.now)))
    × (length (canonical o.clauses.sheet.now) ≤ length o.clauses.sheet.now)
parts o =
    let s = o.clauses in
    (raw_size s.sheet.now s.table s.known s.bytes o.words.now o.inside o.sorted, canonical_length s.sheet.now s.known.valid)

pub write_head-requires : goal.write_head-requires
write_head-requires c =
    let (z, k) = parts c.args.self.now in
    (omega (arith, end_some c.args.self.now.clauses.sheet.now), omega arith, omega arith, c.requires.end)

pub overflow_add-start : goal.overflow_add-start
overflow_add-start c =
    let (z, k) = parts c.args.self.now in
    omega arith

pub slice_bounds-write_pairs-count : goal.slice_bounds-write_pairs-count
slice_bounds-write_pairs-count c =
    let (z, k) = parts c.args.self.now in
    omega arith

pub slice_bounds-write_pairs-start : goal.slice_bounds-write_pairs-start
slice_bounds-write_pairs-start c =
    let (z, k) = parts c.args.self.now in
    omega arith

pub write_pairs-requires-clause-room : goal.write_pairs-requires-clause-room
write_pairs-requires-clause-room c =
    let (z, k) = parts c.args.self.now in
    omega arith

pub write_pairs-requires-clause-ends : goal.write_pairs-requires-clause-ends
write_pairs-requires-clause-ends c =
    let (z, k) = parts c.args.self.now in
    omega arith

pub slice_bounds-write_bodies-count : goal.slice_bounds-write_bodies-count
slice_bounds-write_bodies-count c =
    let (z, k) = parts c.args.self.now in
    omega arith

pub slice_bounds-write_bodies-start : goal.slice_bounds-write_bodies-start
slice_bounds-write_bodies-start c =
    let (z, k) = parts c.args.self.now in
    omega arith

pub write_bodies-requires : goal.write_bodies-requires
write_bodies-requires c =
    let (z, k) = parts c.args.self.now in
    omega arith

pub returns : goal.returns
returns c =
    let o = c.args.self.now in
    let s = o.clauses in
    written_all s.sheet.now s.table s.known s.bytes o.words.now o.inside o.sorted c.args.end c.requires.end c.args.out.now _ _ _
    c.write_head.ensures c.write_pairs.ensures c.write_bodies.ensures
