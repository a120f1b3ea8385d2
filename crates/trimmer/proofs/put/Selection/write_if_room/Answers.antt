-- `trimmer::put::Selection::write_if_room` meets its contract: the size is that of the trimmed record.
-- Assumes nothing.
use Prim.Native.Nat.{◌+◌, ◌*◌}
use mathlib.Core.Path.{◌≡◌}
use native.Mathlib.Omega.{arith}
use Rattle.judgement.specs.Scan.{count_of}
use Rattle.judgement.specs.Record.{steps}
use Rattle.trimmer.specs.Trim.{kept}
use Rattle.trimmer.proofs.Whole.{sizes, counted_all, too_short, long_enough}
use Rattle.trimmer.proofs.Placed.{s, r, selected}
use Rattle.trimmer.proofs.put.Selection.write_if_room.Goals.{After-count_marks-count}
use Rattle.trimmer.proofs.put.Selection.write_if_room.Goals as goal

-- what the code counts
counted_here : (c : After-count_marks-count) → c.count_marks-count.result ≡ count_of (kept (s c.args.self.now.source) (r c.args.self.now.source)) (steps (r c.args.self.now.source))
counted_here c = let x = c.args.self.now in counted_all (s x.source) (r x.source) x.source.table x.marks.now (selected x) c.count_marks-count.ensures

pub overflow_mul-size : goal.overflow_mul-size
overflow_mul-size c =
    let z = sizes c.args.self.now in
    let n = counted_here (goal.at.overflow_mul-size c).After-count_marks-count in
    omega arith

pub overflow_add-size : goal.overflow_add-size
overflow_add-size c =
    let z = sizes c.args.self.now in
    let n = counted_here (goal.at.overflow_add-size c).After-count_marks-count in
    omega arith

pub overflow_add-size-2 : goal.overflow_add-size-2
overflow_add-size-2 c =
    let z = sizes c.args.self.now in
    let n = counted_here (goal.at.overflow_add-size-2 c).After-count_marks-count in
    omega (arith, c.bodies_size.ensures)

pub write_all-requires : goal.write_all-requires
write_all-requires c =
    let z = sizes c.args.self.now in
    let n = counted_here (goal.at.write_all-requires c).After-count_marks-count in
    (n, omega (arith, c.bodies_size.ensures))

pub returns-then-out-size : goal.returns-then-out-size
returns-then-out-size c =
    let x = c.args.self.now in
    let z = sizes x in
    let n = counted_here (goal.at.returns-then-out-size c).After-count_marks-count in
    let t = too_short (s x.source) (r x.source) c.args.out.now (omega (arith, c.bodies_size.ensures)) in
    record { answer = rw c.at.ensures t.0; buffer = t.1 }

pub returns : goal.returns
returns c =
    let x = c.args.self.now in
    let z = sizes x in
    let n = counted_here (goal.at.returns c).After-count_marks-count in
    let e = c.bodies_size.ensures in
    let t = long_enough (s x.source) (r x.source) c.args.out.now _ (x.source.table + 8 * c.count_marks-count.result + c.bodies_size.result) (omega (arith, e)) (omega (arith, e)) c.write_all.ensures in
    record { answer = t.0; buffer = t.1 }
