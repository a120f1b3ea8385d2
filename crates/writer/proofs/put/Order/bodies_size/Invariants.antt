-- `writer::put::Order::bodies_size` meets its contract: the invariant is the size of the bodies so far.
-- Assumes nothing.
use Prim.Native.Nat.{◌*◌, ◌≤◌}
use mathlib.Core.Path.{◌≡◌}
use Rattle.judgement.proofs.Laws.Table.{size_to}
use Rattle.writer.specs.Words.{body_of}
use Rattle.writer.proofs.put.Order.bodies_size.Given as goal

abbrev pub invariant-loop-w : goal.invariant-loop-w
invariant-loop-w l = (l.sum ≡ size_to (body_of l.self.clauses.sheet.now) l.self.words.now l.w-index) × (l.sum ≤ 4294967295 * l.w-index)
