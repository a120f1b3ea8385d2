-- `writer::put::Order::write_bodies` meets its contract: the invariant is that the bodies so far stand at the beginning of
-- the buffer.
-- Assumes nothing.
use Rattle.judgement.proofs.Laws.Table.{Progress, bodies_to}
use Rattle.writer.specs.Words.{body_of}
use Rattle.writer.proofs.put.Order.write_bodies.Given as goal

abbrev pub invariant-loop-w : goal.invariant-loop-w
invariant-loop-w l =
    Progress (body_of l.self.clauses.sheet.now) l.self.words.now 0 l.w-index l.at (bodies_to (body_of l.self.clauses.sheet.now) l.self.words.now l.w-index) l.initial.out l.out
