-- `writer::put::Order::write_pairs` meets its contract: the invariant is that the pairs of the first i bodies stand at the
-- beginning of the buffer.
-- Assumes nothing.
use Rattle.judgement.proofs.Laws.Table.{Progress, pairs_to}
use Rattle.writer.specs.Words.{body_of}
use Rattle.writer.proofs.put.Order.write_pairs.Given as goal

abbrev pub invariant-loop-i : goal.invariant-loop-i
invariant-loop-i l =
    Progress (body_of l.self.clauses.sheet.now) l.self.words.now l.start l.i l.next (pairs_to (body_of l.self.clauses.sheet.now) l.self.words.now l.start l.i) l.initial.out l.out
