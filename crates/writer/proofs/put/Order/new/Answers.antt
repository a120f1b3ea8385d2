-- `writer::put::Order::new` meets its contract: a sorted range of all clauses is in the one order.
-- Assumes nothing.
use Rattle.writer.proofs.Raw.{range_inside, range_sorted}
use Rattle.writer.proofs.put.Order.new.Goals as goal

pub invariant_of-result : goal.invariant_of-result
invariant_of-result c =
    let s = c.args.all.sheet.now in
    let h = c.requires in
    record {
      inside = range_inside s c.args.words.now h.sorted;
      sorted = range_sorted s c.args.words.now h.sorted;
      few = h.few;
    }
