-- `search::count::count_up` meets its contract. The invariant: words 0 to i - 1 of each plane are those of one more.
-- Assumes nothing.
use Rattle.search.proofs.Slices.{More, Done}
use Rattle.search.proofs.count.count_up.Given as goal

abbrev pub invariant-loop-i : goal.invariant-loop-i
invariant-loop-i l = Done (More l.tables.rows l.c l.initial.table) 0 l.initial.table l.table l.i
