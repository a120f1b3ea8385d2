-- `search::count::count_down` meets its contract. The invariant: words 0 to i - 1 of each plane are those of one less.
-- Assumes nothing.
use Rattle.search.proofs.Slices.{Less, Done}
use Rattle.search.proofs.count.count_down.Given as goal

abbrev pub invariant-loop-i : goal.invariant-loop-i
invariant-loop-i l = Done (Less l.tables.rows l.c l.level.at l.initial.table) l.level.at l.initial.table l.table l.i
