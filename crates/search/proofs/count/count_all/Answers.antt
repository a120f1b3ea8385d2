-- `search::count::count_all` meets its contract.
-- Assumes nothing.
use Rattle.search.specs.Counts.{words_for}
use Rattle.search.proofs.Slices.{counted_none, counted_more}
use Rattle.search.proofs.count.count_all.Goals as goal

pub loop-c-init : goal.loop-c-init
loop-c-init c =
    let a = c.args in
    let t = a.tables.now in
    counted_none t.rows a.table.now (words_for t.size.clauses) c.requires

pub loop-c-preserved : goal.loop-c-preserved
loop-c-preserved c =
    let t = c.args.tables.now in
    let l = c.loop-c in
    let f = c.count_up in
    counted_more t.rows l.table f.new.table (words_for t.size.clauses) l.c l.invariant f.ensures
