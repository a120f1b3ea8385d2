-- `search::count::count_up` meets its contract.
-- Assumes nothing.
use mathlib.Core.Path.{refl}
use native.Mathlib.Omega.{arith}
use Rattle.search.proofs.Slices.{more_more}
use Rattle.search.proofs.count.count_up.Goals as goal

pub loop-i-preserved : goal.loop-i-preserved
loop-i-preserved c =
    let a = c.args in
    let l = c.loop-i in
    let few = a.tables.now.fine.clauses.clauses in
    let p = c.planes.ensures in
    more_more a.tables.now.rows a.table.now l.table c.put_planes.new.table a.c l.i _ _ _ _ _
    (omega (arith, few, c.words-i-end.ensures)) refl (p 0 (omega arith)) (p 1 (omega arith)) (p 2 (omega arith)) (p 3 (omega arith))
    c.put_planes.ensures l.invariant
