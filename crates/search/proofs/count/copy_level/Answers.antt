-- `search::count::copy_level` meets its contract.
-- Assumes nothing.
use native.Mathlib.Omega.{arith}
use Rattle.search.proofs.Slices.{same_more}
use Rattle.search.proofs.count.copy_level.Goals as goal

pub loop-i-preserved : goal.loop-i-preserved
loop-i-preserved c =
    let a = c.args in
    let l = c.loop-i in
    let few = a.tables.now.fine.clauses.clauses in
    let p = c.planes-words.ensures in
    same_more a.table.now l.table c.put_planes.new.table a.level.at l.i _ _ _ _ _ (omega (arith, few, c.words-i-end.ensures))
    (p 0 (omega arith)) (p 1 (omega arith)) (p 2 (omega arith)) (p 3 (omega arith)) (rw c.next.ensures at c.put_planes.ensures) l.invariant
