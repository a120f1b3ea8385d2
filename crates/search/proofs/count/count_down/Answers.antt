-- `search::count::count_down` meets its contract.
-- Assumes nothing.
use mathlib.Core.Path.{refl}
use native.Mathlib.Omega.{arith}
use Rattle.search.specs.Counts.{words_for}
use Rattle.search.proofs.Slices.{less_more, less_all}
use Rattle.search.proofs.count.count_down.Goals as goal

pub loop-i-preserved : goal.loop-i-preserved
loop-i-preserved c =
    let a = c.args in
    let l = c.loop-i in
    let few = a.tables.now.fine.clauses.clauses in
    let p = c.planes.ensures in
    less_more a.tables.now.rows a.table.now l.table c.put_planes.new.table a.c a.level.at l.i _ _ _ _ _ (omega arith) a.level.inside
    (omega (arith, few, c.words-i-end.ensures)) refl (p 0 (omega arith)) (p 1 (omega arith)) (p 2 (omega arith)) (p 3 (omega arith))
    c.put_planes.ensures l.invariant

pub returns : goal.returns
returns c =
    let a = c.args in
    let t = a.tables.now in
    let l = c.loop-i in
    let few = t.fine.clauses.clauses in
    less_all t.rows a.table.now l.table a.c a.level.at (words_for t.size.clauses) l.i (omega (arith, few)) (omega (arith, c.words-i-end.ensures)) (omega (arith, c.words-i-end.ensures)) l.invariant
