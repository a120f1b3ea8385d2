-- `search::fill::fill_rows` meets its contract.
-- Assumes nothing.
use native.Mathlib.Omega.{arith}
use Rattle.search.proofs.Entering.{clause_list, rowed_none}
use Rattle.search.proofs.fill.fill_rows.Goals as goal

pub loop-k-init : goal.loop-k-init
loop-k-init c = let a = c.args in rowed_none a.s.now a.rows.now c.requires.0

pub enter-requires : goal.enter-requires
enter-requires c =
    let l = c.loop-k in
    let m = c.clause_count-m.ensures.0 in
    let few = c.requires.1.m in
    (clause_list c.args.s.now l.k c.requires.1 c.requires.2 (omega (arith, m)) c.clause_of.ensures.bytes, omega (arith, m, few))
