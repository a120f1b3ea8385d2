-- `search::choose::next_variable` meets its contract.
-- Assumes nothing.
use native.Mathlib.Omega.{arith}
use lib.Bits.{or_lt}
use Rattle.search.proofs.Choosing.{next_none, next_some}
use Rattle.search.proofs.choose.next_variable.Goals as goal

pub returns-then-n-v-clause-none : goal.returns-then-n-v-clause-none
returns-then-n-v-clause-none c =
    λ e.
    let a = c.args in
    next_none a.n a.p c.requires (or_lt 64 a.p.trues a.p.falses (omega arith) (omega arith)) c.if-n-v.true

pub returns-clause-some : goal.returns-clause-some
returns-clause-some c =
    λ v e.
    let a = c.args in
    next_some a.n a.p c.requires (or_lt 64 a.p.trues a.p.falses (omega arith) (omega arith)) c.if-n-v.false v cc
