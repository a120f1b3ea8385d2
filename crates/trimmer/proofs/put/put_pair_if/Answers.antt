-- `trimmer::put::put_pair_if` meets its contract: nothing without a mark, else a pair.
-- Assumes nothing.
use native.Mathlib.Omega.{arith}
use Rattle.trimmer.proofs.Parts.{pair_unmarked, pair_put}
use Rattle.trimmer.proofs.put.put_pair_if.Goals as goal

pub returns-then-mark-ne1 : goal.returns-then-mark-ne1
returns-then-mark-ne1 c =
    let a = c.args in
    rw (pair_unmarked a.mark a.offset a.size (λ q. omega (arith, q)))

pub returns : goal.returns
returns c =
    let a = c.args in
    pair_put a.mark a.offset a.size a.out.now _ (omega arith) c.requires c.put_pair.ensures
