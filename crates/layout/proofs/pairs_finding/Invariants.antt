-- `layout::pairs_finding` meets its contract. The invariant: k pairs are fine, and `next` is where body k + 1 has to
-- begin.
-- Assumes nothing.
use Prim.Native.Nat.{◌+◌}
use mathlib.Core.Path.{◌≡◌}
use Rattle.std.specs.Prelude.{Ok}
use Rattle.judgement.specs.Finding.{over_all}
use Rattle.judgement.specs.Pairs.{body_start, pair_finding}
use Rattle.layout.proofs.pairs_finding.Given as goal

abbrev pub invariant-loop-k : goal.invariant-loop-k
invariant-loop-k l =
    (l.next ≡ body_start l.s l.at l.count (l.k + 1)) × (over_all (pair_finding l.number l.s l.at l.count) l.k ≡ Ok tt)
