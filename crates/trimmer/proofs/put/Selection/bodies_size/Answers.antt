use mathlib.Core.Path.{sym, ap}
use native.Mathlib.Omega.{arith}
use lib.ListN.{length}
use Rattle.trimmer.proofs.Steps.{bodies_none}
use Rattle.trimmer.proofs.Loops.{bodies_by}
use Rattle.trimmer.proofs.Whole.{sizes}
use Rattle.trimmer.proofs.Placed.{s, r}
use Rattle.trimmer.proofs.put.Selection.bodies_size.Goals as goal

pub loop-k-init : goal.loop-k-init
loop-k-init c =
    let x = c.args.self.now in
    let z = ap length (bodies_none (s x.source) (r x.source)) in
    (sym z, omega arith)

pub overflow_add-n : goal.overflow_add-n
overflow_add-n c = let z = sizes c.args.self.now in omega arith

pub loop-k-preserved : goal.loop-k-preserved
loop-k-preserved c =
    let x = c.args.self.now in
    let z = bodies_by (s x.source) (r x.source) c.loop-k.k in
    (omega (arith, c.kept_size-n.ensures.0), omega arith)
