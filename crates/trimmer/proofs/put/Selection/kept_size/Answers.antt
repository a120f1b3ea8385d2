-- `trimmer::put::Selection::kept_size` meets its contract: the pair has the body's length, which its new citations leave.
-- Assumes nothing.
use native.Mathlib.Omega.{arith}
use mathlib.Core.Path.{sym, ap}
use lib.ListN.{length}
use Rattle.trimmer.proofs.Steps.{own_step, kept_none, kept_length}
use Rattle.trimmer.proofs.Placed.{s, r, selected}
use Rattle.trimmer.proofs.put.Selection.kept_size.Goals as goal

pub body_size-size-requires : goal.body_size-size-requires
body_size-size-requires c =
    let x = c.args.self.now in
    own_step (s x.source) (r x.source) x.source.table x.marks.now (selected x) c.args.k c.requires

pub returns-then-self-k-ne1 : goal.returns-then-self-k-ne1
returns-then-self-k-ne1 c =
    let x = c.args.self.now in
    let e = ap length (kept_none (s x.source) (r x.source) x.source.table x.marks.now (selected x) c.args.k c.requires (λ q. omega (arith, q))) in
    (sym e, omega arith)

pub returns : goal.returns
returns c =
    let x = c.args.self.now in
    let l = kept_length (s x.source) (r x.source) x.source.table x.marks.now (selected x) c.args.k c.requires (omega arith) in
    (omega (arith, l), c.body_size-size.ensures.1)
