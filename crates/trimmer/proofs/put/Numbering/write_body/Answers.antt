-- `trimmer::put::Numbering::write_body` meets its contract: nothing without a mark, else the body as the definition has it.
-- Assumes nothing.
use native.Mathlib.Omega.{arith}
use mathlib.Core.Path.{ap}
use lib.ListN.{length}
use Rattle.trimmer.proofs.Steps.{citing_of, own_step, kept_none, kept_length, kept_renumbered}
use Rattle.trimmer.proofs.Placed.{s, r, selected}
use Rattle.trimmer.proofs.put.Numbering.write_body.Goals as goal

pub returns-then-self-k-ne1 : goal.returns-then-self-k-ne1
returns-then-self-k-ne1 c =
    let x = c.args.self.now.selection in
    let e = kept_none (s x.source) (r x.source) x.source.table x.marks.now (selected x) c.args.k c.requires.0 (λ q. omega (arith, q)) in
    (rw e, rw e)

pub body-b-requires : goal.body-b-requires
body-b-requires c =
    let x = c.args.self.now.selection in
    own_step (s x.source) (r x.source) x.source.table x.marks.now (selected x) c.args.k c.requires.0

pub put_body-requires : goal.put_body-requires
put_body-requires c =
    let x = c.args.self.now.selection in
    let m = selected x in
    let o = own_step (s x.source) (r x.source) x.source.table x.marks.now m c.args.k c.requires.0 in
    let e = ap length c.body-b.ensures in
    let l = kept_length (s x.source) (r x.source) x.source.table x.marks.now m c.args.k c.requires.0 (omega arith) in
    (citing_of (s x.source) (r x.source) x.source.table m.passed c.args.k o (length x.marks.now) c.requires.0.1 c.body-b.ensures, omega (arith, e, l))

pub returns : goal.returns
returns c =
    let x = c.args.self.now.selection in
    let m = selected x in
    let e = ap length c.body-b.ensures in
    let l = kept_length (s x.source) (r x.source) x.source.table x.marks.now m c.args.k c.requires.0 (omega arith) in
    let n = kept_renumbered (s x.source) (r x.source) x.source.table x.marks.now m c.args.k c.requires.0 (omega arith) c.body-b.ensures in
    (omega (arith, e, l), rw n at c.put_body.ensures)
