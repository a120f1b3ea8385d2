-- `trimmer::marks::pass_on` meets its contract: without a mark nothing changes, and with one what the step cites.
-- Assumes nothing.
use native.Mathlib.Omega.{arith}
use lib.ListN.{length}
use Rattle.judgement.specs.Record.{step}
use Rattle.trimmer.proofs.Marking.{pass_unmarked, pass_marked}
use Rattle.trimmer.proofs.Steps.{citing_of}
use Rattle.trimmer.proofs.Placed.{passed}
use Rattle.trimmer.proofs.marks.pass_on.Goals as goal

pub returns-then-marks-k-ne1 : goal.returns-then-marks-k-ne1
returns-then-marks-k-ne1 c =
    let x = c.args.source.now in
    pass_unmarked (step x.sheet.now x.«record».now c.args.k) c.args.k c.args.marks.now (λ q. omega (arith, q))

pub mark_cited-requires : goal.mark_cited-requires
mark_cited-requires c =
    let x = c.args.source.now in
    citing_of x.sheet.now x.«record».now x.table (passed x) c.args.k c.requires.0 (length c.args.marks.now) (omega arith) c.body.ensures

pub returns : goal.returns
returns c =
    let x = c.args.source.now in
    pass_marked (step x.sheet.now x.«record».now c.args.k) _ c.args.k c.args.marks.now _ (omega arith) c.body.ensures c.mark_cited.ensures
