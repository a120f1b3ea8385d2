-- `trimmer::put::Numbering::put_body` meets its contract: another kind is copied, and of kind 4 both numbers are found before
-- anything is written.
-- Assumes nothing.
use native.Mathlib.Omega.{arith}
use Rattle.judgement.specs.Scan.{count_of}
use Rattle.trimmer.specs.Work.{marked}
use Rattle.trimmer.proofs.Marking.{is_four}
use Rattle.trimmer.proofs.Parts.{body_other, body_citing}
use Rattle.trimmer.proofs.put.Numbering.put_body.Goals as goal

pub returns-then-b-ne4 : goal.returns-then-b-ne4
returns-then-b-ne4 c =
    let a = c.args in
    body_other (count_of (marked a.self.now.selection.marks.now)) a.b.now a.out.now _ c.requires.1 (λ q. omega (arith, q)) c.put_bytes.ensures

pub cited_at-requires : goal.cited_at-requires
cited_at-requires c = (c.requires.0.whole (is_four c.args.b.now (omega arith)), omega arith)

pub new_number-x-requires : goal.new_number-x-requires
new_number-x-requires c =
    let w = c.requires.0.first (is_four c.args.b.now (omega arith)) in
    (omega (arith, w.0), omega (arith, w.1))

pub cited_at-requires-2 : goal.cited_at-requires-2
cited_at-requires-2 c = (c.requires.0.whole (is_four c.args.b.now (omega arith)), omega arith)

pub new_number-y-requires : goal.new_number-y-requires
new_number-y-requires c =
    let w = c.requires.0.second (is_four c.args.b.now (omega arith)) in
    (omega (arith, w.0), omega (arith, w.1))

pub put_citing-requires : goal.put_citing-requires
put_citing-requires c = (c.requires.0.whole (is_four c.args.b.now (omega arith)), c.requires.1)

pub returns : goal.returns
returns c =
    let a = c.args in
    body_citing (count_of (marked a.self.now.selection.marks.now)) a.b.now a.out.now _ c.requires.1 (omega arith)
    c.cited_at.ensures.0 c.cited_at-2.ensures.0 c.new_number-x.ensures c.new_number-y.ensures c.put_citing.ensures
