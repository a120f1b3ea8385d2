-- `writer::read::Clauses::clause` meets its contract: its pair, which is in the file, names the body.
-- Assumes nothing.
use native.Mathlib.Nat.{add-sub_cancel_left}
use native.Mathlib.Omega.{arith}
use Rattle.judgement.specs.Pairs.{body}
use Rattle.writer.proofs.Keys.{body_end}
use Rattle.writer.proofs.read.Clauses.clause.Goals as goal

pub slice_bounds-result-end : goal.slice_bounds-result-end
slice_bounds-result-end c =
    let s = c.args.self.now in
    let e = body_end s.sheet.now s.table c.args.k s.known c.requires in
    omega arith

pub returns : goal.returns
unfolding body
returns c = rw (add-sub_cancel_left, c.u32_at-start.ensures, c.u32_at.ensures, c.args.self.now.known.pairs)
