-- `trimmer::marks::mark_cited` meets its contract: a body of another kind cites none. What is of kind 4 goes by the lemmas that the
-- function's attribute names.
-- Assumes nothing.
use native.Mathlib.Omega.{arith}
use Rattle.trimmer.proofs.Marking.{cited_none}
use Rattle.trimmer.proofs.marks.mark_cited.Goals as goal

pub returns-then-b-ne4 : goal.returns-then-b-ne4
returns-then-b-ne4 c = cited_none c.args.b.now c.args.marks.now (λ q. omega (arith, q))
