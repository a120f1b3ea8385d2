-- `checker::read::number_at` meets its contract: the bytes that are copied are those that stand in the file.
-- Assumes nothing.
use Rattle.std.proofs.Common.{◌≡◌, ◌∙◌, arith}
use native.Mathlib.Nat.{add-sub_cancel_left}
use Rattle.judgement.specs.Number.{number_at}
use Rattle.judgement.proofs.Laws.Stored.{number_below}
use Rattle.layout.proofs.Number.{part_number}
use Rattle.checker.proofs.read.number_at.Given.{Over}
use Rattle.checker.proofs.read.number_at.Goals as goal

value : (g : Over) (c : goal.After-from_le_bytes g) → c.from_le_bytes.result ≡ number_at c.args.part.now c.args.at g.row.W
value g c =
    rw c.from_le_bytes.ensures
    (part_number c.args.part.now _ c.args.at g.row.W _ (omega arith) (c.copy_from_slice.ensures.after ∙ rw add-sub_cancel_left))

pub returns-clause-value : goal.returns-clause-value
returns-clause-value g c = value g c

pub returns-clause-fits : goal.returns-clause-fits
returns-clause-fits g c = rw (value g c) (number_below g.row.W c.args.part.now (λ i. (c.type_inv.part i).fits) c.args.at)
