-- `layout::whole` meets its contract.
-- Assumes nothing.
use mathlib.Core.Path.{◌≡◌, ◌∙◌}
use native.Mathlib.Nat.{add-sub_cancel_left}
use native.Mathlib.Omega.{arith}
use Rattle.judgement.specs.Number.{number_at}
use Rattle.judgement.proofs.Laws.Stored.{number_below}
use Rattle.layout.proofs.Number.{part_number}
use Rattle.layout.proofs.whole.Given.{Over}
use Rattle.layout.proofs.whole.Goals as goal

value : (g : Over) (c : goal.After-from_le_bytes g) → c.from_le_bytes.result ≡ number_at c.args.s.now c.args.at g.row.W
value g c =
    rw c.from_le_bytes.ensures
    (part_number c.args.s.now c.copy_from_slice.new.self c.args.at g.row.W g.row.W (omega arith) (c.copy_from_slice.ensures.after ∙ rw add-sub_cancel_left))

pub returns-clause-value : goal.returns-clause-value
returns-clause-value g c = value g c

pub returns-clause-fits : goal.returns-clause-fits
returns-clause-fits g c = rw (value g c) (number_below g.row.W c.args.s.now (λ i. (c.type_inv.s i).fits) c.args.at)
