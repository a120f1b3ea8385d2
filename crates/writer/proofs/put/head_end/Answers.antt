-- `writer::put::head_end` meets its contract: four bytes where the mark is due, which is where something is lost.
-- Assumes nothing.
use Prim.Native.Nat.{◌≤◌}
use mathlib.Core.Path.{◌∙◌}
use mathlib.Core.Bool.{Bool, true, false}
use native.Mathlib.Omega.{arith}
use Rattle.std.specs.Int.{from_bool}
use Rattle.writer.proofs.Raw.{end_is}
use Rattle.writer.proofs.SheetBack.{mark_tells}
use Rattle.writer.proofs.put.head_end.Goals as goal

one_bit : (b : Bool) → from_bool b ≤ 1
one_bit true = omega arith
one_bit false = omega arith

pub returns : goal.returns
returns c =
    let l = c.loss_at.ensures in (
      end_is c.args.s.now (c.from-lost.ensures ∙ rw (c.mark_of.ensures.0, c.loss.ensures.0, mark_tells)) l.0,
      omega (arith, l.1, one_bit, c.from-lost.ensures),
    )
