-- `checker::signed::natural` meets its contract.
-- Assumes nothing.
use Rattle.checker.proofs.Bits.{natural}
use Rattle.checker.proofs.signed.natural.Goals as goal

pub returns : goal.returns
returns c = natural c.args.x c.requires
