-- `claims::ones` meets its contract. The language's count of a byte's ones is the number of its set bits.
-- Assumes nothing.
use borrow.Author.Rules.{rules}
use lib.Count.{ones-le}
use Rattle.claims.proofs.Count.{byte_ones}
use Rattle.claims.proofs.ones.Goals as goal

pub returns : goal.returns
returns c = (byte_ones c.args.byte (search rules), ones-le 8 c.args.byte (search rules))
