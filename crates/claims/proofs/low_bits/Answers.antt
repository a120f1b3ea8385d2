-- `claims::low_bits` meets its contract. The mask is one below a power of 2, and masking keeps the remainder.
-- Assumes nothing.
use lib.Bits.{and_mask}
use borrow.Author.Rules.{rules}
use Rattle.claims.proofs.Bit.{one_shifted}
use Rattle.claims.proofs.low_bits.Goals as goal

pub returns : goal.returns
returns c = rw (one_shifted c.args.k (search rules)) (and_mask c.args.byte c.args.k)
