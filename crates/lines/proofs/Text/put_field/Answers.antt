-- The digits that are put after the word are the number's decimal.
-- Assumes nothing.
use Rattle.std.proofs.Common.{arith}
use Rattle.lines.proofs.Decimal.{fewest_decimal}
use Rattle.lines.proofs.Text.put_field.Goals as goal

pub returns-clause-bytes : goal.returns-clause-bytes
returns-clause-bytes c =
    let d = c.decimal-k in
    let f = fewest_decimal d.result c.args.n (omega arith) d.ensures.len in
    let e = d.ensures.digits in
    cc
