-- `checker::signed::rounded_up` meets its contract: the quotient of two numbers that are not negative rounds down, and d - 1 more
-- rounds up.
-- Assumes nothing.
use Rattle.std.proofs.Common.{◌≡◌, pos, ◌∙◌, arith}
use Rattle.std.proofs.lemmas.Int.{ints}
use Rattle.checker.proofs.Bits.{held, above_zero, above_is, above_size, quotient_natural, quotient_fits, rounded_read, rounded_below}
use Rattle.checker.proofs.signed.rounded_up.Goals as goal

pub overflow_cast-result : goal.overflow_cast-result
overflow_cast-result c =
    let a = c.args in
    let p = c.requires in
    let most : c.max.result ≡ pos (above_zero a.total) = rw (held a.total c.ranges.total.sfits) at c.max.ensures.value ∙ above_is a.total in
    let size = above_size a.total in
    search (arith, ints, quotient_natural, quotient_fits, most, size, p.0, p.2)

pub returns : goal.returns
returns c =
    let a = c.args in
    let p = c.requires in
    let most : c.max.result ≡ pos (above_zero a.total) = rw (held a.total c.ranges.total.sfits) at c.max.ensures.value ∙ above_is a.total in
    let size = above_size a.total in
    search (arith, ints, rounded_read a.total a.d, rounded_below a.total a.d, most, size, p.0, p.1, p.2)
