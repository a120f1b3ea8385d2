-- `checker::read::body_at` meets its contract: the two halves of the pair, which is in the file, name the body.
-- Assumes nothing.
use Rattle.std.proofs.Common.{◌+◌, ◌-◌, ◌*◌, arith}
use native.Mathlib.Nat.{add-sub_cancel_left}
use Rattle.judgement.specs.Pairs.{body}
use Rattle.judgement.specs.Demands.{IsBytes}
use Rattle.layout.proofs.Pairs.{pair_halves}
use Rattle.checker.proofs.read.body_at.Goals as goal

pub slice_bounds-result-end : goal.slice_bounds-result-end
slice_bounds-result-end c =
    let a = c.args in
    let bytes : IsBytes a.file.now = λ i. (c.type_inv.file i).fits in
    let h = pair_halves a.file.now (a.at + 8 * (a.k - 1)) bytes c.u64_at-pair.ensures in
    omega (arith, h.0, h.1, c.requires.body)

pub returns : goal.returns
unfolding body
returns c =
    let a = c.args in
    let bytes : IsBytes a.file.now = λ i. (c.type_inv.file i).fits in
    let h = pair_halves a.file.now (a.at + 8 * (a.k - 1)) bytes c.u64_at-pair.ensures in
    rw (add-sub_cancel_left, h.0, h.1)
