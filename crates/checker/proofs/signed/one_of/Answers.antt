-- `checker::signed::one_of` meets its contract.
-- Assumes nothing.
use Rattle.std.proofs.Common.{◌≡◌, ℕ, zero, suc, ◌<◌, cond, eqb, [], ◌∷◌, get_or, ℤ, pos, arith}
use Rattle.checker.proofs.Bits.{Held, again, held}
use Rattle.checker.proofs.signed.one_of.Goals as goal

-- the element of an array of two, as the machine reads it back
element : (x y : ℤ) → Held x → Held y → (i : ℕ) → i < 2 → again (get_or (again x ∷ again y ∷ []) i (pos 0)) ≡ cond (eqb i 0) x y
element x y hx hy zero l = rw (held x hx, held x hx)
element x y hx hy (suc zero) l = rw (held y hy, held y hy)
element x y hx hy (suc (suc i)) l = absurd (omega (arith, l))

pub returns : goal.returns
returns c = element c.args.x c.args.y c.ranges.x.sfits c.ranges.y.sfits c.args.i c.requires
