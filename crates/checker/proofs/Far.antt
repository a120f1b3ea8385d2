-- Where the number of a variable that a step settles begins, by the side of its literal.
-- Assumes nothing.
use Rattle.std.proofs.Common.{◌≡◌, ℕ, ◌%◌, arith, eq-eqb, ne_eqb}
use Rattle.std.specs.Prelude.{pos, neg_ℤ}
use Rattle.checker.specs.Weighing.{far, far_of}

pub far_above : (c : ℕ) → c % 2 ≡ 0 → far_of c ≡ pos far
far_above c e = rw (eq-eqb (c % 2) 0 e)

pub far_below : (c : ℕ) → c % 2 ≡ 1 → far_of c ≡ neg_ℤ (pos far)
far_below c e = rw (ne_eqb (c % 2) 0 (λ z. omega (arith, e, z)))
