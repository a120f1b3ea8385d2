use Rattle.std.proofs.Common.{◌≡◌, arith}
use Rattle.judgement.specs.Literals.{count}
use Rattle.checker.proofs.Bits.{wrapped_fits, wrapped_back}
use Rattle.checker.proofs.Conditions.{looked_start, looked_more, looked_least, looked_none}
use Rattle.checker.proofs.independent.look_at.Goals as goal

pub loop-i-init : goal.loop-i-init
loop-i-init c = (c.requires.0, λ s D used bytes free list m. looked_start m)

pub loop-i-preserved : goal.loop-i-preserved
loop-i-preserved c =
    let l = c.loop-i in
    let met = c.meet-met in (
      met.ensures.stale,
      λ s D used bytes free list m.
          let so_far = l.invariant.1 s D used bytes free list m in
          rw c.min-least.ensures
          (looked_more so_far bytes free list c.requires.1 (omega arith) c.code_in_form-c.ensures.0 met.new.marks met.ensures.tells),
    )

pub returns-then-wrong-paid-clause-tells : goal.returns-then-wrong-paid-clause-tells
returns-then-wrong-paid-clause-tells c =
    let l = c.loop-i in
    let end : l.i ≡ count c.args.clause.now = omega arith in
    λ s D used bytes free list m.
    looked_least (l.invariant.1 s D used bytes free list m) bytes end (wrapped_fits _) (wrapped_back l.least 1 l.auto.least-fits.fits (omega arith))
    c.if-wrong-paid.true

pub returns-clause-tells : goal.returns-clause-tells
returns-clause-tells c =
    let l = c.loop-i in
    let end : l.i ≡ count c.args.clause.now = omega arith in
    λ s D used bytes free list m.
    looked_none (l.invariant.1 s D used bytes free list m) bytes end (wrapped_fits _) (wrapped_back l.least 1 l.auto.least-fits.fits (omega arith))
    c.if-wrong-paid.false
