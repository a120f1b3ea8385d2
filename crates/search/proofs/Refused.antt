-- When a sheet is refused, and with what.
-- Assumes nothing.
use Prim.Native.Nat.{ℕ, ◌≤◌, ◌<◌}
use mathlib.Core.Path.{◌≡◌, refl, sym, ap, ◌∙◌}
use mathlib.Core.Bool.{true≢false}
use mathlib.Core.List.{List}
use native.Mathlib.Omega.{arith}
use native.Mathlib.Decide.{dec_lt}
use lib.Dec.{leb}
use borrow.Author.Tests.{le-leb, lt-leb}
use Rattle.std.specs.Prelude.{Ok, Err}
use Rattle.judgement.specs.Finding.{Finding, fault, is_fine, need, ◌then◌}
use Rattle.judgement.specs.Sheet.{variables, alone_finding}
use Rattle.judgement.specs.Facts.{ValidSheet}
use Rattle.judgement.proofs.Facts.Layouts.{alone_valid, valid_alone, alone_number}
use Rattle.search.specs.Promises.{RefusedWhen}
use Rattle.search.specs.Answer.{most_searched, too_many, search_finding, refused, answer_after, found}

pub refused_when : (s : List ℕ) (budget : ℕ) → RefusedWhen s (found s budget)
unfolding found search_finding too_many
refused_when s budget = go (alone_finding s) refl (dec_lt most_searched (variables s))
  where
    unfit : (N P : ℕ) → alone_finding s ≡ fault N P → RefusedWhen s (refused N P)
    unfit N P e =
        let n = alone_number s N P e in
        let not_valid : ValidSheet s → ⊥ = λ v. true≢false (sym (valid_alone s v) ∙ ap is_fine e) in
        record {
          searched = (λ z. absurd (omega (arith, n.0, z)), λ (v, l). absurd (not_valid v));
          too_many = (λ z. absurd (omega (arith, n.1, z)), λ (v, l). absurd (not_valid v));
          unfit = (λ z. not_valid, λ z. n);
          place = λ v. absurd (not_valid v);
        }

    go : (f : Finding) → alone_finding s ≡ f → Dec (most_searched < variables s)
        → RefusedWhen s (answer_after s budget (f then need (leb (variables s) most_searched) 26 0))
    go (Ok _) e (yes l) =
        let v = alone_valid s (ap is_fine e) in
        rw (lt-leb (variables s) most_searched l) (record {
          searched = (λ z. absurd (omega (arith, z)), λ (x, h). absurd (omega (arith, l, h)));
          too_many = (λ z. (v, l), λ z. refl);
          unfit = (λ z. absurd (omega (arith, z.1)), λ z. absurd (z v));
          place = λ z. refl;
        })
    go (Ok _) e (no l) =
        let v = alone_valid s (ap is_fine e) in
        let h : variables s ≤ most_searched = omega (arith, l) in
        rw (le-leb (variables s) most_searched h) (record {
          searched = (λ z. (v, h), λ z. refl);
          too_many = (λ z. absurd (omega (arith, z)), λ (x, m). absurd (omega (arith, h, m)));
          unfit = (λ z. absurd (omega (arith, z.0)), λ z. absurd (z v));
          place = λ z. refl;
        })
    go (Err x) e d = unfit x.number x.place e
