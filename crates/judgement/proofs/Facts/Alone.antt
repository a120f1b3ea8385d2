-- A sheet taken alone is refused as the judge refuses it beside a record.
-- Assumes nothing.
use Prim.Native.Nat.{ℕ, ◌≤◌}
use mathlib.Core.Path.{◌≡◌, ap}
use mathlib.Core.Bool.{Bool, true, false, ◌&&◌}
use mathlib.Core.List.{List}
use lib.ListN.{length}
use lib.Dec.{leb}
use borrow.Author.Tests.{le-leb}
use Rattle.std.specs.Prelude.{Ok, Err}
use Rattle.judgement.specs.Finding.{Finding, fault, need, ◌then◌}
use Rattle.judgement.specs.Sheet.{most_bytes, sheet_finding, alone_finding}
use Rattle.judgement.specs.Judgement.{oversize, finding, answer_of, judgement}
use Rattle.judgement.proofs.Laws.Findings.{not_fine, number_told, place_told}

-- beside a record within the limit of 1 the judge tells the same
pub judge_alone : (s q : List ℕ) (N P : ℕ) → length q ≤ most_bytes → alone_finding s ≡ fault N P
    → ((judgement s q).number ≡ N) × ((judgement s q).place ≡ P)
unfolding judgement finding oversize alone_finding
judge_alone s q N P h e = rw (le-leb (length q) most_bytes h) (go (leb (length s) most_bytes) (sheet_finding s) _ e)
  where
    go : (b : Bool) (f g : Finding) → need b 1 0 then f ≡ fault N P
        → ((answer_of s q (need (b && true) 1 0 then f then g)).number ≡ N) × ((answer_of s q (need (b && true) 1 0 then f then g)).place ≡ P)
    go true (Ok _) g e = absurd (not_fine e)
    go true (Err x) g e = (ap number_told e, ap place_told e)
    go false f g e = (ap number_told e, ap place_told e)
