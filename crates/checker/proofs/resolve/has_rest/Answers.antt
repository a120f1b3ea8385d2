-- `checker::resolve::has_rest` meets its contract: what the joined marks tell while the pivot's literal has a mark of its own.
-- Assumes nothing.
use Rattle.std.proofs.Common.{◌+◌, ◌<◌, length, refl, arith}
use Rattle.judgement.specs.Literals.{count}
use Rattle.checker.specs.Marks.{mark_at, with_one}
use Rattle.checker.proofs.Marking.{stale_set}
use Rattle.checker.proofs.Resolution.{rest_told, marks_during, marks_back, joined_same}
use Rattle.checker.proofs.resolve.has_rest.Goals as goal

pub returns : goal.returns
returns c =
    let a = c.args in
    let p = a.list.part.now in
    let E = a.marks.now in
    let h : a.out < length E = omega (arith, c.requires.0.size, c.requires.2) in
    let stale = stale_set E (a.t + 2) a.out a.t c.requires.2 (omega arith) c.requires.0 in
    let k = c.join_all-all.ensures.joined a.t refl c.requires.3 (λ i. let less = stale.below i in omega (arith, less)) in
    let joined = joined_same p a.t _ (with_one a.out a.t (mark_at E)) (count p) (marks_during E a.out a.t h) k in record { same = (marks_back E a.out a.t h); rest = (rest_told p (mark_at E) a.out a.t (λ i. let less = c.requires.0.below i in omega (arith, less)) c.requires.1 joined) }
