-- `checker::copy::is_copy` meets its contract. A test that fails is one of a step that passes, and after the last one there is only
-- left whether the clause is copied.
-- Assumes nothing.
use Rattle.std.proofs.Common.{◌≡◌, take_all, sym, ◌∙◌, arith}
use Rattle.judgement.proofs.Laws.Scan.{clash, false_i}
use Rattle.judgement.specs.Meaning.{none}
use Rattle.judgement.specs.Sheet.{clauses, clause_pairs_at}
use Rattle.judgement.specs.Step.{cited_clause}
use Rattle.judgement.specs.Demands.{IsBytes}
use Rattle.checker.proofs.Body.{pair_within}
use Rattle.checker.proofs.Copying.{copied_start, passing_length, passing_size, passing_byte, passing_cited, whole_tail, cited_among, copies_is}
use Rattle.layout.proofs.Number.{number_byte}
use Rattle.checker.proofs.copy.is_copy.Goals as goal

pub returns-then-b-lt12 : goal.returns-then-b-lt12
returns-then-b-lt12 c =
    let a = c.args in
    sym (false_i _ (λ p. omega (arith, passing_size a.s.now a.b.now p, c.if-b-lt12.true)))

pub returns-then-b-u16_at : goal.returns-then-b-u16_at
returns-then-b-u16_at c =
    let a = c.args in
    sym (false_i _ (λ p. c.if-b-u16_at.true (rw c.u16_at.ensures.0 (passing_size a.s.now a.b.now p))))

pub returns-then-b-ne0 : goal.returns-then-b-ne0
returns-then-b-ne0 c =
    let a = c.args in
    sym (false_i _ (λ p. c.if-b-ne0.true (sym (number_byte a.b.now 1) ∙ passing_byte a.s.now a.b.now p)))

pub cited-number-requires : goal.cited-number-requires
cited-number-requires c =
    let b = c.args.b.now in
    let size = rw c.u16_at.ensures.0 at c.if-b-u16_at.false in
    (omega arith, omega (arith, whole_tail b size))

pub returns-then-not-is_clause : goal.returns-then-not-is_clause
returns-then-not-is_clause c =
    let a = c.args in
    let r = c.is_clause.ensures in
    let e = c.cited-number.ensures in
    sym (false_i _ (λ p. clash (r ∙ rw e (passing_cited a.s.now a.b.now p)) c.if-not-is_clause.true))

pub body_at-clause-requires : goal.body_at-clause-requires
body_at-clause-requires c =
    let s = c.args.s.now in
    let b = c.args.b.now in
    let valid = c.requires in
    let cites = rw c.cited-number.ensures at (sym c.is_clause.ensures ∙ c.if-not-is_clause.false) in
    rw (c.cited-number.ensures, c.clause_pairs_at.ensures.0)
    (pair_within s (clause_pairs_at s) (clauses s) valid.room valid.pairs _ (cited_among s b valid cites))

pub returns-then-clause-literals : goal.returns-then-clause-literals
returns-then-clause-literals c =
    let s = c.args.s.now in
    let b = c.args.b.now in
    let size = rw c.u16_at.ensures.0 at c.if-b-u16_at.false in
    let cites = rw c.cited-number.ensures at (sym c.is_clause.ensures ∙ c.if-not-is_clause.false) in
    let clause : c.body_at-clause.result.now ≡ cited_clause s b 1 = rw (← c.cited-number.ensures, ← c.clause_pairs_at.ensures.0) c.body_at-clause.ensures in
    let list = c.requires.lists _ (cited_among s b c.requires cites) in
    let differ = rw (clause, c.literals-literals.ensures) at c.if-clause-literals.true in
    sym (false_i _ (λ p. differ (passing_length s b (omega (arith, size)) list p)))

pub returns : goal.returns
unfolding none
returns c =
    let s = c.args.s.now in
    let b = c.args.b.now in
    let bytes : IsBytes s = λ i. (c.type_inv.s i).fits in
    let others : IsBytes b = λ i. (c.type_inv.b i).fits in
    let size = rw c.u16_at.ensures.0 at c.if-b-u16_at.false in
    let cites = rw c.cited-number.ensures at (sym c.is_clause.ensures ∙ c.if-not-is_clause.false) in
    let clause : c.body_at-clause.result.now ≡ cited_clause s b 1 = rw (← c.cited-number.ensures, ← c.clause_pairs_at.ensures.0) c.body_at-clause.ensures in
    let list = c.requires.lists _ (cited_among s b c.requires cites) in
    let long = rw (clause, c.literals-literals.ensures) at c.if-clause-literals.false in
    -- what is compared is all of the literals, whichever way it is cut from them
    let same = copied_start s b bytes others (omega (arith, size)) list long _ (rw clause at c.starts_with.ensures.value) (search (arith, take_all, c.literals-literals.ensures)) in
    rw c.bound.ensures (same ∙ copies_is s b c.requires cites size (number_byte b 1 ∙ c.if-b-ne0.false))
