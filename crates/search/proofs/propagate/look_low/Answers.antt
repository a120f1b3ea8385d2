-- `search::propagate::look_low` meets its contract.
-- Assumes nothing.
use Prim.Native.Nat.{◌+◌}
use mathlib.Core.Logic.{inl, inr}
use native.Mathlib.Omega.{arith}
use Rattle.std.specs.Prelude.{Some}
use Rattle.search.proofs.Walking.{LowUpTo, low_inside, low_begins, low_goes_on, low_skips, low_ends}
use Rattle.search.proofs.propagate.look_low.Goals as goal

pub loop-i-init : goal.loop-i-init
loop-i-init c =
    let a = c.args in
    let n = c.next_word-i in
    record {
      inside = n.ensures.1;
      looked = low_skips a.tables.now a.table.now a.level.at a.w a.w 0 n.result n.ensures.2 (low_begins a.tables.now a.table.now a.level.at a.w);
    }

pub look_word-requires : goal.look_word-requires
look_word-requires c =
    let a = c.args in
    let few = a.tables.now.fine.clauses.clauses in
    (omega (arith, few, c.words-words.ensures), low_inside a.table.now a.level.at c.loop-i.i a.tables.now.size.clauses c.requires (omega (arith, c.words-words.ensures)))

pub returns-in_err-out-clause-keeps : goal.returns-in_err-out-clause-keeps
returns-in_err-out-clause-keeps c =
    let a = c.args in
    let l = c.loop-i in
    let f = c.look_word in
    let e = low_ends a.tables.now a.table.now a.level.at a.w f.result (l.i + 1) (inl c.in_err-out.was)
    (low_goes_on a.tables.now a.table.now a.level.at a.w l.out f.result l.i f.ensures.onto f.ensures.keeps l.invariant.looked) in
    rw (c.from_residual.ensures, ← c.in_err-out.was) e.1

pub loop-i-smaller : goal.loop-i-smaller
loop-i-smaller c = let n = c.next_word-i-in-loop-i.ensures in omega (arith, n.0, n.1)

pub loop-i-preserved : goal.loop-i-preserved
loop-i-preserved c =
    let a = c.args in
    let l = c.loop-i in
    let f = c.look_word in
    let n = c.next_word-i-in-loop-i in
    let on : LowUpTo a.tables.now a.table.now a.level.at a.w (l.i + 1) (Some c.in_ok-out.out) = rw (← c.in_ok-out.was) (low_goes_on a.tables.now a.table.now a.level.at a.w l.out f.result l.i f.ensures.onto f.ensures.keeps l.invariant.looked) in
    record { inside = n.ensures.1; looked = low_skips a.tables.now a.table.now a.level.at a.w c.in_ok-out.out (l.i + 1) n.result n.ensures.2 on }

pub returns-clause-keeps : goal.returns-clause-keeps
returns-clause-keeps c =
    let a = c.args in
    let l = c.loop-i in
    (low_ends a.tables.now a.table.now a.level.at a.w _ l.i (inr (omega (arith, c.words-words.ensures))) l.invariant.looked).1
