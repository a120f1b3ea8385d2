-- `search::propagate::force_all` meets its contract.
-- Assumes nothing.
use Prim.Native.Nat.{ℕ, ◌^◌, ◌≤◌, ◌<◌}
use mathlib.Core.Path.{◌≡◌, sym, ap, ◌∙◌}
use mathlib.Core.Logic.{inl}
use native.Mathlib.Omega.{arith}
use Rattle.std.specs.Prelude.{Some}
use Rattle.search.specs.declared.Node.{Node}
use Rattle.search.specs.declared.Settled.{Settled}
use Rattle.search.specs.Node.{has}
use Rattle.search.specs.Stated.{stated}
use Rattle.search.specs.Work.{node_of, counted, looked_at}
use Rattle.search.proofs.Sets.{has_empty}
use Rattle.search.proofs.Order.{under_self, under_trans}
use Rattle.search.proofs.Looking.{all_quiet, quiet_end}
use Rattle.search.proofs.Walking.{stated_bounded}
use Rattle.search.proofs.Pricing.{todo_wide, false_wide, load_falls, counted_same, counted_all, counted_ahead, cost_small, round_paid, left_outcome}
use Rattle.search.proofs.Round.{round_done}
use Rattle.search.proofs.Rounds.{outside_self, outside_trans, low_clauses, counts_settled}
use Rattle.search.proofs.propagate.force_all.Goals as goal

pub loop-out-init : goal.loop-out-init
loop-out-init c =
    let pre = c.requires in
    record {
      outside = outside_self c.args.level.at c.args.table.now;
      counts = pre.0;
      ready = pre.1;
      paid = pre.2;
      cheaper = pre.3;
      under = under_self (node_of c.args.w);
      reached = λ p x. x;
    }

pub overflow_add-paid : goal.overflow_add-paid
overflow_add-paid c =
    let t = c.args.tables.now in
    let l = c.loop-out in
    let small = cost_small t.size t.costs t.masks (counted l.out) t.fine.clauses.variables t.fine.prices in
    omega (arith, small, l.invariant.paid, c.share-paid.ensures.1)

pub returns-then-best-paid-clause-same : goal.returns-then-best-paid-clause-same
returns-then-best-paid-clause-same c =
    λ p x.
    let a = c.args in
    let l = c.loop-out in
    let s = c.share-paid in
    let P = stated a.tables.now in
    let paid = round_paid P l.out (omega arith) (omega arith) l.invariant.ready l.paid s.result l.invariant.paid s.ensures.0 in
    left_outcome P a.best p (counted_ahead P p (looked_at l.out) a.best (l.invariant.reached p x) (omega (arith, paid)))

pub look_low-requires : goal.look_low-requires
look_low-requires c =
    let a = c.args in
    let t = a.tables.now in
    let l = c.loop-out in
    let z = c.false_literal in
    low_clauses t.size t.masks t.rows z.result a.level.at l.table c.count_down.new.table t.fine.literals t.fine.clauses.clauses
    (false_wide l.out _ z.result (todo_wide l.out (omega arith) (omega arith)) z.ensures) c.count_down.ensures

pub returns-in_err-out-clause-same : goal.returns-in_err-out-clause-same
returns-in_err-out-clause-same c =
    λ p x.
    let a = c.args in
    let t = a.tables.now in
    let l = c.loop-out in
    let f = c.look_low in
    let round = round_done t l.out c.looked_at.result f.result (omega (arith, c.loop-out-test.true)) (omega arith) l.invariant.ready a.level.at l.table c.count_down.new.table
    l.invariant.counts (rw c.false_literal.ensures at c.count_down.ensures) c.looked_at.ensures f.ensures.onto (f.ensures.keeps t.costs) in
    rw c.from_residual.ensures (left_outcome (stated t) a.best p (inl (round.stops c.in_err-out.was p (l.invariant.reached p x))))

pub loop-out-smaller : goal.loop-out-smaller
loop-out-smaller c =
    let a = c.args in
    let t = a.tables.now in
    let l = c.loop-out in
    let f = c.look_low in
    let some : 1 ≤ l.out.todo = omega (arith, c.loop-out-test.true) in
    let word : l.out.todo < 2 ^ 64 = omega arith in
    let round = round_done t l.out c.looked_at.result f.result some word l.invariant.ready a.level.at l.table c.count_down.new.table
    l.invariant.counts (rw c.false_literal.ensures at c.count_down.ensures) c.looked_at.ensures f.ensures.onto (f.ensures.keeps t.costs) in
    load_falls l.out some word c.in_ok-out.out (round.onto c.in_ok-out.out c.in_ok-out.was)

pub loop-out-preserved : goal.loop-out-preserved
loop-out-preserved c =
    let a = c.args in
    let t = a.tables.now in
    let l = c.loop-out in
    let f = c.look_low in
    let s = c.share-paid in
    let some : 1 ≤ l.out.todo = omega (arith, c.loop-out-test.true) in
    let word : l.out.todo < 2 ^ 64 = omega arith in
    let table = c.count_down.new.table in
    let next = c.in_ok-out.out in
    let is = c.in_ok-out.was in
    let down = rw c.false_literal.ensures at c.count_down.ensures in
    let round = round_done t l.out c.looked_at.result f.result some word l.invariant.ready a.level.at l.table table l.invariant.counts down c.looked_at.ensures f.ensures.onto (f.ensures.keeps t.costs) in
    let paid = round_paid (stated t) l.out some word l.invariant.ready l.paid s.result l.invariant.paid s.ensures.0 in
    record {
      outside = outside_trans a.level.at a.table.now l.table table l.invariant.outside down.outside;
      counts = round.counts next is;
      ready = round.ready next is;
      paid = paid ∙ sym (counted_same (stated t) (looked_at l.out) next (round.onto next is));
      cheaper = omega (arith, c.if-best-paid.false);
      under = under_trans (node_of a.w) (node_of l.out) (node_of next) l.invariant.under (round.onto next is).under;
      reached = λ p x. round.reached next is p (l.invariant.reached p x);
    }

pub returns : goal.returns
returns c =
    let a = c.args in
    let l = c.loop-out in
    let P = stated a.tables.now in
    let bounded = stated_bounded a.tables.now in
    let done = c.loop-out-test.false in
    let quiet = all_quiet P bounded l.out l.invariant.ready (λ v. ap (λ (y : ℕ). has y v) done ∙ has_empty v) in
    let end = settled (node_of l.out) l.paid in
    record {
      outside = l.invariant.outside;
      counts = λ f e. rw (← end f e) (counts_settled P l.table a.level.at l.out done l.invariant.counts);
      under = λ f e. rw (← end f e) l.invariant.under;
      quiet = λ f e. rw (← end f e) (quiet, l.invariant.paid ∙ counted_all P l.out done, l.invariant.cheaper);
      same = λ p x. record { leaves = λ e. cc; stays = λ f e. rw (← end f e) (quiet_end P bounded p (node_of l.out) (l.invariant.reached p x) quiet) };
    }
  where
    settled : (q : Node) (price : ℕ) (f : Settled) → Some (record { node = q; price = price }) ≡ Some f → ◌≡◌ {A = Settled} (record { node = q; price = price }) f
    settled q price f e = cc
