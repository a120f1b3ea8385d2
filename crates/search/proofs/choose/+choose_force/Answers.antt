-- `search::choose::{choose, force}` meet their contracts.
-- Assumes nothing.
use Prim.Native.Nat.{◌+◌, ◌-◌}
use mathlib.Core.Path.{refl, ◌∙◌}
use native.Mathlib.Omega.{arith}
use Rattle.judgement.specs.Meaning.{positive, negative}
use Rattle.search.specs.Node.{has}
use Rattle.search.specs.Search.{explore}
use Rattle.search.specs.Stated.{stated}
use Rattle.search.specs.Work.{node_of, at_node}
use Rattle.search.specs.Counts.{words_for, Below}
use Rattle.search.proofs.Nodes.{variable_positive, variable_negative}
use Rattle.search.proofs.Walking.{stated_bounded}
use Rattle.search.proofs.Pricing.{counted_ahead, cost_small}
use Rattle.search.proofs.Rounds.{below_trans, outside_below, counts_below, counts_copied}
use Rattle.search.proofs.Choosing.{child_ready, child_counts, child_room, child_price, child_falls, child_explored, room_below, chosen_plan, next_at, chosen_none, chosen_one, chosen_both, true_left, count_under, forced_left, forced_visit}
use Rattle.search.proofs.choose.+choose_force.Goals as goal

pub choose-returns-in_default-clause-visits : goal.choose-returns-in_default-clause-visits
choose-returns-in_default-clause-visits m c =
    λ deep l.
    let a = c.args in
    let t = a.tables.now in
    let pre = c.requires in
    c.improved.ensures
    ∙ chosen_plan (stated t) (stated_bounded t) a.p a.s pre.2 a.price pre.3 pre.4 (explore (stated t) deep) (c.next_variable.ensures.none c.in_default.is)

pub choose-returns-then-s-eq0-clause-visits : goal.choose-returns-then-s-eq0-clause-visits
choose-returns-then-s-eq0-clause-visits m c =
    λ deep l.
    let a = c.args in
    let t = a.tables.now in
    let pre = c.requires in
    let v = c.in-Some.v in
    let is = c.next_variable.ensures.some v c.in-Some.is in
    c.halted.ensures
    ∙ chosen_none (stated t) (stated_bounded t) a.p a.s pre.2 a.price pre.3 pre.4 (explore (stated t) deep) v is.0 is.1.0 c.if-s-eq0.true

pub choose-copy_level-requires : goal.choose-copy_level-requires
choose-copy_level-requires m c =
    let a = c.args in
    let t = a.tables.now in
    let v = c.in-Some.v in
    let is = c.next_variable.ensures.some v c.in-Some.is in
    room_below (stated t) a.p v (next_at t.size.variables a.p v is.0 is.1.0) a.level.at c.requires.0

pub choose-next-requires : goal.choose-next-requires
choose-next-requires m c =
    let a = c.args in
    let t = a.tables.now in
    let v = c.in-Some.v in
    let is = c.next_variable.ensures.some v c.in-Some.is in
    room_below (stated t) a.p v (next_at t.size.variables a.p v is.0 is.1.0) a.level.at c.requires.0

pub choose-overflow_mul-v : goal.choose-overflow_mul-v
choose-overflow_mul-v m c =
    let is = c.next_variable.ensures.some c.in-Some.v c.in-Some.is in
    let few = c.args.tables.now.fine.clauses.variables in
    omega (arith, is.1.1, few)

pub choose-overflow_add-v : goal.choose-overflow_add-v
choose-overflow_add-v m c =
    let is = c.next_variable.ensures.some c.in-Some.v c.in-Some.is in
    let few = c.args.tables.now.fine.clauses.variables in
    omega (arith, is.1.1, few)

pub choose-chosen-first-requires : goal.choose-chosen-first-requires
choose-chosen-first-requires m c =
    let is = c.next_variable.ensures.some c.in-Some.v c.in-Some.is in
    let few = c.args.tables.now.fine.clauses.variables in
    (omega (arith, is.1.0), omega (arith, is.1.1, few))

pub choose-force-t-requires : goal.choose-force-t-requires
choose-force-t-requires m c =
    let a = c.args in
    let t = a.tables.now in
    let P = stated t in
    let pre = c.requires in
    let v = c.in-Some.v in
    let is = c.next_variable.ensures.some v c.in-Some.is in
    let next = next_at t.size.variables a.p v is.0 is.1.0 in
    let d = c.copy_level in
    let counts = counts_copied P a.level.at (words_for t.size.clauses) a.table.now d.new.table (at_node a.p) refl d.ensures.same pre.1 in
    let w = c.chosen-first in (
      child_falls P a.p pre.2 v next (negative v) (variable_negative v) w.result w.ensures m c.decreases,
      (
        rw c.next.ensures (child_room P a.p pre.2 v next (negative v) (variable_negative v) w.result w.ensures a.level.at pre.0),
        rw c.next.ensures (child_counts P a.p pre.2 v next (negative v) (variable_negative v) w.result w.ensures d.new.table (a.level.at + 320) counts),
        child_ready P a.p pre.2 v next (negative v) (variable_negative v) w.result w.ensures,
        child_price P a.p pre.2 v next (negative v) (variable_negative v) w.result w.ensures a.price pre.3,
      ),
    )

pub choose-returns-then-t-eq0-clause-visits : goal.choose-returns-then-t-eq0-clause-visits
choose-returns-then-t-eq0-clause-visits m c =
    λ deep l.
    let a = c.args in
    let t = a.tables.now in
    let P = stated t in
    let pre = c.requires in
    let v = c.in-Some.v in
    let is = c.next_variable.ensures.some v c.in-Some.is in
    let next = next_at t.size.variables a.p v is.0 is.1.0 in
    let w = c.chosen-first in
    let f = c.force-t in
    let one = child_explored P a.p pre.2 v next (negative v) (variable_negative v) w.result w.ensures (stated_bounded t) a.s c.spent.result f.result c.spent.ensures f.ensures.explores deep l in
    c.halted-then-t-eq0.ensures
    ∙ chosen_one P (stated_bounded t) a.p a.s pre.2 a.price pre.3 pre.4 (explore P deep) v is.0 is.1.0 f.result c.if-s-eq0.false one c.if-t-eq0.true

pub choose-bounds-tables-v : goal.choose-bounds-tables-v
choose-bounds-tables-v m c =
    let is = c.next_variable.ensures.some c.in-Some.v c.in-Some.is in
    let few = c.args.tables.now.fine.clauses.variables in
    omega (arith, is.1.0, is.1.1, few)

pub choose-overflow_add-price : goal.choose-overflow_add-price
choose-overflow_add-price m c =
    let a = c.args in
    let t = a.tables.now in
    let each = t.fine.prices.each (c.in-Some.v - 1) in
    let price = cost_small t.size t.costs t.masks (has a.p.trues) t.fine.clauses.variables t.fine.prices in
    omega (arith, each, price, c.requires.3)

pub choose-returns-then-u-price-clause-visits : goal.choose-returns-then-u-price-clause-visits
choose-returns-then-u-price-clause-visits m c =
    λ deep l.
    let a = c.args in
    let t = a.tables.now in
    let P = stated t in
    let pre = c.requires in
    let v = c.in-Some.v in
    let is = c.next_variable.ensures.some v c.in-Some.is in
    let next = next_at t.size.variables a.p v is.0 is.1.0 in
    let w = c.chosen-first in
    let f = c.force-t in
    let u = c.spent-u in
    let one = child_explored P a.p pre.2 v next (negative v) (variable_negative v) w.result w.ensures (stated_bounded t) a.s c.spent.result f.result c.spent.ensures f.ensures.explores deep l in
    chosen_both P (stated_bounded t) a.p a.s pre.2 a.price pre.3 pre.4 (explore P deep) v is.0 is.1.0 f.result c.if-s-eq0.false one u.result c.if-t-eq0.false
    (true_left P (stated_bounded t) a.p v next.among next.passes f.result u.result a.price pre.3 u.ensures (rw c.from.ensures at c.if-u-price.true) deep l)

pub choose-overflow_mul-v-2 : goal.choose-overflow_mul-v-2
choose-overflow_mul-v-2 m c =
    let is = c.next_variable.ensures.some c.in-Some.v c.in-Some.is in
    let few = c.args.tables.now.fine.clauses.variables in
    omega (arith, is.1.1, few)

pub choose-chosen-requires : goal.choose-chosen-requires
choose-chosen-requires m c =
    let is = c.next_variable.ensures.some c.in-Some.v c.in-Some.is in
    let few = c.args.tables.now.fine.clauses.variables in
    (omega (arith, is.1.0), omega (arith, is.1.1, few))

pub choose-force-requires : goal.choose-force-requires
choose-force-requires m c =
    let a = c.args in
    let t = a.tables.now in
    let P = stated t in
    let pre = c.requires in
    let v = c.in-Some.v in
    let is = c.next_variable.ensures.some v c.in-Some.is in
    let next = next_at t.size.variables a.p v is.0 is.1.0 in
    let d = c.copy_level in
    let f = c.force-t in
    let same : Below (a.level.at + 320) a.table.now f.new.table =
    below_trans (a.level.at + 320) a.table.now d.new.table f.new.table (outside_below (a.level.at + 320) a.table.now d.new.table d.ensures.outside) (rw c.next.ensures at f.ensures.below) in
    let w = c.chosen in
    let room = child_room P a.p pre.2 v next (positive v) (variable_positive v) w.result w.ensures a.level.at pre.0 in (
      child_falls P a.p pre.2 v next (positive v) (variable_positive v) w.result w.ensures m c.decreases,
      (
        omega (arith, room),
        child_counts P a.p pre.2 v next (positive v) (variable_positive v) w.result w.ensures f.new.table a.level.at
            (counts_below P a.level.at a.table.now f.new.table (at_node a.p) t.fine.clauses.clauses same pre.1),
        child_ready P a.p pre.2 v next (positive v) (variable_positive v) w.result w.ensures,
        child_price P a.p pre.2 v next (positive v) (variable_positive v) w.result w.ensures a.price pre.3,
      ),
    )

pub choose-returns-clause-visits : goal.choose-returns-clause-visits
choose-returns-clause-visits m c =
    λ deep l.
    let a = c.args in
    let t = a.tables.now in
    let P = stated t in
    let pre = c.requires in
    let v = c.in-Some.v in
    let is = c.next_variable.ensures.some v c.in-Some.is in
    let next = next_at t.size.variables a.p v is.0 is.1.0 in
    let w = c.chosen-first in
    let w2 = c.chosen in
    let f = c.force-t in
    let g = c.force in
    let u = c.spent-u in
    let one = child_explored P a.p pre.2 v next (negative v) (variable_negative v) w.result w.ensures (stated_bounded t) a.s c.spent.result f.result c.spent.ensures f.ensures.explores deep l in
    let two = child_explored P a.p pre.2 v next (positive v) (variable_positive v) w2.result w2.ensures (stated_bounded t) f.result u.result g.result u.ensures g.ensures.explores deep l in
    chosen_both P (stated_bounded t) a.p a.s pre.2 a.price pre.3 pre.4 (explore P deep) v is.0 is.1.0 f.result c.if-s-eq0.false one g.result c.if-t-eq0.false two

pub force-returns-then-s-price-clause-explores : goal.force-returns-then-s-price-clause-explores
force-returns-then-s-price-clause-explores m c =
    λ p deep reached l.
    let a = c.args in
    let P = stated a.tables.now in
    forced_left P p a.s (counted_ahead P p a.w a.s.cost reached (omega (arith, c.requires.3, c.if-s-price.true))) deep (omega (arith, l))

pub force-returns-in_default-clause-explores : goal.force-returns-in_default-clause-explores
force-returns-in_default-clause-explores m c =
    λ p deep reached l.
    let a = c.args in
    forced_left (stated a.tables.now) p a.s ((c.force_all.ensures.same p reached).leaves c.in_default.is) deep (omega (arith, l))

pub force-choose-requires : goal.force-choose-requires
force-choose-requires m c =
    let a = c.args in
    let pre = c.requires in
    let e = c.force_all.ensures in
    let f = c.in-Some.f in
    let is = c.in-Some.is in
    let fewer = count_under a.tables.now.size.variables (node_of a.w) f.node (e.under f is) in
    let (quiet, is-price, cheaper) = e.quiet f is in
    (omega (arith, fewer, c.decreases), (omega (arith, fewer, pre.0), e.counts f is, quiet, is-price, cheaper))

pub force-returns-clause-explores : goal.force-returns-clause-explores
force-returns-clause-explores m c =
    λ p deep reached l.
    let a = c.args in
    let t = a.tables.now in
    let f = c.in-Some.f in
    forced_visit (stated t) p a.s (stated_bounded t) f.node c.choose.result ((c.force_all.ensures.same p reached).stays f c.in-Some.is)
    c.choose.ensures.visits deep l
