-- `search::choose::search_tables` meets its contract.
-- Assumes nothing.
use Prim.Native.Nat.{◌*◌}
use mathlib.Core.Path.{refl, ◌∙◌}
use native.Mathlib.Omega.{arith}
use Rattle.judgement.specs.Meaning.{none}
use Rattle.search.specs.Node.{root}
use Rattle.search.specs.Stated.{stated}
use Rattle.search.specs.Work.{node_of, at_node}
use Rattle.search.specs.Counts.{words_for}
use Rattle.search.proofs.Forcing.{count_most}
use Rattle.search.proofs.Walking.{stated_bounded}
use Rattle.search.proofs.Counting.{counts_root, counts_onto}
use Rattle.search.proofs.Entering.{zeros}
use Rattle.search.proofs.Choosing.{root_ready, root_price, root_dead, root_explored}
use Rattle.search.proofs.choose.search_tables.Goals as goal

pub returns-in_default : goal.returns-in_default
unfolding none
returns-in_default c =
    let a = c.args in
    let t = a.tables.now in
    let l = c.look_all in
    root_dead (stated t) (stated_bounded t) l.result l.ensures.onto (l.ensures.keeps t.costs) a.budget _ refl c.in_default.is

pub count_all-requires : goal.count_all-requires
count_all-requires c = zeros 20800

pub force-requires : goal.force-requires
unfolding none
force-requires c =
    let a = c.args in
    let t = a.tables.now in
    let fine = t.fine in
    let l = c.look_all in
    let w = c.in-Some.w in
    let table = c.count_all.new.table in
    let most = count_most t.size.variables (node_of w) in
    let counts = counts_root t.size t.costs t.masks t.rows table (64 * words_for t.size.clauses) fine.clauses fine.literals c.count_all.ensures (omega arith) in (
      omega (arith, most, fine.clauses.variables),
      counts_onto (stated t) table 0 (at_node root) w (l.ensures.onto w c.in-Some.is).standing counts,
      root_ready (stated t) (stated_bounded t) l.result l.ensures.onto (l.ensures.keeps t.costs) a.budget _ refl w c.in-Some.is,
      c.from.ensures ∙ root_price (stated t) (stated_bounded t) l.result l.ensures.onto (l.ensures.keeps t.costs) a.budget _ refl w c.in-Some.is,
    )

pub returns : goal.returns
unfolding none
returns c =
    let a = c.args in
    let t = a.tables.now in
    let l = c.look_all in
    root_explored (stated t) (stated_bounded t) l.result l.ensures.onto (l.ensures.keeps t.costs) a.budget _ refl c.in-Some.w c.in-Some.is
    c.force.result c.force.ensures.explores
