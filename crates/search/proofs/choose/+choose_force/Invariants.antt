-- The cycle of calls {choose, force}. `choose` calls `force` where one variable less is unsettled, and `force` calls `choose`
-- where no more are: 2 * unsettled for `choose`, 2 * unsettled + 1 for `force`.
-- Assumes nothing.
use Prim.Native.Nat.{◌+◌, ◌*◌}
use Rattle.search.specs.Work.{node_of, unsettled_count}
use Rattle.search.proofs.choose.+choose_force.Given as goal

abbrev pub decreases-choose : goal.decreases-choose
decreases-choose l = 2 * unsettled_count l.tables.now.size.variables l.p

abbrev pub decreases-force : goal.decreases-force
decreases-force l = 2 * unsettled_count l.tables.now.size.variables (node_of l.w) + 1
