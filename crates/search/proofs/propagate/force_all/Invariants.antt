-- `search::propagate::force_all` meets its contract.
-- Assumes nothing.
use Prim.Native.Nat.{◌<◌}
use mathlib.Core.Path.{◌≡◌}
use Rattle.judgement.specs.Scan.{sum_of}
use Rattle.search.specs.declared.Node.{Node}
use Rattle.search.specs.Stated.{stated}
use Rattle.search.specs.Work.{node_of, Under, Ready, Reached, nothing, counted_cost, load}
use Rattle.search.specs.Counts.{Counts, Outside}
use Rattle.search.proofs.propagate.force_all.Given as goal

abbrev pub invariant-loop-out : goal.invariant-loop-out
invariant-loop-out l = record {
  outside : Outside l.level.at l.initial.table l.table;
  counts : Counts (stated l.tables) l.table l.level.at l.out;
  ready : Ready (stated l.tables) l.out nothing;
  paid : l.paid ≡ counted_cost (stated l.tables) l.out;
  cheaper : l.paid < l.best;
  under : Under (node_of l.initial.out) (node_of l.out);
  reached : (p : Node) → Reached (stated l.tables) p (node_of l.initial.out) → Reached (stated l.tables) p (node_of l.out);
}

abbrev pub decreases-loop-out : goal.decreases-loop-out
decreases-loop-out l = sum_of (load l.out) 64
