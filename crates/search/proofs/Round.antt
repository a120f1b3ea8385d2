-- One round of forcing: the lowest variable of `todo` is taken out and counted down, and then the clauses that are low are looked at.
-- Assumes nothing.
use Prim.Native.Nat.{ℕ, ◌+◌, ◌*◌, ◌^◌, ◌≤◌, ◌<◌}
use mathlib.Core.Path.{◌≡◌}
use mathlib.Core.Bool.{true}
use mathlib.Core.List.{List}
use native.Mathlib.Omega.{arith}
use lib.Count.{count_trailing_zeros}
use Rattle.std.specs.Prelude.{Option, Some, None}
use Rattle.search.specs.declared.Node.{Node}
use Rattle.search.specs.declared.Work.{Work}
use Rattle.search.specs.declared.tables.Tables.{Tables}
use Rattle.search.specs.Search.{after_forcing, dead}
use Rattle.search.specs.Stated.{stated}
use Rattle.search.specs.Work.{node_of, Ready, Reached, Keeps, Leads, nothing, false_literal, looked_at}
use Rattle.search.specs.Counts.{words_for, plane, Counts, CountedDown}
use Rattle.search.proofs.Counting.{counts_pop, ready_low, counts_onto}

-- a round from w, in which the level at `at` came to `after`, and the look to r
pub record RoundDone (t : Tables) (at : ℕ) (after : List ℕ) (w : Work) (r : Option Work) : Type 0 where
  pub onto : Leads (looked_at w) r
  pub counts : (v : Work) → r ≡ Some v → Counts (stated t) after at v
  pub ready : (v : Work) → r ≡ Some v → Ready (stated t) v nothing
  pub reached : (v : Work) → r ≡ Some v → (p : Node) → Reached (stated t) p (node_of w) → Reached (stated t) p (node_of v)
  pub stops : r ≡ None → (p : Node) → Reached (stated t) p (node_of w) → dead (stated t) (after_forcing (stated t) p) ≡ true

pub round_done : (t : Tables) (w u : Work) (r : Option Work) (some : 1 ≤ w.todo) (word : w.todo < 2 ^ 64) → Ready (stated t) w nothing
    → (at : ℕ) (before after : List ℕ) → Counts (stated t) before at w
    → CountedDown t.rows (false_literal w (count_trailing_zeros 64 w.todo + 1)) (64 * words_for t.size.clauses) at before after
    → u ≡ looked_at w → Leads u r → Keeps (stated t) u (plane after at 4) r nothing → RoundDone t at after w r
round_done t w u r some word ready at before after counts down is-looked leads keeps = record {
  onto = onto;
  counts = λ v e. counts_onto (stated t) after at (looked_at w) v (onto v e).standing popped;
  ready = λ v e. kept.ready v e low;
  reached = λ v e p x. kept.reached v e p x;
  stops = λ e p x. kept.stops e p x;
}
  where
    onto : Leads (looked_at w) r
    onto = rw (← is-looked) leads

    kept : Keeps (stated t) (looked_at w) (plane after at 4) r nothing
    kept = rw (← is-looked) keeps

    low : Ready (stated t) (looked_at w) (plane after at 4)
    low = ready_low t.size t.costs t.masks t.rows before after at (64 * words_for t.size.clauses) t.fine.clauses t.fine.literals w some word ready counts down (omega arith)

    popped : Counts (stated t) after at (looked_at w)
    popped = counts_pop t.size t.costs t.masks t.rows before after at (64 * words_for t.size.clauses) t.fine.clauses t.fine.literals w some word ready counts down (omega arith)
