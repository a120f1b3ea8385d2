-- A step that follows beside a sheet s follows beside one that extends it, t: it cites clauses of s, which stand in t with the same
-- literals under the same numbers, and costs and loss are the same.
-- Assumes nothing.
use Prim.Native.Nat.{ℕ}
use mathlib.Core.Path.{◌≡◌, sym, ◌∙◌}
use mathlib.Core.List.{List}
use native.Mathlib.Omega.{arith}
use Rattle.judgement.specs.Sheet.{variables, clauses, problem_of}
use Rattle.judgement.specs.Record.{step}
use Rattle.judgement.specs.Step.{literals, cited, cited_clause, cited_count, tail, entry_cites, entry_count}
use Rattle.judgement.specs.Facts.{Among, Alike, SameMembers, Mentions, Rising, LiteralList, ValidSheet, RecordLayout, StepLayout}
use Rattle.judgement.specs.Facts.{Copies, Costs, Independent, Linear, Inference}
use Rattle.judgement.specs.Facts.{copies, costs, independent, resolution, linear}
use Rattle.judgement.specs.Longer.{ExtendedBy}
use Rattle.judgement.proofs.Laws.Membership.{members_sym, members_trans, same_mentions}
use Rattle.judgement.proofs.Longer.Costs.{same_falsified, same_independent, same_weighted}

-- ---- layouts, which read n alone

module _ (s t : List ℕ) (alike : Alike (problem_of s) (problem_of t)) where
  n_is : variables t ≡ variables s
  n_is = sym alike.same_variables

  pub same_layout : (r : List ℕ) → RecordLayout s r → RecordLayout t r
  same_layout r h = record {
    size = h.size;
    t = h.t;
    room = rw n_is h.room;
    spare = rw n_is h.spare;
    clear = rw n_is h.clear;
    pairs = rw n_is h.pairs;
  }

  pub same_form : (r : List ℕ) (k : ℕ) → StepLayout s (step s r k) → StepLayout t (step t r k)
  same_form r k h = record { room = rw n_is h.room; zero = rw n_is h.zero; list = rw n_is h.list }

module _ (s t : List ℕ) (valid : ValidSheet s) (longer : ExtendedBy s t) where
  -- what is a number of a clause of s is one of t
  more_rising : (f : ℕ → ℕ) (q : ℕ) → Rising f (clauses s) q → Rising f (clauses t) q
  more_rising f q h = record {
    range = λ i w. let (l, u) = h.range i w in (l, omega (arith, u, longer.more));
    rising = h.rising;
  }

  -- ---- the step with the body b

  module _ (b : List ℕ) where
    copies_still : Copies s b → Copies t b
    copies_still h =
        record {
          kind = h.kind;
          size = h.size;
          cites = (h.cites.0, omega (arith, h.cites.1, longer.more));
          same = members_trans (literals b) (cited_clause s b 1) (cited_clause t b 1) h.same (longer.same (cited b 1) h.cites);
          bound_is = h.bound_is;
        }

    linear_still : Linear s b → Linear t b
    linear_still h =
        let (x, rounded, bound_is) = h.bounded in
        let e = same_weighted s t valid longer b h.citing.cites.range in
        record {
          citing = record {
            kind = h.citing.kind;
            size = h.citing.size;
            some = h.citing.some;
            cites = more_rising (entry_cites (tail b)) (entry_count (tail b)) h.citing.cites;
          };
          weighted = h.weighted;
          bounded = (x, rw e at rounded, rw longer.alike.same_loss at bound_is);
        }

    module _ (list : LiteralList (variables s) (literals b)) where
      costs_still : Costs s b → Costs t b
      costs_still h =
          record { kind = h.kind; size = h.size; bound_is = h.bound_is ∙ same_falsified s t longer.alike (literals b) list }

      independent_still : Independent s b → Independent t b
      independent_still h =
          record {
            citing = record {
              kind = h.citing.kind;
              size = h.citing.size;
              some = h.citing.some;
              cites = more_rising (cited b) (cited_count b) h.citing.cites;
            };
            open_yet = λ j w c m. h.open_yet j w c ((back j w c).0 m);
            positive_yet = λ j w c m. h.positive_yet j w c ((back j w c).0 m);
            unsettled = λ j w.
                let (v, m, out) = h.unsettled j w in
                (v, same_mentions (cited_clause s b j) (cited_clause t b j) (there j w) v m, out);
            disjoint = λ i j wi wj other v mi mj. h.disjoint i j wi wj other v (mentioned i wi v mi) (mentioned j wj v mj);
            bound_is = h.bound_is ∙ same_independent s t valid longer b list h.citing.cites.range;
          }
        where
          there : (j : ℕ) → Among (cited_count b) j → SameMembers (cited_clause s b j) (cited_clause t b j)
          there j w = longer.same (cited b j) (h.citing.cites.range j w)

          back : (j : ℕ) → Among (cited_count b) j → SameMembers (cited_clause t b j) (cited_clause s b j)
          back j w = members_sym (cited_clause s b j) (cited_clause t b j) (there j w)

          mentioned : (j : ℕ) → Among (cited_count b) j → (v : ℕ) → Mentions (cited_clause t b j) v → Mentions (cited_clause s b j) v
          mentioned j w = same_mentions (cited_clause t b j) (cited_clause s b j) (back j w)

  -- ---- any kind; the bodies are the same, since they stand behind an assignment to n variables

  pub same_inference : (r : List ℕ) (k : ℕ) → LiteralList (variables s) (literals (step s r k)) → Inference s r k → Inference t r k
  same_inference r k list inference = go inference
    where
      same_n : variables t ≡ variables s
      same_n = n_is s t longer.alike

      go : Inference s r k → Inference t r k
      go (copies h) = copies (rw same_n (copies_still (step s r k) h))
      go (costs h) = costs (rw same_n (costs_still (step s r k) list h))
      go (independent h) = independent (rw same_n (independent_still (step s r k) list h))
      go (resolution h) = resolution (record { citing = rw same_n h.citing; resolves = rw same_n h.resolves })
      go (linear h) = linear (rw same_n (linear_still (step s r k) h))
