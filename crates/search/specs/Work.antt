-- How the code forces: it settles literals in whatever order it meets them. `todo` has the variables that it has settled and whose clauses it
-- has not yet looked at. What it comes to is the same node (`same_end` in proofs/Order.antt).
-- Assumes nothing.
use Rattle.std.specs.Prelude.{ℕ, ◌+◌, ◌-◌, ◌/◌, ◌%◌, ◌≤◌, ◌≡◌, Bool, true, false, not, cond, ◌&&◌, ◌⊎◌, eqb, Option, Some, None}
use Rattle.std.specs.Int.Bits.{bit_and}
use Rattle.judgement.specs.Scan.{one, count_of}
use Rattle.judgement.specs.Meaning.{positive, negative, variable_of, Assignment, Literals, Problem, cost}
use Rattle.judgement.specs.Facts.{Among}
use Rattle.search.specs.declared.Node.{Node}
use Rattle.search.specs.declared.Work.{Work}
use Rattle.search.specs.declared.Settled.{Settled}
use Rattle.search.specs.Node.{has, add, unsettled, settled_false, settle, node_cost, falsified, forces}
use Rattle.search.specs.Search.{after_forcing, dead}

abbrev pub node_of : Work → Node
node_of w = record { trues = w.trues; falses = w.falses }

-- a node, with nothing to be looked at
abbrev pub at_node : Node → Work
at_node p = record { trues = p.trues; falses = p.falses; todo = 0 }

-- the literal c was found forced
abbrev pub settle_work : Work → ℕ → Work
settle_work w c = record {
  trues = (settle (node_of w) c).trues;
  falses = (settle (node_of w) c).falses;
  todo = add w.todo (variable_of c);
}

-- ---- one clause

-- the clause is not false and forces nothing: two literals are not false, or a settled one is true
pub data Quiet (q : Node) (C : Literals) : Type 0 where
  two : (c d : ℕ) → (variable_of c ≡ variable_of d → ⊥) → C c ≡ true → C d ≡ true → settled_false q c ≡ false → settled_false q d ≡ false
      → Quiet q C
  true_one : (c : ℕ) → C c ≡ true → settled_false q c ≡ false → unsettled q (variable_of c) ≡ false → Quiet q C

-- a literal is false that is still to be looked at
abbrev pub Pending : ℕ → Node → Literals → Type 0
Pending todo q C = (c : ℕ) × (C c ≡ true) × (settled_false q c ≡ true) × (has todo (variable_of c) ≡ true)

-- what looking at the clause does: there is nothing to go on with where it is false
pub data Looked (n : ℕ) (C : Literals) (w : Work) (r : Option Work) : Type 0 where
  is_false : falsified n (node_of w) C ≡ true → r ≡ None → Looked n C w r
  is_quiet : Quiet (node_of w) C → r ≡ Some w → Looked n C w r
  is_unit : (c : ℕ) → forces n (node_of w) C c ≡ true → r ≡ Some (settle_work w c) → Looked n C w r

-- ---- all clauses

-- what is settled in p is settled so in q
abbrev pub Under : Node → Node → Type 0
Under p q = (v : ℕ) → (has p.trues v ≡ true → has q.trues v ≡ true) × (has p.falses v ≡ true → has q.falses v ≡ true)

-- no variable is settled both ways
abbrev pub Consistent : Node → Type 0
Consistent q = (v : ℕ) → has q.trues v ≡ true → has q.falses v ≡ true → ⊥

-- at w: each clause is quiet, or a literal of it is to be looked at yet, or it is one of R, to be looked at itself
pub record Ready (P : Problem) (w : Work) (R : ℕ → Bool) : Type 0 where
  pub consistent : Consistent (node_of w)
  pub inside : (v : ℕ) → has w.todo v ≡ true → Among P.variables v
  pub settled : (v : ℕ) → has w.todo v ≡ true → unsettled (node_of w) v ≡ false
  pub looked : (k : ℕ) → Among P.clauses k
      → Quiet (node_of w) (P.clause k) ⊎ (Pending w.todo (node_of w) (P.clause k) ⊎ (R k ≡ true))

-- forcing from p may come to q on its way: what is settled in q will be settled so in the end, unless a clause is false then
pub record Reached (P : Problem) (p q : Node) : Type 0 where
  pub grown : Under p q
  pub ahead : (dead P (after_forcing P p) ≡ true) ⊎ Under q (after_forcing P p)

-- from w, where the clauses of R are to be looked at, to r, where those of R' are, unless a clause was found false
pub record Keeps (P : Problem) (w : Work) (R : ℕ → Bool) (r : Option Work) (R' : ℕ → Bool) : Type 0 where
  pub ready : (u : Work) → r ≡ Some u → Ready P w R → Ready P u R'
  pub reached : (u : Work) → r ≡ Some u → (p : Node) → Reached P p (node_of w) → Reached P p (node_of u)
  pub stops : r ≡ None → (p : Node) → Reached P p (node_of w) → dead P (after_forcing P p) ≡ true

-- no clause
abbrev pub nothing : ℕ → Bool
nothing k = false

-- clause k is one of clauses 64 i + 1 to 64 i + 64, and its bit is set
abbrev pub in_word : ℕ → ℕ → ℕ → Bool
in_word i bits k = eqb ((k - 1) / 64) i && has bits ((k - 1) % 64 + 1)

-- ---- what stands

-- a literal of C stands unless it is false and has been looked at
abbrev pub stands : Work → Literals → ℕ → Bool
stands w C c = C c && not (settled_false (node_of w) c && not (has w.todo (variable_of c)))

-- ---- counts and costs

-- how many of n variables are not settled
unfoldable pub unsettled_count : ℕ → Node → ℕ
unsettled_count n p = count_of (unsettled p) n

-- a variable that is true and has been looked at
abbrev pub counted : Work → Assignment
counted w v = has w.trues v && not (has w.todo v)

-- the loss and the costs of these
abbrev pub counted_cost : Problem → Work → ℕ
counted_cost P w = cost P (counted w)

-- how often the variable is to be dealt with yet: to be looked at, to be settled
abbrev pub load : Work → ℕ → ℕ
load w v = one (has w.todo v) + one (unsettled (node_of w) v)

-- literals were settled on the way from w to r, and nothing else was done
pub record Onto (w r : Work) : Type 0 where
  pub under : Under (node_of w) (node_of r)
  pub same : (v : ℕ) → counted r v ≡ counted w v
  pub lighter : (v : ℕ) → load r v ≤ load w v
  pub standing : (C : Literals) (c : ℕ) → stands r C c ≡ stands w C c

-- and so to r, unless a clause was found false
abbrev pub Leads : Work → Option Work → Type 0
Leads w r = (u : Work) → r ≡ Some u → Onto w u

-- the literal of v that is false, where v is settled
abbrev pub false_literal : Work → ℕ → ℕ
false_literal w v = cond (has w.trues v) (negative v) (positive v)

-- the lowest variable of `todo` has been looked at
abbrev pub looked_at : Work → Work
looked_at w = record { trues = w.trues; falses = w.falses; todo = bit_and w.todo (w.todo - 1) }

-- ---- where forcing ends

-- nothing is false, and nothing is forced
pub record AllQuiet (P : Problem) (q : Node) : Type 0 where
  pub consistent : Consistent q
  pub each : (k : ℕ) → Among P.clauses k → Quiet q (P.clause k)

-- what forcing from p comes to, where it is given up at a node that costs no less than `best`: nothing, and the node is left anyhow;
-- or the very node after forcing
pub record Outcome (P : Problem) (best : ℕ) (p : Node) (r : Option Settled) : Type 0 where
  pub leaves : r ≡ None → (dead P (after_forcing P p) ≡ true) ⊎ (best ≤ node_cost P (after_forcing P p))
  pub stays : (f : Settled) → r ≡ Some f → f.node ≡ after_forcing P p
