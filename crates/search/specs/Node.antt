-- A node of the search: the variables that are settled, as true or as false; and what a clause is there.
-- Assumes nothing.
use Rattle.std.specs.Prelude.{ℕ, zero, suc, ◌+◌, ◌*◌, ◌/◌, ◌%◌, ◌^◌, Bool, false, not, cond, ◌&&◌, ◌||◌, eqb}
use Rattle.std.specs.Int.Bits.{bit_or}
use Rattle.judgement.specs.Scan.{all_of}
use Rattle.judgement.specs.Meaning.{variable_of, is_positive, Literals, Problem, cost}
use Rattle.search.specs.declared.Node.{Node}
use Rattle.search.specs.First.{lowest}

-- ---- a set of variables is a number: variable v is bit v - 1

unfoldable pub has : ℕ → ℕ → Bool
has set zero = false
has set (suc i) = eqb (set / 2 ^ i % 2) 1

-- with v
unfoldable pub add : ℕ → ℕ → ℕ
add set zero = set
add set (suc i) = bit_or set (2 ^ i)

-- ---- what is settled

unfoldable pub unsettled : Node → ℕ → Bool
unsettled p v = not (has p.trues v) && not (has p.falses v)

-- the literal c is settled as false
unfoldable pub settled_false : Node → ℕ → Bool
settled_false p c = cond (is_positive c) (has p.falses (variable_of c)) (has p.trues (variable_of c))

-- p with the literal c made true
unfoldable pub settle : Node → ℕ → Node
settle p c =
    cond (is_positive c)
    (record { trues = add p.trues (variable_of c); falses = p.falses })
    (record { trues = p.trues; falses = add p.falses (variable_of c) })

-- nothing is settled
abbrev pub root : Node
root = record { trues = 0; falses = 0 }

-- the loss and the costs of the true variables
abbrev pub node_cost : Problem → Node → ℕ
node_cost P p = cost P (has p.trues)

-- the first variable that is not settled, 0 where each is
unfoldable pub next_variable : Problem → Node → ℕ
next_variable P p = lowest (unsettled p) P.variables

-- ---- a clause C over n variables

-- the greatest code of a literal of variables 1 to n
abbrev pub last_code : ℕ → ℕ
last_code n = 2 * n + 1

-- every literal is false
unfoldable pub falsified : ℕ → Node → Literals → Bool
falsified n p C = all_of (λ c. not (C c) || settled_false p c) (last_code n)

-- c is its one literal that is not settled, and the rest are false
unfoldable pub forces : ℕ → Node → Literals → ℕ → Bool
forces n p C c = C c && unsettled p (variable_of c) && all_of (λ d. not (C d) || eqb d c || settled_false p d) (last_code n)

-- the literal that it forces, 0 where it forces none
unfoldable pub forced_by : ℕ → Node → Literals → ℕ
forced_by n p C = lowest (forces n p C) (last_code n)
