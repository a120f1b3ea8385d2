-- The sheet written in the one way, the answer of the call that writes it, and what this leaves in the buffer.
-- Assumes nothing.
use Rattle.std.specs.Prelude.{ℕ, List, map, length, leb}
use Rattle.judgement.specs.Scan.{list_of}
use Rattle.judgement.specs.declared.Written.{Written}
use Rattle.judgement.specs.Finding.{Finding, need, ◌then◌}
use Rattle.judgement.specs.Sheet.{variables, clauses, cost_of, loss, alone_finding}
use Rattle.judgement.specs.Writer.{numbers_of, sheet_of}
use Rattle.judgement.specs.Buffer.{written_by, left_by}
use Rattle.writer.specs.Order.{clause_codes}
use Rattle.writer.specs.Sorted.{sorted}

-- the clauses in order, each once
abbrev pub ordered : List ℕ → List (List ℕ)
ordered s = sorted (clause_codes s) (clauses s)

-- the sheet of the same loss and costs and these clauses; it has the mark where something is lost
unfoldable pub canonical : List ℕ → List ℕ
canonical s = sheet_of (loss s) (list_of (cost_of s) (variables s)) (map (numbers_of 2) (ordered s))

-- 25: the buffer has fewer bytes
unfoldable pub shortage : List ℕ → ℕ → Finding
shortage s room = need (leb (length (canonical s)) room) 25 0

-- 1, 2, 3 and 4 of the sheet, then 25
unfoldable pub write_finding : List ℕ → ℕ → Finding
write_finding s room = alone_finding s then shortage s room

-- the answer, for a buffer of so many bytes
unfoldable pub writing : List ℕ → ℕ → Written
writing s room = written_by (write_finding s room) (canonical s)

-- what stands in the buffer afterwards
unfoldable pub leaves : List ℕ → List ℕ → List ℕ
leaves s out = left_by (write_finding s (length out)) (canonical s) out
