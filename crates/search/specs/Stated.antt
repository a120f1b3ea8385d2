-- The problem that tables state.
-- Assumes nothing.
use Rattle.judgement.specs.Meaning.{Problem}
use Rattle.search.specs.declared.tables.Tables.{Tables}
use Rattle.search.specs.Tables.{table_problem}

abbrev pub stated : Tables → Problem
stated t = table_problem t.size t.costs t.masks
