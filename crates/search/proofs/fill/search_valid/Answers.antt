-- `search::fill::search_valid` meets its contract: the tables are in form, and what they are searched to is what the sheet is.
-- Assumes nothing.
use mathlib.Core.Path.{◌∙◌}
use native.Mathlib.Omega.{arith}
use Rattle.search.proofs.Alike.{same_search}
use Rattle.search.proofs.Entering.{zeros}
use Rattle.search.proofs.Filling.{size_read, tables_fine, tables_alike}
use Rattle.search.proofs.fill.search_valid.Goals as goal

pub fill_costs-requires : goal.fill_costs-requires
fill_costs-requires c = (λ v. rw (zeros 64 v) (omega arith), c.requires.1)

pub fill_rows-requires : goal.fill_rows-requires
fill_rows-requires c = (zeros 8192, c.requires.0, c.requires.1)

pub invariant_of-tables : goal.invariant_of-tables
invariant_of-tables c =
    let s = c.args.s.now in
    let costs = c.fill_costs in
    let masks = c.fill_masks in
    let rows = c.fill_rows in
    record {
      fine = tables_fine s c.requires.0 c.requires.1 costs.new.costs masks.new.masks rows.new.rows masks.ensures
          (size_read s c.variable_count.ensures.0 c.clause_count.ensures.0 c.loss.ensures.0) rows.ensures costs.ensures.small c.loss.ensures.1;
    }

pub returns : goal.returns
returns c =
    let s = c.args.s.now in
    let costs = c.fill_costs in
    let masks = c.fill_masks in
    let rows = c.fill_rows in
    c.search_tables.ensures
    ∙ same_search _ _
    (tables_alike s c.requires.0 c.requires.1 costs.new.costs masks.new.masks rows.new.rows masks.ensures
    (size_read s c.variable_count.ensures.0 c.clause_count.ensures.0 c.loss.ensures.0) costs.ensures.each) c.args.budget
