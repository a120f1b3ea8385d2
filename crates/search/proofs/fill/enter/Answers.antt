-- `search::fill::enter` meets its contract.
-- Assumes nothing.
use native.Mathlib.Omega.{arith}
use Rattle.search.proofs.Entering.{next_among, entered_none, entered_more, entered_all}
use Rattle.search.proofs.fill.enter.Goals as goal

pub loop-i-init : goal.loop-i-init
loop-i-init c = let a = c.args in entered_none a.part.now a.k a.rows.now

pub overflow_sub-rows : goal.overflow_sub-rows
overflow_sub-rows c = let w = next_among c.args.part.now c.loop-i.i c.requires.0 (omega arith) c.read_u16.ensures.0 in omega (arith, w.0)

pub bounds-rows-read_u16 : goal.bounds-rows-read_u16
bounds-rows-read_u16 c = let w = next_among c.args.part.now c.loop-i.i c.requires.0 (omega arith) c.read_u16.ensures.0 in omega (arith, w.1)

pub bounds-rows-read_u16-in-loop-i : goal.bounds-rows-read_u16-in-loop-i
bounds-rows-read_u16-in-loop-i c =
    let w = next_among c.args.part.now c.loop-i.i c.requires.0 (omega arith) c.read_u16.ensures.0 in omega (arith, w.1)

pub loop-i-preserved : goal.loop-i-preserved
loop-i-preserved c =
    let a = c.args in
    let l = c.loop-i in
    let r = c.read_u16 in
    let w = next_among a.part.now l.i c.requires.0 (omega arith) r.ensures.0 in
    entered_more a.part.now a.k a.rows.now l.rows r.result l.i (omega arith) w c.requires.1 r.ensures.0 l.invariant

pub returns : goal.returns
returns c =
    let a = c.args in
    let l = c.loop-i in
    entered_all a.part.now a.k a.rows.now l.rows l.i l.invariant (omega arith)
