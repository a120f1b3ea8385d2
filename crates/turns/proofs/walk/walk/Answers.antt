use Rattle.turns.proofs.Coding.{values_turned, walk_clause, walk_ready, walk_touched}
use Rattle.turns.proofs.Walking.{listed, walk_start, walk_among, walk_done}
use Rattle.turns.specs.Index.{uses}
use Rattle.turns.specs.Turning.{value_in, turn}
use Rattle.judgement.specs.Sheet.{variables}
use native.Mathlib.Omega.{arith}
use Prim.Native.Nat.{◌<◌}
use Rattle.turns.proofs.walk.walk.Goals as goal

pub u32_at-start-requires : goal.u32_at-start-requires
u32_at-start-requires c =
    let a = c.args in
    let g = listed a.x.sheet.now c.args.x.valid a.v c.requires.0 a.x.index.now c.args.x.filled in
    omega (arith, g.pair)

pub u32_at-q-requires : goal.u32_at-q-requires
u32_at-q-requires c =
    let a = c.args in
    let g = listed a.x.sheet.now c.args.x.valid a.v c.requires.0 a.x.index.now c.args.x.filled in
    omega (arith, g.pair)

pub loop-j-init : goal.loop-j-init
loop-j-init c =
    let a = c.args in
    walk_start a.x.sheet.now c.args.x.valid a.v (value_in (turn a.a.now a.v)) (value_in a.a.now) (values_turned a.a.now (variables a.x.sheet.now) a.v c.requires.0 c.requires.1) a.total a.counts.now c.requires.2

pub u32_at-entry-requires : goal.u32_at-entry-requires
u32_at-entry-requires c =
    let a = c.args in
    let g = listed a.x.sheet.now c.args.x.valid a.v c.requires.0 a.x.index.now c.args.x.filled in
    omega (arith, g.start, g.size, g.end, c.u32_at-start.ensures.0, c.u32_at-q.ensures.0)

pub overflow_sub-entry : goal.overflow_sub-entry
overflow_sub-entry c =
    let a = c.args in
    let l = c.loop-j in
    let g = listed a.x.sheet.now c.args.x.valid a.v c.requires.0 a.x.index.now c.args.x.filled in
    let t = values_turned a.a.now (variables a.x.sheet.now) a.v c.requires.0 c.requires.1 in
    let more : l.j < uses a.x.sheet.now a.v = omega (arith, g.size, c.u32_at-q.ensures.0) in
    omega (arith, (walk_among a.x.sheet.now c.args.x.valid a.v (value_in (turn a.a.now a.v)) (value_in a.a.now) t l.j l.sum a.counts.now l.counts l.invariant more _ (walk_clause a.x.sheet.now c.args.x.valid a.v a.x.index.now g _ _ l.j c.u32_at-start.ensures.0 more c.u32_at-entry.ensures.0)).0)

pub touch-sum-requires : goal.touch-sum-requires
touch-sum-requires c =
    let a = c.args in
    let l = c.loop-j in
    let g = listed a.x.sheet.now c.args.x.valid a.v c.requires.0 a.x.index.now c.args.x.filled in
    let t = values_turned a.a.now (variables a.x.sheet.now) a.v c.requires.0 c.requires.1 in
    let more : l.j < uses a.x.sheet.now a.v = omega (arith, g.size, c.u32_at-q.ensures.0) in
    let w = walk_among a.x.sheet.now c.args.x.valid a.v (value_in (turn a.a.now a.v)) (value_in a.a.now) t l.j l.sum a.counts.now l.counts l.invariant more _ (walk_clause a.x.sheet.now c.args.x.valid a.v a.x.index.now g _ _ l.j c.u32_at-start.ensures.0 more c.u32_at-entry.ensures.0) in
    let room = l.invariant.counted.room in (
      omega (arith, w.0, w.1, room),
      walk_ready a.x.sheet.now c.args.x.valid a.v a.x.index.now g _ _ l.j c.u32_at-start.ensures.0 more c.u32_at-entry.ensures.0
          (value_in (turn a.a.now a.v)) (value_in a.a.now) t l.sum a.counts.now l.counts l.invariant _ _ c.is_true-value.ensures c.is_up.ensures,
    )

pub loop-j-preserved : goal.loop-j-preserved
loop-j-preserved c =
    let a = c.args in
    let l = c.loop-j in
    let g = listed a.x.sheet.now c.args.x.valid a.v c.requires.0 a.x.index.now c.args.x.filled in
    let t = values_turned a.a.now (variables a.x.sheet.now) a.v c.requires.0 c.requires.1 in
    let more : l.j < uses a.x.sheet.now a.v = omega (arith, g.size, c.u32_at-q.ensures.0) in
    walk_touched a.x.sheet.now c.args.x.valid a.v a.x.index.now g _ _ l.j c.u32_at-start.ensures.0 more c.u32_at-entry.ensures.0
    (value_in (turn a.a.now a.v)) (value_in a.a.now) t l.sum a.counts.now l.counts l.invariant _ _ c.is_true-value.ensures c.is_up.ensures _ _ c.touch-sum.ensures

pub returns : goal.returns
returns c =
    let a = c.args in
    let l = c.loop-j in
    let g = listed a.x.sheet.now c.args.x.valid a.v c.requires.0 a.x.index.now c.args.x.filled in
    let t = values_turned a.a.now (variables a.x.sheet.now) a.v c.requires.0 c.requires.1 in
    walk_done a.x.sheet.now c.args.x.valid a.v (value_in (turn a.a.now a.v)) (value_in a.a.now) t l.j l.sum a.counts.now l.counts (omega (arith, g.size, c.u32_at-q.ensures.0)) l.invariant
