use Rattle.turns.proofs.Signs.{cleared_start, cleared_long, cleared_turn, cleared_done, next_within}
use Prim.Native.Nat.{◌+◌}
use native.Mathlib.Omega.{arith}
use Rattle.turns.proofs.index.clear_signs.Goals as goal

pub loop-at-init : goal.loop-at-init
loop-at-init c = cleared_start c.args.s.now c.args.index.now _ c.variable_count.ensures.0

pub u32_at-x-requires : goal.u32_at-x-requires
u32_at-x-requires c =
    let l = c.loop-at in
    let z = cleared_long c.args.s.now c.args.index.now c.requires.2.room l.at l.index l.invariant in
    let w = next_within c.args.s.now l.at l.invariant.done l.invariant.at_is (omega (arith, c.requires.1)) in
    omega (arith, z, w, c.requires.2.room)

pub put_u32-requires : goal.put_u32-requires
put_u32-requires c =
    let l = c.loop-at in
    let z = cleared_long c.args.s.now c.args.index.now c.requires.2.room l.at l.index l.invariant in
    let w = next_within c.args.s.now l.at l.invariant.done l.invariant.at_is (omega (arith, c.requires.1)) in
    omega (arith, z, w, c.requires.2.room)

pub loop-at-preserved : goal.loop-at-preserved
loop-at-preserved c =
    let l = c.loop-at in
    cleared_turn c.args.s.now c.args.index.now c.requires.2.room l.at l.index l.invariant _ _ (omega (arith, c.requires.1)) c.u32_at-x.ensures.0 c.put_u32.ensures

pub returns : goal.returns
returns c =
    let l = c.loop-at in
    cleared_done c.args.s.now c.requires.0 c.args.index.now c.requires.2 l.at l.index (omega (arith, c.requires.1)) l.invariant

pub returns-2 : goal.returns-2
returns-2 c =
    let l = c.loop-at in
    let t = cleared_turn c.args.s.now c.args.index.now c.requires.2.room l.at l.index l.invariant _ _ (omega (arith, c.requires.1)) c.u32_at-x.ensures.0 c.put_u32.ensures in
    cleared_done c.args.s.now c.requires.0 c.args.index.now c.requires.2 (l.at + 4) _ (omega (arith, c.requires.1)) t
