-- `succession::tail::turn_tail` meets its contract.
use Prim.Native.Nat.{◌-◌}
use native.Mathlib.Omega.{arith}
use lib.ListN.{get_or, length-set}
use Rattle.succession.proofs.Turning.{turned_start, turned_on, turned_end}
use Rattle.succession.proofs.tail.turn_tail.Goals as goal

pub loop-low-init : goal.loop-low-init
loop-low-init c = turned_start c.args.strip.now c.args.from c.requires

pub bounds-strip-low : goal.bounds-strip-low
bounds-strip-low c =
    let i = c.loop-low.invariant in
    omega (arith, i.long, i.order.2)

pub bounds-strip-high : goal.bounds-strip-high
bounds-strip-high c =
    let i = c.loop-low.invariant in
    omega (arith, i.long, i.order.2)

pub bounds-strip-low-in-loop-low : goal.bounds-strip-low-in-loop-low
bounds-strip-low-in-loop-low c =
    let i = c.loop-low.invariant in
    omega (arith, i.long, i.order.2)

pub bounds-strip-high-in-loop-low : goal.bounds-strip-high-in-loop-low
bounds-strip-high-in-loop-low c =
    let l = c.loop-low in
    omega (arith, length-set l.strip l.low (get_or l.strip (l.high - 1) 0), l.invariant.long, l.invariant.order.2)

pub overflow_add-low : goal.overflow_add-low
overflow_add-low c = omega (arith, c.loop-low.invariant.order.2)

pub loop-low-preserved : goal.loop-low-preserved
loop-low-preserved c =
    let a = c.args in
    let l = c.loop-low in
    turned_on a.strip.now a.from l.strip l.low l.high l.invariant c.loop-low-test.true

pub returns : goal.returns
returns c =
    let a = c.args in
    let l = c.loop-low in
    turned_end a.strip.now a.from l.strip l.low l.high l.invariant c.loop-low-test.false
