-- `entries::numbers::entry_of` meets its contract. The invariant: the blocks from i on are counted, and so are their orders and those before theirs.
use Prim.Native.Nat.{◌-◌}
use mathlib.Core.Path.{◌≡◌}
use native.Mathlib.Omega.{arith}
use lib.ListN.{length, get_or}
use Rattle.entries.proofs.Tails.{tail_none, tail_all, Turn, turn}
use Rattle.entries.proofs.numbers.entry_of.Goals as goal
use Rattle.entries.proofs.numbers.entry_of.Goals.{In-loop-i}

-- what a turn needs and does
made : (c : In-loop-i) → let l = c.loop-i in let s = c.args.strip.now in
    Turn c.args.stock.now s l.seen l.orders l.number (length s - (l.i - 1)) l.i (get_or s (l.i - 1) 0)
made c =
    let l = c.loop-i in
    turn c.args.stock.now c.args.strip.now l.seen c.requires.0 c.requires.1 l.orders l.number l.i l.invariant c.loop-i-test.true

pub loop-i-init : goal.loop-i-init
loop-i-init c = tail_none c.args.stock.now c.args.strip.now

pub overflow_add-alike : goal.overflow_add-alike
overflow_add-alike c =
    let m = made (goal.at.overflow_add-alike c).In-loop-i in
    omega (arith, m.alike_few, m.more_few)

pub lower_kinds-less-requires : goal.lower_kinds-less-requires
lower_kinds-less-requires c =
    let m = made (goal.at.lower_kinds-less-requires c).In-loop-i in
    (m.kind_few, m.less_few)

pub grown-requires : goal.grown-requires
grown-requires c =
    let m = made (goal.at.grown-requires c).In-loop-i in
    (omega arith, m.alike_few, m.more_few)

-- the tail has 2^64 orders or more, and so has the strip
pub returns-in_err-more : goal.returns-in_err-more
returns-in_err-more c =
    let m = made (goal.at.returns-in_err-more c).In-loop-i in
    rw c.from_residual.ensures (m.past c.in_err-more.ensures)

pub scale-number-requires : goal.scale-number-requires
scale-number-requires c =
    let m = made (goal.at.scale-number-requires c).In-loop-i in
    (omega arith, omega (arith, m.alike_few, m.more_few), omega (arith, c.lower_kinds-less.ensures, m.less_few), omega (arith, m.number_fits _ _ c.in_ok-more.ensures c.lower_kinds-less.ensures))

-- the number fits, since the orders do
pub overflow_add-number : goal.overflow_add-number
overflow_add-number c =
    let m = made (goal.at.overflow_add-number c).In-loop-i in
    omega (arith, m.number_fits _ _ c.in_ok-more.ensures c.lower_kinds-less.ensures, c.scale-number.ensures)

pub loop-i-preserved : goal.loop-i-preserved
loop-i-preserved c =
    let m = made (goal.at.loop-i-preserved c).In-loop-i in
    m.next _ _ _ c.in_ok-more.ensures c.lower_kinds-less.ensures c.scale-number.ensures

pub returns : goal.returns
returns c =
    let l = c.loop-i in
    let e : l.i ≡ 0 = omega arith in
    tail_all c.args.stock.now c.args.strip.now c.requires.1 l.seen l.orders l.number (rw e at l.invariant)
