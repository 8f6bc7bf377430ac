-- `replaying::replay::exchange_all` meets its contract. The invariant: what the flags hold and what is left to exchange come to the whole.
use native.Mathlib.Omega.{arith}
use Rattle.rules.proofs.Places.{place_below}
use Rattle.replaying.proofs.Underway.{start, pair, next_own, next_in_room, on_walked, on_other, end_walked, end_strip, end_flagged}
use Rattle.replaying.proofs.replay.exchange_all.Goals as goal
use Rattle.replaying.proofs.replay.exchange_all.Goals.{then-number-before, else-number-before}

pub number_of-start-requires : goal.number_of-start-requires
number_of-start-requires c =
    let p = c.requires in
    (p.0, p.1.stock, p.1.strip, omega (arith, p.1.small))

pub bounds-flags-start : goal.bounds-flags-start
bounds-flags-start c =
    omega (arith, c.number_of-start.ensures.0, place_below c.args.stock.now c.args.strip.now c.requires.1.strip, c.requires.2)

pub loop-k-init : goal.loop-k-init
loop-k-init c =
    start _ _ _ c.requires.1.strip c.requires.1.right c.args.flags.now c.requires.2 c.requires.3 _ c.number_of-start.ensures.0

pub exchange-requires : goal.exchange-requires
exchange-requires c = pair _ c.requires.1.stock _ _ _ _ _ _ _ c.loop-k.invariant (omega arith)

pub number_of-number-requires : goal.number_of-number-requires
number_of-number-requires c =
    let p = c.requires in
    (p.0, p.1.stock, rw c.exchange.ensures (next_own _ p.1.stock _ _ _ _ _ _ _ c.loop-k.invariant (omega arith)), omega (arith, p.1.small))

pub bounds-flags-number : goal.bounds-flags-number
bounds-flags-number c = next_in_room _ c.requires.1.stock _ _ _ _ _ _ _ c.loop-k.invariant (omega arith) _ c.exchange.ensures _ c.number_of-number.ensures.0

pub overflow_add-before : goal.overflow_add-before
overflow_add-before c =
    let l = c.loop-k in
    omega (arith, l.invariant.numbered, place_below c.args.stock.now l.strip l.invariant.own, c.requires.1.small)

pub overflow_add-walked : goal.overflow_add-walked
overflow_add-walked c = omega (arith, c.loop-k.invariant.fewer)

pub loop-k-preserved : goal.loop-k-preserved
loop-k-preserved c =
    let u = c.loop-k.invariant in
    elim c.if-number-before.branch [
      | then-number-before w ↦ rw w.walked-is (on_walked _ c.requires.1.stock _ _ _ _ _ _ _ u (omega arith) _ c.exchange.ensures _ c.number_of-number.ensures.0 (omega arith))
      | else-number-before w ↦ rw w.walked-is (on_other _ c.requires.1.stock _ _ _ _ _ _ _ u (omega arith) _ c.exchange.ensures _ c.number_of-number.ensures.0 (λ e. omega arith))
    ]

pub returns : goal.returns
returns c =
    let u = c.loop-k.invariant in (
      end_walked _ c.requires.1.stock _ _ _ _ _ _ _ u (omega arith),
      end_strip _ c.requires.1.stock _ _ _ _ _ _ _ u (omega arith),
      end_flagged _ c.requires.1.stock _ _ _ _ _ _ _ u (omega arith),
    )
