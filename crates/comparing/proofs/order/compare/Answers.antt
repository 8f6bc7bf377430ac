-- `comparing::order::compare` meets its contract. The invariant: in the kinds that are done the two strips are alike.
use Prim.Native.Nat.{◌+◌, ◌<◌}
use lib.ListN.{length}
use mathlib.Core.Path.{refl, ap, ◌∙◌}
use mathlib.Core.List.{List}
use Prim.Native.Nat.{ℕ}
use native.Mathlib.Omega.{arith}
use Rattle.rules.specs.Book.{odd}
use Rattle.rules.proofs.Strips.{strip_fits}
use Rattle.rules.proofs.Index.{index}
use Rattle.rules.proofs.Upward.{others}
use Rattle.comparing.proofs.Numbers.{ahead_range}
use Rattle.comparing.proofs.Level.{start, as_long, as_many_rests, parted, on, end}
use Rattle.comparing.proofs.order.compare.Goals as goal

pub loop-j-init : goal.loop-j-init
loop-j-init c = let p = c.requires in (refl, refl, start _ _ _ p.0 p.1 p.2)

pub reduce-n-requires : goal.reduce-n-requires
reduce-n-requires c = omega (arith, strip_fits _ _ c.requires.0 c.requires.1, c.loop-j.invariant.0)

pub reduce-m-requires : goal.reduce-m-requires
reduce-m-requires c = omega (arith, strip_fits _ _ c.requires.0 c.requires.2, c.loop-j.invariant.1)

pub order_of-requires : goal.order_of-requires
order_of-requires c =
    let p = c.requires in
    let level = c.loop-j.invariant.2 in
    let more : c.loop-j.j < length c.args.stock.now = omega arith in
    rw (c.reduce-n.ensures.1, c.reduce-m.ensures.1) (as_long level p.1 p.2 more, as_many_rests level p.1 p.2 more)

pub returns-in-Some : goal.returns-in-Some
returns-in-Some c =
    let p = c.requires in
    parted c.loop-j.invariant.2 p.1 p.2 (omega arith) (rw (c.reduce-n.ensures.1, c.reduce-m.ensures.1) at c.in-Some.ensures) (λ e. omega (arith, ahead_range c.in-Some.ahead))

pub odd_index_of-odd_index-requires : goal.odd_index_of-odd_index-requires
odd_index_of-odd_index-requires c =
    rw c.reduce-n.ensures.1 (others c.loop-j.invariant.2.up c.requires.1 (omega arith))

pub loop-j-preserved : goal.loop-j-preserved
loop-j-preserved c =
    let p = c.requires in
    let kind = c.loop-j.j + 1 in
    let r = c.reduce-n in (
      r.auto.word ∙ c.loop-j.invariant.0,
      c.reduce-m.auto.word ∙ c.loop-j.invariant.1,
      on c.loop-j.invariant.2 p.1 p.2 (omega arith) (rw (r.ensures.1, c.reduce-m.ensures.1) at c.in_default.ensures) refl r.ensures.0 (c.odd_index_of-odd_index.ensures ∙ ap (λ (w : List ℕ). odd (index kind w)) r.ensures.1),
    )

pub returns : goal.returns
returns c =
    let p = c.requires in
    end c.loop-j.invariant.2 p.1 p.2 (omega arith)
