-- `numbering::strips::strip_of` meets its contract.
use Prim.Native.Nat.{◌+◌, ◌≤◌}
use mathlib.Core.Path.{◌≡◌, sym}
use native.Mathlib.Omega.{arith}
use lib.ListN.{length, take}
use Rattle.rules.proofs.Rising as rising
use Rattle.numbering.proofs.Layers.{start, patterns_here, within_patterns, on, end}
use Rattle.numbering.proofs.strips.strip_of.Goals as goal

pub indices_of-indices-requires : goal.indices_of-indices-requires
indices_of-indices-requires c = let p = c.requires in (p.0, p.1, p.3)

pub loop-j-init : goal.loop-j-init
loop-j-init c = let p = c.requires in start _ _ p.3 _ p.2

pub overflow_add-n : goal.overflow_add-n
overflow_add-n c = omega (arith, rising.within c.loop-j.invariant (omega arith), c.from.ensures)

pub slice_bounds-lay_at-end : goal.slice_bounds-lay_at-end
slice_bounds-lay_at-end c = let h : c.loop-j.below + c.from.result ≤ length c.loop-j.strip = omega (arith, rising.within c.loop-j.invariant (omega arith), c.from.ensures) in h

pub slice_bounds-lay_at-end-in-loop-j : goal.slice_bounds-lay_at-end-in-loop-j
slice_bounds-lay_at-end-in-loop-j c =
    let h : c.loop-j.below + c.from.result ≡ length (take (c.loop-j.below + c.from.result) c.loop-j.strip) = rw c.from.ensures (sym (rising.long c.loop-j.invariant (omega arith))) in h

-- the kind that a turn lays in is in the stock; its pattern is in the list, at the index that was found
pub lay_at-requires : goal.lay_at-requires
lay_at-requires c =
    let p = c.requires in
    let l = c.loop-j.invariant in
    let e = rising.long l (omega arith) in
    let is = c.indices_of-indices.ensures c.loop-j.j (omega arith) in
    rw c.from.ensures (
      patterns_here _ _ p.3 l (omega arith) _ is _ p.0,
      omega (arith, e, rising.within l (omega arith), l.room, p.1.short),
      omega (arith, e),
      within_patterns _ _ p.3 l (omega arith) _ is _ p.0,
    )

pub loop-j-preserved : goal.loop-j-preserved
loop-j-preserved c =
    rw c.from.ensures (on _ _ c.requires.3 c.loop-j.invariant (omega arith) _ (c.indices_of-indices.ensures c.loop-j.j (omega arith)) _ (rw c.from.ensures at c.lay_at.auto.word) (rw c.from.ensures at c.lay_at.ensures))

pub returns : goal.returns
returns c = end _ _ c.requires.3 c.loop-j.invariant (omega arith)
