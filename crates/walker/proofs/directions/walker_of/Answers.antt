-- `walker::directions::walker_of` meets its contract.
use Prim.Native.Nat.{ℕ, ◌+◌}
use mathlib.Core.Path.{refl, sym, ap, ◌∙◌}
use mathlib.Core.List.{List}
use native.Mathlib.Omega.{arith}
use lib.ListN.{length}
use Rattle.rules.specs.Book.{odd}
use Rattle.rules.proofs.Strips.{strip_fits}
use Rattle.rules.proofs.Index.{index}
use Rattle.rules.proofs.Reduced.{reduced_fits}
use Rattle.rules.proofs.Upward.{others}
use Rattle.walker.proofs.Building.{start, on, end}
use Rattle.walker.proofs.directions.walker_of.Goals as goal

pub loop-j-init : goal.loop-j-init
loop-j-init c = (refl, start _ _)

-- the strip fits the word, and so does its reduced strip
pub reduce-n-requires : goal.reduce-n-requires
reduce-n-requires c = omega (arith, strip_fits _ _ c.requires.0 c.requires.1)

pub slice_bounds-word-end : goal.slice_bounds-word-end
slice_bounds-word-end c = omega (arith, c.reduce-n.ensures.0, reduced_fits _ _ c.requires.0 c.requires.1 (c.loop-j.j + 1))

pub slice_bounds-odd_index_of-end : goal.slice_bounds-odd_index_of-end
slice_bounds-odd_index_of-end c = c.reduce-n.ensures.0 ∙ sym (ap length c.reduce-n.ensures.1)

-- below is how many blocks of it are no blocks of the kind
pub odd_index_of-odd_index-requires : goal.odd_index_of-odd_index-requires
odd_index_of-odd_index-requires c = rw c.reduce-n.ensures.1 (others c.loop-j.invariant.1.up c.requires.1 c.loop-j-test.true)

pub loop-j-preserved : goal.loop-j-preserved
loop-j-preserved c = (
  omega arith,
  on _ _ _ _ _ _ c.loop-j.invariant.1 c.requires.0 c.requires.1 c.loop-j-test.true _ _ c.reduce-n.ensures.0 (c.odd_index_of-odd_index.ensures ∙ ap (λ (w : List ℕ). odd (index (c.loop-j.j + 1) w)) c.reduce-n.ensures.1),
)

pub returns : goal.returns
returns c = end _ _ _ _ _ _ c.loop-j.invariant.1 c.loop-j-test.false
