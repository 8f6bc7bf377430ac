-- `rebuilding::differing::differ` meets its contract: a record that differs is joined to those before it.
use Rattle.std.proofs.Common.{◌∙◌, sym, arith}
use Rattle.rebuilding.proofs.Numbers.{like, unlike, none_yet, fewer, next_same, next_other}
use Rattle.rebuilding.proofs.differing.differ.Goals as goal
use Rattle.rebuilding.proofs.differing.differ.Goals.{then-ne, else-ne}

pub loop-i-init : goal.loop-i-init
loop-i-init c = none_yet _ _

pub with-found-requires : goal.with-found-requires
with-found-requires c = omega (arith, fewer _ _ _ _ c.loop-i.invariant)

pub loop-i-preserved : goal.loop-i-preserved
loop-i-preserved c = elim c.if-ne.branch [
  | then-ne w ↦ rw w.found-is (next_other _ _ _ _ _ c.loop-i.invariant (λ e. unlike _ _ w.if-ne.ensures (c.record_behind.ensures ∙ e ∙ sym c.record_behind-in-loop-i.ensures)) w.with-found.ensures)
  | else-ne w ↦ rw w.found-is (next_same _ _ _ _ c.loop-i.invariant (sym c.record_behind.ensures ∙ like _ _ w.if-ne.ensures ∙ c.record_behind-in-loop-i.ensures))
]
