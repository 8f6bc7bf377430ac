-- `hanging::reversing::hang` meets its contract.
use mathlib.Core.Path.{◌≡◌, ◌∙◌}
use mathlib.Core.Bool.{not}
use native.Mathlib.Omega.{arith}
use Rattle.rules.specs.Book.{turn}
use Rattle.papers.specs.Papers.{hung}
use Rattle.hanging.proofs.Reversals.{hangs_so}
use Rattle.hanging.proofs.reversing.hang.Goals as goal
use Rattle.hanging.proofs.reversing.hang.Goals.{then-not-so, else-not-so}

pub returns : goal.returns
unfolding turn
returns c =
    let a = c.args in
    -- before the last step the strip hangs the other way
    let other_way : c.if-not-so.strip ≡ hung (not a.so.reversed) a.strip.now =
    elim c.if-not-so.branch [
      | then-not-so w ↦ rw w.if-not-so.true (w.strip-is ∙ w.reverse.ensures.after)
      | else-not-so w ↦ rw w.if-not-so.false w.strip-is
    ] in
    hangs_so a.strip.now a.so.reversed a.so.turn _ _ _ (omega (arith, c.requires)) other_way c.reverse_parts.ensures
