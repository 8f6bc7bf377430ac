-- `hanging::stands::is_standing` meets its contract: the strip as it stands, and then foot up.
use mathlib.Core.Path.{sym, ap, ◌∙◌}
use mathlib.Core.Bool.{false, not}
use Rattle.hanging.proofs.SomeBefore.{does_not_stand, stands_unless}
use Rattle.hanging.proofs.stands.is_standing.Goals as goal

pub returns-then-not-some_before : goal.returns-then-not-some_before
returns-then-not-some_before c =
    ap not c.some_before-then-not-some_before.ensures ∙ stands_unless _ c.requires (sym c.some_before.ensures ∙ c.if-not-some_before.true)

pub returns-else-not-some_before : goal.returns-else-not-some_before
returns-else-not-some_before c =
    ap not c.if-not-some_before.false ∙ sym (does_not_stand _ c.requires false (sym c.some_before.ensures ∙ c.if-not-some_before.false))
