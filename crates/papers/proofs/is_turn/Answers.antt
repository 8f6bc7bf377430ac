-- `papers::is_turn` meets its contract: the strip as it stands, and then foot up.
use mathlib.Core.Path.{sym, ◌∙◌}
use Rattle.papers.proofs.Turning.{turn_there, turn_back}
use Rattle.papers.proofs.is_turn.Goals as goal

pub returns-then-is_turn_of : goal.returns-then-is_turn_of
returns-then-is_turn_of c = c.if-is_turn_of.true ∙ turn_there _ _ (sym c.if-is_turn_of.true ∙ c.is_turn_of.ensures)

pub returns-else-is_turn_of : goal.returns-else-is_turn_of
returns-else-is_turn_of c = turn_back _ _ _ (sym c.if-is_turn_of.false ∙ c.is_turn_of.ensures) c.is_turn_of-else-is_turn_of.ensures
