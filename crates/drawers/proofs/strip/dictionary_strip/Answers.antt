-- `drawers::strip::dictionary_strip` meets its contract.
use mathlib.Core.Path.{ap, ◌∙◌}
use Rattle.stock.specs.Refused.{refusal}
use Rattle.drawers.specs.Answers.{dictionary_strip_answer}
use Rattle.drawers.proofs.strip.dictionary_strip.Goals as goal

pub returns : goal.returns
unfolding dictionary_strip_answer
returns c = (c.into.ensures ∙ ap refusal c.lay_entry.ensures.0, c.lay_entry.ensures.1)
