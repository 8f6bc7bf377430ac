-- `drawers::next::dictionary_next` meets its contract.
use mathlib.Core.Path.{ap, ◌∙◌}
use Rattle.stock.specs.Refused.{refusal}
use Rattle.drawers.specs.Answers.{dictionary_next_answer}
use Rattle.drawers.proofs.next.dictionary_next.Goals as goal

pub returns : goal.returns
unfolding dictionary_next_answer
returns c = (c.into.ensures ∙ ap refusal c.step.ensures.0, c.step.ensures.1)
