-- `counting::first::first` meets its contract.
use mathlib.Core.Path.{ap, ◌∙◌}
use Rattle.stock.specs.Refused.{refusal}
use Rattle.counting.specs.Answers.{first_answer}
use Rattle.counting.proofs.first.first.Goals as goal

pub returns : goal.returns
unfolding first_answer
returns c = (c.into.ensures ∙ ap refusal c.lay_first.ensures.0, c.lay_first.ensures.1)
