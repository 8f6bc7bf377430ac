-- `numbering::strip::strip` meets its contract.
use mathlib.Core.Path.{ap, ◌∙◌}
use Rattle.stock.specs.Refused.{refusal}
use Rattle.numbering.specs.Answers.{strip_answer}
use Rattle.numbering.proofs.strip.strip.Goals as goal

pub returns : goal.returns
unfolding strip_answer
returns c = (c.into.ensures ∙ ap refusal c.lay_numbered.ensures.0, c.lay_numbered.ensures.1)
