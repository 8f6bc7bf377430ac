-- `laying::parting::Patterns::by_letters` meets its contract.
use Rattle.laying.proofs.Enlarging.{by_letters_lem}
use Rattle.laying.proofs.parting.Patterns.by_letters.Goals as goal

pub returns : goal.returns
returns c = by_letters_lem c.requires.0 c.requires.1 c.requires.2
