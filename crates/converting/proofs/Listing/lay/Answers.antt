-- `converting::Listing::lay` meets its contract: both calls answer by one list of refusals.
use Rattle.numbering.specs.Answers.{strip_answer, strip_after}
use Rattle.drawers.specs.Answers.{dictionary_strip_answer, dictionary_strip_after}
use Rattle.converting.proofs.Listing.lay.Goals as goal

pub returns-in-Book : goal.returns-in-Book
unfolding strip_answer strip_after
returns-in-Book c = rw c.in-Book.is c.strip.ensures

pub returns-in-Dictionary : goal.returns-in-Dictionary
unfolding dictionary_strip_answer dictionary_strip_after
returns-in-Dictionary c = rw c.in-Dictionary.is c.dictionary_strip.ensures
