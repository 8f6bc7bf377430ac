-- The two lists of a stock's strips. No open call's contract cites it, so nothing here is to be believed.
use Rattle.std.specs.Prelude.{ℕ, List}
use Rattle.rules.specs.Book.{book}
use Rattle.dictionary.specs.Dictionary.{dictionary}
use Rattle.converting.specs.declared.Listing.{Listing}
use Rattle.converting.specs.declared.Listing.TheVariants.{Book, Dictionary}

abbrev pub list_of : Listing → List ℕ → List (List ℕ)
list_of Book counts = book counts
list_of Dictionary counts = dictionary counts
