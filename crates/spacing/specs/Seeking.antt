-- What the search behind the call promises, and what the call comes to. No open call's contract cites it, so nothing here is to be believed.
use Rattle.std.specs.Prelude.{ℕ, ◌≡◌, Bool, List, Result, Ok, Err}
use Rattle.rules.specs.Book.{book}
use Rattle.rules.specs.Refusals.{fine}
use Rattle.stock.specs.Refused.{no_of}
use Rattle.stock.specs.declared.refused.Refused.{Refused}
use Rattle.walker.specs.declared.Walker.{Walker}
use Rattle.walker.specs.Walkers.{walker_for}
use Rattle.searching.specs.Searching.{later}
use Rattle.searching.specs.Ended.{number_of, EndsSo}
use Rattle.searching.specs.declared.Ended.{Ended}
use Rattle.touching.specs.Apart.{stands_apart}
use Rattle.spacing.specs.declared.next_apart.Spaced.{Spaced}
use Rattle.spacing.specs.Answers.{as_spaced}

-- how the search ended, and the walker of the strip as it then stands
pub record Reached (endless : Bool) (counts s : List ℕ) (given : ℕ) (r : Ended) (t : List ℕ) (w : Walker) : Type 0 where
  pub sought : EndsSo (stands_apart endless) (later (book counts) s) given s r t
  pub walker : w ≡ walker_for counts t

-- the answer of what the search comes to; refused, with the walker that was lent
abbrev pub spaced : Walker → Result (Ended × Walker) Refused → Spaced
spaced lent (Ok (e, w)) = as_spaced fine (number_of e.outcome) e.steps w
spaced lent (Err e) = as_spaced (no_of e) 0 0 lent
