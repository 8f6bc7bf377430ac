-- What the search for the smallest turn promises. No open call's contract cites it, so nothing here is to be believed.
use Rattle.std.specs.Prelude.{ℕ, ◌<◌, ◌≡◌, false, List, length}
use Rattle.papers.specs.Papers.{turned}
use Rattle.dictionary.specs.Dictionary.{before}

-- of the turns of s as it stands, that by t places is the smallest, and no fewer places lead to it
pub record Least (s : List ℕ) (t : ℕ) : Type 0 where
  pub inside : t < length s
  pub smallest : (u : ℕ) → u < length s → before (turned u s) (turned t s) ≡ false
  pub fewest : (u : ℕ) → u < t → turned u s ≡ turned t s → ⊥
