-- One step in dictionary order. No open call's contract cites it, so nothing here is to be believed.
use Rattle.std.specs.Prelude.{ℕ, suc, ◌<◌, ◌≡◌, Bool, true, false, List, [], get_or}
use Rattle.rules.specs.Stock.{total}
use Rattle.rules.specs.Book.{place_in}
use Rattle.dictionary.specs.Dictionary.{dictionary}

-- the strip s was moved on to t, the entry after it; or it is the last entry, and t is s
pub record Advanced (counts s : List ℕ) (moved : Bool) (t : List ℕ) : Type 0 where
  pub on : moved ≡ true → (suc (place_in (dictionary counts) s) < total counts) × (t ≡ get_or (dictionary counts) (suc (place_in (dictionary counts) s)) [])
  pub end : moved ≡ false → (suc (place_in (dictionary counts) s) ≡ total counts) × (t ≡ s)
