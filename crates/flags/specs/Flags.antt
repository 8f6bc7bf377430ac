-- What flags say of the strips of a book. No open call's contract cites it, so nothing here is to be believed.
use Rattle.std.specs.Prelude.{ℕ, ◌<◌, ◌≡◌, Bool, false, not, List, [], length, get_or, count_by}
use Rattle.std.specs.List.{position_or_len}
use Rattle.searching.specs.Searching.{is_among}

-- all flags are clear
abbrev pub Clear : List Bool → Type 0
Clear flags = (k : ℕ) → k < length flags → get_or flags k false ≡ false

-- a flag for each strip of a book, set where the strip is among those of a list
pub record Flagged (book l : List (List ℕ)) (flags : List Bool) : Type 0 where
  pub many : length flags ≡ length book
  pub each : (k : ℕ) → k < length book → get_or flags k false ≡ is_among l (get_or book k [])

-- how many flags are set
abbrev pub how_many_set : List Bool → ℕ
how_many_set flags = count_by (λ set. set) flags

-- how many flags stand ahead of the first that is clear; all where none is
abbrev pub first_clear_place : List Bool → ℕ
first_clear_place flags = position_or_len (λ set. not set) flags
