-- What the functions behind rebuilding promise. No open call's contract cites it, so nothing here is to be believed.
use Rattle.std.specs.Prelude.{ℕ, ◌≡◌, List, [], ◌∷◌, ◌++◌, length, slice_get}
use Rattle.rules.specs.Refusals.{first_of}
use Rattle.records.specs.Records.{sheet_stock, sheet_strip, first_two_nos}
use Rattle.rebuilding.specs.declared.differing.Found.{Found}

-- how many stand in a list, and the first of them, where one does
pub record Holds (l : List ℕ) (f : Found) : Type 0 where
  pub many : f.many ≡ length l
  pub first : f.first ≡ slice_get l 0

-- with one more number behind those of a list
pub record Joins (f : Found) (number : ℕ) (r : Found) : Type 0 where
  pub joined : (l : List ℕ) → Holds l f → Holds (l ++ (number ∷ [])) r

-- a sheet whose first two records are sound, and hold this stock and this strip
pub record Sound (sheet counts s : List ℕ) : Type 0 where
  pub none : (first_of (first_two_nos sheet)).0 ≡ 0
  pub stock : counts ≡ sheet_stock sheet
  pub strip : s ≡ sheet_strip sheet
