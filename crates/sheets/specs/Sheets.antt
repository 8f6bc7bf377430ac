-- TO BE BELIEVED. Document 01, "Press sheets": records, and the sheet of a stock, a strip and so many moves on.
use Rattle.std.specs.Prelude.{ℕ, zero, suc, ◌-◌, List, [], ◌∷◌, ◌++◌, length, replicate}
use Rattle.rules.specs.Neighbours.{places}
use Rattle.walking.specs.Answers.{onward}

-- a list with zeros after it, n long in all
unfoldable pub padded : ℕ → List ℕ → List ℕ
padded n l = l ++ replicate (n - length l) 0

-- kind 1, stock: 16 bytes of counts
unfoldable pub stock_record : List ℕ → List ℕ
stock_record counts = 1 ∷ padded 16 counts

-- kind 2, strip: 64 bytes
unfoldable pub strip_record : List ℕ → List ℕ
strip_record s = 2 ∷ padded 64 s

-- kind 3, move: two places, smaller first. The records of c moves on from a strip
unfoldable pub move_records : List ℕ → List ℕ → ℕ → List ℕ
move_records counts s zero = []
move_records counts s (suc c) = move_records counts s c ++ (3 ∷ places (onward counts s c) (onward counts s (suc c)))

-- kind 4, end
abbrev pub end_record : List ℕ
end_record = 4 ∷ []

-- one stock, one strip, c moves on, one end
unfoldable pub sheet_of : List ℕ → List ℕ → ℕ → List ℕ
sheet_of counts s c = stock_record counts ++ (strip_record s ++ (move_records counts s c ++ end_record))
