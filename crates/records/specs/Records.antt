-- TO BE BELIEVED. The records of a sheet before the moves: which stock and which strip they hold, and the refusals of a record.
use Rattle.std.specs.Prelude.{ℕ, ◌+◌, not, ◌||◌, List, [], ◌∷◌, ◌++◌, eqb, ltb, length, get_or, take, drop, replicate}
use Rattle.rules.specs.Stock.{sum}
use Rattle.rules.specs.Book.{same}
use Rattle.rules.specs.Refusals.{No, when_at, stranger_no, amount_no, stock_nos}
use Rattle.rules.specs.SoldOut.{used}

-- ---- the stock and the strip of a sheet

-- the sixteen counts of the stock record, to the last one that is not 0
unfoldable pub sheet_stock : List ℕ → List ℕ
sheet_stock sheet = used (take 16 (drop 1 sheet))

-- the 64 bytes of the strip record
unfoldable pub strip_body : List ℕ → List ℕ
strip_body sheet = take 64 (drop 18 sheet)

unfoldable pub sheet_strip : List ℕ → List ℕ
sheet_strip sheet = take (sum (sheet_stock sheet)) (strip_body sheet)

-- ---- the refusals of a record

-- 11: the record at a byte is not of this kind, or its body is cut short
unfoldable pub record_no : ℕ → ℕ → ℕ → List ℕ → No
record_no kind body at sheet = when_at 11 at (not (eqb (get_or sheet at 0) kind) || ltb (length sheet) (at + 1 + body))

-- 11: padding of the strip not zero
unfoldable pub padding_no : List ℕ → No
padding_no sheet =
    let rest = drop (sum (sheet_stock sheet)) (strip_body sheet) in
    when_at 11 17 (not (same rest (replicate (length rest) 0)))

-- of the first two records: 11, then 1, 2, 3 in the stock; 11, then 5, 6, then padding in the strip
unfoldable pub first_two_nos : List ℕ → List No
first_two_nos sheet =
    let counts = sheet_stock sheet in
    let s = sheet_strip sheet in
    record_no 1 16 0 sheet ∷ (stock_nos counts ++ (record_no 2 64 17 sheet ∷ stranger_no counts s ∷ amount_no counts s ∷ padding_no sheet ∷ []))
