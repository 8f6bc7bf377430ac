-- TO BE BELIEVED. What reading a sheet answers, and what it leaves in the lent buffer: a sheet of either edition where strides is true, and else of edition 1.
use Rattle.std.specs.Prelude.{ℕ, Bool, List, [], ◌∷◌, ◌++◌, ltb, length, drop}
use Rattle.rules.specs.Stock.{sum}
use Rattle.rules.specs.Refusals.{No, when, first_of, unless, answer}
use Rattle.records.specs.Records.{sheet_stock, sheet_strip, first_two_nos}
use Rattle.following.specs.declared.Readout.{Readout}
use Rattle.following.specs.Following.{Followed, follow, as_readout}

-- the moves and the end of a sheet, from byte 82 on
unfoldable pub followed : Bool → List ℕ → Followed
followed strides sheet = follow strides (sheet_stock sheet) (sheet_strip sheet) 82 (drop 82 sheet)

-- ---- reading: 4; then the first two records, in whose stock 2 is never met (`never_two`, proved); then the moves and the end

-- without 4
unfoldable pub record_nos : Bool → List ℕ → List No
record_nos strides sheet = first_two_nos sheet ++ ((followed strides sheet).no ∷ [])

unfoldable pub read_nos : Bool → List ℕ → List ℕ → List No
read_nos strides sheet buffer = when 4 (ltb (length buffer) 64) ∷ record_nos strides sheet

unfoldable pub read_answer : Bool → List ℕ → List ℕ → Readout
read_answer strides sheet buffer = answer as_readout (read_nos strides sheet buffer) 0 (followed strides sheet).moves

-- the final strip in the first n bytes of the buffer: later bytes stay
unfoldable pub read_buffer : Bool → List ℕ → List ℕ → List ℕ
read_buffer strides sheet buffer = unless (first_of (read_nos strides sheet buffer)) buffer ((followed strides sheet).strip ++ drop (sum (sheet_stock sheet)) buffer)
