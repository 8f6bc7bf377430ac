-- TO BE BELIEVED. Document 02, P12: the one form of edition 2 for each stock, strip and count of moves, and what writing it answers.
use Rattle.std.specs.Prelude.{ℕ, ◌+◌, ◌*◌, ◌^◌, Bool, true, false, ◌&&◌, List, ◌++◌, ltb, leb}
use Rattle.rules.specs.Stock.{total}
use Rattle.rules.specs.Refusals.{No, pick}
use Rattle.sheets.specs.declared.Written.{Written}
use Rattle.sheets.specs.Sheets.{stock_record, strip_record, move_records, end_record}
use Rattle.sheets.specs.Writing.{put_nos, put_answer, sheet_put}
use Rattle.strides.specs.Strides.{stride_record}

-- ---- the form

-- the stock can be numbered and c is 3 or more
abbrev pub strided : List ℕ → ℕ → Bool
strided counts c = ltb (total counts) (2 ^ 64) && leb 3 c

abbrev pub either : Bool → List ℕ → List ℕ → List ℕ
either true l m = l
either false l m = m

-- then one stride of c and no single moves, and otherwise c single moves
unfoldable pub form_records : List ℕ → List ℕ → ℕ → List ℕ
form_records counts s c = either (strided counts c) (stride_record c) (move_records counts s c)

unfoldable pub form_of : List ℕ → List ℕ → ℕ → List ℕ
form_of counts s c = stock_record counts ++ (strip_record s ++ (form_records counts s c ++ end_record))

-- 92 bytes, and otherwise 83 + 3c
unfoldable pub form_length : List ℕ → ℕ → ℕ
form_length counts c = pick (strided counts c) 92 (83 + 3 * c)

-- ---- writing it: as edition 1 is written, with other bytes

abbrev pub long_nos : List ℕ → List ℕ → ℕ → List ℕ → List No
long_nos counts s c sheet = put_nos (form_length counts c) counts s c sheet

abbrev pub long_answer : List ℕ → List ℕ → ℕ → List ℕ → Written
long_answer counts s c sheet = put_answer (form_length counts c) counts s c sheet

abbrev pub long_sheet : List ℕ → List ℕ → ℕ → List ℕ → List ℕ
long_sheet counts s c sheet = sheet_put (form_length counts c) (form_of counts s c) counts s c sheet
