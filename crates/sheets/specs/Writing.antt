-- TO BE BELIEVED. What writing a sheet answers, and what it leaves in the lent sheet.
use Rattle.std.specs.Prelude.{ℕ, ◌+◌, ◌*◌, List, [], ◌∷◌, ◌++◌, ltb, length, drop}
use Rattle.rules.specs.Refusals.{No, when, first_of, unless, answer, check_nos}
use Rattle.stock.specs.Refused.{refusal}
use Rattle.walking.specs.Answers.{left}
use Rattle.sheets.specs.declared.Written.{Written}
use Rattle.sheets.specs.Sheets.{sheet_of}

-- ---- of whatever bytes, so many, for a stock, a strip and c moves

-- 13: so many bytes do not fit
abbrev pub short_no : ℕ → List ℕ → No
short_no long sheet = when 13 (ltb (length sheet) long)

-- 9: fewer than c moves left
unfoldable pub fewer_no : List ℕ → List ℕ → ℕ → No
fewer_no counts s c = when 9 (ltb (left counts s) c)

-- refusals 1 to 6, then 13, then 9
unfoldable pub put_nos : ℕ → List ℕ → List ℕ → ℕ → List ℕ → List No
put_nos long counts s c sheet = check_nos counts s ++ (short_no long sheet ∷ fewer_no counts s c ∷ [])

abbrev pub as_written : No → ℕ → Written
as_written r n = record { refusal = refusal r; length = n }

-- how many they are
unfoldable pub put_answer : ℕ → List ℕ → List ℕ → ℕ → List ℕ → Written
put_answer long counts s c sheet = answer as_written (put_nos long counts s c sheet) 0 long

-- the lent sheet: they stand at its front, and later bytes stay
unfoldable pub sheet_put : ℕ → List ℕ → List ℕ → List ℕ → ℕ → List ℕ → List ℕ
sheet_put long bytes counts s c sheet = unless (first_of (put_nos long counts s c sheet)) sheet (bytes ++ drop long sheet)

-- ---- the sheet of edition 1, of 83 + 3c bytes

abbrev pub write_nos : List ℕ → List ℕ → ℕ → List ℕ → List No
write_nos counts s c sheet = put_nos (83 + 3 * c) counts s c sheet

abbrev pub write_answer : List ℕ → List ℕ → ℕ → List ℕ → Written
write_answer counts s c sheet = put_answer (83 + 3 * c) counts s c sheet

abbrev pub sheet_written : List ℕ → List ℕ → ℕ → List ℕ → List ℕ
sheet_written counts s c sheet = sheet_put (83 + 3 * c) (sheet_of counts s c) counts s c sheet
