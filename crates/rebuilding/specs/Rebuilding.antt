-- TO BE BELIEVED. Document 02, P5: what rebuilding a damaged sheet answers, and what it leaves in the second lent buffer.
use Rattle.std.specs.Prelude.{ℕ, zero, suc, ◌+◌, ◌-◌, ◌*◌, ◌/◌, min, Bool, true, false, List, [], ◌∷◌, ◌++◌, ltb, length, get_or, take, drop}
use Rattle.rules.specs.Book.{same}
use Rattle.rules.specs.Refusals.{No, when, first_of, unless, answer, room_no}
use Rattle.stock.specs.Refused.{refusal}
use Rattle.walking.specs.Answers.{left}
use Rattle.sheets.specs.Sheets.{sheet_of}
use Rattle.records.specs.Records.{sheet_stock, sheet_strip, first_two_nos}
use Rattle.rebuilding.specs.declared.Rebuilt.{Rebuilt}

-- c: with length L, (L - 82) / 3 rounded down, or the moves left in the book if fewer
unfoldable pub rebuilt_moves : List ℕ → ℕ
rebuilt_moves sheet = min ((length sheet - 82) / 3) (left (sheet_stock sheet) (sheet_strip sheet))

-- the proper sheet of c moves
unfoldable pub proper_sheet : List ℕ → List ℕ
proper_sheet sheet = sheet_of (sheet_stock sheet) (sheet_strip sheet) (rebuilt_moves sheet)

-- ---- the records that differ

-- the three bytes of a sheet behind c move records
abbrev pub bytes_behind : ℕ → List ℕ → List ℕ
bytes_behind c sheet = take 3 (drop (82 + 3 * c) sheet)

abbrev pub unless_same : Bool → ℕ → List ℕ
unless_same true i = []
unless_same false i = i ∷ []

-- the numbers, from 1 to c and rising, of the moves whose records differ from the damaged sheet's three bytes at the same offset
unfoldable pub differing : List ℕ → List ℕ → ℕ → List ℕ
differing proper damaged zero = []
differing proper damaged (suc c) = differing proper damaged c ++ unless_same (same (bytes_behind c proper) (bytes_behind c damaged)) (suc c)

-- ---- the refusals: 11 at 0 where L is below 82; those of reading for the first two records, without 4; then 13

unfoldable pub rebuild_nos : List ℕ → List ℕ → List No
rebuild_nos sheet out = when 11 (ltb (length sheet) 82) ∷ (first_two_nos sheet ++ (room_no (length out) (rebuilt_moves sheet) ∷ []))

-- ---- the answer

-- c, how many of its records differed, and the first such move's number, 0 where there is none
abbrev pub as_rebuilt : No → ℕ × List ℕ → Rebuilt
as_rebuilt r v = record { refusal = refusal r; moves = v.0; differing = length v.1; first = get_or v.1 0 0 }

unfoldable pub rebuild_answer : List ℕ → List ℕ → Rebuilt
rebuild_answer sheet out = answer as_rebuilt (rebuild_nos sheet out) (0, []) (rebuilt_moves sheet, differing (proper_sheet sheet) sheet (rebuilt_moves sheet))

-- the second buffer afterwards: the proper sheet, and the bytes past it as they were
unfoldable pub rebuild_out : List ℕ → List ℕ → List ℕ
rebuild_out sheet out = unless (first_of (rebuild_nos sheet out)) out (proper_sheet sheet ++ drop (83 + 3 * rebuilt_moves sheet) out)
