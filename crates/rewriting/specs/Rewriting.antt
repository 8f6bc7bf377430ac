-- TO BE BELIEVED. Document 02, P12: what rewriting a right sheet of either edition into its one form answers, and what it leaves in the second lent buffer.
use Rattle.std.specs.Prelude.{ℕ, true, List, [], ◌∷◌, ◌++◌, drop}
use Rattle.rules.specs.Refusals.{No, first_of, unless, answer}
use Rattle.sheets.specs.declared.Written.{Written}
use Rattle.sheets.specs.Writing.{short_no, as_written}
use Rattle.records.specs.Records.{sheet_stock, sheet_strip}
use Rattle.reading.specs.Reading.{followed, record_nos}
use Rattle.forms.specs.Forms.{form_of, form_length}

-- the moves of a sheet of either edition
abbrev pub moves_of : List ℕ → ℕ
moves_of sheet = (followed true sheet).moves

-- its one form: that of its stock, its strip and its moves
abbrev pub form_in : List ℕ → List ℕ
form_in sheet = form_of (sheet_stock sheet) (sheet_strip sheet) (moves_of sheet)

abbrev pub form_long : List ℕ → ℕ
form_long sheet = form_length (sheet_stock sheet) (moves_of sheet)

-- reading's refusals without 4, then 13
unfoldable pub rewrite_nos : List ℕ → List ℕ → List No
rewrite_nos sheet out = record_nos true sheet ++ (short_no (form_long sheet) out ∷ [])

unfoldable pub rewrite_answer : List ℕ → List ℕ → Written
rewrite_answer sheet out = answer as_written (rewrite_nos sheet out) 0 (form_long sheet)

-- later bytes stay
unfoldable pub rewrite_out : List ℕ → List ℕ → List ℕ
rewrite_out sheet out = unless (first_of (rewrite_nos sheet out)) out (form_in sheet ++ drop (form_long sheet) out)
