-- TO BE BELIEVED. Document 01, "The printing program", and document 02, P7 and P8: the lines that are printed for an input, in order. With the flag false they are
-- the strips of the book; with true the standing strips of the dictionary, one for each endless paper.
use Rattle.std.specs.Prelude.{ℕ, Bool, true, false, List, [], ◌∷◌, map, take}
use Rattle.std.proofs.Math.Option.{Option, none, some}
use Rattle.rules.specs.Book.{book, place_in}
use Rattle.rules.specs.Refusals.{No, first_of, unless, stock_nos}
use Rattle.counting.specs.Answers.{count_nos}
use Rattle.dictionary.specs.Dictionary.{dictionary}
use Rattle.searching.specs.Searching.{passing}
use Rattle.standing.specs.Standing.{stands_for_paper}
use Rattle.lines.specs.Text.{unreadable_line, refused_line, strip_line}
use Rattle.counts.specs.Reading.{counts_read}

-- the list in which a strip has its number
abbrev pub list_of : Bool → List ℕ → List (List ℕ)
list_of false counts = book counts
list_of true counts = dictionary counts

-- the strips that are printed, at most 4,096: of the book the first ones; of the dictionary the standing ones among the first 1,000,000
unfoldable pub strips : Bool → List ℕ → List (List ℕ)
strips false counts = take 4096 (book counts)
strips true counts = take 4096 (passing stands_for_paper (take 1000000 (dictionary counts)))

-- the line of a strip, with its number. Those of the book are numbered 0, 1, 2 and so on: `book_line`, proved
unfoldable pub line_of : Bool → List ℕ → List ℕ → List ℕ
line_of papers counts s = strip_line (place_in (list_of papers counts) s) s

unfoldable pub strip_lines : Bool → List ℕ → List (List ℕ)
unfolding strips line_of
strip_lines papers counts = map (line_of papers counts) (strips papers counts)

-- the refusals of a stock: 1, 2, 3; for the papers then 7
abbrev pub nos_of : Bool → List ℕ → List No
nos_of false counts = stock_nos counts
nos_of true counts = count_nos counts

-- a stock that is refused has one line
unfoldable pub stock_lines : Bool → List ℕ → List (List ℕ)
unfolding strip_lines
stock_lines papers counts = let r = first_of (nos_of papers counts) in unless r (refused_line r ∷ []) (strip_lines papers counts)

-- of what is read: where nothing can be read, one line
abbrev pub lines_of : Bool → Option (List ℕ) → List (List ℕ)
lines_of papers none = unreadable_line ∷ []
lines_of papers (some counts) = stock_lines papers counts

-- of an input. By the lines that can be read: `output_read`, `output_unreadable`, proved
unfoldable pub output : Bool → List ℕ → List (List ℕ)
unfolding stock_lines
output papers input = lines_of papers (counts_read input)
