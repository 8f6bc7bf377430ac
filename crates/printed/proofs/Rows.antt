-- Theorems. What is printed for some lines, computed: of the book at false, of the papers at true. They need the definitions alone, so a wrong definition is refused
-- here first.
use mathlib.Core.Path.{◌≡◌, refl}
use mathlib.Core.Bool.{true, false}
use mathlib.Core.List.{[], ◌∷◌}
use Rattle.rules.specs.Stock.{sum, binom, product, total}
use Rattle.rules.specs.Book.{after, E, lay, turn, snake, book_to, book, same, place_in}
use Rattle.rules.specs.Refusals.{first_of, stock_nos}
use Rattle.rules.proofs.Refusals.{many_refused}
use Rattle.counting.specs.Answers.{count_nos}
use Rattle.counting.proofs.Marked.{total_31_31_1}
use Rattle.dictionary.specs.Dictionary.{before, insert, in_order, dictionary}
use Rattle.searching.specs.Searching.{passing}
use Rattle.papers.specs.Papers.{turned, up_to, turns_of, turns}
use Rattle.standing.specs.Standing.{smallest_of, standing, stands_for_paper}
use Rattle.lines.specs.Text.{digits, decimal, preceded, joined, refused_line, strip_line}
use Rattle.counts.specs.Reading.{read_from, counts_read}
use Rattle.printed.specs.Output.{strips, line_of, strip_lines, stock_lines, output}

-- ---- of the book

-- of `2 1`, the lines `0 1-1-2`, `1 1-2-1` and `2 2-1-1`
pub output_2_1 : output false (50 ∷ 32 ∷ 49 ∷ 10 ∷ []) ≡
    (48 ∷ 32 ∷ 49 ∷ 45 ∷ 49 ∷ 45 ∷ 50 ∷ 10 ∷ []) ∷ (49 ∷ 32 ∷ 49 ∷ 45 ∷ 50 ∷ 45 ∷ 49 ∷ 10 ∷ []) ∷ (50 ∷ 32 ∷ 50 ∷ 45 ∷ 49 ∷ 45 ∷ 49 ∷ 10 ∷ []) ∷ []
unfolding output stock_lines strip_lines strips line_of place_in same counts_read read_from strip_line decimal digits joined preceded first_of stock_nos sum book book_to snake turn lay E after
output_2_1 = refl

-- of `1 0 1`, the lines `0 1-3` and `1 3-1`
pub output_1_0_1 : output false (49 ∷ 32 ∷ 48 ∷ 32 ∷ 49 ∷ 10 ∷ []) ≡ (48 ∷ 32 ∷ 49 ∷ 45 ∷ 51 ∷ 10 ∷ []) ∷ (49 ∷ 32 ∷ 51 ∷ 45 ∷ 49 ∷ 10 ∷ []) ∷ []
unfolding output stock_lines strip_lines strips line_of place_in same counts_read read_from strip_line decimal digits joined preceded first_of stock_nos sum book book_to snake turn lay E after
output_1_0_1 = refl

-- of `0 70`, the line `refused 3 0`
pub output_0_70 : output false (48 ∷ 32 ∷ 55 ∷ 48 ∷ 10 ∷ []) ≡ (114 ∷ 101 ∷ 102 ∷ 117 ∷ 115 ∷ 101 ∷ 100 ∷ 32 ∷ 51 ∷ 32 ∷ 48 ∷ 10 ∷ []) ∷ []
unfolding output stock_lines counts_read read_from refused_line decimal digits joined preceded first_of stock_nos sum
output_0_70 = refl

-- of `70 0`, the line `refused 2 2`
pub output_70_0 : output false (55 ∷ 48 ∷ 32 ∷ 48 ∷ 10 ∷ []) ≡ (114 ∷ 101 ∷ 102 ∷ 117 ∷ 115 ∷ 101 ∷ 100 ∷ 32 ∷ 50 ∷ 32 ∷ 50 ∷ 10 ∷ []) ∷ []
unfolding output stock_lines counts_read read_from refused_line decimal digits joined preceded first_of stock_nos sum
output_70_0 = refl

-- ---- of the papers

-- of `2 2`, the lines `0 1-1-2-2` and `1 1-2-1-2`
pub output_2_2 : output true (50 ∷ 32 ∷ 50 ∷ 10 ∷ []) ≡ (48 ∷ 32 ∷ 49 ∷ 45 ∷ 49 ∷ 45 ∷ 50 ∷ 45 ∷ 50 ∷ 10 ∷ []) ∷ (49 ∷ 32 ∷ 49 ∷ 45 ∷ 50 ∷ 45 ∷ 49 ∷ 45 ∷ 50 ∷ 10 ∷ []) ∷ []
unfolding output stock_lines strip_lines strips line_of passing stands_for_paper standing smallest_of turns turns_of turned up_to dictionary in_order insert before place_in same counts_read read_from strip_line decimal digits joined preceded first_of count_nos stock_nos total product binom sum book book_to snake turn lay E after
output_2_2 = refl

-- of `1 0 2`, the line `0 1-3-3`
pub output_1_0_2 : output true (49 ∷ 32 ∷ 48 ∷ 32 ∷ 50 ∷ 10 ∷ []) ≡ (48 ∷ 32 ∷ 49 ∷ 45 ∷ 51 ∷ 45 ∷ 51 ∷ 10 ∷ []) ∷ []
unfolding output stock_lines strip_lines strips line_of passing stands_for_paper standing smallest_of turns turns_of turned up_to dictionary in_order insert before place_in same counts_read read_from strip_line decimal digits joined preceded first_of count_nos stock_nos total product binom sum book book_to snake turn lay E after
output_1_0_2 = refl

-- of `4 2`, the lines `0 1-1-1-1-2-2`, `1 1-1-1-2-1-2` and `3 1-1-2-1-1-2`: a number is the dictionary's, not that of the line
pub output_4_2 : output true (52 ∷ 32 ∷ 50 ∷ 10 ∷ []) ≡
    (48 ∷ 32 ∷ 49 ∷ 45 ∷ 49 ∷ 45 ∷ 49 ∷ 45 ∷ 49 ∷ 45 ∷ 50 ∷ 45 ∷ 50 ∷ 10 ∷ []) ∷
    (49 ∷ 32 ∷ 49 ∷ 45 ∷ 49 ∷ 45 ∷ 49 ∷ 45 ∷ 50 ∷ 45 ∷ 49 ∷ 45 ∷ 50 ∷ 10 ∷ []) ∷
    (51 ∷ 32 ∷ 49 ∷ 45 ∷ 49 ∷ 45 ∷ 50 ∷ 45 ∷ 49 ∷ 45 ∷ 49 ∷ 45 ∷ 50 ∷ 10 ∷ []) ∷ []
unfolding output stock_lines strip_lines strips line_of passing stands_for_paper standing smallest_of turns turns_of turned up_to dictionary in_order insert before place_in same counts_read read_from strip_line decimal digits joined preceded first_of count_nos stock_nos total product binom sum book book_to snake turn lay E after
output_4_2 = refl

-- of `1 1 1`, the line `0 1-2-3`: the strip 1-3-2 is a turn of it read backwards
pub output_1_1_1 : output true (49 ∷ 32 ∷ 49 ∷ 32 ∷ 49 ∷ 10 ∷ []) ≡ (48 ∷ 32 ∷ 49 ∷ 45 ∷ 50 ∷ 45 ∷ 51 ∷ 10 ∷ []) ∷ []
unfolding output stock_lines strip_lines strips line_of passing stands_for_paper standing smallest_of turns turns_of turned up_to dictionary in_order insert before place_in same counts_read read_from strip_line decimal digits joined preceded first_of count_nos stock_nos total product binom sum book book_to snake turn lay E after
output_1_1_1 = refl

-- of `31 31 1`, the line `refused 7 0`
pub output_31_31_1 : output true (51 ∷ 49 ∷ 32 ∷ 51 ∷ 49 ∷ 32 ∷ 49 ∷ 10 ∷ []) ≡ (114 ∷ 101 ∷ 102 ∷ 117 ∷ 115 ∷ 101 ∷ 100 ∷ 32 ∷ 55 ∷ 32 ∷ 48 ∷ 10 ∷ []) ∷ []
unfolding output stock_lines counts_read read_from refused_line decimal digits joined preceded first_of count_nos stock_nos sum
output_31_31_1 = rw (many_refused (31 ∷ 31 ∷ 1 ∷ []) total_31_31_1)
