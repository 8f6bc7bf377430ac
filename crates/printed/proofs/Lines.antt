-- Proofs. The strips that are printed, of the book or of the papers, and their lines: what holds of either.
use Prim.Native.Nat.{ℕ, ◌≤◌, ◌<◌}
use mathlib.Core.Path.{◌≡◌, ◌∙◌}
use mathlib.Core.Bool.{Bool, true, false}
use mathlib.Core.List.{List, []}
use native.Mathlib.Omega.{arith}
use lib.ListN.{length, get_or, length-map}
use Rattle.rules.specs.Stock.{IsStock, IsStrip}
use Rattle.rules.specs.Book.{book, place_in}
use Rattle.rules.proofs.Listed.{get_or_map'}
use Rattle.rules.proofs.Prefixes.{total_some}
use Rattle.rules.proofs.Places.{book_place}
use Rattle.dictionary.proofs.Theorems.{dictionary_place}
use Rattle.dictionary.proofs.FirstEntry.{first_entry}
use Rattle.lines.specs.Text.{strip_line}
use Rattle.printed.specs.Output.{list_of, strips, line_of, strip_lines}
use Rattle.printed.proofs.BookStrips.{book_many, book_strip, book_number, book_own}
use Rattle.printed.proofs.PaperStrips.{few_papers, first_paper, paper_near, paper_own}

-- ---- by the one or the other

module _ (counts : List ℕ) where
  pub few_strips : (papers : Bool) → length (strips papers counts) ≤ 4096
  few_strips false = omega (arith, book_many counts)
  few_strips true = few_papers counts

  -- the first is strip 0 of the book, with number 0
  pub some_strip : (papers : Bool) → IsStock counts → 0 < length (strips papers counts)
  some_strip false k = omega (arith, book_many counts, total_some counts)
  some_strip true k = (first_paper counts k).0

  pub first_strip : (papers : Bool) → IsStock counts → get_or (strips papers counts) 0 [] ≡ get_or (book counts) 0 []
  first_strip false k = book_strip counts 0 (some_strip false k)
  first_strip true k = (first_paper counts k).1 ∙ first_entry counts

  pub first_number : (papers : Bool) → place_in (list_of papers counts) (get_or (book counts) 0 []) ≡ 0
  first_number false = book_place counts 0 (total_some counts)
  first_number true = rw (← first_entry counts) (dictionary_place counts 0 (total_some counts))

  -- each is a strip of the stock, and its number has at most six digits
  pub own : (papers : Bool) (i : ℕ) → i < length (strips papers counts) → IsStrip counts (get_or (strips papers counts) i [])
  own false i h = book_own counts i h
  own true i h = paper_own counts i h

  pub near : (papers : Bool) (i : ℕ) → i < length (strips papers counts) → place_in (list_of papers counts) (get_or (strips papers counts) i []) < 1000000
  near false i h = omega (arith, book_number counts i h, book_many counts)
  near true i h = paper_near counts i h

-- ---- the lines

module _ (papers : Bool) (counts : List ℕ) where
  pub lines_many : length (strip_lines papers counts) ≡ length (strips papers counts)
  unfolding strip_lines
  lines_many = length-map (strips papers counts) (line_of papers counts)

  pub line_at : (i : ℕ) → i < length (strips papers counts)
      → get_or (strip_lines papers counts) i [] ≡ strip_line (place_in (list_of papers counts) (get_or (strips papers counts) i [])) (get_or (strips papers counts) i [])
  unfolding strip_lines line_of
  line_at i h = get_or_map' (line_of papers counts) (strips papers counts) i [] [] h
