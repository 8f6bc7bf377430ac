-- Proofs. The strips of a book that are printed: how many there are, which, and that the number of each is its index.
use Prim.Native.Nat.{ℕ, min, ◌<◌}
use mathlib.Core.Path.{◌≡◌, ap, ◌∙◌}
use mathlib.Core.Bool.{false}
use mathlib.Core.List.{List, []}
use native.Mathlib.Omega.{arith}
use lib.ListN.{length, get_or, length-take}
use lib.Seq.{get_or-take}
use Rattle.rules.specs.Stock.{total, IsStrip}
use Rattle.rules.specs.Book.{book, place_in}
use Rattle.rules.proofs.Places.{book_size, book_only, book_place}
use Rattle.printed.specs.Output.{strips}

module _ (counts : List ℕ) where
  pub book_many : length (strips false counts) ≡ min 4096 (total counts)
  unfolding strips
  book_many = length-take 4096 (book counts) ∙ ap (min 4096) (book_size counts)

  module _ (i : ℕ) (h : i < length (strips false counts)) where
    in_book : i < total counts
    in_book = omega (arith, book_many)

    pub book_strip : get_or (strips false counts) i [] ≡ get_or (book counts) i []
    unfolding strips
    book_strip = get_or-take 4096 (book counts) i [] (omega (arith, book_many))

    pub book_number : place_in (book counts) (get_or (strips false counts) i []) ≡ i
    book_number = rw book_strip (book_place counts i in_book)

    pub book_own : IsStrip counts (get_or (strips false counts) i [])
    book_own = rw book_strip (book_only counts i in_book)
