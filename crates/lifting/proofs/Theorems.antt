-- Theorems on the small stock inside the big one, over the book.
use Prim.Native.Nat.{ℕ, suc, ◌+◌, ◌-◌, ◌*◌, ◌/◌, ◌≤◌, ◌<◌}
use mathlib.Core.Path.{◌≡◌, sym, ap, ◌∙◌}
use mathlib.Core.Bool.{Bool}
use mathlib.Core.List.{List, [], map}
use native.Mathlib.Omega.{arith}
use lib.ListN.{length, get_or}
use lib.Seq.{take-length, length-take-le}
use Rattle.rules.specs.Stock.{sum, N, binom, total, IsStock}
use Rattle.rules.specs.Book.{turn, book}
use Rattle.rules.specs.SoldOut.{used}
use Rattle.rules.proofs.Last.{split_last}
use Rattle.rules.proofs.Turned.{sum_next}
use Rattle.rules.proofs.Listed.{get_or_map', length_turn, map_turn}
use Rattle.rules.proofs.Places.{book_size}
use Rattle.rules.proofs.Prefixes.{sum_take, total_next}
use Rattle.rules.proofs.Used.{used_book, used_stock}
use Rattle.lifting.specs.Lifting.{small, lifted, times, each_in_a_row, small_in_a_row}
use Rattle.lifting.proofs.Rows.{row_turn, row_at}
use Rattle.lifting.proofs.Lifted.{lifted_book}

module _ (counts : List ℕ) (some : 1 ≤ length counts) where
  abbrev j : ℕ
  j = length counts - 1

  abbrev last : ℕ
  last = get_or counts j 0

  all : suc j ≡ length counts
  all = omega arith

  times_is : times counts ≡ binom (last + sum (small counts)) (sum (small counts))
  times_is = ap (λ (n : ℕ). binom n (N counts j)) (rw all at (sum_next counts j (omega arith)))

  on : map (lifted counts) (book counts) ≡ each_in_a_row (times counts) (book (small counts))
  on = rw times_is (ap (λ (l : List ℕ). map (lifted counts) (book l)) (split_last counts some) ∙ (rw (length-take-le j counts (omega arith)) at (lifted_book (small counts) last)))

  -- with the highest kind off every strip of the book, on or back, what remains is the book of the kinds before it in the same direction, each strip C(N(k), N(k - 1)) times in a row
  pub small_inside : (back : Bool) → map (lifted counts) (turn back (book counts)) ≡ small_in_a_row back counts
  small_inside back = map_turn (lifted counts) back (book counts) ∙ ap (turn back) on ∙ row_turn (times counts) back (book (small counts))

  -- so the big book is so many times as long
  pub total_inside : total counts ≡ total (small counts) * times counts
  total_inside = sym (ap total (take-length counts)) ∙ (rw all at (total_next counts j (omega arith)))

  -- and its strip at number i, without the highest kind, is the small book's at i / C(N(k), N(k - 1)), counted from either end
  pub small_at : (back : Bool) (i : ℕ) → i < total counts → lifted counts (get_or (turn back (book counts)) i []) ≡ get_or (turn back (book (small counts))) (i / times counts) []
  small_at back i l =
      let b : i < length (turn back (book counts)) = rw (length_turn back (book counts), book_size counts) l in
      let m : i < length (turn back (book (small counts))) * times counts = rw (length_turn back (book (small counts)), book_size (small counts), ← total_inside) l in
      sym (get_or_map' (lifted counts) (turn back (book counts)) i [] [] b) ∙ ap (λ (r : List (List ℕ)). get_or r i []) (small_inside back) ∙ row_at (times counts) (turn back (book (small counts))) i m

-- the small stock without the sold-out kinds at its end has the same book
pub small_used : (counts : List ℕ) → book (used (small counts)) ≡ book (small counts)
small_used counts = used_book (small counts)

-- and under the document's premise it is accepted: some blocks are below kind k, and so at least two kinds are there
pub small_accepted : (counts : List ℕ) → IsStock counts → 1 ≤ N counts (length counts - 1) → IsStock (used (small counts))
small_accepted counts stock below =
    let j = length counts - 1 in
    used_stock (small counts) (omega (arith, length-take-le j counts (omega arith), stock.few)) below (omega (arith, sum_take counts j, stock.short))
