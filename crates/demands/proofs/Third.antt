-- Demand 3, for every accepted stock, also one with more strips than a 64-bit number can count.
use Prim.Native.Nat.{ℕ, suc, ◌<◌}
use mathlib.Core.Path.{◌≡◌}
use mathlib.Core.Bool.{Bool}
use mathlib.Core.List.{List, []}
use lib.ListN.{length, get_or}
use Rattle.rules.specs.Stock.{total, IsStock, IsStrip}
use Rattle.rules.specs.Book.{book, place_in}
use Rattle.rules.specs.Neighbours.{Neighbours}
use Rattle.rules.proofs.Places.{book_size, book_only, book_once, place_undone, place_below}
use Rattle.rules.proofs.Neighbours.{book_neighbours}
use Rattle.walker.specs.Walkers.{walker_for}
use Rattle.walker.specs.Answers.{open_answer}
use Rattle.walking.specs.Walks.{after, number_after, StayBelow}
use Rattle.walking.proofs.Theorems.{walk_shows}
-- that a move of `after` in the direction of the call leaves the strip and the walker that Walk and the driver leave, by any outcome that their contracts allow
pub use Rattle.walking.proofs.Theorems.{walk_after}
pub use Rattle.exports.proofs.Theorems.{drive_after}
-- what else such an outcome is, and that Run's moves are the change in number
pub use Rattle.walking.proofs.Theorems.{walk_right}
pub use Rattle.exports.proofs.Theorems.{drive_right}
pub use Rattle.running.proofs.Theorems.{run_right}

module _ (counts : List ℕ) (accepted : IsStock counts) where
  -- the book holds each order of the stock
  pub each_order : (s : List ℕ) → IsStrip counts s → (i : ℕ) × (i < length (book counts)) × (get_or (book counts) i [] ≡ s)
  each_order s h = (place_in (book counts) s, rw (book_size counts) (place_below counts s h), place_undone counts s h)

  -- once
  pub once : (i j : ℕ) → i < length (book counts) → j < length (book counts) → get_or (book counts) i [] ≡ get_or (book counts) j [] → i ≡ j
  once = rw (book_size counts) (book_once counts)

  -- and no more
  pub no_more : (i : ℕ) → i < length (book counts) → IsStrip counts (get_or (book counts) i [])
  no_more = rw (book_size counts) (book_only counts)

  -- two neighbours in it differ by exchanging one block with one of a higher kind, with only blocks of that higher kind between them
  pub neighbours : (i : ℕ) → suc i < length (book counts) → Neighbours (get_or (book counts) i []) (get_or (book counts) (suc i) [])
  neighbours = rw (book_size counts) (book_neighbours counts)

  -- a walker opened at any strip shows, after any number of moves on or back that stay within the book, exactly the strip the book has there; and it is that
  -- strip's walker
  pub walker_shows : (s : List ℕ) → IsStrip counts s → (moves : List Bool) → StayBelow (total counts) moves (place_in (book counts) s)
      → let there = get_or (book counts) (number_after moves (place_in (book counts) s)) [] in after counts moves s (open_answer counts s).walker ≡ (there, walker_for counts there)
  walker_shows = walk_shows counts accepted
