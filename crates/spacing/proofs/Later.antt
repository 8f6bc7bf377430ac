-- Proofs. The strips that come later than a strip in the book of its stock.
use Prim.Native.Nat.{ℕ, suc}
use mathlib.Core.Path.{◌≡◌}
use mathlib.Core.List.{List, []}
use native.Mathlib.Omega.{arith}
use lib.ListN.{length, get_or}
use Rattle.rules.specs.Book.{book}
use Rattle.rules.proofs.Places.{book_size}
use Rattle.walking.specs.Answers.{along, left_along, onward, left}
use Rattle.searching.specs.Searching.{later}
use Rattle.searching.proofs.Later.{later_many, later_at}

module _ (counts s : List ℕ) where
  -- as many as moves are left
  pub later_left : length (later (book counts) s) ≡ left counts s
  unfolding left_along
  later_left = omega (arith, later_many (book counts) s, book_size counts)

  -- strip m of them, from 0, is m + 1 moves on
  pub later_onward : (m : ℕ) → get_or (later (book counts) s) m [] ≡ onward counts s (suc m)
  unfolding along
  later_onward m = later_at (book counts) s m
