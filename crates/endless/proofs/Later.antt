-- Proofs. The strips that come later than a strip in the dictionary of its stock.
use Prim.Native.Nat.{ℕ, suc, ◌+◌, ◌<◌}
use mathlib.Core.Path.{◌≡◌}
use mathlib.Core.List.{List, []}
use native.Mathlib.Omega.{arith}
use lib.ListN.{length, get_or}
use Rattle.rules.specs.Stock.{total, IsStrip}
use Rattle.rules.specs.Book.{place_in}
use Rattle.dictionary.specs.Dictionary.{dictionary}
use Rattle.dictionary.proofs.Theorems.{dictionary_size, dictionary_only, dictionary_place, dictionary_below}
use Rattle.searching.specs.Searching.{later}
use Rattle.searching.proofs.Later as listed

module _ (counts s : List ℕ) (own : IsStrip counts s) where
  pub later_length : length (later (dictionary counts) s) + place_in (dictionary counts) s + 1 ≡ total counts
  later_length = omega (arith, listed.later_many (dictionary counts) s, dictionary_size counts, dictionary_below counts s own)

  -- each is a strip of the stock
  pub later_own : (m : ℕ) → m < length (later (dictionary counts) s) → IsStrip counts (get_or (later (dictionary counts) s) m [])
  later_own m l = rw (listed.later_at (dictionary counts) s m) (dictionary_only counts (place_in (dictionary counts) s + suc m) (omega (arith, later_length)))

pub own_place : (counts : List ℕ) (i : ℕ) → i < length (dictionary counts) → place_in (dictionary counts) (get_or (dictionary counts) i []) ≡ i
own_place counts i l = dictionary_place counts i (omega (arith, dictionary_size counts))
