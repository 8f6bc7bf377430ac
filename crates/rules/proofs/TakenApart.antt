-- Proofs. A number taken apart, one kind less at a time: the number of the reduced strip below, the index of the kind's pattern, and the reduced strip laid by it.
use Prim.Native.Nat.{ℕ, suc, ◌/◌, ◌%◌, ◌<◌}
use mathlib.Core.Path.{◌≡◌}
use mathlib.Core.List.{List, []}
use lib.ListN.{length, get_or, take}
use Rattle.rules.specs.Stock.{sum, binom, IsStrip}
use Rattle.rules.specs.Book.{E, lay, odd, reduced, pattern}
use Rattle.rules.proofs.Listed.{face}
use Rattle.rules.proofs.Patterns.{rank_e, listed_e}
use Rattle.rules.proofs.Books.{lay_back}
use Rattle.rules.proofs.Strips.{number}
use Rattle.rules.proofs.Numbers.{numbered_div, numbered_mod}
use Rattle.rules.proofs.Reduced.{reduced_without}
use Rattle.rules.proofs.Index.{index}
use Rattle.rules.proofs.Prefixes.{prefix_word, number_next}

module _ (counts s : List ℕ) (h : IsStrip counts s) (j : ℕ) (l : j < length counts) where
  abbrev letters : ℕ
  letters = sum (take (suc j) counts)

  abbrev others : ℕ
  others = sum (take j counts)

  abbrev above : ℕ
  above = number (take (suc j) counts) (reduced (suc j) s)

  abbrev below : ℕ
  below = number (take j counts) (reduced j s)

  abbrev rank : ℕ
  rank = rank_e (pattern (suc j) (reduced (suc j) s))

  pub index_within : rank < binom letters others
  index_within = (listed_e letters others).below (pattern (suc j) (reduced (suc j) s)) (prefix_word counts s h j l)

  pub number_below : above / binom letters others ≡ below
  number_below = rw (number_next counts s h j l) (numbered_div (binom letters others) below rank index_within)

  pub index_from : face (odd below) (binom letters others) (above % binom letters others) ≡ index (suc j) (reduced (suc j) s)
  unfolding index
  index_from = rw (number_next counts s h j l) (numbered_mod (binom letters others) below rank index_within)

  pub reduced_laid : lay (suc j) (reduced j s) (get_or (E letters others) (index (suc j) (reduced (suc j) s)) []) ≡ reduced (suc j) s
  unfolding index
  reduced_laid =
      let w = reduced (suc j) s in
      rw ((listed_e letters others).find (pattern (suc j) w) (prefix_word counts s h j l), ← reduced_without j s) (lay_back (suc j) w)
