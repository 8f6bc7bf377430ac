-- Theorem. The first strip in dictionary order is strip 0 of the book: the kinds one after the other.
use Prim.Native.Nat.{ℕ, zero, suc, ◌≤◌}
use mathlib.Core.Path.{◌≡◌}
use mathlib.Core.List.{List, [], ◌∷◌, ◌++◌}
use native.Mathlib.Decide.{dec_lt}
use native.Mathlib.Omega.{arith}
use lib.ListN.{get_or, replicate}
use Rattle.rules.specs.Stock.{IsStrip}
use Rattle.rules.specs.Book.{book, place_in}
use Rattle.rules.proofs.Numbers.{runs}
use Rattle.rules.proofs.Neighbours.{first_strip}
use Rattle.rules.proofs.Places.{book_only}
use Rattle.rules.proofs.Prefixes.{total_some}
use Rattle.dictionary.specs.Dictionary.{dictionary}
use Rattle.dictionary.proofs.Order.{before_true}
use Rattle.dictionary.proofs.Places.{strips_same}
use Rattle.dictionary.proofs.Theorems.{dictionary_only, dictionary_place, dictionary_undone, smaller_before}
use Rattle.dictionary.proofs.Following.{AtLeast, Climbs, climbs_first}

-- ---- the kinds one after the other climb

at_least_runs : (x j : ℕ) (cs : List ℕ) → x ≤ j → AtLeast x (runs j cs)
unfolding runs
at_least_runs x j [] h = tt
at_least_runs x j (c ∷ cs) h = go c (at_least_runs x (suc j) cs (omega arith))
  where
    go : (c : ℕ) → AtLeast x (runs (suc j) cs) → AtLeast x (replicate c j ++ runs (suc j) cs)
    go zero rest = rest
    go (suc c) rest = (h, go c rest)

runs_climb : (j : ℕ) (cs : List ℕ) → Climbs (runs j cs)
unfolding runs
runs_climb j [] = tt
runs_climb j (c ∷ cs) = go c (runs_climb (suc j) cs)
  where
    go : (c : ℕ) → Climbs (runs (suc j) cs) → Climbs (replicate c j ++ runs (suc j) cs)
    go zero rest = rest
    go (suc c) rest = (at_least_runs j j (c ∷ cs) (omega arith), go c rest)

-- ---- so nothing comes before them

module _ (counts : List ℕ) where
  abbrev strip_0 : List ℕ
  strip_0 = get_or (book counts) 0 []

  own : IsStrip counts strip_0
  own = book_only counts 0 (total_some counts)

  climbs : Climbs strip_0
  climbs = rw (first_strip counts) (runs_climb 1 counts)

  nothing_before : place_in (dictionary counts) strip_0 ≡ 0
  nothing_before = elim (dec_lt 0 (place_in (dictionary counts) strip_0)) [
    | yes l ↦
        let u = get_or (dictionary counts) 0 [] in
        let other = dictionary_only counts 0 (total_some counts) in
        absurd (climbs_first strip_0 u climbs (strips_same counts strip_0 u own other)
        (before_true u strip_0 (smaller_before counts u strip_0 other own (omega (arith, dictionary_place counts 0 (total_some counts))))))
    | no l ↦ omega arith
  ]

  pub first_entry : get_or (dictionary counts) 0 [] ≡ strip_0
  first_entry = rw nothing_before at (dictionary_undone counts strip_0 own)
