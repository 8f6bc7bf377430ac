-- Proofs. The standing strips of a dictionary that are printed.
use Prim.Native.Nat.{ℕ, suc, ◌+◌, ◌≤◌, ◌<◌}
use mathlib.Core.Path.{◌≡◌}
use mathlib.Core.Bool.{true}
use mathlib.Core.List.{List, []}
use native.Mathlib.Numerals.{add-one}
use native.Mathlib.Omega.{arith}
use lib.ListN.{length, get_or}
use Rattle.rules.specs.Stock.{IsStock, IsStrip}
use Rattle.rules.specs.Book.{place_in}
use Rattle.dictionary.specs.Dictionary.{dictionary}
use Rattle.searching.specs.Searching.{later, outcome, steps_made, found_or}
use Rattle.standing.specs.Standing.{stands_for_paper}
use Rattle.printed.specs.Output.{strips}
use Rattle.printed.proofs.Entries.{few_printed, first_printed, all_printed, entry, found_none, found_next}

some_lines : 0 < 4096
some_lines = omega arith

some_strips : 0 < 1000000
some_strips = omega arith

-- the strip that is found from one that is printed is the next
pub record Next (counts : List ℕ) (i number : ℕ) (u : List ℕ) (steps : ℕ) : Type 0 where
  pub within : i + 1 < length (strips true counts)
  pub strip : get_or (strips true counts) (i + 1) [] ≡ u
  pub place : place_in (dictionary counts) u ≡ number + steps

module _ (counts : List ℕ) where
  pub few_papers : length (strips true counts) ≤ 4096
  unfolding strips
  few_papers = few_printed counts 4096 1000000

  pub first_paper : IsStock counts → (0 < length (strips true counts)) × (get_or (strips true counts) 0 [] ≡ get_or (dictionary counts) 0 [])
  unfolding strips
  first_paper k = first_printed counts 4096 1000000 k some_lines some_strips

  pub all_papers : (u : List ℕ) → IsStrip counts u → stands_for_paper u ≡ true → place_in (dictionary counts) u < 1000000 → length (strips true counts) < 4096
      → (i : ℕ) × (i < length (strips true counts)) × (get_or (strips true counts) i [] ≡ u)
  unfolding strips
  all_papers = all_printed counts 4096 1000000

  module _ (i : ℕ) (h : i < length (strips true counts)) where
    abbrev s : List ℕ
    s = get_or (strips true counts) i []

    abbrev number : ℕ
    number = place_in (dictionary counts) s

    pub paper_near : number < 1000000
    unfolding strips
    paper_near = (entry counts 4096 1000000 i h).near

    pub paper_own : IsStrip counts s
    unfolding strips
    paper_own = (entry counts 4096 1000000 i h).own

    pub paper_stands : stands_for_paper s ≡ true
    unfolding strips
    paper_stands = (entry counts 4096 1000000 i h).stands

    module _ (given : ℕ) (all : suc number + given ≡ 1000000) where
      pub last_paper : (outcome stands_for_paper (later (dictionary counts) s) given ≡ 1 → ⊥) → length (strips true counts) ≤ i + 1
      unfolding strips
      last_paper n = rw (add-one i) (found_none counts 4096 1000000 i h given all n)

      pub next_paper_lem : suc i < 4096 → outcome stands_for_paper (later (dictionary counts) s) given ≡ 1
          → Next counts i number (found_or stands_for_paper (later (dictionary counts) s) given s) (steps_made stands_for_paper (later (dictionary counts) s) given)
      unfolding strips
      next_paper_lem few o =
          let n = found_next counts 4096 1000000 i h given all few o in
          record { within = rw (add-one i) n.within; strip = rw (add-one i) n.strip; place = n.place }
