-- Theorems on the papers of a stock: the first strip in dictionary order, and the strips found from there one after the other with enough steps, are the standing strips of the
-- dictionary, and these are every paper once.
use Prim.Native.Nat.{ℕ, suc, ◌+◌, ◌≤◌, ◌<◌}
use mathlib.Core.Path.{◌≡◌, sym, ap, ◌∙◌}
use mathlib.Core.Bool.{true}
use mathlib.Core.List.{List, [], ◌∷◌}
use native.Mathlib.Decide.{dec_lt}
use native.Mathlib.Omega.{arith}
use lib.ListN.{length, get_or, length-drop}
use lib.Seq.{drop-cons}
use Rattle.rules.specs.Stock.{total, IsStock, IsStrip}
use Rattle.rules.specs.Book.{place_in}
use Rattle.rules.proofs.Checks.{some_blocks}
use Rattle.rules.proofs.Prefixes.{total_some}
use Rattle.papers.specs.Papers.{is_a_turn}
use Rattle.dictionary.specs.Dictionary.{dictionary}
use Rattle.dictionary.proofs.Theorems.{dictionary_size, dictionary_only, dictionary_place, dictionary_below}
use Rattle.searching.specs.Searching.{later, passing}
use Rattle.searching.proofs.Later.{later_later}
use Rattle.searching.proofs.Theorems.{Found, NoneLeft}
use Rattle.searching.proofs.Passing.{passing_none, passing_order, passing_all, passing_only, found_passing}
use Rattle.standing.specs.Standing.{standing, stands_for_paper}
use Rattle.standing.proofs.Theorems.{standing_strip, paper_once, paper_there, first_stands}
use Rattle.endless.proofs.Later.{own_place, later_length, later_own}

-- the standing strips of a stock, in dictionary order
abbrev pub papers_of : List ℕ → List (List ℕ)
papers_of counts = passing stands_for_paper (dictionary counts)

-- those that come later than a strip
abbrev pub papers_after : List ℕ → List ℕ → List (List ℕ)
papers_after counts s = passing stands_for_paper (later (dictionary counts) s)

-- a search with enough steps finds the next of them, or there is none
module _ (counts s : List ℕ) (own : IsStrip counts s) (given m : ℕ) (f : Found stands_for_paper (later (dictionary counts) s) given m) where
  abbrev next : List ℕ
  next = get_or (later (dictionary counts) s) m []

  pub next_of : (papers_after counts s ≡ next ∷ papers_after counts next) × IsStrip counts next × (length (later (dictionary counts) next) ≤ length (later (dictionary counts) s))
  next_of =
      let l = later (dictionary counts) s in
      let e = later_later (dictionary counts) s (own_place counts) m f.within in
      (found_passing stands_for_paper l given m f ∙ ap (λ (k : List (List ℕ)). next ∷ passing stands_for_paper k) (sym e), later_own counts s own m f.within, omega (arith, ap length e, length-drop (suc m) l))

pub none_of : (counts s : List ℕ) (given : ℕ) → NoneLeft stands_for_paper (later (dictionary counts) s) given → papers_after counts s ≡ []
none_of counts s given n = passing_none stands_for_paper (later (dictionary counts) s) n.none

-- ---- all of them, from the first strip

module _ (counts : List ℕ) (stock : IsStock counts) where
  abbrev first : List ℕ
  first = get_or (dictionary counts) 0 []

  pub first_own : IsStrip counts first
  first_own = dictionary_only counts 0 (total_some counts)

  first_place : place_in (dictionary counts) first ≡ 0
  first_place = dictionary_place counts 0 (total_some counts)

  -- the first strip in dictionary order is standing
  pub first_standing : stands_for_paper first ≡ true
  first_standing = first_stands counts first (some_blocks counts first stock first_own) first_own first_place

  first_and_later : dictionary counts ≡ first ∷ later (dictionary counts) first
  unfolding later
  first_and_later = rw first_place (drop-cons (dictionary counts) 0 [] (omega (arith, dictionary_size counts, total_some counts)))

  pub papers_are : papers_of counts ≡ first ∷ papers_after counts first
  unfolding passing
  papers_are = ap (passing stands_for_paper) first_and_later ∙ rw first_standing

  -- from the first strip T - 1 steps lead to the last
  pub first_later : length (later (dictionary counts) first) + 1 ≡ total counts
  first_later = omega (arith, later_length counts first first_own, first_place)

  -- ---- every paper is among them, once

  pub papers_own : (n : ℕ) → n < length (papers_of counts) → IsStrip counts (get_or (papers_of counts) n []) × (stands_for_paper (get_or (papers_of counts) n []) ≡ true)
  papers_own n h =
      let w = passing_only stands_for_paper (dictionary counts) n h in
      let j = w.1.0 in
      (rw (← w.1.2) (dictionary_only counts j (omega (arith, w.1.1, dictionary_size counts))), w.0)

  -- a paper's standing strip is one of them
  pub papers_all : (s : List ℕ) → IsStrip counts s → (n : ℕ) × (n < length (papers_of counts)) × (is_a_turn s (get_or (papers_of counts) n []) ≡ true)
  papers_all s own =
      let h = some_blocks counts s stock own in
      let w = paper_there counts s h own in
      let below : place_in (dictionary counts) (standing s) < length (dictionary counts) = omega (arith, dictionary_below counts (standing s) (standing_strip counts s h own), dictionary_size counts) in
      let f = passing_all stands_for_paper (dictionary counts) (place_in (dictionary counts) (standing s)) below (rw w.0 w.2) in
      (f.0, f.1, rw (f.2, w.0) w.1)

  -- they stand in the order of the dictionary
  pub papers_rise : (n m : ℕ) → n < m → m < length (papers_of counts) → place_in (dictionary counts) (get_or (papers_of counts) n []) < place_in (dictionary counts) (get_or (papers_of counts) m [])
  papers_rise n m l k =
      let o = passing_order stands_for_paper (dictionary counts) n m l k in
      let one = ap (place_in (dictionary counts)) (sym o.is_first) ∙ dictionary_place counts o.earlier (omega (arith, o.within, dictionary_size counts)) in
      let other = ap (place_in (dictionary counts)) (sym o.is_second) ∙ dictionary_place counts (suc o.earlier + o.behind) (omega (arith, o.within, dictionary_size counts)) in
      omega (arith, one, other)

  -- no two of them are one paper
  pub papers_one : (s : List ℕ) (n m : ℕ) → IsStrip counts s → n < length (papers_of counts) → m < length (papers_of counts)
      → is_a_turn s (get_or (papers_of counts) n []) ≡ true → is_a_turn s (get_or (papers_of counts) m []) ≡ true → n ≡ m
  papers_one s n m own h k e f = elim (dec_lt n m) [
    | yes l ↦ absurd (omega (arith, papers_rise n m l k, ap (place_in (dictionary counts)) same_one))
    | no l ↦ elim (dec_lt m n) [
      | yes q ↦ absurd (omega (arith, papers_rise m n q h, ap (place_in (dictionary counts)) same_one))
      | no q ↦ omega arith
    ]
  ]
    where
      is : (i : ℕ) → i < length (papers_of counts) → is_a_turn s (get_or (papers_of counts) i []) ≡ true → get_or (papers_of counts) i [] ≡ standing s
      is i l t = paper_once counts s (get_or (papers_of counts) i []) (some_blocks counts s stock own) t (papers_own i l).1

      same_one : get_or (papers_of counts) n [] ≡ get_or (papers_of counts) m []
      same_one = is n h e ∙ sym (is m k f)
