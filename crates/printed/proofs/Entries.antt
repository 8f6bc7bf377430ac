-- Proofs. The standing strips of a dictionary that is looked at so far, at most so many: where each stands, and what a search from it finds. Over any two
-- such bounds, since the catalogue's own would be counted out one by one.
use Prim.Native.Nat.{ℕ, suc, ◌+◌, ◌≤◌, ◌<◌}
use mathlib.Core.Path.{◌≡◌, sym, ap, ◌∙◌}
use mathlib.Core.Bool.{true}
use mathlib.Core.List.{List, [], ◌∷◌}
use native.Mathlib.Nat.{add-zero}
use native.Mathlib.Numerals.{add-one}
use native.Mathlib.Omega.{arith}
use lib.ListN.{length, get_or, take, drop, length-take, length-drop}
use lib.Seq.{length-take-le, get_or-take, get_or-drop, take-add, drop_at}
use Rattle.rules.specs.Stock.{total, IsStock, IsStrip}
use Rattle.rules.specs.Book.{place_in}
use Rattle.rules.proofs.Prefixes.{total_some}
use Rattle.dictionary.specs.Dictionary.{dictionary}
use Rattle.dictionary.proofs.Theorems.{dictionary_size, dictionary_only, dictionary_place, dictionary_undone, dictionary_below}
use Rattle.searching.specs.Searching.{later, outcome, steps_made, found_or, passing}
use Rattle.searching.proofs.Later.{later_place}
use Rattle.searching.proofs.Theorems.{Found, is_found, found_is}
use Rattle.searching.proofs.Passing.{passing_first, passing_at, passing_all, found_reached, none_reached}
use Rattle.standing.specs.Standing.{stands_for_paper}
use Rattle.endless.proofs.Later.{own_place}
use Rattle.endless.proofs.Listing.{first_standing}

-- ---- lists

-- the strips behind so many, of a list that is cut off
drop_cut : (n m k : ℕ) (l : List (List ℕ)) → n ≤ length l → n + m ≡ k → drop n (take k l) ≡ take m (drop n l)
drop_cut n m k l h e = rw (← e, take-add n m l) (drop_at (take n l) (take m (drop n l)) n (length-take-le n l h))

-- what stands behind n strips
next_is : (l : List (List ℕ)) (n : ℕ) (u : List ℕ) (r : List (List ℕ)) → drop n l ≡ u ∷ r → (n < length l) × (get_or l n [] ≡ u)
next_is l n u r e = (
  omega (arith, length-drop n l, ap length e),
  ap (λ (i : ℕ). get_or l i []) (sym (add-zero n)) ∙ sym (get_or-drop n l 0 []) ∙ ap (λ (x : List (List ℕ)). get_or x 0 []) e,
)

-- ---- the standing strips

module _ (counts : List ℕ) (most reach : ℕ) where
  -- all that are met, and those that are printed
  abbrev all : List (List ℕ)
  all = passing stands_for_paper (take reach (dictionary counts))

  abbrev printed : List (List ℕ)
  printed = take most all

  pub few_printed : length printed ≤ most
  few_printed = omega (arith, length-take most all)

  -- the first is the first of the dictionary
  module _ (k : IsStock counts) (some : 0 < most) (far : 0 < reach) where
    pub first_printed : (0 < length printed) × (get_or printed 0 [] ≡ get_or (dictionary counts) 0 [])
    first_printed =
        let w = take reach (dictionary counts) in
        let e : get_or w 0 [] ≡ get_or (dictionary counts) 0 [] = get_or-take reach (dictionary counts) 0 [] far in
        let a : all ≡ get_or w 0 [] ∷ passing stands_for_paper (drop 1 w) =
        passing_first stands_for_paper 0 w (omega (arith, length-take reach (dictionary counts), dictionary_size counts, total_some counts)) (λ j h. absurd (omega arith)) (rw e (first_standing counts k)) in
        (omega (arith, length-take most all, ap length a), get_or-take most all 0 [] some ∙ ap (λ (x : List (List ℕ)). get_or x 0 []) a ∙ e)

  -- every standing strip that is looked at is printed, where there is room for all
  pub all_printed : (u : List ℕ) → IsStrip counts u → stands_for_paper u ≡ true → place_in (dictionary counts) u < reach → length printed < most → (i : ℕ) × (i < length printed) × (get_or printed i [] ≡ u)
  all_printed u own stands near few =
      let j = place_in (dictionary counts) u in
      let e : get_or (take reach (dictionary counts)) j [] ≡ u = get_or-take reach (dictionary counts) j [] near ∙ dictionary_undone counts u own in
      let w = passing_all stands_for_paper (take reach (dictionary counts)) j (omega (arith, length-take reach (dictionary counts), dictionary_size counts, dictionary_below counts u own)) (rw e stands) in
      (w.0, omega (arith, w.1, length-take most all), get_or-take most all w.0 [] (omega (arith, w.1, length-take most all)) ∙ w.2 ∙ e)

  -- strip i
  module _ (i : ℕ) (h : i < length printed) where
    abbrev s : List ℕ
    s = get_or printed i []

    abbrev number : ℕ
    number = place_in (dictionary counts) s

    -- what is known of it
    pub record Entry : Type 0 where
      pub near : number < reach
      pub own : IsStrip counts s
      pub stands : stands_for_paper s ≡ true
      pub rest : (given : ℕ) → suc number + given ≡ reach → drop (suc i) all ≡ passing stands_for_paper (take given (later (dictionary counts) s))

    pub entry : Entry
    unfolding later
    entry =
        let w = passing_at stands_for_paper (take reach (dictionary counts)) i (omega (arith, length-take most all)) in
        let e : s ≡ get_or (take reach (dictionary counts)) w.0 [] = get_or-take most all i [] (omega (arith, length-take most all)) ∙ sym w.1.is in
        go w.0 (omega (arith, w.1.within, length-take reach (dictionary counts))) (omega (arith, w.1.within, length-take reach (dictionary counts), dictionary_size counts)) e w.1.passes w.1.rest
      where
        go : (p : ℕ) → p < reach → p < total counts → s ≡ get_or (take reach (dictionary counts)) p [] → stands_for_paper (get_or (take reach (dictionary counts)) p []) ≡ true → drop (suc i) all ≡ passing stands_for_paper (drop (suc p) (take reach (dictionary counts))) → Entry
        go p near below is passes rest =
            let e : s ≡ get_or (dictionary counts) p [] = is ∙ get_or-take reach (dictionary counts) p [] near in
            let place : number ≡ p = ap (place_in (dictionary counts)) e ∙ dictionary_place counts p below in
            record {
              near = omega arith;
              own = rw e (dictionary_only counts p below);
              stands = ap stands_for_paper is ∙ passes;
              rest = λ given sum_is_lem. rest ∙ rw (place, add-one p) (ap (passing stands_for_paper) (drop_cut (suc p) given reach (dictionary counts) (omega (arith, dictionary_size counts)) (omega arith)));
            }

    -- ---- the next one, by a search from it

    module _ (given : ℕ) (sum_is_lem : suc number + given ≡ reach) where
      abbrev behind : List (List ℕ)
      behind = later (dictionary counts) s

      -- none is found: it is the last
      pub found_none : (outcome stands_for_paper behind given ≡ 1 → ⊥) → length printed ≤ suc i
      found_none n = omega (arith, length-take most all, length-drop (suc i) all, ap length (entry.rest given sum_is_lem ∙ none_reached stands_for_paper behind given n))

      -- one is found: it is the next, and the steps lead from the one number to the other
      pub record Next (u : List ℕ) (steps : ℕ) : Type 0 where
        pub within : suc i < length printed
        pub strip : get_or printed (suc i) [] ≡ u
        pub place : place_in (dictionary counts) u ≡ number + steps

      pub found_next : suc i < most → outcome stands_for_paper behind given ≡ 1 → Next (found_or stands_for_paper behind given s) (steps_made stands_for_paper behind given)
      found_next few o = let w = is_found stands_for_paper behind given o in go w.0 w.1
        where
          go : (m : ℕ) → Found stands_for_paper behind given m → Next (found_or stands_for_paper behind given s) (steps_made stands_for_paper behind given)
          go m f =
              let n = next_is all (suc i) _ _ (entry.rest given sum_is_lem ∙ found_reached stands_for_paper behind given m f) in
              let is = found_is stands_for_paper behind given m f in
              record {
                within = omega (arith, length-take most all, n.0);
                strip = get_or-take most all (suc i) [] few ∙ n.1 ∙ sym (is.2 s);
                place = rw (is.2 s, is.1) (later_place (dictionary counts) s (own_place counts) m f.within);
              }
