-- Theorems. A search among the strips that come later in the book, read by the numbers of the strips.
use Prim.Native.Nat.{ℕ, suc, ◌+◌, ◌≤◌, ◌<◌}
use mathlib.Core.Path.{◌≡◌, sym, ap, ◌∙◌}
use mathlib.Core.Bool.{Bool, true, false}
use mathlib.Core.List.{List, []}
use native.Mathlib.Omega.{arith}
use lib.ListN.{length, get_or}
use Rattle.rules.specs.Stock.{total, IsStrip}
use Rattle.rules.specs.Book.{book, place_in}
use Rattle.rules.proofs.Places.{book_size, book_only, book_place, place_below, place_undone}
use Rattle.searching.specs.Searching.{later}
use Rattle.searching.proofs.Later.{later_many, later_at, later_place, larger_later}
use Rattle.searching.proofs.Theorems.{Found, SearchRight}

-- after is a strip of the stock that passes, so many numbers further on than s, within the given moves, and none between passes
pub record First (test : List ℕ → Bool) (counts s : List ℕ) (given moves : ℕ) (after : List ℕ) : Type 0 where
  pub strip : IsStrip counts after
  pub passes : test after ≡ true
  pub some : 0 < moves
  pub enough : moves ≤ given
  pub further : place_in (book counts) after ≡ place_in (book counts) s + moves
  pub between : (t : List ℕ) → IsStrip counts t → place_in (book counts) s < place_in (book counts) t → place_in (book counts) t < place_in (book counts) after → test t ≡ false

-- no strip of the stock with a larger number than that of s passes
abbrev pub None : (List ℕ → Bool) → List ℕ → List ℕ → Type 0
None test counts s = (t : List ℕ) → IsStrip counts t → place_in (book counts) s < place_in (book counts) t → test t ≡ false

-- and none up to the one so many numbers further on
abbrev pub NoneTo : (List ℕ → Bool) → List ℕ → List ℕ → ℕ → Type 0
NoneTo test counts s last = (t : List ℕ) → IsStrip counts t → place_in (book counts) s < place_in (book counts) t → place_in (book counts) t ≤ place_in (book counts) s + last → test t ≡ false

module _ (test : List ℕ → Bool) (counts s : List ℕ) (own : IsStrip counts s) where
  abbrev number : List ℕ → ℕ
  number t = place_in (book counts) t

  abbrev more : List (List ℕ)
  more = later (book counts) s

  many : length more + number s + 1 ≡ total counts
  many = omega (arith, later_many (book counts) s, book_size counts, place_below counts s own)

  -- the strips of the stock with larger numbers are those that come later
  is_later : (t : List ℕ) → IsStrip counts t → number s < number t → (m : ℕ) × (m < length more) × (number t ≡ number s + suc m) × (get_or more m [] ≡ t)
  is_later t k l =
      let w = larger_later (book counts) s t (omega (arith, place_below counts t k, book_size counts)) l in
      (w.0, w.1, w.2, w.3 ∙ place_undone counts t k)

  later_is : (m : ℕ) → m < length more → IsStrip counts (get_or more m []) × (number (get_or more m []) ≡ number s + suc m)
  later_is m l = (
    rw (later_at (book counts) s m) (book_only counts (number s + suc m) (omega (arith, many))),
    later_place (book counts) s (λ i k. book_place counts i (omega (arith, book_size counts))) m l,
  )

  none_to : (last : ℕ) → ((i : ℕ) → i < last → test (get_or more i []) ≡ false) → NoneTo test counts s last
  none_to last h t k l n = let w = is_later t k l in ap test (sym w.3) ∙ h w.0 (omega (arith, w.2))

  module _ (given end moves : ℕ) (after : List ℕ) (r : SearchRight test more given s end moves after) where
    pub found_first : end ≡ 1 → First test counts s given moves after
    found_first o = go (r.found_means o)
      where
        go : (m : ℕ) × Found test more given m × (moves ≡ suc m) × (after ≡ get_or more m []) → First test counts s given moves after
        go (m, f, e, is) =
            let w = later_is m f.within in
            let there : number after ≡ number s + suc m = ap number is ∙ w.1 in
            record {
              strip = rw is w.0;
              passes = rw is f.passes;
              some = omega arith;
              enough = omega (arith, f.enough);
              further = omega arith;
              between = λ t k l n. none_to m f.first t k l (omega arith);
            }

    -- none: exactly when no strip with a larger number passes and the given moves reach the last strip, to which the moves lead
    pub none_means : end ≡ 2 → None test counts s × (total counts ≤ place_in (book counts) s + given + 1) × (place_in (book counts) s + moves + 1 ≡ total counts)
    none_means o =
        let n = r.none_left_means o in
        (λ t k l. none_to (length more) n.0.none t k l (omega (arith, many, place_below counts t k)), omega (arith, many, n.0.reach), omega (arith, many, n.1))

    pub none_exactly : None test counts s → total counts ≤ place_in (book counts) s + given + 1 → end ≡ 2
    none_exactly h l = r.none_left_exactly record { reach = omega (arith, many); none = λ i k. let w = later_is i k in h (get_or more i []) w.0 (omega (arith, w.1)) }

    -- stopped: the given moves, all made, do not reach the last strip, and lead to none that passes
    pub stopped_means : end ≡ 3 → (place_in (book counts) s + given + 1 < total counts) × (moves ≡ given) × NoneTo test counts s given
    stopped_means o =
        let n = r.stopped_means o in
        (omega (arith, many, n.0.short), n.1, none_to given n.0.none)
