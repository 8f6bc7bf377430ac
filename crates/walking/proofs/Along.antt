-- Proofs. The strips of the book further on or back: what is left after them, the strip beside, and the way back.
use Prim.Native.Nat.{ℕ, suc, ◌+◌, ◌-◌, ◌≤◌, ◌<◌}
use mathlib.Core.Path.{◌≡◌, ap, ◌∙◌}
use mathlib.Core.Bool.{Bool, not}
use mathlib.Core.List.{List, [], ◌∷◌}
use native.Mathlib.Decide.{ℕ_discrete}
use native.Mathlib.Numerals.{add-one}
use native.Mathlib.Omega.{arith}
use borrow.Author.Tests.{eq-eqb, ne_eqb}
use lib.ListN.{get_or-eq_default}
use Rattle.rules.specs.Stock.{total, IsStrip}
use Rattle.rules.specs.Book.{book, place_in}
use Rattle.rules.specs.Neighbours.{places}
use Rattle.rules.specs.Refusals.{No, fine}
use Rattle.rules.proofs.Places.{place_below, place_undone, book_size, book_only, book_place}
use Rattle.walking.specs.Answers.{shifted, along, left_along, beside, onward, left, end_no}
use Rattle.walking.proofs.Numbers.{shifted_none, shifted_further, shifted_below, shifted_back, ahead_further, ahead_back}
use Rattle.walking.proofs.OneMove.{made}

-- refusal 9 of a move, by what is left
module _ (d : Bool) (counts s : List ℕ) where
  pub none_left : end_no d counts s ≡ (9, 0) → left_along d counts s ≡ 0
  unfolding end_no
  none_left e = elim (ℕ_discrete (left_along d counts s) 0) [ yes z ↦ z | no z ↦ absurd (omega (arith, ap (λ (r : No). r.0) (rw (ne_eqb (left_along d counts s) 0 z) at e))) ]

  pub some_left : end_no d counts s ≡ fine → 0 < left_along d counts s
  unfolding end_no
  some_left e = elim (ℕ_discrete (left_along d counts s) 0) [ yes z ↦ absurd (omega (arith, ap (λ (r : No). r.0) (rw (eq-eqb (left_along d counts s) 0 z) at e))) | no z ↦ omega arith ]

  pub left_allowed : 0 < left_along d counts s → end_no d counts s ≡ fine
  unfolding end_no
  left_allowed l = rw (ne_eqb (left_along d counts s) 0 (omega arith))

  pub left_nine : left_along d counts s ≡ 0 → end_no d counts s ≡ (9, 0)
  unfolding end_no
  left_nine l = rw (eq-eqb (left_along d counts s) 0 l)

-- after the last strip there is none
pub past_last : (counts s : List ℕ) → IsStrip counts s → left counts s ≡ 0 → onward counts s 1 ≡ []
unfolding along left_along
past_last counts s h e = get_or-eq_default (book counts) [] (omega (arith, book_size counts, place_below counts s h))

module _ (d : Bool) (counts s : List ℕ) (h : IsStrip counts s) where
  -- a move exchanges two places
  pub two_places : 0 < left_along d counts s → (p : ℕ) × (q : ℕ) × (places s (beside d counts s) ≡ p ∷ q ∷ [])
  two_places l = let m = made d counts s h (left_allowed d counts s l) in (m.0.p + 1, m.0.q + 1, m.1.shown)

  pub along_none : along d counts s 0 ≡ s
  unfolding along
  along_none = rw (shifted_none d (place_in (book counts) s)) (place_undone counts s h)

  module _ (i : ℕ) (l : i ≤ left_along d counts s) where
    pub along_below : shifted d (place_in (book counts) s) i < total counts
    unfolding left_along
    along_below = shifted_below (total counts) (place_in (book counts) s) i (place_below counts s h) d l

    pub along_strip : IsStrip counts (along d counts s i)
    unfolding along
    along_strip = book_only counts (shifted d (place_in (book counts) s) i) along_below

    pub along_place : place_in (book counts) (along d counts s i) ≡ shifted d (place_in (book counts) s) i
    unfolding along
    along_place = book_place counts (shifted d (place_in (book counts) s) i) along_below

    pub along_left : left_along d counts (along d counts s i) ≡ left_along d counts s - i
    unfolding left_along
    along_left = rw along_place (ahead_further d (total counts) (place_in (book counts) s) i)

    pub along_further : (k : ℕ) → along d counts (along d counts s i) k ≡ along d counts s (i + k)
    unfolding along
    along_further k = rw (along_place, shifted_further d (place_in (book counts) s) i k)

    pub along_beside : beside d counts (along d counts s i) ≡ along d counts s (suc i)
    along_beside = along_further 1 ∙ rw (add-one i)

    -- and the other way
    pub back_left : i ≤ left_along (not d) counts (along d counts s i)
    unfolding left_along
    back_left = rw along_place (ahead_back (total counts) (place_in (book counts) s) i (place_below counts s h) d l)

    pub along_back : (k : ℕ) → k ≤ i → along (not d) counts (along d counts s i) k ≡ along d counts s (i - k)
    unfolding along left_along
    along_back k m = rw (along_place, shifted_back (total counts) (place_in (book counts) s) i (place_below counts s h) d l k m)

-- the move after i others exchanges two places
pub along_places : (d : Bool) (counts s : List ℕ) → IsStrip counts s → (i : ℕ) → i < left_along d counts s → (p : ℕ) × (q : ℕ) × (places (along d counts s i) (along d counts s (suc i)) ≡ p ∷ q ∷ [])
along_places d counts s h i l =
    let k : i ≤ left_along d counts s = omega arith in
    rw (along_beside d counts s h i k) at (two_places d counts (along d counts s i) (along_strip d counts s h i k) (omega (arith, along_left d counts s h i k)))
