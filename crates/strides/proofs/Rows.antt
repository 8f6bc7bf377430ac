-- Proofs. A stride of n moves: which row refuses it, and where none does, the strip n numbers further on.
use Prim.Native.Nat.{ℕ, ◌+◌, ◌-◌, ◌^◌, ◌≤◌, ◌<◌}
use mathlib.Core.Path.{◌≡◌, refl, sym, ap, ◌∙◌}
use mathlib.Core.Bool.{false}
use mathlib.Core.List.{List, []}
use native.Mathlib.Decide.{dec_lt}
use native.Mathlib.Omega.{arith}
use borrow.Author.Tests.{lt-ltb, le-ltb, ltb-false, leb-false}
use lib.Dec.{ltb, leb}
use lib.ListN.{get_or}
use Rattle.rules.specs.Stock.{total, IsStrip}
use Rattle.rules.specs.Book.{book, place_in}
use Rattle.rules.specs.Refusals.{No, fine, first_of}
use Rattle.rules.proofs.Refusals.{end_is, row_is, when_is, many_refused, many_passed}
use Rattle.rules.proofs.Checks.{passed_head, when_passed}
use Rattle.rules.proofs.Places.{place_below}
use Rattle.walking.specs.Answers.{along, left_along, left}
use Rattle.walking.proofs.Along.{along_strip}
use Rattle.std.specs.Prelude.{Result, Ok, Err, IsOk, IsErr}
use Rattle.stock.specs.declared.refused.Reason.{Reason}
use Rattle.stock.specs.declared.refused.Reason.TheVariants.{Many, Astray, Stride}
use Rattle.stock.specs.Refused.{number_of}
use Rattle.stock.proofs.Told.{number_some}
use Rattle.strides.specs.Strides.{stride_nos}
use Rattle.strides.specs.Strode.{row_of, Sees, Strode}

-- which row it is
number_many : (r : Reason) → number_of r ≡ 7 → r ≡ Many
number_many r h = grind (arith, h)

row_many : (a : Result ℕ Reason) → row_of a ≡ (7, 0) → a ≡ Err Many
row_many (Ok m) e = absurd (omega (arith, ap (λ (r : No). r.0) e))
row_many (Err r) e = rw (number_many r (ap (λ (r : No). r.0) e))

row_some : (a : Result ℕ Reason) → IsErr a → row_of a ≡ fine → ⊥
row_some (Ok m) h e = absurd (cc)
row_some (Err r) h e = number_some r (ap (λ (r : No). r.0) e)

module _ (counts s : List ℕ) (n : ℕ) where
  rows_short : n < 2 → first_of (stride_nos counts s n) ≡ (17, 0)
  unfolding stride_nos first_of
  rows_short h = rw (lt-ltb n 2 h)

  module _ (two : 2 ≤ n) where
    rows_many : 2 ^ 64 ≤ total counts → first_of (stride_nos counts s n) ≡ (7, 0)
    unfolding stride_nos first_of
    rows_many h = rw (le-ltb n 2 two, many_refused counts h)

    module _ (few : total counts < 2 ^ 64) where
      rows_past : left counts s < n → first_of (stride_nos counts s n) ≡ (12, 0)
      unfolding stride_nos first_of
      rows_past h = rw (le-ltb n 2 two, many_passed counts few, lt-ltb (left counts s) n h)

      pub rows_fine : n ≤ left counts s → first_of (stride_nos counts s n) ≡ fine
      unfolding stride_nos first_of
      rows_fine h = rw (le-ltb n 2 two, many_passed counts few, le-ltb (left counts s) n h)

  -- no row refuses
  pub record CanStride : Type 0 where
    pub two : 2 ≤ n
    pub few : total counts < 2 ^ 64
    pub within : n ≤ left counts s

  pub rows_passed : (first_of (stride_nos counts s n)).0 ≡ 0 → CanStride
  unfolding stride_nos
  rows_passed z =
      let one = passed_head _ _ z in
      let two = passed_head _ _ one.1 in
      let three = passed_head _ _ two.1 in
      record { two = ltb-false _ _ (when_passed 16 0 _ one.0); few = leb-false _ _ (when_passed 6 0 _ two.0); within = ltb-false _ _ (when_passed 11 0 _ three.0) }

  -- ---- case by case as it is found

  pub sees_short : n < 2 → Sees counts s n (Err Stride)
  sees_short h = record { refusal = sym (rows_short h); place = tt }

  module _ (two : 2 ≤ n) where
    pub sees_many : 2 ^ 64 ≤ total counts → Sees counts s n (Err Many)
    sees_many h = record { refusal = sym (rows_many two h); place = tt }

    module _ (h : IsStrip counts s) (few : total counts < 2 ^ 64) (here : ℕ) (is : here ≡ place_in (book counts) s) where
      left_is : left counts s ≡ total counts - 1 - here
      unfolding left_along
      left_is = rw (sym is) refl

      pub sees_past : total counts - here ≤ n → Sees counts s n (Err Astray)
      sees_past l = record { refusal = sym (rows_past two few (omega (arith, left_is, is, place_below counts s h))); place = tt }

      pub sees_on : n < total counts - here → Sees counts s n (Ok (here + n))
      sees_on l = record { refusal = sym (rows_fine two few (omega (arith, left_is))); place = rw is }

    -- ---- and back: what the number of the refusal says

    pub seven_many : (first_of (stride_nos counts s n)).0 ≡ 7 → 2 ^ 64 ≤ total counts
    seven_many e = elim (dec_lt (total counts) (2 ^ 64)) [
      | yes few ↦ elim (dec_lt (left counts s) n) [
        | yes l ↦ absurd (omega (arith, e, ap (λ (r : No). r.0) (rows_past two few l)))
        | no l ↦ absurd (omega (arith, e, ap (λ (r : No). r.0) (rows_fine two few (omega arith))))
      ]
      | no many ↦ omega arith
    ]

  -- ---- what was seen ahead, whether it is a number or a refusal

  module _ (two : 2 ≤ n) (a : Result ℕ Reason) (v : Sees counts s n a) where
    pub seen_many : a ≡ Err Many → 2 ^ 64 ≤ total counts
    seen_many e = let row : first_of (stride_nos counts s n) ≡ (7, 0) = sym v.refusal ∙ rw e in seven_many two (ap (λ (r : No). r.0) row)

    pub seen_numbered : (a ≡ Err Many → ⊥) → total counts < 2 ^ 64
    seen_numbered h = elim (dec_lt (total counts) (2 ^ 64)) [ yes few ↦ few | no many ↦ absurd (h (row_many a (v.refusal ∙ rows_many two (omega arith)))) ]

    pub seen_past : total counts < 2 ^ 64 → IsErr a → left counts s < n
    seen_past few h = elim (dec_lt (left counts s) n) [ yes l ↦ l | no l ↦ absurd (row_some a h (v.refusal ∙ rows_fine two few (omega arith))) ]

  pub seen_within : (a : Result ℕ Reason) → Sees counts s n a → IsOk a → n ≤ left counts s
  seen_within (Ok m) v h = (rows_passed (ap (λ (r : No). r.0) (sym v.refusal))).within
  seen_within (Err r) v h = absurd (cc)

  -- ---- making it, as it is seen ahead

  module _ (number : ℕ) (v : Sees counts s n (Ok number)) where
    seen : CanStride
    seen = rows_passed (ap (λ (r : No). r.0) (sym v.refusal))

    pub seen_few : total counts < 2 ^ 64
    seen_few = seen.few

    pub seen_below : IsStrip counts s → number < total counts
    unfolding left_along
    seen_below h = omega (arith, v.place, seen.within, place_below counts s h)

    pub strode : (t : List ℕ) → t ≡ get_or (book counts) number [] → Strode counts s n (Ok tt) t
    unfolding along
    strode t e = record { refusal = v.refusal; strip = e ∙ rw v.place }

-- the strip that is left is one of the stock
pub own_after : (counts s : List ℕ) (n : ℕ) (t : List ℕ) → IsStrip counts s → Strode counts s n (Ok tt) t → IsStrip counts t
own_after counts s n t h v =
    rw v.strip (along_strip false counts s h n (rows_passed counts s n (ap (λ (r : No). r.0) (sym v.refusal))).within)

-- ---- the number of its refusal: none, 7, 12 or 17

module _ (P : ℕ → Type 0) (none : P 0) (seven : P 7) (twelve : P 12) (seventeen : P 17) where
  pub stride_is : (counts s : List ℕ) (n : ℕ) → P (first_of (stride_nos counts s n)).0
  unfolding stride_nos
  stride_is counts s n =
      row_is P none _ _ (when_is P none 17 0 seventeen (ltb n 2))
      (row_is P none _ _ (when_is P none 7 0 seven (leb (2 ^ 64) (total counts))) (row_is P none _ [] (when_is P none 12 0 twelve (ltb (left counts s) n)) (end_is P none)))
