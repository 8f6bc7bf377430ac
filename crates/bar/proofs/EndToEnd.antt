-- Proofs. What runs show from the first strip on, or from the last back: the strips of the book in that direction, and where nothing is left, all of them.
use Prim.Native.Nat.{ℕ, ◌+◌, ◌≤◌, ◌<◌}
use mathlib.Core.Path.{◌≡◌, sym, ap, ◌∙◌}
use mathlib.Core.Bool.{Bool, true, false}
use mathlib.Core.List.{List, []}
use native.Mathlib.Omega.{arith}
use lib.ListN.{length, get_or}
use lib.Seq.{ext_get_or}
use Rattle.rules.specs.Stock.{total, IsStrip}
use Rattle.rules.specs.Book.{turn, book, place_in}
use Rattle.rules.proofs.Listed.{face, face_lt, get_d_turn, length_turn}
use Rattle.rules.proofs.Strips.{listed}
use Rattle.rules.proofs.Places.{place_undone, book_size, book_place}
use Rattle.rules.proofs.Prefixes.{total_some}
use Rattle.walking.specs.Answers.{shifted, ahead, along, left_along}
use Rattle.running.proofs.OneAfterOther.{Led, led_left}
use Rattle.bar.specs.Bar.{stood, different, missing}
use Rattle.bar.proofs.Listed.{Replays, replays}
use Rattle.bar.proofs.Different.{book_not_missing, none_missing_all}

-- counted from the end of n numbers at which a direction begins
face_further : (d : Bool) (n i : ℕ) → i < n → (shifted d (face d n 0) i ≡ face d n i) × (ahead d n (face d n 0) + 1 ≡ n)
unfolding face
face_further false n i l = (omega arith, omega arith)
face_further true n i l = (omega arith, omega arith)

-- from the strip that the book has first in the direction
module _ (d : Bool) (counts s : List ℕ) (first : s ≡ get_or (turn d (book counts)) 0 []) where
  first_number : place_in (book counts) s ≡ face d (total counts) 0
  first_number =
      let some : 0 < total counts = total_some counts in
      ap (place_in (book counts)) (first ∙ get_d_turn (listed counts) d 0 some) ∙ book_place counts (face d (total counts) 0) (face_lt d (total counts) 0 some)

  pub all_left : left_along d counts s + 1 ≡ total counts
  unfolding left_along
  all_left = rw first_number (face_further d (total counts) 0 (total_some counts)).1

  along_turned : (i : ℕ) → i < total counts → along d counts s i ≡ get_or (turn d (book counts)) i []
  unfolding along
  along_turned i l = rw (first_number, (face_further d (total counts) i l).0) (sym (get_d_turn (listed counts) d i l))

-- what stands while runs lead on
module _ (d : Bool) (counts s : List ℕ) (h : IsStrip counts s) (moves : List ℕ) (m : ℕ) (t : List ℕ) (v : Led d counts s moves m t) where
  shown : Replays d counts s h m
  shown = replays d counts s h m v.within

  pub led_stands : (i : ℕ) → i ≤ m → get_or (stood s moves) i [] ≡ along d counts s i
  led_stands i l = ap (λ (l : List ℕ). get_or (stood s l) i []) v.listed ∙ shown.stands i l

  pub led_many : length (stood s moves) ≡ m + 1
  led_many = ap (λ (l : List ℕ). length (stood s l)) v.listed ∙ omega (arith, shown.many)

  module _ (first : s ≡ get_or (turn d (book counts)) 0 []) where
    pub led_turned : (i : ℕ) → i ≤ m → get_or (stood s moves) i [] ≡ get_or (turn d (book counts)) i []
    led_turned i l = led_stands i l ∙ along_turned d counts s first i (omega (arith, v.within, all_left d counts s first))

    -- where nothing is left, the whole book
    pub led_whole : left_along d counts t ≡ 0 → stood s moves ≡ turn d (book counts)
    led_whole none =
        let all : m + 1 ≡ total counts = omega (arith, v.within, led_left d counts s h moves m t v, all_left d counts s first) in
        ext_get_or [] (stood s moves) (turn d (book counts)) (led_many ∙ all ∙ sym (length_turn d (book counts) ∙ book_size counts)) (λ i l. led_turned i (omega (arith, led_many)))

-- so on from strip 0 to the last every strip stands, and none is missing
module _ (counts s : List ℕ) (h : IsStrip counts s) (moves : List ℕ) (m : ℕ) (t : List ℕ) (v : Led false counts s moves m t) (first : place_in (book counts) s ≡ 0) (last : m + 1 ≡ total counts) where
  all_stood : stood s moves ≡ book counts
  unfolding turn left_along
  all_stood = led_whole false counts s h moves m t v (rw first at (sym (place_undone counts s h))) (omega (arith, led_left false counts s h moves m t v))

  pub whole_book : (missing (stood s moves) (book counts) ≡ total counts) × (different (stood s moves) (book counts) ≡ total counts)
  whole_book = rw all_stood (book_not_missing counts, none_missing_all counts (book counts) (book_not_missing counts))
