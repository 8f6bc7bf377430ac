-- Proofs. A kind without blocks: it has one pattern, a strip in which it stands is refused by 6, and the book is that of the stock without it.
use Prim.Native.Nat.{ℕ, zero, suc, ◌+◌, ◌≤◌, ◌<◌}
use mathlib.Core.Path.{◌≡◌, refl, sym, ap, ◌∙◌}
use mathlib.Core.Bool.{Bool, true, false}
use mathlib.Core.List.{List, [], ◌∷◌, ◌++◌, map, append-nil, append_assoc, map-id, map-map}
use native.Mathlib.Decide.{ℕ_discrete, dec_lt}
use native.Mathlib.Omega.{arith}
use lib.Dec.{eqb}
use borrow.Author.Tests.{eqb-true, eq-eqb, ne_eqb, lt-ltb, le-ltb, not-false}
use lib.ListN.{length, get_or, replicate, length-append, length-replicate, length-map}
use Rattle.rules.specs.Stock.{sum, N, tally, count, total, IsStock, IsStrip}
use Rattle.rules.specs.Book.{R, Word, E, lay, snake, book, same, place_in}
use Rattle.rules.specs.Refusals.{No, first_of, smallest, is_stranger, is_miscounted, stock_nos, strip_nos, check_nos}
use Rattle.rules.specs.SoldOut.{one_higher, renamed}
use Rattle.rules.proofs.Last.{from_end}
use Rattle.rules.proofs.Turned.{sum_append, sum_next}
use Rattle.rules.proofs.Listed.{get_or_map', map_agree, map_twice}
use Rattle.rules.proofs.Patterns.{count_r_rs}
use Rattle.rules.proofs.Equations.{e_all_r}
use Rattle.rules.proofs.Snake.{map_snake, snake_ones}
use Rattle.rules.proofs.Laying.{lay_all_r, lay_map}
use Rattle.rules.proofs.Strips.{strip_sum, book_rule}
use Rattle.rules.proofs.Places.{book_only, book_size}
use Rattle.rules.proofs.Refusals.{passed_first}
use Rattle.rules.proofs.Smallest.{smallest_zero}
use Rattle.rules.proofs.Checks.{accepted_back, strip_amount}

-- ---- its pattern

-- one, first and last at once: every block is of the kinds before
pub one_pattern : (counts : List ℕ) (j : ℕ) → j < length counts → get_or counts j 0 ≡ 0 → E (N counts (suc j)) (N counts j) ≡ replicate (N counts j) R ∷ []
one_pattern counts j h e =
    let n : N counts (suc j) ≡ N counts j = omega (arith, sum_next counts j h) in
    rw n (e_all_r (N counts j))

-- ---- the book

higher_below : (j kind : ℕ) → kind ≤ j → one_higher j kind ≡ kind
higher_below j kind h = rw (le-ltb j kind h)

higher_above : (j kind : ℕ) → j < kind → one_higher j kind ≡ suc kind
higher_above j kind h = rw (lt-ltb j kind h)

-- a strip of kinds up to j is called what it was
renamed_below : (j : ℕ) (s : List ℕ) → ((i : ℕ) → i < length s → get_or s i 0 ≤ j) → renamed j s ≡ s
renamed_below j s h = map_agree (one_higher j) (λ x. x) s 0 (λ i l. higher_below j (get_or s i 0) (h i l)) ∙ map-id s

-- the sold-out kind above all others: each strip has its one pattern, which leaves it as it is, and no kind is above it to be renamed
module _ (below : List ℕ) where
  own : (i : ℕ) → i < length (book below) → IsStrip below (get_or (book below) i [])
  own i h = book_only below i (omega (arith, book_size below))

  one_laid : (i : ℕ) → i < length (book below) → map (lay (suc (length below)) (get_or (book below) i [])) (E (0 + sum below) (sum below)) ≡ get_or (book below) i [] ∷ []
  one_laid i h =
      let w = get_or (book below) i [] in
      let n = length-replicate (sum below) R in
      let z : 0 + sum below ≡ sum below = omega arith in
      rw (z, e_all_r (sum below)) (ap (λ (s : List ℕ). s ∷ []) (lay_all_r (suc (length below)) w (replicate (sum below) R) (strip_sum below w (own i h) ∙ sym n) (count_r_rs (sum below) ∙ sym n)))

  pub last_sold_out : book (below ++ (0 ∷ [])) ≡ book below
  last_sold_out =
      book_rule below 0 ∙ ap (snake false) (map_agree _ (λ w. w ∷ []) (book below) [] one_laid) ∙ snake_ones (λ w. w) false (book below) ∙ map-id (book below)

  renamed_none : map (renamed (length below)) (book below) ≡ book below
  renamed_none = map_agree (renamed (length below)) (λ s. s) (book below) [] (λ i h. renamed_below (length below) (get_or (book below) i []) (λ p l. ((own i h).kinds p l).1)) ∙ map-id (book below)

  sold_out_last : book (below ++ (0 ∷ [])) ≡ map (renamed (length below)) (book (below ++ []))
  sold_out_last = last_sold_out ∙ sym (rw (append-nil below) renamed_none)

-- one kind more above them: the patterns are the same, laid as a kind called one higher
module _ (below above : List ℕ) (c : ℕ) where
  abbrev kind : ℕ
  kind = suc (length (below ++ above))

  abbrev patterns : List Word
  patterns = E (c + sum (below ++ above)) (sum (below ++ above))

  laid_higher : (w : List ℕ) → map (lay (suc kind) (renamed (length below) w)) patterns ≡ map (renamed (length below)) (map (lay kind w) patterns)
  laid_higher w =
      let e = higher_above (length below) kind (omega (arith, length-append below above)) in
      map_twice _ (renamed (length below)) (lay kind w) (λ p. rw e at (lay_map (one_higher (length below)) kind w p)) patterns

  sold_out_next : book (below ++ (0 ∷ above)) ≡ map (renamed (length below)) (book (below ++ above))
      → book (below ++ (0 ∷ (above ++ (c ∷ [])))) ≡ map (renamed (length below)) (book (below ++ (above ++ (c ∷ []))))
  unfolding sum
  sold_out_next before =
      let strips = book (below ++ above) in
      let n : length (below ++ (0 ∷ above)) ≡ kind = omega (arith, length-append below (0 ∷ above), length-append below above) in
      let m : sum (below ++ (0 ∷ above)) ≡ sum (below ++ above) = omega (arith, sum_append below (0 ∷ above), sum_append below above) in
      ap book (sym (append_assoc below (0 ∷ above) (c ∷ [])))
      ∙ (rw (n, m, before) at (book_rule (below ++ (0 ∷ above)) c))
      ∙ ap (snake false) (map-map _ _ strips ∙ map_twice _ (map (renamed (length below))) (λ w. map (lay kind w) patterns) laid_higher strips)
      ∙ sym (map_snake (renamed (length below)) false _)
      ∙ ap (map (renamed (length below))) (sym (book_rule (below ++ above) c) ∙ ap book (append_assoc below above (c ∷ [])))

-- The book of a stock with a sold-out kind is the book of the stock without it, each kind above called one higher, in the same order.
pub book_sold_out : (below above : List ℕ) → book (below ++ (0 ∷ above)) ≡ map (renamed (length below)) (book (below ++ above))
book_sold_out below = from_end (λ above. book (below ++ (0 ∷ above)) ≡ map (renamed (length below)) (book (below ++ above))) (sold_out_last below) (sold_out_next below)

-- it has as many strips
pub total_sold_out : (below above : List ℕ) → total (below ++ (0 ∷ above)) ≡ total (below ++ above)
total_sold_out below above =
    sym (book_size (below ++ (0 ∷ above))) ∙ ap length (book_sold_out below above) ∙ length-map (book (below ++ above)) (renamed (length below)) ∙ book_size (below ++ above)

-- the strip at a number is the one that stood there, renamed
pub strip_sold_out : (below above : List ℕ) (i : ℕ) → i < total (below ++ above) → get_or (book (below ++ (0 ∷ above))) i [] ≡ renamed (length below) (get_or (book (below ++ above)) i [])
strip_sold_out below above i h = rw (book_sold_out below above) (get_or_map' (renamed (length below)) (book (below ++ above)) i [] [] (omega (arith, book_size (below ++ above))))

-- ---- and a strip, renamed, keeps its number

higher_same : (j x y : ℕ) → eqb (one_higher j x) (one_higher j y) ≡ eqb x y
higher_same j x y = elim (ℕ_discrete x y) [
  | yes e ↦ rw (e, eq-eqb y y refl, eq-eqb (one_higher j y) (one_higher j y) refl)
  | no e ↦ rw (ne_eqb x y e) (ne_eqb _ _ (apart (dec_lt j x) (dec_lt j y) e))
]
  where
    apart : Dec (j < x) → Dec (j < y) → (x ≡ y → ⊥) → one_higher j x ≡ one_higher j y → ⊥
    apart (yes h) (yes l) e f = e (omega (arith, higher_above j x h, higher_above j y l))
    apart (yes h) (no l) e f = omega (arith, higher_above j x h, higher_below j y (omega arith))
    apart (no h) (yes l) e f = omega (arith, higher_below j x (omega arith), higher_above j y l)
    apart (no h) (no l) e f = e (omega (arith, higher_below j x (omega arith), higher_below j y (omega arith)))

renamed_same : (j : ℕ) (s t : List ℕ) → same (renamed j s) (renamed j t) ≡ same s t
unfolding same
renamed_same j [] [] = refl
renamed_same j [] (y ∷ t) = refl
renamed_same j (x ∷ s) [] = refl
renamed_same j (x ∷ s) (y ∷ t) = rw (higher_same j x y, renamed_same j s t)

place_renamed : (j : ℕ) (l : List (List ℕ)) (s : List ℕ) → place_in (map (renamed j) l) (renamed j s) ≡ place_in l s
unfolding place_in
place_renamed j [] s = refl
place_renamed j (t ∷ l) s = rw (renamed_same j t s, place_renamed j l s)

pub number_sold_out : (below above s : List ℕ) → place_in (book (below ++ (0 ∷ above))) (renamed (length below) s) ≡ place_in (book (below ++ above)) s
number_sold_out below above s = rw (book_sold_out below above) (place_renamed (length below) (book (below ++ above)) s)

-- ---- a byte that names it

count_some : (j : ℕ) (s : List ℕ) (i : ℕ) → i < length s → get_or s i 0 ≡ j → 1 ≤ count j s
unfolding count
count_some j [] i h e = absurd (omega arith)
count_some j (x ∷ s) zero h e = rw (eq-eqb x j e) (omega arith)
count_some j (x ∷ s) (suc i) h e = tallied (eqb x j) (count j s) (count_some j s i (omega arith) e)
  where
    tallied : (b : Bool) (n : ℕ) → 1 ≤ n → 1 ≤ tally b n
    tallied true n h = omega arith
    tallied false n h = h

-- a strip in which a byte names it: some kind is miscounted
module _ (counts s : List ℕ) (i j : ℕ) (inside : i < length s) (names : get_or s i 0 ≡ suc j) (kind : j < length counts) (none : get_or counts j 0 ≡ 0) where
  pub sold_out_miscounted : smallest (is_miscounted s) counts ≡ 0 → ⊥
  sold_out_miscounted right =
      let same = eqb-true (count (1 + j) s) (get_or counts j 0) (not-false _ (smallest_zero (is_miscounted s) 0 counts right j kind)) in
      omega (arith, same, count_some (1 + j) s i inside (omega arith))

  -- it is refused by 6, where the stock is accepted, the strip has n bytes and none of them is a stranger
  pub sold_out_is_six : IsStock counts → length s ≡ sum counts → smallest (is_stranger counts) s ≡ 0 → (first_of (check_nos counts s)).0 ≡ 6
  unfolding check_nos
  sold_out_is_six stock long own =
      let six = strip_amount counts s long 0 (sym own) refl (smallest (is_miscounted s) counts) refl sold_out_miscounted in
      rw (passed_first (stock_nos counts) (strip_nos counts s) (ap (λ (r : No). r.0) (accepted_back counts stock))) (ap (λ (r : No). r.0) (sym six))
