-- Theorems. What the dictionary of a stock is: its strips, each once, in order; and the entry after a strip.
use Prim.Native.Nat.{ℕ, suc, ◌<◌}
use mathlib.Core.Path.{◌≡◌, refl, ◌∙◌}
use mathlib.Core.Bool.{true}
use mathlib.Core.List.{List, []}
use native.Mathlib.Decide.{dec_lt}
use native.Mathlib.Omega.{arith}
use lib.ListN.{length, get_or}
use Rattle.rules.specs.Stock.{total, IsStrip}
use Rattle.rules.specs.Book.{place_in}
use Rattle.rules.proofs.Listed.{once}
use Rattle.rules.proofs.Places.{place_of}
use Rattle.dictionary.specs.Dictionary.{before, dictionary}
use Rattle.dictionary.proofs.Order.{Before, true_before, before_true}
use Rattle.dictionary.proofs.Sorted.{rises_at}
use Rattle.dictionary.proofs.Places.{dict_rank, dict_mono, dict_rises, listed}

module _ (counts : List ℕ) where
  -- as many strips as T says
  pub dictionary_size : length (dictionary counts) ≡ total counts
  dictionary_size = (listed counts).size

  -- each of them a strip of the stock, and so of the book
  pub dictionary_only : (i : ℕ) → i < total counts → IsStrip counts (get_or (dictionary counts) i [])
  dictionary_only = (listed counts).sound

  -- no strip twice
  pub dictionary_once : (i j : ℕ) → i < total counts → j < total counts → get_or (dictionary counts) i [] ≡ get_or (dictionary counts) j [] → i ≡ j
  dictionary_once = once (listed counts)

  -- each entry comes before every later one
  pub dictionary_order : (i j : ℕ) → i < j → j < total counts → before (get_or (dictionary counts) i []) (get_or (dictionary counts) j []) ≡ true
  dictionary_order i j l m = true_before (get_or (dictionary counts) i []) (get_or (dictionary counts) j []) (rises_at (dictionary counts) (dict_rises counts) i j l (omega (arith, dictionary_size)))

  -- the number of the strip at i is i
  pub dictionary_place : (i : ℕ) → i < total counts → place_in (dictionary counts) (get_or (dictionary counts) i []) ≡ i
  dictionary_place i l = place_of (listed counts) (get_or (dictionary counts) i []) ((listed counts).sound i l) ∙ (listed counts).place i l

  module _ (s : List ℕ) (h : IsStrip counts s) where
    -- the number, block by block, is the place
    pub place_rank : place_in (dictionary counts) s ≡ dict_rank counts s
    place_rank = place_of (listed counts) s h

    -- each strip of the stock stands at its number
    pub dictionary_undone : get_or (dictionary counts) (place_in (dictionary counts) s) [] ≡ s
    dictionary_undone = rw place_rank ((listed counts).find s h)

    pub dictionary_below : place_in (dictionary counts) s < total counts
    dictionary_below = rw place_rank ((listed counts).below s h)

  -- the smaller number has the strip that comes before, and back
  pub before_smaller : (s t : List ℕ) → IsStrip counts s → IsStrip counts t → before s t ≡ true → place_in (dictionary counts) s < place_in (dictionary counts) t
  before_smaller s t h l b = rw (place_rank s h, place_rank t l) (dict_mono counts s t h l (before_true s t b))

  pub smaller_before : (s t : List ℕ) → IsStrip counts s → IsStrip counts t → place_in (dictionary counts) s < place_in (dictionary counts) t → before s t ≡ true
  smaller_before s t h l b = rw (dictionary_undone s h, dictionary_undone t l) at (dictionary_order (place_in (dictionary counts) s) (place_in (dictionary counts) t) b (dictionary_below t l))

  -- a strip that comes after s, with none of the stock between, is the entry after s
  pub entry_after : (s t : List ℕ) → IsStrip counts s → IsStrip counts t → Before s t → ((u : List ℕ) → IsStrip counts u → Before s u → Before u t → ⊥)
      → (suc (place_in (dictionary counts) s) < total counts) × (get_or (dictionary counts) (suc (place_in (dictionary counts) s)) [] ≡ t)
  entry_after s t h l b none =
      let i = place_in (dictionary counts) s in
      let j = place_in (dictionary counts) t in
      let less : i < j = before_smaller s t h l (true_before s t b) in
      let under : j < total counts = dictionary_below t l in
      (omega arith, go i j refl refl less under (dec_lt (suc i) j))
    where
      go : (i j : ℕ) → place_in (dictionary counts) s ≡ i → place_in (dictionary counts) t ≡ j → i < j → j < total counts → Dec (suc i < j) → get_or (dictionary counts) (suc i) [] ≡ t
      go i j ei ej less under (yes m) =
          let u = get_or (dictionary counts) (suc i) [] in
          let own : IsStrip counts u = dictionary_only (suc i) (omega arith) in
          let pu : place_in (dictionary counts) u ≡ suc i = dictionary_place (suc i) (omega arith) in
          absurd (none u own (before_true s u (smaller_before s u h own (omega arith))) (before_true u t (smaller_before u t own l (omega arith))))
      go i j ei ej less under (no m) =
          let e : suc i ≡ j = omega arith in
          rw (e, ← ej) (dictionary_undone t l)

  -- a strip that comes before none of the stock is the last entry
  pub entry_last : (s : List ℕ) → IsStrip counts s → ((u : List ℕ) → IsStrip counts u → Before s u → ⊥) → suc (place_in (dictionary counts) s) ≡ total counts
  entry_last s h none = go (place_in (dictionary counts) s) refl (dictionary_below s h) (dec_lt (suc (place_in (dictionary counts) s)) (total counts))
    where
      go : (i : ℕ) → place_in (dictionary counts) s ≡ i → i < total counts → Dec (suc i < total counts) → suc i ≡ total counts
      go i e l (yes m) =
          let u = get_or (dictionary counts) (suc i) [] in
          let own : IsStrip counts u = dictionary_only (suc i) m in
          let pu : place_in (dictionary counts) u ≡ suc i = dictionary_place (suc i) m in
          absurd (none u own (before_true s u (smaller_before s u h own (omega arith))))
      go i e l (no m) = omega arith
