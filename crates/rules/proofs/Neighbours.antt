-- Proofs. Neighbours in the book differ by one exchange of two blocks, at two places; and the first strip of the book, and the last.
use Prim.Native.Nat.{ℕ, zero, suc, ◌+◌, ◌-◌, ◌≤◌, ◌<◌}
use mathlib.Core.Path.{◌≡◌, refl, sym, ap, ◌∙◌}
use mathlib.Core.Bool.{false}
use mathlib.Core.Logic.{inl, inr, ◌≢◌}
use mathlib.Core.List.{List, [], ◌∷◌, ◌++◌, reverse, reverse-reverse}
use native.Mathlib.Decide.{ℕ_discrete}
use native.Mathlib.Nat.{zero-add}
use native.Mathlib.Omega.{arith}
use borrow.Author.Tests.{eq-eqb, ne_eqb}
use lib.ListN.{length, get_or, take, replicate, length-replicate}
use lib.Seq.{take_all}
use Rattle.rules.specs.Stock.{total}
use Rattle.rules.specs.Book.{odd, book}
use Rattle.rules.specs.Neighbours.{Passes, Neighbours, differ_from, places}
use Rattle.rules.proofs.Last.{reverse_take}
use Rattle.rules.proofs.Turned.{total_turned, book_turned, turned_length}
use Rattle.rules.proofs.Exchange.{Hop}
use Rattle.rules.proofs.Books.{number', listed_book}
use Rattle.rules.proofs.Walk.{Swapped, Leads}
use Rattle.rules.proofs.Strips.{number, move_of, listed, leads}
use Rattle.rules.proofs.Numbers.{first', last', first_is, last_is, first_runs, runs, put}

-- ---- the places at which two strips differ

differ_same : (k : ℕ) (l : List ℕ) → differ_from k l l ≡ []
unfolding differ_from
differ_same k [] = refl
differ_same k (x ∷ l) = rw (eq-eqb x x refl) (differ_same (suc k) l)

differ_after : (k : ℕ) (u s t : List ℕ) → differ_from k (u ++ s) (u ++ t) ≡ differ_from (length u + k) s t
unfolding differ_from
differ_after k [] s t = rw (zero-add k)
differ_after k (x ∷ u) s t =
    let e : suc (length u) + k ≡ length u + suc k = omega arith in
    rw (eq-eqb x x refl, e) (differ_after (suc k) u s t)

-- they are the same from either
differ_sym : (k : ℕ) (s t : List ℕ) → differ_from k s t ≡ differ_from k t s
unfolding differ_from
differ_sym k [] [] = refl
differ_sym k [] (y ∷ t) = refl
differ_sym k (x ∷ s) [] = refl
differ_sym k (x ∷ s) (y ∷ t) = elim (ℕ_discrete x y) [
  | yes e ↦ rw (eq-eqb x y e, eq-eqb y x (sym e)) (differ_sym (suc k) s t)
  | no e ↦ rw (ne_eqb x y e, ne_eqb y x (λ f. e (sym f))) (ap (λ (l : List ℕ). k ∷ l) (differ_sym (suc k) s t))
]

-- from no strip at none
pub no_places : (p : ℕ) (s : List ℕ) → differ_from p s [] ≡ []
unfolding differ_from
no_places p [] = refl
no_places p (x ∷ s) = refl

pub places_sym : (s t : List ℕ) → places s t ≡ places t s
places_sym s t = differ_sym 1 s t

module _ (k p q x y : ℕ) (s t : List ℕ) where
  differ_hop : x ≢ y → Hop x y p q s t → differ_from k s t ≡ (p + k) ∷ (q + k) ∷ []
  unfolding differ_from
  differ_hop n h =
      let m = replicate h.gap y in
      let e : length m + suc (p + k) ≡ q + k = omega (arith, length-replicate h.gap y, h.over) in
      rw (h.is_from, h.is_to)
      (differ_after k h.front _ _ ∙ rw (h.at, ne_eqb x y n, differ_after (suc (p + k)) m (y ∷ h.back) (x ∷ h.back), e, ne_eqb y x (λ f. n (sym f)), differ_same (suc (q + k)) h.back))

-- an exchange of the blocks at p and q, from 0, shows at the places p + 1 and q + 1 and at no other
pub swapped_places : (j p q : ℕ) (s t : List ℕ) → Swapped j p q s t → places s t ≡ (p + 1) ∷ (q + 1) ∷ []
swapped_places j p q s t (x, l, inl h) = differ_hop 1 p q x j s t (omega arith) h
swapped_places j p q s t (x, l, inr h) = places_sym s t ∙ differ_hop 1 p q x j t s (omega arith) h

-- ---- neighbours

passes : {x y p q : ℕ} {s t : List ℕ} → x < y → Hop x y p q s t → Passes s t
passes {x} {y} l h = record { front = h.front; lower = x; higher = y; between = h.gap; back = h.back; order = l; is_from = h.is_from; is_to = h.is_to }

pub swapped_neighbours : (j p q : ℕ) (s t : List ℕ) → Swapped j p q s t → Neighbours s t
swapped_neighbours j p q s t (x, l, inl h) = inl (passes l h)
swapped_neighbours j p q s t (x, l, inr h) = inr (passes l h)

module _ (counts : List ℕ) (i : ℕ) (h : suc i < total counts) where
  -- the move on from the strip at i
  pub step : Leads (reverse counts) (get_or (book counts) i []) (get_or (book counts) (suc i) []) (move_of false counts (get_or (book counts) i []))
  step =
      let l = listed counts in
      let at : number counts (get_or (book counts) i []) ≡ i = l.place i (omega arith) in
      leads counts (get_or (book counts) i []) (l.sound i (omega arith)) false (suc i) h (ap suc at)

  -- two neighbours in the book differ by exchanging one block with one of a higher kind, with only blocks of that higher kind between them
  pub book_neighbours : Neighbours (get_or (book counts) i []) (get_or (book counts) (suc i) [])
  book_neighbours = swapped_neighbours step.kind step.move.p step.move.q _ _ step.swapped

-- ---- the first strip and the last

-- the last strip of kinds 1 to j: kind j in front where the book of the kinds before has an odd number of strips, and behind where it has an even number
unfoldable pub last_to : List ℕ → ℕ → List ℕ
last_to counts zero = []
last_to counts (suc j) = put (odd (total (take j counts))) (replicate (get_or counts j 0) (suc j)) (last_to counts j)

module _ (counts : List ℕ) where
  -- kind after kind
  pub first_strip : get_or (book counts) 0 [] ≡ runs 1 counts
  first_strip =
      let f = first_is (reverse counts) in
      rw (book_turned counts) (rw (f.1, first_runs (reverse counts), reverse-reverse counts) at ((listed_book (reverse counts)).find (first' (reverse counts)) f.0))

  last_to_lem : (j : ℕ) → j ≤ length counts → last' (reverse (take j counts)) ≡ last_to counts j
  unfolding last' last_to
  last_to_lem zero h = refl
  last_to_lem (suc j) h = rw (reverse_take counts j 0 h, turned_length counts j (omega arith), total_turned (take j counts), last_to_lem j (omega arith))

  pub last_strip : get_or (book counts) (total counts - 1) [] ≡ last_to counts (length counts)
  last_strip =
      let f = last_is (reverse counts) in
      let e : total counts - 1 ≡ number' (reverse counts) (last' (reverse counts)) = omega (arith, f.1, total_turned counts) in
      let l : last' (reverse counts) ≡ last_to counts (length counts) = rw (take_all (length counts) counts (omega arith)) at (last_to_lem (length counts) (omega arith)) in
      rw (e, book_turned counts) ((listed_book (reverse counts)).find (last' (reverse counts)) f.0 ∙ l)
