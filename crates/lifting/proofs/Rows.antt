-- Proofs. A list in which each strip stands n times in a row: it is the same rule for a list that is turned round, and the strip at place i is the one at i / n.
use Prim.Native.Nat.{ℕ, ◌+◌, ◌*◌, ◌/◌, ◌<◌}
use mathlib.Core.Path.{◌≡◌, refl, sym, ◌∙◌}
use mathlib.Core.Bool.{Bool, true, false, not}
use mathlib.Core.List.{List, [], ◌∷◌, ◌++◌, map, reverse, reverse-cons, reverse-append, append_assoc, append-nil}
use lib.Arith.{digits_div}
use lib.ListN.{length, get_or, replicate, length-replicate, get_or-replicate}
use Rattle.rules.specs.Book.{turn, snake, odd}
use Rattle.rules.proofs.Listed.{reverse_replicate, turn_replicate}
use Rattle.rules.proofs.Snake.{snake_at, divided}
use Rattle.lifting.specs.Lifting.{each_in_a_row}

module _ (n : ℕ) where
  row_append : (l k : List (List ℕ)) → each_in_a_row n (l ++ k) ≡ each_in_a_row n l ++ each_in_a_row n k
  unfolding each_in_a_row
  row_append [] k = refl
  row_append (s ∷ l) k = rw (row_append l k) (sym (append_assoc (replicate n s) (each_in_a_row n l) (each_in_a_row n k)))

  row_reverse : (l : List (List ℕ)) → reverse (each_in_a_row n l) ≡ each_in_a_row n (reverse l)
  unfolding each_in_a_row
  row_reverse [] = refl
  row_reverse (s ∷ l) = rw (reverse-append (replicate n s) (each_in_a_row n l), reverse-cons s l, row_append (reverse l) (s ∷ []), reverse_replicate n s, row_reverse l, append-nil (replicate n s))

  pub row_turn : (b : Bool) (l : List (List ℕ)) → turn b (each_in_a_row n l) ≡ each_in_a_row n (turn b l)
  unfolding turn
  row_turn false l = refl
  row_turn true l = row_reverse l

  -- lists of one strip n times, one after the other: there is nothing to turn
  pub row_snake : (b : Bool) (l : List (List ℕ)) → snake b (map (replicate n) l) ≡ each_in_a_row n l
  unfolding snake each_in_a_row
  row_snake b [] = refl
  row_snake b (s ∷ l) = rw (turn_replicate b n s, row_snake (not b) l)

  pub row_at : (l : List (List ℕ)) (i : ℕ) → i < length l * n → get_or (each_in_a_row n l) i [] ≡ get_or l (i / n) []
  row_at l i h = go (divided (length l) n i h)
    where
      go : ((q : ℕ) × (t : ℕ) × (q < length l) × (t < n) × (i ≡ q * n + t)) → get_or (each_in_a_row n l) i [] ≡ get_or l (i / n) []
      go (q, t, a, b, e) =
          rw (e, digits_div q b, ← row_snake false l)
          (snake_at [] [] (replicate n) n false l (λ k c. length-replicate n (get_or l k [])) q t a b ∙ rw (turn_replicate (odd q) n (get_or l q [])) (get_or-replicate n t (get_or l q []) [] b))
