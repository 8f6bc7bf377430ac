-- Proofs. The places of the moves from a strip: two a move; those of moves and then of more from where they lead; and those of the way back, which are those of the way there in reverse order.
use Prim.Native.Nat.{ℕ, zero, suc, ◌+◌, ◌*◌, ◌-◌, ◌≤◌, ◌<◌}
use mathlib.Core.Path.{◌≡◌, refl, sym, ap, ◌∙◌}
use mathlib.Core.Bool.{Bool, not}
use mathlib.Core.List.{List, [], ◌∷◌, ◌++◌, append-nil, append_assoc}
use native.Mathlib.Omega.{arith}
use lib.ListN.{length, length-append}
use Rattle.rules.specs.Stock.{IsStrip}
use Rattle.rules.specs.Neighbours.{places}
use Rattle.rules.proofs.Neighbours.{places_sym}
use Rattle.walking.specs.Answers.{along, left_along}
use Rattle.walking.proofs.Along.{along_further, along_places, along_back}
use Rattle.running.specs.Answers.{moves_from}
use Rattle.running.specs.Reversed.{in_reverse}

reverse_last : (l : List ℕ) (k a b : ℕ) → length l ≡ 2 * k → in_reverse (l ++ (a ∷ b ∷ [])) ≡ a ∷ b ∷ in_reverse l
unfolding in_reverse
reverse_last [] k a b h = refl
reverse_last (x ∷ []) k a b h = absurd (omega arith)
reverse_last (x ∷ y ∷ l) zero a b h = absurd (omega arith)
reverse_last (x ∷ y ∷ l) (suc k) a b h = rw (reverse_last l k a b (omega arith))

module _ (d : Bool) (counts s : List ℕ) (h : IsStrip counts s) where
  pub moves_long : (i : ℕ) → i ≤ left_along d counts s → length (moves_from d counts s i) ≡ 2 * i
  unfolding moves_from
  moves_long zero l = refl
  moves_long (suc i) l =
      let m = along_places d counts s h i l in
      rw m.2 (length-append (moves_from d counts s i) (m.0 ∷ m.1 ∷ []) ∙ omega (arith, moves_long i (omega arith)))

  -- m moves, and then i more from where they lead
  pub moves_further : (m : ℕ) → m ≤ left_along d counts s → (i : ℕ) → moves_from d counts s m ++ moves_from d counts (along d counts s m) i ≡ moves_from d counts s (m + i)
  unfolding moves_from
  moves_further m l zero = let e : m + 0 ≡ m = omega arith in rw e (append-nil (moves_from d counts s m))
  moves_further m l (suc i) =
      let e : m + suc i ≡ suc (m + i) = omega arith in
      rw (along_further d counts s h m l i, along_further d counts s h m l (suc i), e, ← moves_further m l i)
      (sym (append_assoc (moves_from d counts s m) (moves_from d counts (along d counts s m) i) (places (along d counts s (m + i)) (along d counts s (suc (m + i))))))

  -- the moves of the way back are those of the way there, from the last to the first
  module _ (m : ℕ) (l : m ≤ left_along d counts s) where
    abbrev t : List ℕ
    t = along d counts s m

    -- the last move of the way there is the next of the way back
    one_back : (i : ℕ) → i < left_along d counts s → (j : ℕ) → along (not d) counts t j ≡ along d counts s (suc i) → along (not d) counts t (suc j) ≡ along d counts s i
        → moves_from (not d) counts t j ++ in_reverse (moves_from d counts s (suc i)) ≡ moves_from (not d) counts t (suc j) ++ in_reverse (moves_from d counts s i)
    unfolding moves_from
    one_back i k j from to =
        let p = along_places d counts s h i k in
        let q : places (along d counts s (suc i)) (along d counts s i) ≡ p.0 ∷ p.1 ∷ [] = places_sym (along d counts s (suc i)) (along d counts s i) ∙ p.2 in
        let r = reverse_last (moves_from d counts s i) i p.0 p.1 (moves_long i (omega arith)) in
        rw (from, to, p.2, q, r) (sym (append_assoc (moves_from (not d) counts t j) (p.0 ∷ p.1 ∷ []) (in_reverse (moves_from d counts s i))))

    some_back : (j : ℕ) → j ≤ m → in_reverse (moves_from d counts s m) ≡ moves_from (not d) counts t j ++ in_reverse (moves_from d counts s (m - j))
    unfolding moves_from
    some_back zero k = let e : m - 0 ≡ m = omega arith in rw e
    some_back (suc j) k =
        let e : m - j ≡ suc (m - suc j) = omega arith in
        some_back j (omega arith) ∙ ap (λ (i : ℕ). moves_from (not d) counts t j ++ in_reverse (moves_from d counts s i)) e
        ∙ one_back (m - suc j) (omega arith) j (along_back d counts s h m l j (omega arith) ∙ ap (along d counts s) e) (along_back d counts s h m l (suc j) k)

    pub moves_back : moves_from (not d) counts t m ≡ in_reverse (moves_from d counts s m)
    unfolding moves_from in_reverse
    moves_back = let e : m - m ≡ 0 = omega arith in sym (some_back m (omega arith) ∙ rw (e, append-nil (moves_from (not d) counts t m)))
