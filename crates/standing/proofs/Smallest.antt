-- Proofs. The smallest of a list in dictionary order.
use Prim.Native.Nat.{ℕ, zero, suc, ◌<◌}
use mathlib.Core.Path.{◌≡◌, refl, sym, ap, ◌∙◌}
use mathlib.Core.Bool.{Bool, true, false, cond, false≢true}
use mathlib.Core.Logic.{◌⊎◌, inl, inr}
use mathlib.Core.List.{List, [], ◌∷◌}
use native.Mathlib.Omega.{arith}
use lib.ListN.{length, get_or}
use Rattle.rules.specs.Book.{same, ahead, place_in}
use Rattle.rules.proofs.Places.{same_self, same_true}
use Rattle.dictionary.specs.Dictionary.{before}
use Rattle.dictionary.proofs.Order.{Before, before_true, not_before, irreflexive, transitive}
use Rattle.dictionary.proofs.Sorted.{Strips, In, Each}
use Rattle.standing.specs.Standing.{smallest_of}

-- it is s or one of them
smallest_in : (s : List ℕ) (l : Strips) → (s ≡ smallest_of s l) ⊎ In (smallest_of s l) l
unfolding smallest_of
smallest_in s [] = inl refl
smallest_in s (t ∷ l) = go (before t s) (smallest_in t l) (smallest_in s l)
  where
    go : (b : Bool) → (t ≡ smallest_of t l) ⊎ In (smallest_of t l) l → (s ≡ smallest_of s l) ⊎ In (smallest_of s l) l
        → (s ≡ smallest_of (cond b t s) l) ⊎ In (smallest_of (cond b t s) l) (t ∷ l)
    go true (inl e) k = inr (inl e)
    go true (inr i) k = inr (inr i)
    go false h (inl e) = inl e
    go false h (inr i) = inr (inr i)

-- none of them comes before it
smallest_least : (n : ℕ) (s : List ℕ) (l : Strips) → length s ≡ n → Each (λ t. length t ≡ n) l → (u : List ℕ) → (s ≡ u) ⊎ In u l → Before u (smallest_of s l) → ⊥
unfolding smallest_of
smallest_least n s [] e h u (inl f) b = irreflexive s (rw (← f) at b)
smallest_least n s [] e h u (inr i) b = i
smallest_least n s (t ∷ l) e h u i b = go (before t s) refl i b (smallest_least n t l h.0 h.1) (smallest_least n s l e h.1)
  where
    after : before t s ≡ false → (r : List ℕ) → Before t r → Before s r
    after f r k = cases (not_before t s (h.0 ∙ sym e) f)
      where
        cases : (t ≡ s) ⊎ Before s t → Before s r
        cases (inl g) = rw g at k
        cases (inr g) = transitive s t r g k

    go : (c : Bool) → before t s ≡ c → (s ≡ u) ⊎ ((t ≡ u) ⊎ In u l) → Before u (smallest_of (cond c t s) l)
        → ((u : List ℕ) → (t ≡ u) ⊎ In u l → Before u (smallest_of t l) → ⊥) → ((u : List ℕ) → (s ≡ u) ⊎ In u l → Before u (smallest_of s l) → ⊥) → ⊥
    go true f (inl g) k p q = p t (inl refl) (transitive t s (smallest_of t l) (before_true t s f) (rw (← g) at k))
    go true f (inr g) k p q = p u g k
    go false f (inl g) k p q = q u (inl g) k
    go false f (inr (inl g)) k p q = q s (inl refl) (after f (smallest_of s l) (rw (← g) at k))
    go false f (inr (inr g)) k p q = q u (inr g) k

-- ---- where s is one of them, and all are as long

each_of_in : (P : List ℕ → Type 0) (l : Strips) → ((u : List ℕ) → In u l → P u) → Each P l
each_of_in P [] h = tt
each_of_in P (s ∷ l) h = (h s (inl refl), each_of_in P l (λ u i. h u (inr i)))

module _ (s : List ℕ) (l : Strips) (own : In s l) (one : (u : List ℕ) → In u l → length u ≡ length s) where
  pub smallest_one : In (smallest_of s l) l
  smallest_one = go (smallest_in s l)
    where
      go : (s ≡ smallest_of s l) ⊎ In (smallest_of s l) l → In (smallest_of s l) l
      go (inl e) = rw (← e) own
      go (inr i) = i

  pub none_smaller : (u : List ℕ) → In u l → Before u (smallest_of s l) → ⊥
  none_smaller u i = smallest_least (length s) s l refl (each_of_in (λ t. length t ≡ length s) l one) u (inr i)

-- the place of an entry: it stands there, and nowhere before
pub place_in_lem : (l : Strips) (s : List ℕ) → In s l → (place_in l s < length l) × (get_or l (place_in l s) [] ≡ s) × ((i : ℕ) → i < place_in l s → get_or l i [] ≡ s → ⊥)
unfolding place_in
place_in_lem [] s h = absurd h
place_in_lem (t ∷ l) s h = go (same t s) refl h (place_in_lem l s)
  where
    first : In s (t ∷ l) → (t ≡ s → ⊥) → In s l
    first (inl e) d = absurd (d e)
    first (inr i) d = i

    go : (b : Bool) → same t s ≡ b → In s (t ∷ l) → (In s l → (place_in l s < length l) × (get_or l (place_in l s) [] ≡ s) × ((i : ℕ) → i < place_in l s → get_or l i [] ≡ s → ⊥))
        → (ahead b (place_in l s) < suc (length l)) × (get_or (t ∷ l) (ahead b (place_in l s)) [] ≡ s) × ((i : ℕ) → i < ahead b (place_in l s) → get_or (t ∷ l) i [] ≡ s → ⊥)
    go true e i rest = (omega arith, same_true t s e, λ i k. absurd (omega arith))
    go false e i rest =
        let differ : t ≡ s → ⊥ = λ f. false≢true (sym e ∙ ap (same t) (sym f) ∙ same_self t) in
        let w = rest (first i differ) in
        (omega (arith, w.0), w.1, earlier differ w.2)
      where
        earlier : (t ≡ s → ⊥) → ((i : ℕ) → i < place_in l s → get_or l i [] ≡ s → ⊥) → (i : ℕ) → i < suc (place_in l s) → get_or (t ∷ l) i [] ≡ s → ⊥
        earlier d r zero k f = d f
        earlier d r (suc i) k f = r i (omega arith) f
