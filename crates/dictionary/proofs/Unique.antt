-- Theorem. There is one list that holds the strips of a stock and no others, each before every later one: the dictionary.
use Prim.Native.Nat.{ℕ, suc, ◌<◌}
use mathlib.Core.Path.{◌≡◌, refl, sym, ◌∙◌}
use mathlib.Core.Bool.{true}
use mathlib.Core.Logic.{◌⊎◌, inl, inr}
use mathlib.Core.List.{List, [], ◌∷◌}
use native.Mathlib.Omega.{arith}
use lib.ListN.{length, get_or}
use Rattle.rules.specs.Stock.{IsStrip}
use Rattle.rules.specs.Book.{place_in}
use Rattle.dictionary.specs.Dictionary.{before, dictionary}
use Rattle.dictionary.proofs.Order.{Before, before_true, irreflexive, transitive}
use Rattle.dictionary.proofs.Sorted.{Strips, Each, each_of, Rises, In, in_at, at_in}
use Rattle.dictionary.proofs.Places.{dict_rises}
use Rattle.dictionary.proofs.Theorems.{dictionary_size, dictionary_only, dictionary_undone, dictionary_below}

each_in : (P : List ℕ → Type 0) (l : Strips) (u : List ℕ) → Each P l → In u l → P u
each_in P [] u h i = absurd i
each_in P (s ∷ l) u h (inl e) = rw (← e) h.0
each_in P (s ∷ l) u h (inr i) = each_in P l u h.1 i

heads : (s t : List ℕ) (l m : Strips) → Each (Before s) l → Each (Before t) m → (t ≡ s) ⊎ In s m → (s ≡ t) ⊎ In t l → s ≡ t
heads s t l m h k (inl e) j = sym e
heads s t l m h k (inr i) (inl e) = e
heads s t l m h k (inr i) (inr j) = absurd (irreflexive s (transitive s t s (each_in (Before s) l t h j) (each_in (Before t) m s k i)))

tails : (s t u : List ℕ) (l m : Strips) → s ≡ t → Each (Before s) l → In u l → (t ≡ u) ⊎ In u m → In u m
tails s t u l m e h i (inl f) = absurd (irreflexive s (rw (sym f ∙ sym e) at (each_in (Before s) l u h i)))
tails s t u l m e h i (inr j) = j

rising_one : (l m : Strips) → Rises l → Rises m → ((u : List ℕ) → In u l → In u m) → ((u : List ℕ) → In u m → In u l) → l ≡ m
rising_one [] [] a b f g = refl
rising_one [] (t ∷ m) a b f g = absurd (g t (inl refl))
rising_one (s ∷ l) [] a b f g = absurd (f s (inl refl))
rising_one (s ∷ l) (t ∷ m) a b f g =
    let e = heads s t l m a.0 b.0 (f s (inl refl)) (g t (inl refl)) in
    let r = rising_one l m a.1 b.1 (λ u i. tails s t u l m e a.0 i (f u (inr i))) (λ u i. tails t s u m l (sym e) b.0 i (g u (inr i))) in
    cc

rises_of : (l : Strips) → ((i j : ℕ) → i < j → j < length l → before (get_or l i []) (get_or l j []) ≡ true) → Rises l
rises_of [] h = tt
rises_of (s ∷ l) h = (
  each_of (Before s) l (λ i k. before_true s (get_or l i []) (h 0 (suc i) (omega arith) (omega arith))),
  rises_of l (λ i j k m. h (suc i) (suc j) (omega arith) (omega arith)),
)

module _ (counts : List ℕ) (l : Strips)
    (strips : (i : ℕ) → i < length l → IsStrip counts (get_or l i []))
    (all : (s : List ℕ) → IsStrip counts s → (i : ℕ) × (i < length l) × (get_or l i [] ≡ s))
    (order : (i j : ℕ) → i < j → j < length l → before (get_or l i []) (get_or l j []) ≡ true) where
  pub dictionary_unique : l ≡ dictionary counts
  dictionary_unique = rising_one l (dictionary counts) (rises_of l order) (dict_rises counts)
      (λ u i. let w = in_at u l i in
      let own : IsStrip counts u = rw w.2 at (strips w.0 w.1) in
      at_in u (dictionary counts) (place_in (dictionary counts) u) (omega (arith, dictionary_below counts u own, dictionary_size counts)) (dictionary_undone counts u own))
      (λ u i. let w = in_at u (dictionary counts) i in
      let own : IsStrip counts u = rw w.2 at (dictionary_only counts w.0 (omega (arith, w.1, dictionary_size counts))) in
      let v = all u own in
      at_in u l v.0 v.1 v.2)
