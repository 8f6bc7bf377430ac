-- Proofs. A list put in dictionary order: it holds the same strips, and rises.
use Prim.Native.Nat.{ℕ, zero, suc, ◌<◌, ◌≤◌, ◌+◌, suc-le-suc}
use mathlib.Core.Path.{◌≡◌, refl, sym, ap, ◌∙◌}
use mathlib.Core.Bool.{Bool, true, false, cond}
use mathlib.Core.Logic.{◌⊎◌, inl, inr}
use mathlib.Core.List.{List, [], ◌∷◌}
use native.Mathlib.Omega.{arith}
use lib.ListN.{length, get_or}
use Rattle.dictionary.specs.Dictionary.{before, insert, in_order}
use Rattle.dictionary.proofs.Order.{Before, before_true, not_before, transitive}

abbrev pub Strips : Type 0
Strips = List (List ℕ)

-- each entry has a property
abbrev pub Each : (List ℕ → Type 0) → Strips → Type 0
Each P [] = Unit {0}
Each P (s ∷ l) = P s × Each P l

pub each_map : (P Q : List ℕ → Type 0) (l : Strips) → ((s : List ℕ) → P s → Q s) → Each P l → Each Q l
each_map P Q [] f h = tt
each_map P Q (s ∷ l) f h = (f s h.0, each_map P Q l f h.1)

pub each_both : (P Q R : List ℕ → Type 0) (l : Strips) → ((s : List ℕ) → P s → Q s → R s) → Each P l → Each Q l → Each R l
each_both P Q R [] f h k = tt
each_both P Q R (s ∷ l) f h k = (f s h.0 k.0, each_both P Q R l f h.1 k.1)

pub each_of : (P : List ℕ → Type 0) (l : Strips) → ((i : ℕ) → i < length l → P (get_or l i [])) → Each P l
each_of P [] h = tt
each_of P (s ∷ l) h = (h 0 (omega arith), each_of P l (λ i k. h (suc i) (suc-le-suc k)))

pub each_at : (P : List ℕ → Type 0) (l : Strips) → Each P l → (i : ℕ) → i < length l → P (get_or l i [])
each_at P [] h i k = absurd (omega arith)
each_at P (s ∷ l) h zero k = h.0
each_at P (s ∷ l) h (suc i) k = each_at P l h.1 i (omega arith)

-- no entry twice
abbrev pub Apart : Strips → Type 0
Apart [] = Unit {0}
Apart (s ∷ l) = Each (λ t. s ≡ t → ⊥) l × Apart l

pub apart_of : (l : Strips) → ((i j : ℕ) → i < length l → j < length l → get_or l i [] ≡ get_or l j [] → i ≡ j) → Apart l
apart_of [] h = tt
apart_of (s ∷ l) h = (
  each_of (λ t. s ≡ t → ⊥) l (λ i k e. omega (arith, h 0 (suc i) (omega arith) (suc-le-suc k) e)),
  apart_of l (λ i j k m e. omega (arith, h (suc i) (suc j) (suc-le-suc k) (suc-le-suc m) e)),
)

-- each entry before every later one
abbrev pub Rises : Strips → Type 0
Rises [] = Unit {0}
Rises (s ∷ l) = Each (Before s) l × Rises l

-- ---- putting a strip in

pub length_insert : (s : List ℕ) (l : Strips) → length (insert s l) ≡ suc (length l)
unfolding insert
length_insert s [] = refl
length_insert s (t ∷ l) = go (before s t) (length_insert s l)
  where
    go : (b : Bool) → length (insert s l) ≡ suc (length l) → length (cond b (s ∷ t ∷ l) (t ∷ insert s l)) ≡ suc (suc (length l))
    go true e = refl
    go false e = ap suc e

pub each_insert : (P : List ℕ → Type 0) (s : List ℕ) (l : Strips) → P s → Each P l → Each P (insert s l)
unfolding insert
each_insert P s [] p h = (p, tt)
each_insert P s (t ∷ l) p h = go (before s t) (each_insert P s l p h.1)
  where
    go : (b : Bool) → Each P (insert s l) → Each P (cond b (s ∷ t ∷ l) (t ∷ insert s l))
    go true k = (p, h)
    go false k = (h.0, k)

pub insert_rises : (s : List ℕ) (l : Strips) → Each (λ t. length s ≡ length t) l → Each (λ t. s ≡ t → ⊥) l → Rises l → Rises (insert s l)
unfolding insert
insert_rises s [] n d h = (tt, tt)
insert_rises s (t ∷ l) n d h = go (before s t) refl (insert_rises s l n.1 d.1 h.1)
  where
    after : (s ≡ t) ⊎ Before t s → Before t s
    after (inl e) = absurd (d.0 e)
    after (inr b) = b

    go : (b : Bool) → before s t ≡ b → Rises (insert s l) → Rises (cond b (s ∷ t ∷ l) (t ∷ insert s l))
    go true e r =
        let b = before_true s t e in
        ((b, each_map (Before t) (Before s) l (λ u k. transitive s t u b k) h.0), h)
    go false e r = (each_insert (Before t) s l (after (not_before s t n.0 e)) h.0, r)

-- is an entry
abbrev pub In : List ℕ → Strips → Type 0
In s [] = ⊥
In s (t ∷ l) = (t ≡ s) ⊎ In s l

pub insert_in : (s u : List ℕ) (l : Strips) → (s ≡ u) ⊎ In u l → In u (insert s l)
unfolding insert
insert_in s u [] h = h
insert_in s u (t ∷ l) h = go (before s t) (insert_in s u l) h
  where
    go : (b : Bool) → ((s ≡ u) ⊎ In u l → In u (insert s l)) → (s ≡ u) ⊎ ((t ≡ u) ⊎ In u l) → In u (cond b (s ∷ t ∷ l) (t ∷ insert s l))
    go true f h = h
    go false f (inl e) = inr (f (inl e))
    go false f (inr (inl e)) = inl e
    go false f (inr (inr k)) = inr (f (inr k))

-- ---- the whole list

pub length_in_order : (l : Strips) → length (in_order l) ≡ length l
unfolding in_order
length_in_order [] = refl
length_in_order (s ∷ l) = length_insert s (in_order l) ∙ ap suc (length_in_order l)

pub each_in_order : (P : List ℕ → Type 0) (l : Strips) → Each P l → Each P (in_order l)
unfolding in_order
each_in_order P [] h = tt
each_in_order P (s ∷ l) h = each_insert P s (in_order l) h.0 (each_in_order P l h.1)

pub in_in_order : (u : List ℕ) (l : Strips) → In u l → In u (in_order l)
unfolding in_order
in_in_order u [] h = h
in_in_order u (s ∷ l) (inl e) = insert_in s u (in_order l) (inl e)
in_in_order u (s ∷ l) (inr h) = insert_in s u (in_order l) (inr (in_in_order u l h))

pub in_order_rises : (n : ℕ) (l : Strips) → Each (λ t. length t ≡ n) l → Apart l → Rises (in_order l)
unfolding in_order
in_order_rises n [] h a = tt
in_order_rises n (s ∷ l) h a = insert_rises s (in_order l)
    (each_in_order (λ t. length s ≡ length t) l (each_map (λ t. length t ≡ n) (λ t. length s ≡ length t) l (λ t k. h.0 ∙ sym k) h.1))
    (each_in_order (λ t. s ≡ t → ⊥) l a.0)
    (in_order_rises n l h.1 a.1)

-- an entry stands somewhere, and what stands somewhere is an entry
pub in_at : (s : List ℕ) (l : Strips) → In s l → (i : ℕ) × (i < length l) × (get_or l i [] ≡ s)
in_at s [] h = absurd h
in_at s (t ∷ l) (inl e) = (0, omega arith, e)
in_at s (t ∷ l) (inr h) =
    let w = in_at s l h in
    (suc w.0, suc-le-suc w.1, w.2)

pub at_in : (s : List ℕ) (l : Strips) (i : ℕ) → i < length l → get_or l i [] ≡ s → In s l
at_in s [] i h e = absurd (omega arith)
at_in s (t ∷ l) zero h e = inl e
at_in s (t ∷ l) (suc i) h e = inr (at_in s l i (omega arith) e)

-- in a list that rises, the earlier entry is before the later
pub rises_at : (l : Strips) → Rises l → (i j : ℕ) → i < j → j < length l → Before (get_or l i []) (get_or l j [])
rises_at [] h i j k m = absurd (omega arith)
rises_at (s ∷ l) h zero zero k m = absurd (omega arith)
rises_at (s ∷ l) h zero (suc j) k m = each_at (Before s) l h.0 j (omega arith)
rises_at (s ∷ l) h (suc i) zero k m = absurd (omega arith)
rises_at (s ∷ l) h (suc i) (suc j) k m = rises_at l h.1 i j (omega arith) (omega arith)

-- ---- a number that grows with the order, below the length, is the place

module _ (rk : List ℕ → ℕ) (P : List ℕ → Type 0) (mono : (s t : List ℕ) → P s → P t → Before s t → rk s < rk t) where
  above : (b i : ℕ) (l : Strips) → Each P l → Rises l → Each (λ t. b ≤ rk t) l → i < length l → b + i ≤ rk (get_or l i [])
  above b i [] p h k m = absurd (omega arith)
  above b zero (s ∷ l) p h k m = omega (arith, k.0)
  above b (suc i) (s ∷ l) p h k m =
      let e : b + suc i ≡ suc b + i = omega arith in
      rw e (above (suc b) i l p.1 h.1 (each_both P (Before s) (λ t. suc b ≤ rk t) l (λ t q a. omega (arith, mono s t p.0 q a, k.0)) p.1 h.0) (omega arith))

  room : (m : ℕ) (s : List ℕ) (l : Strips) → P s → Each P l → Each (Before s) l → Rises l → rk s < m → Each (λ t. rk t < m) l → rk s + suc (length l) ≤ m
  room m s [] q p h r b k = omega arith
  room m s (t ∷ l) q p h r b k = omega (arith, room m t l p.0 p.1 r.0 r.1 k.0 k.1, mono s t q p.0 h.0)

  under : (m i : ℕ) (l : Strips) → Each P l → Rises l → Each (λ t. rk t < m) l → i < length l → rk (get_or l i []) + length l ≤ m + i
  under m i [] p h k n = absurd (omega arith)
  under m zero (s ∷ l) p h k n = omega (arith, room m s l p.0 p.1 h.0 h.1 k.0 k.1)
  under m (suc i) (s ∷ l) p h k n = omega (arith, under m i l p.1 h.1 k.1 (omega arith))

  pub place_is : (l : Strips) → Each P l → Rises l → Each (λ t. rk t < length l) l → (i : ℕ) → i < length l → rk (get_or l i []) ≡ i
  place_is l p h k i m = omega (arith, under (length l) i l p h k m, above 0 i l p h (each_map P (λ t. 0 ≤ rk t) l (λ t q. omega arith) p) m)
