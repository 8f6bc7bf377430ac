-- Proofs. Dictionary order: what it says, and that it is an order.
use Prim.Native.Nat.{ℕ, ◌<◌}
use mathlib.Core.Path.{◌≡◌, refl, sym, ap, ◌∙◌}
use mathlib.Core.Bool.{Bool, true, false, false≢true}
use mathlib.Core.Logic.{◌⊎◌, inl, inr}
use mathlib.Core.List.{List, [], ◌∷◌, ◌++◌}
use native.Mathlib.Decide.{ℕ_discrete, dec_lt}
use native.Mathlib.Omega.{arith}
use borrow.Author.Tests.{eq-eqb, ne_eqb, lt-ltb, le-ltb}
use lib.ListN.{length}
use Rattle.dictionary.specs.Dictionary.{before}

-- s before t, as a fact
abbrev pub Before : List ℕ → List ℕ → Type 0
Before [] t = ⊥
Before (x ∷ s) [] = ⊥
Before (x ∷ s) (y ∷ t) = (x < y) ⊎ ((x ≡ y) × Before s t)

pub before_true : (s t : List ℕ) → before s t ≡ true → Before s t
unfolding before
before_true [] t h = absurd (false≢true h)
before_true (x ∷ s) [] h = absurd (false≢true h)
before_true (x ∷ s) (y ∷ t) h = elim (dec_lt x y) [
  | yes l ↦ inl l
  | no l ↦ elim (ℕ_discrete x y) [
    | yes e ↦ inr (e, before_true s t (rw (le-ltb x y (omega arith), eq-eqb x y e) at h))
    | no e ↦ absurd (false≢true (rw (le-ltb x y (omega arith), ne_eqb x y e) at h))
  ]
]

pub true_before : (s t : List ℕ) → Before s t → before s t ≡ true
unfolding before
true_before [] t h = absurd h
true_before (x ∷ s) [] h = absurd h
true_before (x ∷ s) (y ∷ t) (inl l) = rw (lt-ltb x y l)
true_before (x ∷ s) (y ∷ t) (inr p) = rw (le-ltb x y (omega (arith, p.0)), eq-eqb x y p.0) (true_before s t p.1)

pub before_not : (s t : List ℕ) → (Before s t → ⊥) → before s t ≡ false
before_not s t h = go (before s t) refl
  where
    go : (b : Bool) → before s t ≡ b → b ≡ false
    go true e = absurd (h (before_true s t e))
    go false e = refl

pub irreflexive : (s : List ℕ) → Before s s → ⊥
irreflexive [] h = h
irreflexive (x ∷ s) (inl l) = omega arith
irreflexive (x ∷ s) (inr p) = irreflexive s p.1

pub transitive : (s t u : List ℕ) → Before s t → Before t u → Before s u
transitive [] t u h k = absurd h
transitive (x ∷ s) [] u h k = absurd h
transitive (x ∷ s) (y ∷ t) [] h k = absurd k
transitive (x ∷ s) (y ∷ t) (z ∷ u) (inl l) (inl m) = inl (omega arith)
transitive (x ∷ s) (y ∷ t) (z ∷ u) (inl l) (inr q) = inl (omega (arith, q.0))
transitive (x ∷ s) (y ∷ t) (z ∷ u) (inr p) (inl m) = inl (omega (arith, p.0))
transitive (x ∷ s) (y ∷ t) (z ∷ u) (inr p) (inr q) = inr (p.0 ∙ q.0, transitive s t u p.1 q.1)

-- two strips of one length: one is before the other, or they are the same
pub data Ordered (s t : List ℕ) : Type 0 where
  less : Before s t → Ordered s t
  equal : s ≡ t → Ordered s t
  more : Before t s → Ordered s t

pub ordered : (s t : List ℕ) → length s ≡ length t → Ordered s t
ordered [] [] e = equal refl
ordered [] (y ∷ t) e = absurd (omega arith)
ordered (x ∷ s) [] e = absurd (omega arith)
ordered (x ∷ s) (y ∷ t) e = elim (dec_lt x y) [
  | yes l ↦ less (inl l)
  | no l ↦ elim (dec_lt y x) [
    | yes m ↦ more (inl m)
    | no m ↦ go (omega arith) (ordered s t (omega arith))
  ]
]
  where
    go : x ≡ y → Ordered s t → Ordered (x ∷ s) (y ∷ t)
    go f (less h) = less (inr (f, h))
    go f (equal h) = equal (cc)
    go f (more h) = more (inr (sym f, h))

-- where s is not before t of the same length, it is the same or after
pub not_before : (s t : List ℕ) → length s ≡ length t → before s t ≡ false → (s ≡ t) ⊎ Before t s
not_before s t e h = go (ordered s t e)
  where
    go : Ordered s t → (s ≡ t) ⊎ Before t s
    go (less l) = absurd (false≢true (sym h ∙ true_before s t l))
    go (equal f) = inl f
    go (more l) = inr l

-- behind a common front
pub front_before : (p s t : List ℕ) → Before s t → Before (p ++ s) (p ++ t)
front_before [] s t h = h
front_before (x ∷ p) s t h = inr (refl, front_before p s t h)

-- the first place at which two strips differ
pub record Parts (s t : List ℕ) : Type 0 where
  pub front : List ℕ
  pub lower : ℕ
  pub higher : ℕ
  pub behind_lower : List ℕ
  pub behind_higher : List ℕ
  pub order : lower < higher
  pub is_first : s ≡ front ++ lower ∷ behind_lower
  pub is_second : t ≡ front ++ higher ∷ behind_higher

pub parts : (s t : List ℕ) → Before s t → Parts s t
parts [] t h = absurd h
parts (x ∷ s) [] h = absurd h
parts (x ∷ s) (y ∷ t) (inl l) = record { front = []; lower = x; higher = y; behind_lower = s; behind_higher = t; order = l; is_first = refl; is_second = refl }
parts (x ∷ s) (y ∷ t) (inr p) =
    let q = parts s t p.1 in
    record { front = x ∷ q.front; lower = q.lower; higher = q.higher; behind_lower = q.behind_lower; behind_higher = q.behind_higher; order = q.order; is_first = ap (λ (l : List ℕ). x ∷ l) q.is_first; is_second = rw (← p.0) (ap (λ (l : List ℕ). x ∷ l) q.is_second) }

pub parts_before : (s t : List ℕ) → Parts s t → Before s t
parts_before s t q = rw (q.is_first, q.is_second) (front_before q.front (q.lower ∷ q.behind_lower) (q.higher ∷ q.behind_higher) (inl q.order))
