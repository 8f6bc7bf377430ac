-- Proofs. The strip after a strip: what stands before the longest tail that falls is raised by as little as can be, and the tail put in rising order.
use Prim.Native.Nat.{ℕ, suc, ◌≤◌, ◌<◌}
use mathlib.Core.Path.{◌≡◌, refl, sym, ◌∙◌}
use mathlib.Core.Logic.{inl, inr}
use mathlib.Core.List.{List, [], ◌∷◌, ◌++◌, reverse, reverse-cons}
use native.Mathlib.Omega.{arith}
use lib.ListN.{length, get_or}
use Rattle.rules.specs.Stock.{count, total, IsStrip}
use Rattle.rules.specs.Book.{place_in}
use Rattle.dictionary.specs.Dictionary.{dictionary}
use Rattle.dictionary.proofs.Order.{Before, front_before}
use Rattle.dictionary.proofs.Amounts.{Kinds, kinds_append, append_kinds, kinds_reverse, Same, count_hit, count_miss, count_append, count_cons, count_reverse}
use Rattle.dictionary.proofs.Places.{same_tail, same_strip, strips_same, strip_kinds}
use Rattle.dictionary.proofs.Theorems.{entry_after, entry_last}

-- every block at most x, at least x
abbrev pub AtMost : ℕ → List ℕ → Type 0
AtMost x [] = Unit {0}
AtMost x (y ∷ s) = (y ≤ x) × AtMost x s

abbrev pub AtLeast : ℕ → List ℕ → Type 0
AtLeast x [] = Unit {0}
AtLeast x (y ∷ s) = (x ≤ y) × AtLeast x s

-- no block higher than one before it; no block lower than one before it
abbrev pub Falls : List ℕ → Type 0
Falls [] = Unit {0}
Falls (x ∷ s) = AtMost x s × Falls s

abbrev pub Climbs : List ℕ → Type 0
Climbs [] = Unit {0}
Climbs (x ∷ s) = AtLeast x s × Climbs s

pub at_most_none : (x y : ℕ) (s : List ℕ) → AtMost x s → x < y → count y s ≡ 0
unfolding count
at_most_none x y [] h l = refl
at_most_none x y (z ∷ s) h l = count_miss y z s (λ e. omega (arith, h.0)) ∙ at_most_none x y s h.1 l

pub at_least_none : (x y : ℕ) (s : List ℕ) → AtLeast x s → y < x → count y s ≡ 0
unfolding count
at_least_none x y [] h l = refl
at_least_none x y (z ∷ s) h l = count_miss y z s (λ e. omega (arith, h.0)) ∙ at_least_none x y s h.1 l

-- ---- a strip that falls is the last of its blocks, one that climbs the first

pub falls_last : (d u : List ℕ) → Falls d → Same d u → Before d u → ⊥
falls_last [] u f m b = b
falls_last (x ∷ d) [] f m b = b
falls_last (x ∷ d) (y ∷ u) f m (inl l) = omega (arith, m y, count_hit y u, count_miss y x d (λ e. omega arith), at_most_none x y d f.0 l)
falls_last (x ∷ d) (y ∷ u) f m (inr p) = falls_last d u f.1 (same_tail x d u (rw (← p.0) at m)) p.1

pub climbs_first : (d u : List ℕ) → Climbs d → Same d u → Before u d → ⊥
climbs_first [] [] c m b = b
climbs_first [] (y ∷ u) c m b = b
climbs_first (x ∷ d) [] c m b = b
climbs_first (x ∷ d) (y ∷ u) c m (inl l) = omega (arith, m y, count_hit y u, count_miss y x d (λ e. omega arith), at_least_none x y d c.0 l)
climbs_first (x ∷ d) (y ∷ u) c m (inr p) = climbs_first d u c.1 (same_tail x d u (rw p.0 at m)) p.1

-- ---- turned round

at_most_snoc : (x y : ℕ) (s : List ℕ) → AtMost x s → y ≤ x → AtMost x (s ++ (y ∷ []))
at_most_snoc x y [] h l = (l, tt)
at_most_snoc x y (z ∷ s) h l = (h.0, at_most_snoc x y s h.1 l)

at_most_reverse : (x : ℕ) (s : List ℕ) → AtMost x s → AtMost x (reverse s)
at_most_reverse x [] h = tt
at_most_reverse x (y ∷ s) h = rw (reverse-cons y s) (at_most_snoc x y (reverse s) (at_most_reverse x s h.1) h.0)

at_least_snoc : (x y : ℕ) (s : List ℕ) → AtLeast x s → x ≤ y → AtLeast x (s ++ (y ∷ []))
at_least_snoc x y [] h l = (l, tt)
at_least_snoc x y (z ∷ s) h l = (h.0, at_least_snoc x y s h.1 l)

climbs_snoc : (x : ℕ) (s : List ℕ) → Climbs s → AtMost x s → Climbs (s ++ (x ∷ []))
climbs_snoc x [] c h = (tt, tt)
climbs_snoc x (y ∷ s) c h = (at_least_snoc y x s c.0 h.0, climbs_snoc x s c.1 h.1)

pub falls_reverse : (s : List ℕ) → Falls s → Climbs (reverse s)
falls_reverse [] f = tt
falls_reverse (x ∷ s) f = rw (reverse-cons x s) (climbs_snoc x (reverse s) (falls_reverse s f.1) (at_most_reverse x s f.0))

-- ---- the strip after

-- what stands at x and at y, in front of the parts a, b and the tail
module _ (x y : ℕ) (a b : List ℕ) (f : Falls (a ++ y ∷ b)) (l : x < y) (low : AtMost x b) where
  at_most_swap : (z : ℕ) (a : List ℕ) → AtMost z (a ++ y ∷ b) → AtMost z (a ++ x ∷ b)
  at_most_swap z [] h = (omega (arith, h.0), h.1)
  at_most_swap z (w ∷ a) h = (h.0, at_most_swap z a h.1)

  falls_swap : (a : List ℕ) → Falls (a ++ y ∷ b) → Falls (a ++ x ∷ b)
  falls_swap [] f = (low, f.1)
  falls_swap (z ∷ a) f = (at_most_swap z a f.0, falls_swap a f.1)

  at_most_in : (z : ℕ) (a : List ℕ) → AtMost z (a ++ y ∷ b) → y ≤ z
  at_most_in z [] h = h.0
  at_most_in z (w ∷ a) h = at_most_in z a h.1

  higher : (a : List ℕ) → Falls (a ++ y ∷ b) → AtLeast y a
  higher [] f = tt
  higher (z ∷ a) f = (at_most_in z a f.0, higher a f.1)

  abbrev new : List ℕ
  new = y ∷ reverse (a ++ x ∷ b)

  swap_same : Same (x ∷ (a ++ y ∷ b)) new
  swap_same j =
      omega (
        arith,
        count_cons j x (a ++ y ∷ b),
        count_append j a (y ∷ b),
        count_cons j y b,
        count_cons j y (reverse (a ++ x ∷ b)),
        count_reverse j (a ++ x ∷ b),
        count_append j a (x ∷ b),
        count_cons j x b,
      )

  -- nothing of those blocks stands between
  none_between : (u : List ℕ) → Same (x ∷ (a ++ y ∷ b)) u → Before (x ∷ (a ++ y ∷ b)) u → Before u new → ⊥
  none_between [] m h k = h
  none_between (w ∷ u) m (inr p) k = falls_last (a ++ y ∷ b) u f (same_tail x (a ++ y ∷ b) u (rw (← p.0) at m)) p.1
  none_between (w ∷ u) m (inl h) (inl k) =
      omega (
        arith,
        m w,
        count_hit w u,
        count_miss w x (a ++ y ∷ b) (λ e. omega arith),
        count_append w a (y ∷ b),
        count_miss w y b (λ e. omega arith),
        at_least_none y w a (higher a f) k,
        at_most_none x w b low h,
      )
  none_between (w ∷ u) m (inl h) (inr p) =
      let s : Same new (w ∷ u) = λ j. sym (swap_same j) ∙ m j in
      climbs_first (reverse (a ++ x ∷ b)) u (falls_reverse (a ++ x ∷ b) (falls_swap a f)) (same_tail y (reverse (a ++ x ∷ b)) u (rw p.0 at s)) p.1

-- behind a common front p
front_none : (p s t : List ℕ) → ((u : List ℕ) → Same s u → Before s u → Before u t → ⊥) → (u : List ℕ) → Same (p ++ s) u → Before (p ++ s) u → Before u (p ++ t) → ⊥
front_none [] s t n u m h k = n u m h k
front_none (z ∷ p) s t n [] m h k = h
front_none (z ∷ p) s t n (w ∷ u) m (inl h) (inl k) = omega arith
front_none (z ∷ p) s t n (w ∷ u) m (inl h) (inr k) = omega (arith, k.0)
front_none (z ∷ p) s t n (w ∷ u) m (inr h) (inl k) = omega (arith, h.0)
front_none (z ∷ p) s t n (w ∷ u) m (inr h) (inr k) = front_none p s t n u (same_tail z (p ++ s) u (rw (← h.0) at m)) h.1 k.1

pub front_same : (p s t : List ℕ) → Same s t → Same (p ++ s) (p ++ t)
front_same p s t m j = omega (arith, count_append j p s, count_append j p t, m j)

-- a strip taken apart for the step to the one after it
pub record Step (s : List ℕ) : Type 0 where
  pub front : List ℕ
  pub x : ℕ
  pub a : List ℕ
  pub y : ℕ
  pub b : List ℕ
  pub is : s ≡ front ++ x ∷ (a ++ y ∷ b)
  pub falls : Falls (a ++ y ∷ b)
  pub less : x < y
  pub low : AtMost x b

abbrev pub stepped : {s : List ℕ} → Step s → List ℕ
stepped c = c.front ++ c.y ∷ reverse (c.a ++ c.x ∷ c.b)

module _ (counts s : List ℕ) (h : IsStrip counts s) where
  -- the step leads to the entry after
  pub step_after : (c : Step s) → (suc (place_in (dictionary counts) s) < total counts) × (get_or (dictionary counts) (suc (place_in (dictionary counts) s)) [] ≡ stepped c)
  step_after c = go c.front c.x c.a c.y c.b c.is c.falls c.less c.low
    where
      go : (p : List ℕ) (x : ℕ) (a : List ℕ) (y : ℕ) (b : List ℕ) → s ≡ p ++ x ∷ (a ++ y ∷ b) → Falls (a ++ y ∷ b) → x < y → AtMost x b
          → (suc (place_in (dictionary counts) s) < total counts) × (get_or (dictionary counts) (suc (place_in (dictionary counts) s)) [] ≡ p ++ y ∷ reverse (a ++ x ∷ b))
      go p x a y b e f l low =
          let t = p ++ y ∷ reverse (a ++ x ∷ b) in
          let m : Same s t = rw e (front_same p (x ∷ (a ++ y ∷ b)) (y ∷ reverse (a ++ x ∷ b)) (swap_same x y a b f l low)) in
          let k : Kinds (length counts) (p ++ x ∷ (a ++ y ∷ b)) = rw (← e) (strip_kinds counts s h) in
          let q = kinds_append (length counts) p (x ∷ (a ++ y ∷ b)) k in
          let r = kinds_append (length counts) a (y ∷ b) q.1.2 in
          let w = kinds_reverse (length counts) (a ++ x ∷ b) (append_kinds (length counts) a (x ∷ b) r.0 (q.1.0, q.1.1, r.1.2)) in
          let own : IsStrip counts t = same_strip counts s t h (append_kinds (length counts) p (y ∷ reverse (a ++ x ∷ b)) q.0 (r.1.0, r.1.1, w)) m in
          let later : Before s t = rw e (front_before p (x ∷ (a ++ y ∷ b)) (y ∷ reverse (a ++ x ∷ b)) (inl l)) in
          entry_after counts s t h own later (λ u i j n.
          front_none p (x ∷ (a ++ y ∷ b)) (y ∷ reverse (a ++ x ∷ b)) (none_between x y a b f l low) u (rw e at (strips_same counts s u h i)) (rw e at j) n)

  -- a strip that falls is the last entry
  pub falls_end : Falls s → suc (place_in (dictionary counts) s) ≡ total counts
  falls_end f = entry_last counts s h (λ u i b. falls_last s u f (strips_same counts s u h i) b)
