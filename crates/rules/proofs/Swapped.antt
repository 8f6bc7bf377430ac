-- Proofs. Two places of a strip exchanged: what then stands where, the stock that stays the same, and that a strip which changed shows the two places.
use Prim.Native.Nat.{ℕ, zero, suc, ◌+◌, ◌≤◌, ◌<◌}
use mathlib.Core.Path.{◌≡◌, sym, ap, ◌∙◌}
use mathlib.Core.Bool.{Bool, true, false}
use mathlib.Core.List.{List, [], ◌∷◌}
use native.Mathlib.Decide.{ℕ_discrete}
use native.Mathlib.Omega.{arith}
use lib.Dec.{eqb}
use lib.ListN.{length, get_or, set, length-set}
use lib.Seq.{get_or-set_same, get_or-set_other, set-get_or}
use Rattle.rules.specs.Stock.{count, tally, IsStrip}
use Rattle.rules.specs.Neighbours.{swap}

-- ---- a block put in another's place, by the blocks of a kind

abbrev one : Bool → ℕ
one true = 1
one false = 0

tally_one : (b : Bool) (n : ℕ) → tally b n ≡ n + one b
tally_one true n = omega arith
tally_one false n = omega arith

count_set : (j : ℕ) (s : List ℕ) (i x : ℕ) → i < length s → count j (set s i x) + one (eqb (get_or s i 0) j) ≡ count j s + one (eqb x j)
unfolding count
count_set j [] i x h = absurd (omega arith)
count_set j (y ∷ s) zero x h = omega (arith, tally_one (eqb x j) (count j s), tally_one (eqb y j) (count j s))
count_set j (y ∷ s) (suc i) x h =
    omega (arith, count_set j s i x (omega arith), tally_one (eqb y j) (count j (set s i x)), tally_one (eqb y j) (count j s))

-- ---- the two places, p below q, from 0

module _ (s : List ℕ) (p q : ℕ) where
  pub swap_length : length (swap 0 s p q) ≡ length s
  swap_length = simp length-set

  -- of two blocks alike the exchange changes nothing
  pub swap_alike : get_or s p 0 ≡ get_or s q 0 → swap 0 s p q ≡ s
  swap_alike e = rw (← e, set-get_or s p 0, e) (set-get_or s q 0)

  pub swap_other : (i : ℕ) → (i ≡ p → ⊥) → (i ≡ q → ⊥) → get_or (swap 0 s p q) i 0 ≡ get_or s i 0
  swap_other i e f = get_or-set_other (set s p (get_or s q 0)) q i (get_or s p 0) 0 f ∙ get_or-set_other s p i (get_or s q 0) 0 e

  module _ (order : p < q) (inside : q < length s) where
    pub swap_low : get_or (swap 0 s p q) p 0 ≡ get_or s q 0
    swap_low = get_or-set_other (set s p (get_or s q 0)) q p (get_or s p 0) 0 (λ e. omega arith) ∙ get_or-set_same s p (get_or s q 0) 0 (omega arith)

    pub swap_high : get_or (swap 0 s p q) q 0 ≡ get_or s p 0
    swap_high = get_or-set_same (set s p (get_or s q 0)) q (get_or s p 0) 0 (rw (length-set s p (get_or s q 0)) inside)

    -- each kind as often as before
    pub swap_count : (j : ℕ) → count j (swap 0 s p q) ≡ count j s
    swap_count j =
        let x = get_or s p 0 in
        let y = get_or s q 0 in
        let e : get_or (set s p y) q 0 ≡ y = get_or-set_other s p q y 0 (λ f. omega arith) in
        let a = count_set j s p y (omega arith) in
        let b : count j (set (set s p y) q x) + one (eqb y j) ≡ count j (set s p y) + one (eqb x j) =
        rw e at (count_set j (set s p y) q x (rw (length-set s p y) inside)) in
        omega arith

    -- a strip of the same stock
    pub swap_strip : (counts : List ℕ) → IsStrip counts s → IsStrip counts (swap 0 s p q)
    swap_strip counts k = record {
      kinds = λ i l. kinds i (rw swap_length at l);
      amounts = λ j l. swap_count (suc j) ∙ k.amounts j l;
    }
      where
        kinds : (i : ℕ) → i < length s → (0 < get_or (swap 0 s p q) i 0) × (get_or (swap 0 s p q) i 0 ≤ length counts)
        kinds i l = elim (ℕ_discrete i p) [
          | yes e ↦ rw (e, swap_low) (k.kinds q inside)
          | no e ↦ elim (ℕ_discrete i q) [
            | yes f ↦ rw (f, swap_high) (k.kinds p (omega arith))
            | no f ↦ rw (swap_other i e f) (k.kinds i l)
          ]
        ]

    -- the block at either place changes, where the strip does
    swap_changes : (swap 0 s p q ≡ s → ⊥) → (get_or (swap 0 s p q) p 0 ≡ get_or s p 0 → ⊥) × (get_or (swap 0 s p q) q 0 ≡ get_or s q 0 → ⊥)
    swap_changes n = (λ f. n (swap_alike (sym f ∙ swap_low)), λ f. n (swap_alike (sym swap_high ∙ f)))

-- two exchanges that change a strip alike are of the same places
module _ (s : List ℕ) (p q a b : ℕ) (order : p < q) (inside : q < length s) (order₂ : a < b) (e : swap 0 s p q ≡ swap 0 s a b) (n : swap 0 s p q ≡ s → ⊥) where
  -- a place whose block changes is one of a and b
  changed : (i : ℕ) → (get_or (swap 0 s p q) i 0 ≡ get_or s i 0 → ⊥) → (i ≡ a → ⊥) → i ≡ b
  changed i c f = elim (ℕ_discrete i b) [ yes g ↦ g | no g ↦ absurd (c (ap (λ (t : List ℕ). get_or t i 0) e ∙ swap_other s a b i f g)) ]

  pub swap_places : (p ≡ a) × (q ≡ b)
  swap_places =
      let c = swap_changes s p q order inside n in
      elim (ℕ_discrete p a) [
        | yes f ↦ (f, changed q c.1 (λ g. omega arith))
        | no f ↦ elim (ℕ_discrete q a) [
          | yes g ↦ absurd (omega (arith, changed p c.0 f))
          | no g ↦ absurd (omega (arith, changed p c.0 f, changed q c.1 g))
        ]
      ]
