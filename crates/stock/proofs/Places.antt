-- Proofs. A place that a search finds, as an option.
use Prim.Native.Nat.{ℕ, zero, suc, ◌+◌}
use mathlib.Core.Path.{◌≡◌, refl}
use native.Mathlib.Numerals.{add-one}
use Rattle.std.specs.Prelude.{Some, None}
use Rattle.stock.specs.Places.{found_at}

pub found_here : (i p : ℕ) → i + 1 ≡ p → Some (i + 1) ≡ found_at p
found_here i p h = rw (← h, add-one i) refl

pub found_nowhere : (p : ℕ) → 0 ≡ p → None ≡ found_at p
found_nowhere p h = rw (← h) refl

-- what a search that found a place, or none, says of it
pub is_found : (p i : ℕ) → Some i ≡ found_at p → (i ≡ p) × (i ≡ 0 → ⊥)
is_found zero i h = cc
is_found (suc n) i h = (cc, λ e. cc)

pub is_nowhere : (p : ℕ) → None ≡ found_at p → p ≡ 0
is_nowhere zero h = refl
is_nowhere (suc n) h = cc
