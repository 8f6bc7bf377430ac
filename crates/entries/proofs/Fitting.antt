-- Proofs. A number of orders that fits 64 bits, or 0 in its place; and the orders of one block more.
use Prim.Native.Nat.{ℕ, suc, ◌+◌, ◌*◌, ◌/◌, ◌%◌, ◌≤◌, ◌<◌, ◌^◌}
use mathlib.Core.Path.{◌≡◌, sym, ap, ◌∙◌}
use native.Mathlib.Decide.{dec_lt}
use native.Mathlib.Nat.{mod-lt, div-le_self, mul-le-mul, mul-lt-mul_of_pos_right, div-lt_iff_lt-mul, mul-div-mul_right}
use native.Mathlib.Omega.{arith}
use borrow.Author.Tests.{le-leb, lt-leb}
use Rattle.std.specs.Prelude.{Option, Some, None}
use Rattle.std.specs.Option.{SomeIff}
use Rattle.choose.proofs.Fractions.{parts}
use Rattle.entries.specs.Fitting.{fitting}

-- the same share of the same orders, counted in other parts
pub same_share : (a b c d part : ℕ) → a * suc c ≡ b * suc d → a * part / suc d ≡ b * part / suc c
same_share a b c d part h =
    let e : a * part * suc c ≡ b * part * suc d = omega (arith, ap (λ (n : ℕ). n * part) h) in
    let f : suc d * suc c ≡ suc c * suc d = omega arith in
    sym (mul-div-mul_right {m = suc c} (a * part) (suc d) (omega arith)) ∙ rw (e, f) (mul-div-mul_right {m = suc d} (b * part) (suc c) (omega arith))

-- ---- a number that fits, or none

pub fits : (v : ℕ) → v < 2 ^ 64 → Some v ≡ fitting v
fits v h = rw (lt-leb (2 ^ 64) v h)

pub over : (v : ℕ) → 2 ^ 64 ≤ v → None ≡ fitting v
over v h = rw (le-leb (2 ^ 64) v h)

-- what a checked operation answers
pub fits_if : (r : Option ℕ) (v : ℕ) → SomeIff r (v < 2 ^ 64) v → r ≡ fitting v
fits_if None v h = over v (omega (arith, h))
fits_if (Some r) v h = rw (h.1) (fits v h.0)

pub none_over : (v : ℕ) → None ≡ fitting v → 2 ^ 64 ≤ v
none_over v e = elim (dec_lt v (2 ^ 64)) [
  | yes h ↦ let f = fits v h in absurd (cc)
  | no h ↦ omega arith
]

pub some_fits : (r v : ℕ) → Some r ≡ fitting v → (v < 2 ^ 64) × (r ≡ v)
some_fits r v e = elim (dec_lt v (2 ^ 64)) [
  | yes h ↦ let f = fits v h in (h, cc)
  | no h ↦ let f = over v (omega arith) in absurd (cc)
]

-- ---- the orders of n blocks, from those without one of the blocks that are alike

module _ (orders n alike : ℕ) (some : 0 < alike) (few : alike ≤ n) (short : n ≤ 64) where
  abbrev each : ℕ
  each = orders / alike

  abbrev rest : ℕ
  rest = orders % alike * n / alike

  pub rest_short : rest < n
  rest_short = (div-lt_iff_lt-mul {k = alike} some).1 (omega (arith, mul-lt-mul_of_pos_right {m = orders % alike} {n = alike} {k = n} (mod-lt orders {m = alike} some) (omega arith)))

  -- the product fits where the orders are few, or where it is worked out with a check
  pub safe : orders ≤ 288230376151711743 → orders * n ≤ 18446744073709551615
  safe h = omega (arith, mul-le-mul {n₁ = orders} {m₁ = n} {n₂ = 288230376151711743} {m₂ = 64} h short)

  pub safe_grows : orders ≤ 288230376151711743 → Some (orders * n / alike) ≡ fitting (orders * n / alike)
  safe_grows h = fits (orders * n / alike) (omega (arith, safe h, div-le_self (orders * n) alike))

  pub beyond : 2 ^ 64 ≤ each * n → None ≡ fitting (orders * n / alike)
  beyond h = over (orders * n / alike) (omega (arith, h, parts orders n alike some))

  pub grows : (r : Option ℕ) (most : ℕ) → most ≡ each * n → SomeIff r (most + rest < 2 ^ 64) (most + rest) → r ≡ fitting (orders * n / alike)
  grows r most is h =
      let e : most + rest ≡ orders * n / alike = omega (arith, is, parts orders n alike some) in
      fits_if r _ (rw e at h)
