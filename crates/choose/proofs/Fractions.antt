-- Proofs. A number times a fraction: with the divisor taken out of the number first, and where the quotient is exact.
use Prim.Native.Nat.{ℕ, ◌+◌, ◌*◌, ◌/◌, ◌%◌, ◌≤◌, ◌<◌}
use mathlib.Core.Path.{◌≡◌, sym, ap, ◌∙◌}
use native.Mathlib.Nat.{div-add-mod', mul-add-div_right, mod-lt, mul-le-mul, mul-div_cancel}
use native.Mathlib.Omega.{arith}

module _ (c x d : ℕ) (h : 0 < d) where
  pub parts : c / d * x + c % d * x / d ≡ c * x / d
  parts =
      let e : c / d * x * d + c % d * x ≡ c * x = omega (arith, ap (λ (n : ℕ). n * x) (div-add-mod' c d)) in
      sym (mul-add-div_right {m = d} h (c / d * x) (c % d * x)) ∙ rw e

  pub rest_at_most : (m : ℕ) → d ≤ m → x ≤ m → c % d * x ≤ m * m
  rest_at_most m l k = mul-le-mul {n₁ = c % d} {m₁ = x} {n₂ = m} {m₂ = m} (omega (arith, mod-lt c {m = d} h)) k

-- where c * x is n times d
pub exact : (c x d n : ℕ) → c * x ≡ n * d → 0 < d → c * x / d ≡ n
exact c x d n is h = rw is (mul-div_cancel n {n = d} h)
