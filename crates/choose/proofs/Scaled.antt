-- Proofs. What each scaling is to come to: the words with one or two letters less, and with two more.
use Prim.Native.Nat.{ℕ, ◌+◌, ◌-◌, ◌*◌, ◌/◌, ◌≤◌, ◌<◌}
use mathlib.Core.Path.{◌≡◌}
use native.Mathlib.Nat.{mul-pos}
use native.Mathlib.Omega.{arith}
use Rattle.rules.specs.Stock.{binom}
use Rattle.choose.proofs.Fractions.{exact}
use Rattle.choose.proofs.Pascal as pascal

module _ (c a b : ℕ) (is : c ≡ binom a b) (l : b ≤ a) where
  pub ends_in_k : 0 < a → c * (a - b) / a ≡ binom (a - 1) b
  ends_in_k h = rw is (exact (binom a b) (a - b) a (binom (a - 1) b) (pascal.in_k a b l h) h)

  pub ends_in_kr : 0 < b → b < a → c * (b * (a - b)) / (a * (a - 1)) ≡ binom (a - 2) (b - 1)
  ends_in_kr h k = rw is (exact (binom a b) (b * (a - b)) (a * (a - 1)) (binom (a - 2) (b - 1)) (pascal.in_kr a b l h k) (mul-pos (omega arith) (omega arith)))

  pub ends_in_rr : 2 ≤ b → c * (b * (b - 1)) / (a * (a - 1)) ≡ binom (a - 2) (b - 2)
  ends_in_rr h = rw is (exact (binom a b) (b * (b - 1)) (a * (a - 1)) (binom (a - 2) (b - 2)) (pascal.in_rr a b l h) (mul-pos (omega arith) (omega arith)))

pub two_more : (c d i : ℕ) → c ≡ binom (d + i) i → c * ((d + i + 1) * (d + i + 2)) / ((i + 1) * (i + 2)) ≡ binom (d + (i + 2)) (i + 2)
two_more c d i is = rw is (exact (binom (d + i) i) ((d + i + 1) * (d + i + 2)) ((i + 1) * (i + 2)) (binom (d + (i + 2)) (i + 2)) (pascal.two_more d i) (mul-pos (omega arith) (omega arith)))
