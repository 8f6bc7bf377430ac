-- Proofs. The marked totals of document 01 whose binomials are worked out in steps, since Pascal's rule itself would take too long.
use Prim.Native.Nat.{ℕ, ◌+◌, ◌*◌, ◌^◌, ◌≤◌}
use mathlib.Core.Path.{◌≡◌, sym, ◌∙◌}
use mathlib.Core.List.{[], ◌∷◌}
use native.Mathlib.Nat.{add-zero, one-mul}
use native.Mathlib.Omega.{arith}
use Rattle.rules.specs.Stock.{sum, binom, total}
use Rattle.rules.proofs.Strips.{total_one, total_rule}
use Rattle.choose.proofs.Pascal.{stepped, stepped_is, mirrored}

total_two : (a b : ℕ) → total (a ∷ b ∷ []) ≡ binom (b + a) a
unfolding sum
total_two a b = total_rule (a ∷ []) b ∙ rw (total_one a, add-zero a) (one-mul (binom (b + a) a))

total_three : (a b c : ℕ) → total (a ∷ b ∷ c ∷ []) ≡ binom (b + a) a * binom (c + (a + b)) (a + b)
unfolding sum
total_three a b c = total_rule (a ∷ b ∷ []) c ∙ rw (total_two a b, add-zero b)

-- 30 31, which is even; 30 31 1; and 31 31 1
pub total_30_31 : total (30 ∷ 31 ∷ []) ≡ 232714176627630544
unfolding stepped
total_30_31 = total_two 30 31 ∙ sym (stepped_is 31 30)

-- one letter K among m letters R
one_k : (m : ℕ) → binom (1 + m) m ≡ stepped m 1
one_k m =
    let e : m + 1 ≡ 1 + m = omega arith in
    sym (mirrored 1 m) ∙ rw (← e) (sym (stepped_is m 1))

pub total_30_31_1 : total (30 ∷ 31 ∷ 1 ∷ []) ≡ 14428278950913093728
unfolding stepped
total_30_31_1 = total_three 30 31 1 ∙ rw (← stepped_is 31 30, one_k 61)

pub total_31_31_1 : 2 ^ 64 ≤ total (31 ∷ 31 ∷ 1 ∷ [])
unfolding stepped
total_31_31_1 = rw (total_three 31 31 1, ← stepped_is 31 31, one_k 62) (omega arith)
