-- Proofs. T is n! divided by the factorials of the counts.
use Prim.Native.Nat.{ℕ, zero, suc, ◌+◌, ◌*◌, ◌/◌, ◌<◌}
use mathlib.Core.Path.{◌≡◌, refl, sym, ap}
use mathlib.Core.List.{List, [], ◌∷◌, ◌++◌}
use native.Mathlib.Nat.{add-zero, zero-add, suc-add, mul-pos, div-eq_of_eq-mul_left}
use native.Mathlib.Omega.{arith}
use Rattle.rules.specs.Stock.{binom, sum, total}
use Rattle.rules.specs.Factorials.{factorial, factorials}
use Rattle.rules.proofs.Last.{from_end}
use Rattle.rules.proofs.Patterns.{binom_self}
use Rattle.rules.proofs.Turned.{binom_zero, sum_append}
use Rattle.rules.proofs.Strips.{total_rule}

-- C(c + b, b) is (c + b)! divided by c! b!
pub binom_factorial : (c b : ℕ) → binom (c + b) b * (factorial c * factorial b) ≡ factorial (c + b)
unfolding binom factorial
binom_factorial zero b = rw (zero-add b, binom_self b) (omega arith)
binom_factorial (suc c) zero = rw (add-zero (suc c), binom_zero (suc c)) (omega arith)
binom_factorial (suc c) (suc b) =
    let e : suc c + b ≡ c + suc b = omega arith in
    let left : binom (c + suc b) b * (factorial (suc c) * factorial b) ≡ factorial (c + suc b) = rw e at (binom_factorial (suc c) b) in
    let right : binom (c + suc b) (suc b) * (factorial c * factorial (suc b)) ≡ factorial (c + suc b) = binom_factorial c (suc b) in
    rw (suc-add c (suc b)) (omega (arith, ap (λ (n : ℕ). suc b * n) left, ap (λ (n : ℕ). suc c * n) right))

factorials_append : (counts : List ℕ) (c : ℕ) → factorials (counts ++ (c ∷ [])) ≡ factorials counts * factorial c
unfolding factorials
factorials_append [] c = omega arith
factorials_append (d ∷ counts) c = omega (arith, ap (λ (n : ℕ). factorial d * n) (factorials_append counts c))

total_none : total [] ≡ 1
unfolding total
total_none = refl

-- one kind more
total_factorials_next : (counts : List ℕ) (c : ℕ)
    → total counts * factorials counts ≡ factorial (sum counts)
    → total (counts ++ (c ∷ [])) * factorials (counts ++ (c ∷ [])) ≡ factorial (sum (counts ++ (c ∷ [])))
unfolding sum
total_factorials_next counts c before =
    let n = sum counts in
    let e : n + (c + 0) ≡ c + n = omega arith in
    rw (total_rule counts c, factorials_append counts c, sum_append counts (c ∷ []), e)
    (omega (arith, ap (λ (f : ℕ). binom (c + n) n * factorial c * f) before, binom_factorial c n))

-- T times the factorials of the counts is n!
pub total_factorials : (counts : List ℕ) → total counts * factorials counts ≡ factorial (sum counts)
unfolding factorials factorial sum
total_factorials = from_end (λ counts. total counts * factorials counts ≡ factorial (sum counts)) (omega (arith, total_none)) total_factorials_next

-- ---- as a quotient

pub factorial_some : (n : ℕ) → 0 < factorial n
unfolding factorial
factorial_some zero = omega arith
factorial_some (suc n) = mul-pos (omega arith) (factorial_some n)

pub factorials_some : (counts : List ℕ) → 0 < factorials counts
unfolding factorials
factorials_some [] = omega arith
factorials_some (c ∷ counts) = mul-pos (factorial_some c) (factorials_some counts)

-- T is n! divided by the factorials of the counts
pub total_quotient : (counts : List ℕ) → total counts ≡ factorial (sum counts) / factorials counts
total_quotient counts = sym (div-eq_of_eq-mul_left (factorials_some counts) (sym (total_factorials counts)))
