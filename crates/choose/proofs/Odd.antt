-- Proofs. C(b + c, b) is odd exactly where b and c have no binary digit in common: that test follows Pascal's rule too.
use Prim.Native.Nat.{ℕ, zero, suc, ◌+◌, ◌-◌, ◌*◌, ◌/◌, ◌%◌, ◌≤◌, ◌<◌}
use mathlib.Core.Path.{◌≡◌, refl, sym, ap, ◌∙◌}
use mathlib.Core.Bool.{Bool, false}
use native.Mathlib.Nat.{suc-add, add-zero}
use native.Mathlib.Decide.{ℕ_discrete}
use native.Mathlib.Omega.{arith}
use borrow.Author.Tests.{eq-eqb, ne_eqb}
use lib.Bits.{bit_and, and_block, and_zero_r}
use lib.Dec.{eqb}
use Rattle.rules.specs.Stock.{binom}
use Rattle.rules.specs.Book.{odd}
use Rattle.rules.proofs.Turned.{binom_zero}
use Rattle.rules.proofs.Patterns.{binom_self}
use Rattle.rules.proofs.Listed.{flip, flip_self, flip_false}
use Rattle.rules.proofs.Numbers.{odd_add}

-- no binary digit in common
apart : ℕ → ℕ → Bool
apart b c = eqb (bit_and b c) 0

twice : (n : ℕ) → eqb (n * 2 + 0) 0 ≡ eqb n 0
twice zero = refl
twice (suc n) = ne_eqb (suc n * 2 + 0) 0 (λ e. omega arith) ∙ sym (ne_eqb (suc n) 0 (λ e. omega arith))

-- by the last digits
block : (x y r s : ℕ) → r < 2 → s < 2 → bit_and (x * 2 + r) (y * 2 + s) ≡ bit_and x y * 2 + bit_and r s
block x y r s h k = and_block 1 x y r s h k

apart_0 : (x y r s : ℕ) → r < 2 → s < 2 → bit_and r s ≡ 0 → apart (x * 2 + r) (y * 2 + s) ≡ apart x y
unfolding apart
apart_0 x y r s h k e = ap (λ (n : ℕ). eqb n 0) (block x y r s h k ∙ ap (λ (n : ℕ). bit_and x y * 2 + n) e) ∙ twice (bit_and x y)

apart_1 : (x y : ℕ) → apart (x * 2 + 1) (y * 2 + 1) ≡ false
unfolding apart
apart_1 x y =
    let e : bit_and (x * 2 + 1) (y * 2 + 1) ≡ bit_and x y * 2 + 1 = block x y 1 1 (omega arith) (omega arith) in
    ne_eqb (bit_and (x * 2 + 1) (y * 2 + 1)) 0 (λ z. omega (arith, e))

abbrev Step : ℕ → ℕ → Type 0
Step b c = apart (suc b) (suc c) ≡ flip (apart b (suc c)) (apart (suc b) c)

step_00 : (x y : ℕ) → Step (x * 2 + 0) (y * 2 + 0)
step_00 x y =
    let e : (x : ℕ) → suc (x * 2 + 0) ≡ x * 2 + 1 = λ x. omega arith in
    rw (e x, e y, apart_1 x y, apart_0 x y 0 1 (omega arith) (omega arith) refl, apart_0 x y 1 0 (omega arith) (omega arith) refl) (sym (flip_self (apart x y)))

step_10 : (x y : ℕ) → Step (x * 2 + 1) (y * 2 + 0)
step_10 x y =
    let e : suc (y * 2 + 0) ≡ y * 2 + 1 = omega arith in
    let f : suc (x * 2 + 1) ≡ suc x * 2 + 0 = omega arith in
    rw (e, f, apart_1 x y, apart_0 (suc x) y 0 1 (omega arith) (omega arith) refl, apart_0 (suc x) y 0 0 (omega arith) (omega arith) refl)

step_01 : (x y : ℕ) → Step (x * 2 + 0) (y * 2 + 1)
step_01 x y =
    let e : suc (x * 2 + 0) ≡ x * 2 + 1 = omega arith in
    let f : suc (y * 2 + 1) ≡ suc y * 2 + 0 = omega arith in
    rw (e, f, apart_1 x y, apart_0 x (suc y) 1 0 (omega arith) (omega arith) refl, apart_0 x (suc y) 0 0 (omega arith) (omega arith) refl) (sym (flip_false (apart x (suc y))))

step_11 : (x y : ℕ) → Step x y → Step (x * 2 + 1) (y * 2 + 1)
step_11 x y h =
    let e : (x : ℕ) → suc (x * 2 + 1) ≡ suc x * 2 + 0 = λ x. omega arith in
    rw (e x, e y, apart_0 (suc x) (suc y) 0 0 (omega arith) (omega arith) refl, apart_0 x (suc y) 1 0 (omega arith) (omega arith) refl, apart_0 (suc x) y 0 1 (omega arith) (omega arith) refl) h

step : (n b c : ℕ) → b < n → Step b c
step zero b c h = absurd (omega arith)
step (suc n) b c h = go (λ k. step n (b / 2) (c / 2) k) (ℕ_discrete (b % 2) 0) (ℕ_discrete (c % 2) 0)
  where
    go : (b / 2 < n → Step (b / 2) (c / 2)) → Dec (b % 2 ≡ 0) → Dec (c % 2 ≡ 0) → Step b c
    go i (yes e) (yes f) =
        let g : b / 2 * 2 + 0 ≡ b = omega arith in
        let k : c / 2 * 2 + 0 ≡ c = omega arith in
        rw (g, k) at (step_00 (b / 2) (c / 2))
    go i (no e) (yes f) =
        let g : b / 2 * 2 + 1 ≡ b = omega arith in
        let k : c / 2 * 2 + 0 ≡ c = omega arith in
        rw (g, k) at (step_10 (b / 2) (c / 2))
    go i (yes e) (no f) =
        let g : b / 2 * 2 + 0 ≡ b = omega arith in
        let k : c / 2 * 2 + 1 ≡ c = omega arith in
        rw (g, k) at (step_01 (b / 2) (c / 2))
    go i (no e) (no f) =
        let g : b / 2 * 2 + 1 ≡ b = omega arith in
        let k : c / 2 * 2 + 1 ≡ c = omega arith in
        rw (g, k) at (step_11 (b / 2) (c / 2) (i (omega arith)))

odd_pascal : (b c : ℕ) → odd (binom (suc b + suc c) (suc b)) ≡ flip (odd (binom (b + suc c) b)) (odd (binom (suc b + c) (suc b)))
unfolding binom
odd_pascal b c =
    let e : suc b + c ≡ b + suc c = omega arith in
    rw (suc-add b (suc c), e) (odd_add (binom (b + suc c) b) (binom (b + suc c) (suc b)))

odd_apart : (b c : ℕ) → odd (binom (b + c) b) ≡ apart b c
unfolding binom odd apart
odd_apart zero c = rw (binom_zero (0 + c)) refl
odd_apart (suc b) zero = rw (add-zero (suc b), binom_self (suc b)) (sym (eq-eqb _ 0 (and_zero_r (suc b))))
odd_apart (suc b) (suc c) = odd_pascal b c ∙ rw (odd_apart b (suc c), odd_apart (suc b) c) (sym (step (suc b) b c (omega arith)))

-- in the terms of the code
pub odd_is : (a b : ℕ) → b ≤ a → eqb (bit_and b (a - b)) 0 ≡ odd (binom a b)
unfolding apart
odd_is a b h =
    let e : b + (a - b) ≡ a = omega arith in
    sym (odd_apart b (a - b)) ∙ rw e
