-- Proofs. Numbers in decimal: the last digit, and how many digits there are.
use Prim.Native.Nat.{ℕ, zero, suc, ◌+◌, ◌*◌, ◌/◌, ◌%◌, ◌≤◌, ◌<◌}
use mathlib.Core.Path.{◌≡◌, refl, sym, ap, ◌∙◌}
use mathlib.Core.Bool.{Bool, true, false}
use mathlib.Core.List.{[], ◌∷◌, ◌++◌}
use native.Mathlib.Decide.{dec_lt}
use native.Mathlib.Omega.{arith}
use borrow.Author.Tests.{lt-ltb, le-ltb}
use lib.Dec.{ltb}
use lib.ListN.{length, length-append}
use Rattle.rules.specs.Refusals.{pick}
use Rattle.lines.specs.Text.{digits, width, decimal}

-- a number without its last digit is below the tenth of what it is below
tenth : (n b c : ℕ) → 10 * b ≡ c → ltb (n / 10) b ≡ ltb n c
tenth n b c e = elim (dec_lt n c) [
  | yes h ↦ lt-ltb (n / 10) b (omega arith) ∙ sym (lt-ltb n c h)
  | no h ↦ le-ltb (n / 10) b (omega arith) ∙ sym (le-ltb n c (omega arith))
]

one_more : (a b c d : Bool) → pick a 2 (pick b 3 (pick c 4 (pick d 5 6))) ≡ suc (pick a 1 (pick b 2 (pick c 3 (pick d 4 5))))
one_more true b c d = refl
one_more false true c d = refl
one_more false false true d = refl
one_more false false false true = refl
one_more false false false false = refl

width_step : (n : ℕ) → 10 ≤ n → n < 1000000 → width n ≡ suc (width (n / 10))
width_step n l h =
    rw (le-ltb n 10 l, tenth n 10 100 refl, tenth n 100 1000 refl, tenth n 1000 10000 refl, tenth n 10000 100000 refl, lt-ltb (n / 10) 100000 (omega arith))
    (one_more (ltb n 100) (ltb n 1000) (ltb n 10000) (ltb n 100000))

-- the digits before the last one, and that one
pub decimal_last : (n : ℕ) → 10 ≤ n → n < 1000000 → decimal n ≡ decimal (n / 10) ++ ((48 + n % 10) ∷ [])
unfolding decimal digits
decimal_last n l h = ap (λ (k : ℕ). digits k n) (width_step n l h)

pub decimal_only : (n : ℕ) → n < 10 → decimal n ≡ (48 + n % 10) ∷ []
unfolding decimal digits
decimal_only n h =
    let e : width n ≡ 1 = rw (lt-ltb n 10 h) in
    ap (λ (k : ℕ). digits k n) e

length_digits : (k n : ℕ) → length (digits k n) ≡ k
unfolding digits
length_digits zero n = refl
length_digits (suc k) n = length-append (digits k (n / 10)) ((48 + n % 10) ∷ []) ∙ omega (arith, length_digits k (n / 10))

at_most_six : (a b c d e : Bool) → pick a 1 (pick b 2 (pick c 3 (pick d 4 (pick e 5 6)))) ≤ 6
at_most_six true b c d e = omega arith
at_most_six false true c d e = omega arith
at_most_six false false true d e = omega arith
at_most_six false false false true e = omega arith
at_most_six false false false false true = omega arith
at_most_six false false false false false = omega arith

at_most_two : (a : Bool) → pick a 1 2 ≤ 2
at_most_two true = omega arith
at_most_two false = omega arith

-- how many digits the number without its last one has
pub decimal_longer : (n : ℕ) → 10 ≤ n → n < 1000000 → length (decimal n) ≡ length (decimal (n / 10)) + 1
decimal_longer n l h = ap length (decimal_last n l h) ∙ length-append (decimal (n / 10)) ((48 + n % 10) ∷ [])

pub decimal_short : (n : ℕ) → length (decimal n) ≤ 6
unfolding decimal
decimal_short n = rw (length_digits (width n) n) (at_most_six (ltb n 10) (ltb n 100) (ltb n 1000) (ltb n 10000) (ltb n 100000))

-- the number of a kind
pub decimal_kind : (n : ℕ) → n < 100 → length (decimal n) ≤ 2
unfolding decimal
decimal_kind n h = rw (length_digits (width n) n, lt-ltb n 100 h) (at_most_two (ltb n 10))
