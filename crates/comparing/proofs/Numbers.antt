-- Proofs. Which of two numbers comes first: 1, 2 or 3, each in its case and in no other.
use Prim.Native.Nat.{ℕ, ◌<◌}
use mathlib.Core.Path.{◌≡◌, sym, ◌∙◌}
use native.Mathlib.Decide.{dec_lt}
use native.Mathlib.Omega.{arith}
use borrow.Author.Tests.{lt-ltb, le-ltb}
use Rattle.std.specs.Prelude.{Some}
use Rattle.comparing.specs.declared.letters.Ahead.{Ahead}
use Rattle.comparing.specs.declared.letters.Ahead.TheVariants.{First, Second}
use Rattle.comparing.specs.Order.{which_of}
use Rattle.comparing.specs.Parted.{ahead_number}

module _ (m n : ℕ) where
  pub which_first : m < n → which_of m n ≡ 1
  unfolding which_of
  which_first h = rw (lt-ltb m n h)

  pub which_second : n < m → which_of m n ≡ 2
  unfolding which_of
  which_second h = rw (le-ltb m n (omega arith), lt-ltb n m h)

  pub which_equal : m ≡ n → which_of m n ≡ 3
  unfolding which_of
  which_equal e = rw (le-ltb m n (omega arith), le-ltb n m (omega arith))

  pub only_second : which_of m n ≡ 2 → n < m
  only_second h = elim (dec_lt n m) [
    | yes k ↦ k
    | no k ↦ elim (dec_lt m n) [ yes l ↦ absurd (omega (arith, which_first l)) | no l ↦ absurd (omega (arith, which_equal (omega arith))) ]
  ]

  pub only_equal : which_of m n ≡ 3 → m ≡ n
  only_equal h = elim (dec_lt m n) [
    | yes l ↦ absurd (omega (arith, which_first l))
    | no l ↦ elim (dec_lt n m) [ yes k ↦ absurd (omega (arith, which_second k)) | no k ↦ omega arith ]
  ]

  -- never 0, the answer of a refused call
  pub which_some : which_of m n ≡ 0 → ⊥
  which_some h = elim (dec_lt m n) [
    | yes l ↦ omega (arith, which_first l)
    | no l ↦ elim (dec_lt n m) [ yes k ↦ omega (arith, which_second k) | no k ↦ omega (arith, which_equal (omega arith)) ]
  ]

-- two other numbers that stand to each other as these do
pub which_as : (m n x y : ℕ) → (m < n → x < y) → (n < m → y < x) → (m ≡ n → x ≡ y) → which_of m n ≡ which_of x y
which_as m n x y less more equal = elim (dec_lt m n) [
  | yes l ↦ which_first m n l ∙ sym (which_first x y (less l))
  | no l ↦ elim (dec_lt n m) [ yes k ↦ which_second m n k ∙ sym (which_second x y (more k)) | no k ↦ which_equal m n (omega arith) ∙ sym (which_equal x y (equal (omega arith))) ]
]

-- the number of one that stands ahead
pub ahead_range : (a : Ahead) → (0 < ahead_number (Some a)) × (ahead_number (Some a) < 3)
ahead_range First = (omega arith, omega arith)
ahead_range Second = (omega arith, omega arith)
