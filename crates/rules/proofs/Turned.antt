-- Proofs. The counts with the last kind first, so that laying in one kind more is one step of a recursion on the list: their total and their book are those of the rules.
use Prim.Native.Nat.{ℕ, zero, suc, ◌+◌, ◌-◌, ◌*◌, ◌≤◌, ◌<◌}
use mathlib.Core.Path.{◌≡◌, refl, ◌∙◌}
use mathlib.Core.Bool.{false}
use mathlib.Core.List.{List, [], ◌∷◌, ◌++◌, map, reverse, reverse-cons}
use native.Mathlib.Nat.{add-zero}
use native.Mathlib.Omega.{arith}
use lib.ListN.{length, get_or, take, length-reverse}
use lib.Seq.{take-suc, take_all, length-take-le}
use Rattle.rules.specs.Stock.{sum, binom, N, product, total}
use Rattle.rules.specs.Book.{E, lay, snake, book_to, book}
use Rattle.rules.proofs.Last.{reverse_take}

unfoldable pub total' : List ℕ → ℕ
total' [] = 1
total' (c ∷ cs) = total' cs * binom (c + sum cs) (sum cs)

unfoldable pub book' : List ℕ → List (List ℕ)
book' [] = [] ∷ []
book' (c ∷ cs) = snake false (map (λ w. map (lay (suc (length cs)) w) (E (c + sum cs) (sum cs))) (book' cs))

-- ---- C(a, 0)

pub binom_zero : (a : ℕ) → binom a zero ≡ 1
unfolding binom
binom_zero zero = refl
binom_zero (suc a) = refl

-- ---- sums

pub sum_append : (l k : List ℕ) → sum (l ++ k) ≡ sum l + sum k
unfolding sum
sum_append [] k = omega arith
sum_append (x ∷ l) k = omega (arith, sum_append l k)

pub sum_reverse : (l : List ℕ) → sum (reverse l) ≡ sum l
unfolding sum
sum_reverse [] = refl
sum_reverse (x ∷ l) = rw (reverse-cons x l, sum_append (reverse l) (x ∷ [])) (omega (arith, sum_reverse l))

-- N(j + 1) is the next count and N(j)
pub sum_next : (counts : List ℕ) (j : ℕ) → j < length counts → N counts (suc j) ≡ get_or counts j 0 + N counts j
unfolding sum
sum_next counts j h = rw (take-suc counts j 0 h, sum_append (take j counts) (get_or counts j 0 ∷ [])) (omega arith)

-- ---- the first j kinds

module _ (counts : List ℕ) where
  pub turned_length : (j : ℕ) → j ≤ length counts → length (reverse (take j counts)) ≡ j
  turned_length j h = length-reverse (take j counts) ∙ length-take-le j counts h

  abbrev patterns : ℕ → ℕ
  patterns j = binom (N counts j) (N counts (j - 1))

  total_to : (j : ℕ) → j ≤ length counts → product patterns j ≡ total' (reverse (take j counts))
  unfolding product total' sum
  total_to zero h = refl
  total_to (suc zero) h = rw (reverse_take counts 0 0 h, add-zero (get_or counts 0 0), binom_zero (get_or counts 0 0))
  total_to (suc (suc j)) h =
      let e : suc (suc j) - 1 ≡ suc j = omega arith in
      rw (e, reverse_take counts (suc j) 0 h, sum_next counts (suc j) h, sum_reverse (take (suc j) counts), total_to (suc j) (omega arith))

  book_to_lem : (j : ℕ) → j ≤ length counts → book_to counts j ≡ book' (reverse (take j counts))
  unfolding book_to book'
  book_to_lem zero h = refl
  book_to_lem (suc j) h =
      rw (reverse_take counts j 0 h, sum_next counts j h, sum_reverse (take j counts), turned_length j (omega arith), book_to_lem j (omega arith))

-- ---- all of them

pub total_turned : (counts : List ℕ) → total counts ≡ total' (reverse counts)
unfolding total
total_turned counts = rw (take_all (length counts) counts (omega arith)) at (total_to counts (length counts) (omega arith))

pub book_turned : (counts : List ℕ) → book counts ≡ book' (reverse counts)
unfolding book
book_turned counts = rw (take_all (length counts) counts (omega arith)) at (book_to_lem counts (length counts) (omega arith))
