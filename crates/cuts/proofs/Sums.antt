-- Proofs. Sums over the kinds from 2, and how large a ceiling can be.
use Prim.Native.Nat.{ℕ, zero, suc, ◌+◌, ◌-◌, ◌≤◌, ◌<◌}
use mathlib.Core.Path.{◌≡◌, refl}
use mathlib.Core.List.{List}
use native.Mathlib.Decide.{ℕ_discrete}
use native.Mathlib.Omega.{arith}
use borrow.Author.Tests.{ltb-false, le-ltb}
use lib.Dec.{ltb}
use lib.ListN.{length, get_or}
use Rattle.rules.specs.Stock.{sum, N, IsStock}
use Rattle.rules.specs.Refusals.{pick}
use Rattle.rules.proofs.Turned.{sum_next}
use Rattle.rules.proofs.Prefixes.{sum_take}
use Rattle.rules.proofs.Smallest.{FoundAt, smallest_found}
use Rattle.cuts.specs.Cuts.{sum_over, first_kind, is_counted, ceiling}
use Rattle.cuts.proofs.Words.{within}

-- ---- sums

-- one kind more, where kind 1 adds nothing
pub sum_on : (f : ℕ → ℕ) (j : ℕ) → f 1 ≡ 0 → sum_over f (suc j) ≡ sum_over f j + f (suc j)
unfolding sum_over
sum_on f zero e = omega arith
sum_on f (suc j) e = refl

pub sum_within : (f g : ℕ → ℕ) (k : ℕ) → ((j : ℕ) → j < k → f (suc j) ≤ g (suc j)) → sum_over f k ≤ sum_over g k
unfolding sum_over
sum_within f g zero h = omega arith
sum_within f g (suc zero) h = omega arith
sum_within f g (suc (suc k)) h = omega (arith, sum_within f g (suc k) (λ j l. h j (omega arith)), h (suc k) (omega arith))

-- what rises from each number to the next rises from each to every later one
climbs : (f : ℕ → ℕ) → ((n : ℕ) → f n ≤ f (suc n)) → (m n : ℕ) → m ≤ n → f m ≤ f n
climbs f up m zero h = let e : m ≡ 0 = omega arith in rw e (omega arith)
climbs f up m (suc n) h = elim (ℕ_discrete m (suc n)) [ yes e ↦ rw e (omega arith) | no e ↦ omega (arith, climbs f up m n (omega arith), up n) ]

-- the first kinds add no more than all
pub sum_part : (f : ℕ → ℕ) (j k : ℕ) → j ≤ k → sum_over f j ≤ sum_over f k
unfolding sum_over
sum_part f = climbs (sum_over f) up
  where
    up : (k : ℕ) → sum_over f k ≤ sum_over f (suc k)
    up zero = omega arith
    up (suc k) = omega arith

-- ---- the ceiling

-- (n - 1) + (n - 2) + .., m of them
unfoldable stairs : ℕ → ℕ → ℕ
stairs zero n = 0
stairs (suc m) n = (n - 1) + stairs m (n - 1)

stairs_higher : (m n o : ℕ) → n ≤ o → stairs m n ≤ stairs m o
unfolding stairs
stairs_higher zero n o h = omega arith
stairs_higher (suc m) n o h = omega (arith, stairs_higher m (n - 1) (o - 1) (omega arith))

stairs_one : (m n : ℕ) → stairs m n ≤ stairs (suc m) n
unfolding stairs
stairs_one zero n = omega arith
stairs_one (suc m) n = omega (arith, stairs_one m (n - 1))

module _ (counts : List ℕ) where
  -- before the first kind that has blocks there are none
  pub none_before : (j : ℕ) → j < length counts → first_kind counts ≡ suc j → N counts j ≡ 0
  unfolding sum
  none_before j l e = up j (omega arith)
    where
      first : (i : ℕ) × FoundAt (λ kind c. ltb 0 c) 1 counts i
      first = smallest_found (λ kind c. ltb 0 c) 1 counts (λ z. omega (arith, e, z))

      up : (i : ℕ) → i ≤ j → N counts i ≡ 0
      up zero h = refl
      up (suc i) h = omega (arith, sum_next counts i (omega arith), up i (omega arith), ltb-false 0 (get_or counts i 0) (first.1.before i (omega (arith, first.1.is, e))))

  abbrev pub share : ℕ → ℕ
  share j = pick (is_counted counts j) (N counts j - 1) 0

  -- a kind without blocks adds nothing
  adds_none : (j : ℕ) → get_or counts j 0 ≡ 0 → share (suc j) ≡ 0
  adds_none j e =
      let f : suc j - 1 ≡ j = omega arith in
      rw (f, le-ltb 0 (get_or counts j 0) (omega arith))

  -- where a kind has blocks, its N(j) is above the one before, so that the shares fall by one or more from the last kind down
  rises : (j : ℕ) → j < length counts → sum_over share (suc j) ≤ stairs j (N counts (suc j))
  unfolding sum_over stairs
  rises zero l = omega arith
  rises (suc j) l =
      let a : N counts (suc (suc j)) ≡ get_or counts (suc j) 0 + N counts (suc j) = sum_next counts (suc j) l in
      let b = rises j (omega arith) in
      elim (ℕ_discrete (get_or counts (suc j) 0) 0) [
        | yes e ↦ omega (arith, adds_none (suc j) e, b, stairs_higher j (N counts (suc j)) (N counts (suc (suc j))) (omega arith), stairs_one j (N counts (suc (suc j))))
        | no e ↦ omega (arith, within (is_counted counts (suc (suc j))) (N counts (suc (suc j)) - 1) (N counts (suc (suc j)) - 1) (omega arith), b, stairs_higher j (N counts (suc j)) (N counts (suc (suc j)) - 1) (omega arith))
      ]

  pub at_most_840 : IsStock counts → ceiling counts ≤ 840
  unfolding ceiling stairs
  at_most_840 stock =
      let k = length counts - 1 in
      let e : suc k ≡ length counts = omega (arith, stock.some) in
      let a : sum_over share (length counts) ≤ stairs k (N counts (length counts)) = rw e at (rises k (omega (arith, stock.some))) in
      let b = stairs_higher k (N counts (length counts)) 64 (omega (arith, sum_take counts (length counts), stock.short)) in
      let c = climbs (λ m. stairs m 64) (λ m. stairs_one m 64) k 15 (omega (arith, stock.few)) in
      omega (arith, a, b, c)
