-- Proofs. What `any` over the numbers below n tells, number by number.
use Prim.Native.Nat.{ℕ, ◌<◌}
use mathlib.Core.Path.{◌∙◌, subst}
use mathlib.Core.Bool.{Bool, true, false}
use mathlib.Core.List.{List}
use native.Mathlib.Nat.{zero-add}
use native.Mathlib.Omega.{arith}
use lib.ListN.{length, get_or}
use Rattle.std.specs.Bool.{MatchBool}
use Rattle.std.specs.List.{HoldsAt, AllWithin, range_with_len}
use Rattle.std.proofs.lemmas.List.FromFn.{get_or-range_with_len, length-range_with_len}

module _ (n : ℕ) (Yes No : ℕ → Type 0) where
  abbrev numbers : List ℕ
  numbers = range_with_len 0 n

  at : (P : ℕ → Type 0) (k : ℕ) → k < n → P (get_or numbers k 0) → P k
  at P k l h = subst P (get_or-range_with_len 0 n k 0 l ∙ zero-add k) h

  all_at : (P : ℕ → Type 0) → AllWithin P numbers 0 (length numbers) → (k : ℕ) → k < n → P k
  all_at P a k l = at P k l (a k 0 (omega arith) (omega (arith, length-range_with_len 0 n)))

  some_at : (P : ℕ → Type 0) → (k : ℕ) × (k < length numbers) × HoldsAt P numbers k → (k : ℕ) × (k < n) × P k
  some_at P (k, l, h) = let m : k < n = omega (arith, length-range_with_len 0 n) in (k, m, at P k m (h 0))

  pub any_below : (r : Bool) → MatchBool r ((k : ℕ) × (k < length numbers) × HoldsAt Yes numbers k) (AllWithin No numbers 0 (length numbers)) → MatchBool r ((k : ℕ) × (k < n) × Yes k) ((k : ℕ) → k < n → No k)
  any_below true a = some_at Yes a
  any_below false a = all_at No a
