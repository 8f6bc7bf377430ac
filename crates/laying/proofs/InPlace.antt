-- Proofs. A pattern laid in place by numbers that go along multiplied: i is `times` as large as the index among the patterns that are left.
use Prim.Native.Nat.{ℕ, ◌+◌, ◌-◌, ◌/◌, ◌≤◌, ◌<◌}
use mathlib.Core.Path.{◌≡◌, refl}
use mathlib.Core.Bool.{Bool, true, false, not}
use mathlib.Core.List.{List}
use native.Mathlib.Omega.{arith}
use borrow.Author.Tests.{ltb-true, ltb-false}
use lib.Dec.{ltb}
use lib.ListN.{length, get_or, set}
use Rattle.rules.specs.Stock.{binom}
use Rattle.rules.proofs.Listed.{face}
use Rattle.laying.specs.Choice.{pick}
use Rattle.laying.specs.Enlarged.{Enlarged, InParts}
use Rattle.laying.proofs.Enlarging as enlarging
use Rattle.laying.proofs.FromRight as from_right
use Rattle.laying.proofs.FromRight.{FromRight}

pub record InPlace (kind : ℕ) (word₀ : List ℕ) (others index : ℕ) (word : List ℕ) (a b all i times : ℕ) (turned : Bool) : Type 0 where
  pub laid : FromRight kind word₀ others index word a b (i / times) turned
  pub number : Enlarged a b (i / times) all i times

module _ {kind : ℕ} {word₀ : List ℕ} {others index : ℕ} where
  in_place : {word : List ℕ} {a b all i at times : ℕ} {turned : Bool} → Enlarged a b i all at times → FromRight kind word₀ others index word a b i turned → InPlace kind word₀ others index word a b all at times turned
  in_place e s = let q = enlarging.quotient e in record { laid = rw q s; number = rw q e }

  pub start : {patterns : ℕ} → patterns ≡ binom (length word₀) others → others ≤ length word₀ → index < patterns → InPlace kind word₀ others index word₀ (length word₀) others patterns index 1 false
  start is h l = in_place (enlarging.plain (length word₀) others index _ is l) (from_right.start kind word₀ others index h (rw is at l))

  module _ {word : List ℕ} {a b all i times : ℕ} {turned : Bool} (s : InPlace kind word₀ others index word a b all i times turned) (h : b < a) where
    module _ {more in_k at larger : ℕ} (p : InParts a b (i / times) more in_k at larger) where
      on_k : at < in_k → InPlace kind word₀ others index (set word (a - 1) kind) (a - 1) b in_k (face turned (in_k - larger + 1) at) larger false
      on_k l = in_place (enlarging.on_k p l turned refl) (from_right.on_k s.laid h _ refl (enlarging.before p l) refl)

      pub block_left : in_k ≤ at → 0 < b
      block_left l = from_right.block_left s.laid h _ refl (enlarging.past p l)

      on_r : in_k ≤ at → InPlace kind word₀ others index (set word (a - 1) (get_or word (b - 1) 0)) (a - 1) (b - 1) (more - in_k) (at - in_k) larger (not turned)
      on_r l = in_place (enlarging.on_r p l (omega arith) (block_left l)) (from_right.on_r s.laid h _ refl (enlarging.past p l) refl)

      -- the next letter, K or R
      pub on : {b' block all' i' : ℕ} {turned' : Bool} → let own = ltb at in_k in b' ≡ pick own b (b - 1) → block ≡ pick own kind (get_or word b' 0) → all' ≡ pick own in_k (more - in_k)
          → i' ≡ pick own (face turned (in_k - larger + 1) at) (at - in_k) → turned' ≡ pick own false (not turned) → InPlace kind word₀ others index (set word (a - 1) block) (a - 1) b' all' i' larger turned'
      on {b'} {block} {all'} {i'} {turned'} = go (ltb at in_k) refl
        where
          go : (own : Bool) → ltb at in_k ≡ own → b' ≡ pick own b (b - 1) → block ≡ pick own kind (get_or word b' 0) → all' ≡ pick own in_k (more - in_k)
              → i' ≡ pick own (face turned (in_k - larger + 1) at) (at - in_k) → turned' ≡ pick own false (not turned) → InPlace kind word₀ others index (set word (a - 1) block) (a - 1) b' all' i' larger turned'
          go true e f g l m n = rw (g, f, l, m, n) (on_k (ltb-true at in_k e))
          go false e f g l m n = rw (g, f, l, m, n) (on_r (ltb-false at in_k e))
