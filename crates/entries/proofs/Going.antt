-- Proofs. One turn of laying the strip of a number, in the loop's own terms.
use Prim.Native.Nat.{ℕ, suc, ◌+◌, ◌-◌, ◌<◌}
use mathlib.Core.Path.{◌≡◌, ◌∙◌}
use mathlib.Core.List.{List, []}
use native.Mathlib.Omega.{arith}
use lib.ListN.{length, get_or, take, set, length-set}
use lib.Seq.{get_or-take, length-take-le, take-set-lt}
use Rattle.rules.specs.Stock.{sum, total, IsStock}
use Rattle.dictionary.specs.Dictionary.{dictionary}
use Rattle.entries.specs.Picking.{Picked}
use Rattle.entries.proofs.Picks.{Laying, laying_start, laying_on, laying_end, has}

-- i blocks are laid and n are left; the array's first places say how many of each kind
pub record Going (counts strip : List ℕ) (number : ℕ) (left : List ℕ) (ways rest n i : ℕ) : Type 0 where
  pub array : length left ≡ 16
  pub laying : Laying counts strip number i (take (length counts) left) ways rest
  pub more : n + i ≡ sum counts

pub going_start : (counts strip left : List ℕ) (number ways : ℕ) → length left ≡ 16 → take (length counts) left ≡ counts → length strip ≡ sum counts → ways ≡ total counts → number < ways
    → Going counts strip number left ways number (length strip) 0
going_start counts strip left number ways a e l w b = record {
  array = a;
  laying = rw e (laying_start counts strip number ways l w b);
  more = omega arith;
}

pub going_end : (counts strip : List ℕ) (number : ℕ) (left : List ℕ) (ways rest n i : ℕ) → Going counts strip number left ways rest n i → i ≡ length strip → strip ≡ get_or (dictionary counts) number []
going_end counts strip number left ways rest n i g e = laying_end counts strip number i (take (length counts) left) ways rest g.laying (e ∙ g.laying.long)

-- one block more, of the kind that was chosen
module _ (counts strip : List ℕ) (number : ℕ) (left : List ℕ) (ways rest n i : ℕ) (stock : IsStock counts) (g : Going counts strip number left ways rest n i) (l : i < length strip)
    (kind ahead own : ℕ) (p : Picked (take (length counts) left) rest kind ahead own) where
  abbrev part : List ℕ
  part = take (length counts) left

  kind_in : kind < length counts
  kind_in = omega (arith, p.within, length-take-le (length counts) left (omega (arith, g.array, stock.few)))

  at : get_or part kind 0 ≡ get_or left kind 0
  at = get_or-take (length counts) left kind 0 kind_in

  one : (c : ℕ) × (get_or part kind 0 ≡ suc c)
  one = has counts strip number i part ways rest g.laying kind ahead own p

  pub going_on : Going counts (set strip i (kind + 1)) number (set left kind (get_or left kind 0 - 1)) own (rest - ahead) (n - 1) (i + 1)
  going_on =
      let c = one.0 in
      let f : get_or left kind 0 - 1 ≡ c = omega (arith, at, one.1) in
      let some : 0 < n = omega (arith, g.more, g.laying.long) in
      let m : sum part ≡ suc (n - 1) = omega (arith, g.laying.some, g.more, some) in
      let t : take (length counts) (set left kind c) ≡ set part kind c = take-set-lt (length counts) left kind c kind_in in
      rw f (record {
        array = length-set left kind c ∙ g.array;
        laying = rw t (laying_on counts strip number i part ways rest g.laying kind ahead own p (n - 1) m c one.1 (omega (arith, g.laying.long)));
        more = omega (arith, g.more, some);
      })
