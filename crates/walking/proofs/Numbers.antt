-- Proofs. Numbers in a direction: what the two definitions of it come to. Of the laws of this crate only these go by cases of it.
use Prim.Native.Nat.{ℕ, ◌+◌, ◌-◌, ◌≤◌, ◌<◌}
use mathlib.Core.Path.{◌≡◌}
use mathlib.Core.Bool.{Bool, true, false, not}
use native.Mathlib.Omega.{arith}
use Rattle.rules.proofs.Moves.{Onward, Final}
use Rattle.walking.specs.Answers.{shifted, ahead}

pub shifted_none : (d : Bool) (i : ℕ) → shifted d i 0 ≡ i
shifted_none false i = omega arith
shifted_none true i = omega arith

pub shifted_further : (d : Bool) (i m k : ℕ) → shifted d (shifted d i m) k ≡ shifted d i (m + k)
shifted_further false i m k = omega arith
shifted_further true i m k = omega arith

pub ahead_further : (d : Bool) (n i m : ℕ) → ahead d n (shifted d i m) ≡ ahead d n i - m
ahead_further false n i m = omega arith
ahead_further true n i m = omega arith

-- in the terms of the rules: nothing is ahead of the last number, and what is beside is the number before or after
pub none_ahead : (d : Bool) (n i : ℕ) → i < n → ahead d n i ≡ 0 → Final d n i
none_ahead false n i l e = omega arith
none_ahead true n i l e = e

pub some_ahead : (d : Bool) (n i : ℕ) → 0 < ahead d n i → Onward d i (shifted d i 1)
some_ahead false n i l = omega arith
some_ahead true n i l = omega arith

-- of n numbers, m of which are ahead of number i
module _ (n i m : ℕ) (l : i < n) where
  pub shifted_below : (d : Bool) → m ≤ ahead d n i → shifted d i m < n
  shifted_below false h = omega arith
  shifted_below true h = omega arith

  -- the other way from there
  pub ahead_back : (d : Bool) → m ≤ ahead d n i → m ≤ ahead (not d) n (shifted d i m)
  ahead_back false h = omega arith
  ahead_back true h = omega arith

  pub shifted_back : (d : Bool) → m ≤ ahead d n i → (k : ℕ) → k ≤ m → shifted (not d) (shifted d i m) k ≡ shifted d i (m - k)
  shifted_back false h k j = omega arith
  shifted_back true h k j = omega arith
