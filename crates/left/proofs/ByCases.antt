-- Proofs. The answers of the rule from the left by the tests of the code.
use Prim.Native.Nat.{ℕ, pred, ◌+◌, ◌-◌, ◌≤◌, ◌<◌}
use mathlib.Core.Path.{◌≡◌, refl, ◌∙◌}
use mathlib.Core.Bool.{Bool, true, false, cond}
use mathlib.Core.Option.{none, some}
use mathlib.Core.List.{List, ◌∷◌}
use native.Mathlib.Numerals.{add-one, sub-one}
use native.Mathlib.Omega.{arith}
use lib.Dec.{eqb}
use lib.ListN.{length, get_or, drop}
use Rattle.std.proofs.Common.{Option}
use Rattle.rules.specs.Book.{K, R, odd, letter, pattern}
use Rattle.rules.proofs.Runs.{run, pattern_at, pattern_end}
use Rattle.rules.proofs.Moves.{gate}
use Rattle.rules.proofs.Endings.{gate_open}
use Rattle.rules.proofs.Left.{ahead, near, far}
use Rattle.moves.specs.declared.Step.{Step}
use Rattle.moves.specs.Steps.{step}

abbrev at : ℕ → ℕ → Option Step
at low high = step (some (low, high))

-- ---- ahead

module _ (j : ℕ) (s : List ℕ) (i : ℕ) where
  pub ahead_none : length s ≤ i → step none ≡ step (ahead i (drop i (pattern j s)))
  unfolding ahead
  ahead_none h = rw (pattern_end j s i h)

  begins_k : i < length s → run R (drop i (pattern j s)) ≡ 0 → drop i (pattern j s) ≡ K ∷ drop (i + 1) (pattern j s)
  begins_k h e = pattern_at j s i h ∙ go (eqb (get_or s i 0) j) (rw (pattern_at j s i h) at e)
    where
      go : (b : Bool) → run R (letter b ∷ drop (i + 1) (pattern j s)) ≡ 0 → letter b ∷ drop (i + 1) (pattern j s) ≡ K ∷ drop (i + 1) (pattern j s)
      go true e = refl
      go false e = absurd (omega arith)

  module _ (h : i < length s) (e : run R (drop i (pattern j s)) ≡ 0) (n : ℕ) (is : n ≡ run R (drop (i + 1) (pattern j s))) where
    pub ahead_odd : odd n ≡ true → at i (i + 1) ≡ step (ahead i (drop i (pattern j s)))
    unfolding ahead
    ahead_odd o = rw (begins_k h e, ← is, o, add-one i)

    pub ahead_even : odd n ≡ false → at (i - 1) i ≡ step (ahead i (drop i (pattern j s)))
    unfolding ahead
    ahead_even o = rw (begins_k h e, ← is, o, sub-one i)

-- ---- near and far: by the number n of others, two places if it is odd and two if it is even

module _ (n : ℕ) (odds evens : ℕ × ℕ) where
  abbrev by_parity : Option Step
  by_parity = step (gate n (cond (odd n) odds evens))

  gate_none : n ≡ 0 → step none ≡ by_parity
  gate_none e = rw e

  gate_odd : (n ≡ 0 → ⊥) → odd n ≡ true → step (some odds) ≡ by_parity
  gate_odd h o = rw (o, gate_open n odds (omega arith))

  gate_even : (n ≡ 0 → ⊥) → odd n ≡ false → step (some evens) ≡ by_parity
  gate_even h o = rw (o, gate_open n evens (omega arith))

module _ (x y : ℕ) where
  pub near_none : y ≡ 0 → step none ≡ step (near x y)
  unfolding near
  near_none = gate_none y (pred x, x) (0, x)

  pub near_odd : (y ≡ 0 → ⊥) → odd y ≡ true → at (x - 1) x ≡ step (near x y)
  unfolding near
  near_odd = rw (sub-one x) (gate_odd y (pred x, x) (0, x))

  pub near_even : (y ≡ 0 → ⊥) → odd y ≡ false → at 0 x ≡ step (near x y)
  unfolding near
  near_even = gate_even y (pred x, x) (0, x)

module _ (y j u : ℕ) where
  pub far_none : u ≡ 0 → step none ≡ step (far y j u)
  unfolding far
  far_none = gate_none u (pred y, pred j) (y, j)

  pub far_odd : (u ≡ 0 → ⊥) → odd u ≡ true → at (y - 1) (j - 1) ≡ step (far y j u)
  unfolding far
  far_odd = rw (sub-one y, sub-one j) (gate_odd u (pred y, pred j) (y, j))

  pub far_even : (u ≡ 0 → ⊥) → odd u ≡ false → at y j ≡ step (far y j u)
  unfolding far
  far_even = gate_even u (pred y, pred j) (y, j)

-- the laws of the three, for the functions that go by cases
pub ruleset by_cases = (ahead_none, ahead_odd, ahead_even, near_none, near_odd, near_even, far_none, far_odd, far_even)
