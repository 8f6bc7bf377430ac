-- Proofs. The difference of two numbers over the integers, by which of them is larger: refusal 14, or the difference.
use Prim.Native.Nat.{ℕ, zero, suc, ◌+◌, ◌-◌, ◌^◌, ◌≤◌, ◌<◌}
use mathlib.Core.Path.{◌≡◌, refl, ap}
use mathlib.Core.Bool.{Bool, true, false, ◌||◌}
use mathlib.Core.List.{[]}
use native.Mathlib.Decide.{dec_lt}
use native.Mathlib.Omega.{arith}
use lib.Dec.{ltb, leb}
use lib.IntN.{ℤ, pos, negsuc, ◌-ℤ◌}
use borrow.Author.Tests.{lt-ltb, le-ltb, le-leb, lt-leb}
use mir.Syntax.{w64, w128}
use mir.Val.{to_z, of_z, SFits}
use mir.ValLaws.{to_z-of_z}
use Rattle.rules.specs.Refusals.{No, fine, far_no}
use Rattle.rules.proofs.Refusals.{answer_row, answer_last}
use Rattle.std.specs.Prelude.{Result, Ok, Err}
use Rattle.std.specs.Result.{OkIff, result_or}
use Rattle.stock.specs.declared.refused.Reason.TheVariants.{Far}
use Rattle.stock.specs.Refused.{answered}
use Rattle.measuring.specs.Answers.{as_apart, between}

up : (a b : ℕ) → b ≤ a → pos a -ℤ pos b ≡ pos (a - b)
up a zero h = ap pos (omega arith)
up a (suc b) h = rw (le-ltb a (suc b) h)

down : (a b : ℕ) → a < b → pos a -ℤ pos b ≡ negsuc (b - a - 1)
down a zero h = absurd (omega arith)
down a (suc b) h = rw (lt-ltb a (suc b) h) (ap negsuc (omega arith))

module _ (from to : ℕ) where
  near : from ≤ to + 2 ^ 63 → to < from + 2 ^ 63 → far_no from to ≡ fine
  near h k = rw (le-ltb (to + 2 ^ 63) from h, lt-leb (from + 2 ^ 63) to k)

  far_up : from + 2 ^ 63 ≤ to → far_no from to ≡ (14, 0)
  far_up h = rw (le-ltb (to + 2 ^ 63) from (omega arith), le-leb (from + 2 ^ 63) to h)

  far_down : to + 2 ^ 63 < from → far_no from to ≡ (14, 0)
  far_down h = rw (lt-ltb (to + 2 ^ 63) from h)

  -- 14 is refused exactly where no signed 64-bit number is the difference
  pub far_fits : (far_no from to).0 ≡ 0 → SFits w64 (pos to -ℤ pos from)
  far_fits h = elim (dec_lt to from) [
    | yes l ↦ rw (down to from l) (record { sfits = elim (dec_lt (to + 2 ^ 63) from) [ yes f ↦ absurd (omega (arith, ap (λ (r : No). r.0) (far_down f))) | no f ↦ omega arith ] })
    | no l ↦ rw (up to from (omega arith)) (record { sfits = elim (dec_lt to (from + 2 ^ 63)) [ yes f ↦ omega arith | no f ↦ absurd (omega (arith, ap (λ (r : No). r.0) (far_up (omega arith)))) ] })
  ]

  pub fits_near : SFits w64 (pos to -ℤ pos from) → far_no from to ≡ fine
  fits_near h = elim (dec_lt to from) [
    | yes l ↦ let k : from - to - 1 < 2 ^ 63 = (rw (down to from l) at h).sfits in near (omega arith) (omega arith)
    | no l ↦ let k : to - from < 2 ^ 63 = (rw (up to from (omega arith)) at h).sfits in near (omega arith) (omega arith)
  ]

  -- ---- as code works it out, in 128 bits

  module _ (f : from < 2 ^ 64) (t : to < 2 ^ 64) where
    abbrev d : ℤ
    d = pos to -ℤ pos from

    wide : (n : ℕ) → n < 2 ^ 64 → to_z w128 (of_z w128 (pos n)) ≡ pos n
    wide n h = to_z-of_z w128 (pos n) (record { sfits = omega arith })

    pub d_fits : SFits w128 d
    d_fits = elim (dec_lt to from) [
      | yes l ↦ rw (down to from l) (record { sfits = omega arith })
      | no l ↦ rw (up to from (omega arith)) (record { sfits = omega arith })
    ]

    pub d_is : to_z w128 (of_z w128 (to_z w128 (of_z w128 (pos to)) -ℤ to_z w128 (of_z w128 (pos from)))) ≡ d
    d_is = rw (wide to t, wide from f) (to_z-of_z w128 d d_fits)

    not_far : (SFits w64 d → ⊥) → far_no from to ≡ (14, 0)
    not_far h = go (ltb (to + 2 ^ 63) from || leb (from + 2 ^ 63) to) refl
      where
        go : (b : Bool) → (ltb (to + 2 ^ 63) from || leb (from + 2 ^ 63) to) ≡ b → far_no from to ≡ (14, 0)
        go true e = rw e
        go false e = absurd (h (far_fits (rw e refl)))

    pub moved : {E : Type 0} (x : Result ℤ E) → OkIff x (SFits w64 d) d → answered as_apart (pos 0) (result_or x (Err (record { reason = Far; place = 0 }))) ≡ between from to
    moved (Ok z) h = rw h.1 (answer_last as_apart (pos 0) d (far_no from to) (fits_near h.0))
    moved (Err e) h = answer_row as_apart (pos 0) d 13 0 (far_no from to) [] (not_far h)
