-- Proofs. A loop that searches: so many strips of the list are passed, and fail. How it ends, and how it goes on.
use Prim.Native.Nat.{ℕ, ◌+◌, ◌≤◌, ◌<◌}
use mathlib.Core.Path.{◌≡◌, refl, sym, ◌∙◌}
use mathlib.Core.Bool.{Bool, true, false}
use mathlib.Core.List.{List, []}
use native.Mathlib.Decide.{ℕ_discrete}
use native.Mathlib.Omega.{arith}
use lib.ListN.{length, get_or}
use Rattle.searching.specs.Searching.{found_or}
use Rattle.searching.specs.Sought.{Sought}
use Rattle.searching.specs.Ended.{number_of}
use Rattle.searching.specs.declared.Outcome.{Outcome}
use Rattle.searching.specs.declared.Outcome.TheVariants.{Found, NoneLeft, Stopped}
use Rattle.searching.proofs.First.{Fail}
use Rattle.searching.proofs.Theorems.{found_is, none_left_is, stopped_is, not_found}

module _ (test : List ℕ → Bool) (l : List (List ℕ)) where
  -- one strip more fails
  pub fail_on : (m : ℕ) → Fail test l m → test (get_or l m []) ≡ false → Fail test l (m + 1)
  fail_on m f n i k = elim (ℕ_discrete i m) [ yes e ↦ rw e n | no e ↦ f i (omega arith) ]

  module _ (given : ℕ) (s : List ℕ) (m : ℕ) (f : Fail test l m) (t : List ℕ) where
    -- there is no strip more
    pub sought_none : length l ≡ m → m ≤ given → Sought test l given s 2 m t
    sought_none all few =
        let q = none_left_is test l given (record { reach = omega arith; none = λ i k. f i (omega arith) }) in
        record { outcome_is = sym q.0; steps_are = sym all ∙ sym q.1; strip_is = λ z. absurd (omega arith) }

    -- there is one, and no step more
    pub sought_stopped : m < length l → m ≡ given → Sought test l given s 3 m t
    sought_stopped more e =
        let q = stopped_is test l given (record { short = omega arith; none = λ i k. f i (omega arith) }) in
        record { outcome_is = sym q.0; steps_are = e ∙ sym q.1; strip_is = λ z. absurd (omega arith) }

    -- the next one is t, and passes
    pub sought_found : m < length l → m < given → t ≡ get_or l m [] → test t ≡ true → Sought test l given s 1 (m + 1) t
    sought_found more few is passes =
        let q = found_is test l given m (record { within = more; enough = omega arith; passes = rw (← is) passes; first = f }) in
        record { outcome_is = sym q.0; steps_are = omega (arith, q.1); strip_is = λ z. is ∙ sym (q.2 s) }

-- ---- a call that lends the loop a copy of the strip s

module _ (test : List ℕ → Bool) (l : List (List ℕ)) (given : ℕ) (s : List ℕ) (end steps : ℕ) (t : List ℕ) (q : Sought test l given s end steps t) where
  -- where none is found, the strip stays
  pub sought_kept : (end ≡ 1 → ⊥) → s ≡ found_or test l given s
  sought_kept n = sym (not_found test l given (λ o. n (q.outcome_is ∙ o)) s)

-- an outcome that is numbered 1 is found
pub found_one : (o : Outcome) → number_of o ≡ 1 → o ≡ Found
found_one Found e = refl
found_one NoneLeft e = absurd (omega arith)
found_one Stopped e = absurd (omega arith)
