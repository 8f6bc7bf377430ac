-- Proofs. The first strip of a list that passes a test.
use Prim.Native.Nat.{ℕ, zero, suc, ◌≤◌, ◌<◌}
use mathlib.Core.Path.{◌≡◌, refl}
use mathlib.Core.Bool.{Bool, true, false}
use mathlib.Core.List.{List, [], ◌∷◌}
use native.Mathlib.Omega.{arith}
use lib.ListN.{length, get_or}
use Rattle.rules.specs.Book.{ahead}
use Rattle.searching.specs.Searching.{passed_over}

module _ (test : List ℕ → Bool) where
  -- so many strips at the front of a list fail
  abbrev pub Fail : List (List ℕ) → ℕ → Type 0
  Fail l m = (i : ℕ) → i < m → test (get_or l i []) ≡ false

  pub passed_over_within : (l : List (List ℕ)) → passed_over test l ≤ length l
  unfolding passed_over
  passed_over_within [] = omega arith
  passed_over_within (s ∷ l) = go (test s) (passed_over_within l)
    where
      go : (b : Bool) → passed_over test l ≤ length l → ahead b (passed_over test l) ≤ suc (length l)
      go true h = omega arith
      go false h = omega arith

  -- all that are passed over fail
  pub passed_over_fail : (l : List (List ℕ)) → Fail l (passed_over test l)
  unfolding passed_over
  passed_over_fail [] i h = absurd (omega arith)
  passed_over_fail (s ∷ l) i h = go (test s) refl (passed_over_fail l) i h
    where
      go : (b : Bool) → test s ≡ b → Fail l (passed_over test l) → (i : ℕ) → i < ahead b (passed_over test l) → test (get_or (s ∷ l) i []) ≡ false
      go true e rest i h = absurd (omega arith)
      go false e rest zero h = e
      go false e rest (suc i) h = rest i (omega arith)

  -- and the next one, if the list has it, passes
  pub passed_over_passes : (l : List (List ℕ)) → passed_over test l < length l → test (get_or l (passed_over test l) []) ≡ true
  unfolding passed_over
  passed_over_passes [] h = absurd (omega arith)
  passed_over_passes (s ∷ l) h = go (test s) refl (passed_over_passes l) h
    where
      go : (b : Bool) → test s ≡ b → (passed_over test l < length l → test (get_or l (passed_over test l) []) ≡ true) → ahead b (passed_over test l) < suc (length l)
          → test (get_or (s ∷ l) (ahead b (passed_over test l)) []) ≡ true
      go true e rest h = e
      go false e rest h = rest (omega arith)

  -- so many strips at the front fail: at least they are passed over
  pub fail_passed_over : (m : ℕ) (l : List (List ℕ)) → m ≤ length l → Fail l m → m ≤ passed_over test l
  unfolding passed_over
  fail_passed_over zero l h f = omega arith
  fail_passed_over (suc m) [] h f = absurd (omega arith)
  fail_passed_over (suc m) (s ∷ l) h f = rw (f 0 (omega arith)) (omega (arith, fail_passed_over m l (omega arith) (λ i k. f (suc i) (omega arith))))

  -- and no more, where the next one passes
  pub passes_passed_over : (m : ℕ) (l : List (List ℕ)) → m < length l → test (get_or l m []) ≡ true → passed_over test l ≤ m
  unfolding passed_over
  passes_passed_over m [] h e = absurd (omega arith)
  passes_passed_over zero (s ∷ l) h e = rw e (omega arith)
  passes_passed_over (suc m) (s ∷ l) h e = go (test s) (passes_passed_over m l (omega arith) e)
    where
      go : (b : Bool) → passed_over test l ≤ m → ahead b (passed_over test l) ≤ suc m
      go true k = omega arith
      go false k = omega arith
