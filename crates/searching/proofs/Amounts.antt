-- Proofs. How many strips of a list pass a test, beside how many pass another, and beside how many stand ahead of the first that fails.
use Prim.Native.Nat.{ℕ, zero, suc, ◌≤◌, ◌<◌, suc-le-suc}
use mathlib.Core.Path.{◌≡◌, refl, sym, ap}
use mathlib.Core.Bool.{Bool, true, false, not, cond}
use mathlib.Core.List.{List, [], ◌∷◌}
use native.Mathlib.Omega.{arith}
use lib.ListN.{length, get_or}
use Rattle.rules.specs.Book.{ahead}
use Rattle.searching.specs.Searching.{passed_over, passing}

module _ (test : List ℕ → Bool) where
  pub passing_fewer : (l : List (List ℕ)) → length (passing test l) ≤ length l
  unfolding passing
  passing_fewer [] = omega arith
  passing_fewer (s ∷ l) = go (test s) (passing_fewer l)
    where
      go : (b : Bool) → length (passing test l) ≤ length l → length (cond b (s ∷ passing test l) (passing test l)) ≤ suc (length l)
      go true h = omega arith
      go false h = omega arith

  -- the first that fails has all the others ahead of it exactly where all pass
  pub none_fails_all_pass : (l : List (List ℕ)) → passed_over (λ s. not (test s)) l ≡ length l → length (passing test l) ≡ length l
  unfolding passing passed_over
  none_fails_all_pass [] e = refl
  none_fails_all_pass (s ∷ l) e = go (test s) (none_fails_all_pass l) e
    where
      go : (b : Bool) → (passed_over (λ s. not (test s)) l ≡ length l → length (passing test l) ≡ length l) → ahead (not b) (passed_over (λ s. not (test s)) l) ≡ suc (length l)
          → length (cond b (s ∷ passing test l) (passing test l)) ≡ suc (length l)
      go true rest f = ap suc (rest (omega arith))
      go false rest f = absurd (omega arith)

  pub all_pass_none_fails : (l : List (List ℕ)) → length (passing test l) ≡ length l → passed_over (λ s. not (test s)) l ≡ length l
  unfolding passing passed_over
  all_pass_none_fails [] e = refl
  all_pass_none_fails (s ∷ l) e = go (test s) (all_pass_none_fails l) e
    where
      go : (b : Bool) → (length (passing test l) ≡ length l → passed_over (λ s. not (test s)) l ≡ length l) → length (cond b (s ∷ passing test l) (passing test l)) ≡ suc (length l)
          → ahead (not b) (passed_over (λ s. not (test s)) l) ≡ suc (length l)
      go true rest f = ap suc (rest (omega arith))
      go false rest f = absurd (omega (arith, passing_fewer l))

-- two tests
module _ (f g : List ℕ → Bool) where
  pub as_many_pass : (l : List (List ℕ)) → ((i : ℕ) → i < length l → f (get_or l i []) ≡ g (get_or l i [])) → length (passing f l) ≡ length (passing g l)
  unfolding passing
  as_many_pass [] h = refl
  as_many_pass (s ∷ l) h = rw (h 0 (omega arith)) (go (g s) (as_many_pass l (λ i k. h (suc i) (suc-le-suc k))))
    where
      go : (b : Bool) → length (passing f l) ≡ length (passing g l) → length (cond b (s ∷ passing f l) (passing f l)) ≡ length (cond b (s ∷ passing g l) (passing g l))
      go true e = ap suc e
      go false e = e

  -- the strip at one place passes only the second
  pub one_more_passes : (p : ℕ) (l : List (List ℕ)) → p < length l → f (get_or l p []) ≡ false → g (get_or l p []) ≡ true → ((i : ℕ) → i < length l → (i ≡ p → ⊥) → f (get_or l i []) ≡ g (get_or l i []))
      → length (passing g l) ≡ suc (length (passing f l))
  unfolding passing
  one_more_passes p [] h a b e = absurd (omega arith)
  one_more_passes zero (s ∷ l) h a b e = rw (a, b) (ap suc (sym (as_many_pass l (λ i k. e (suc i) (suc-le-suc k) (λ z. omega arith)))))
  one_more_passes (suc p) (s ∷ l) h a b e = rw (e 0 (omega arith) (λ z. omega arith)) (go (g s) (one_more_passes p l (omega arith) a b (λ i k n. e (suc i) (suc-le-suc k) (λ z. n (omega arith)))))
    where
      go : (b : Bool) → length (passing g l) ≡ suc (length (passing f l)) → length (cond b (s ∷ passing g l) (passing g l)) ≡ suc (length (cond b (s ∷ passing f l) (passing f l)))
      go true k = ap suc k
      go false k = k
