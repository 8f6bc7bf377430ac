-- Proofs. Whether some strip of a list passes a test.
use Prim.Native.Nat.{ℕ, zero, suc, ◌<◌}
use mathlib.Core.Path.{◌≡◌, refl, sym}
use mathlib.Core.Bool.{Bool, true, false, false≢true, or-true, or_assoc, ◌||◌}
use mathlib.Core.List.{List, [], ◌∷◌, ◌++◌}
use native.Mathlib.Omega.{arith}
use lib.ListN.{length, get_or}
use Rattle.searching.specs.Searching.{some}

module _ (test : List ℕ → Bool) where
  pub some_hit : (l : List (List ℕ)) (i : ℕ) → i < length l → test (get_or l i []) ≡ true → some test l ≡ true
  unfolding some
  some_hit [] i h e = absurd (omega arith)
  some_hit (s ∷ l) zero h e = rw e
  some_hit (s ∷ l) (suc i) h e = rw (some_hit l i (omega arith) e, or-true (test s))

  pub some_none : (l : List (List ℕ)) → ((i : ℕ) → i < length l → test (get_or l i []) ≡ false) → some test l ≡ false
  unfolding some
  some_none [] h = refl
  some_none (s ∷ l) h = rw (h 0 (omega arith), some_none l (λ i k. h (suc i) (omega arith)))

  pub some_where : (l : List (List ℕ)) → some test l ≡ true → (i : ℕ) × (i < length l) × (test (get_or l i []) ≡ true)
  unfolding some
  some_where [] h = absurd (false≢true h)
  some_where (s ∷ l) h = go (test s) refl h (some_where l)
    where
      go : (b : Bool) → test s ≡ b → b || some test l ≡ true → (some test l ≡ true → (i : ℕ) × (i < length l) × (test (get_or l i []) ≡ true))
          → (i : ℕ) × (i < suc (length l)) × (test (get_or (s ∷ l) i []) ≡ true)
      go true e k rest = (0, omega arith, e)
      go false e k rest = let w = rest k in (suc w.0, omega (arith, w.1), w.2)

  pub some_append : (l m : List (List ℕ)) → some test (l ++ m) ≡ some test l || some test m
  unfolding some
  some_append [] m = refl
  some_append (s ∷ l) m = rw (some_append l m) (sym (or_assoc (test s) (some test l) (some test m)))
