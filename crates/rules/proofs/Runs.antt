-- Proofs. The runs of equal letters at the left of a word.
use Prim.Native.Nat.{ℕ, zero, suc, ◌+◌, ◌≤◌, ◌<◌}
use mathlib.Core.Path.{◌≡◌, refl}
use mathlib.Core.Bool.{Bool, true, false, not}
use mathlib.Core.List.{List, [], ◌∷◌}
use native.Mathlib.Numerals.{add-one}
use native.Mathlib.Omega.{arith}
use lib.Dec.{eqb}
use lib.ListN.{length, get_or, drop, drop_of_length-le}
use Rattle.rules.specs.Book.{Letter, K, R, Word, letter, pattern}
use Rattle.rules.proofs.Patterns.{count_r}
use Rattle.rules.proofs.Books.{length_pattern}

-- how many letters x a word begins with
abbrev pub run : Letter → Word → ℕ
run K [] = 0
run K (K ∷ w) = suc (run K w)
run K (R ∷ w) = 0
run R [] = 0
run R (K ∷ w) = 0
run R (R ∷ w) = suc (run R w)

-- the word after them
abbrev pub past : Letter → Word → Word
past x w = drop (run x w) w

-- behind a whole run its letter does not stand
pub run_whole : (x : Letter) (w : Word) → run x (past x w) ≡ 0
run_whole K [] = refl
run_whole K (K ∷ w) = run_whole K w
run_whole K (R ∷ w) = refl
run_whole R [] = refl
run_whole R (K ∷ w) = refl
run_whole R (R ∷ w) = run_whole R w

-- a word that has letters begins with a run
pub run_begins : (w : Word) → 0 < length w → 0 < run K w + run R (past K w)
run_begins [] h = absurd (omega arith)
run_begins (K ∷ w) h = omega arith
run_begins (R ∷ w) h = omega arith

-- ---- the letters R, without those of a run

pub past_k_count_r : (w : Word) → count_r w ≡ count_r (past K w)
past_k_count_r [] = refl
past_k_count_r (K ∷ w) = past_k_count_r w
past_k_count_r (R ∷ w) = refl

pub past_r_count_r : (w : Word) → count_r w ≡ run R w + count_r (past R w)
past_r_count_r [] = refl
past_r_count_r (K ∷ w) = omega arith
past_r_count_r (R ∷ w) = omega (arith, past_r_count_r w)

-- ---- the runs of a kind's pattern, read off its word of blocks

module _ (j : ℕ) (s : List ℕ) (i : ℕ) where
  pub pattern_at : i < length s → drop i (pattern j s) ≡ letter (eqb (get_or s i 0) j) ∷ drop (i + 1) (pattern j s)
  unfolding pattern
  pattern_at h = rw (add-one i) (go i s h)
    where
      go : (i : ℕ) (s : List ℕ) → i < length s → drop i (pattern j s) ≡ letter (eqb (get_or s i 0) j) ∷ drop (suc i) (pattern j s)
      go i [] h = absurd (omega arith)
      go zero (x ∷ s) h = refl
      go (suc i) (x ∷ s) h = go i s (omega arith)

  pub pattern_end : length s ≤ i → drop i (pattern j s) ≡ []
  pattern_end h = drop_of_length-le (pattern j s) {i = i} (rw (length_pattern j s) h)

  -- a run of the kind (at true) or of others goes on, or stops, at a block
  pub run_on : (own : Bool) → i < length s → eqb (get_or s i 0) j ≡ own → run (letter own) (drop i (pattern j s)) ≡ suc (run (letter own) (drop (i + 1) (pattern j s)))
  run_on true h e = rw (pattern_at h, e)
  run_on false h e = rw (pattern_at h, e)

  pub run_stops : (own : Bool) → i < length s → eqb (get_or s i 0) j ≡ not own → run (letter own) (drop i (pattern j s)) ≡ 0
  run_stops true h e = rw (pattern_at h, e)
  run_stops false h e = rw (pattern_at h, e)

  pub run_ends : (own : Bool) → length s ≤ i → run (letter own) (drop i (pattern j s)) ≡ 0
  run_ends true h = rw (pattern_end h)
  run_ends false h = rw (pattern_end h)
