-- Proofs. A strip copied over the start of a word, a strip that stands there, and the zeros behind it.
use Prim.Native.Nat.{ℕ, ◌-◌, ◌≤◌}
use mathlib.Core.Path.{◌≡◌, refl, ap, ◌∙◌}
use mathlib.Core.List.{List, ◌++◌, append-nil}
use native.Mathlib.Omega.{arith}
use lib.ListN.{length, take, drop, replicate, length-append, length-replicate, drop_of_length-le}
use lib.Seq.{take_at}
use Rattle.std.proofs.lemmas.List.{drop-replicate}

-- ---- a copy

-- what a copy leaves
abbrev pub copied_over : List ℕ → List ℕ → List ℕ
copied_over s d = s ++ drop (length s) d

-- over a strip of the same length
pub copy_whole : (s d w : List ℕ) → w ≡ copied_over s d → length s ≡ length d → w ≡ s
copy_whole s d w e h = e ∙ rw (drop_of_length-le d {i = length s} (omega arith)) (append-nil s)

-- ---- zeros behind it

-- over zeros
pub copy_zeros : (n : ℕ) (s w : List ℕ) → w ≡ copied_over s (replicate n 0) → w ≡ s ++ replicate (n - length s) 0
copy_zeros n s w e = e ∙ rw (drop-replicate {X = ℕ} (length s) n 0)

module _ (n : ℕ) (s w : List ℕ) (e : w ≡ s ++ replicate (n - length s) 0) where
  pub copy_length : length s ≤ n → length w ≡ n
  copy_length h = ap length e ∙ length-append s (replicate (n - length s) 0) ∙ rw (length-replicate {A = ℕ} (n - length s) 0) (omega arith)

  pub copy_start : take (length s) w ≡ s
  copy_start = rw e (take_at s (replicate (n - length s) 0) (length s) refl)

-- ---- a strip at the start of a word

module _ (n : ℕ) (t rest : List ℕ) (l : length t ≡ n) where
  pub room : n ≤ length (t ++ rest)
  room = omega (arith, length-append t rest)

  pub start : take n (t ++ rest) ≡ t
  start = take_at t rest n l

  pub start_fits : length (take n (t ++ rest)) ≤ n
  start_fits = omega (arith, ap length start)
