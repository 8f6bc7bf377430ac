-- Proofs. A kind's pattern in a word of blocks while its letters are read from the last to the first: a of them are left.
use Prim.Native.Nat.{ℕ, suc, ◌≤◌, ◌<◌}
use mathlib.Core.Path.{◌≡◌, ◌∙◌}
use mathlib.Core.Bool.{false}
use mathlib.Core.List.{List, ◌∷◌, reverse}
use native.Mathlib.Omega.{arith}
use borrow.Author.Tests.{eq-eqb, ne_eqb}
use lib.Dec.{eqb}
use lib.ListN.{length, get_or, take}
use lib.Seq.{take_all, length-take-le}
use Rattle.rules.specs.Book.{K, R, Word, letter, pattern}
use Rattle.rules.proofs.Patterns.{rank}
use Rattle.rules.proofs.Last.{reverse_take}
use Rattle.rules.proofs.Index.{index, index_turned, length_turned}

-- the letters that are left, last letter first
abbrev pub letters_left : ℕ → List ℕ → ℕ → Word
letters_left j w a = pattern j (reverse (take a w))

-- at the start all of them are
pub left_whole : (j : ℕ) (w : List ℕ) → index j w ≡ rank false (letters_left j w (length w))
left_whole j w = rw (take_all (length w) w (omega arith)) (index_turned j w)

module _ (j : ℕ) (w : List ℕ) (a : ℕ) where
  pub left_long : a ≤ length w → length (letters_left j w a) ≡ a
  left_long l = length_turned j (take a w) ∙ length-take-le a w l

  module _ (h : a < length w) where
    pub left_letter : letters_left j w (suc a) ≡ letter (eqb (get_or w a 0) j) ∷ letters_left j w a
    unfolding pattern
    left_letter = rw (reverse_take w a 0 h)

    pub left_k : get_or w a 0 ≡ j → letters_left j w (suc a) ≡ K ∷ letters_left j w a
    left_k k = rw (left_letter, eq-eqb _ j k)

    pub left_r : (get_or w a 0 ≡ j → ⊥) → letters_left j w (suc a) ≡ R ∷ letters_left j w a
    left_r k = rw (left_letter, ne_eqb _ j k)
