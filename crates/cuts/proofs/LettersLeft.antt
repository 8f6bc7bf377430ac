-- Proofs. The cuts of a kind's pattern in a word of blocks while its letters are read from the last to the first: a of them are left, and b of these are R.
use Prim.Native.Nat.{ℕ, suc, ◌-◌, ◌≤◌, ◌<◌}
use mathlib.Core.Path.{◌≡◌, sym, ap, ◌∙◌}
use mathlib.Core.Bool.{true}
use mathlib.Core.List.{List, ◌∷◌}
use native.Mathlib.Omega.{arith}
use lib.Dec.{eqb}
use lib.ListN.{length, get_or, take}
use lib.Seq.{take_all}
use Rattle.rules.specs.Book.{K, R, letter, pattern}
use Rattle.rules.proofs.Patterns.{count_r}
use Rattle.rules.proofs.Index.{rests, rests_turned, pattern_reverse}
use Rattle.rules.proofs.LettersLeft.{letters_left, left_long, left_letter, left_k, left_r}
use Rattle.cuts.specs.Cuts.{has_both, cuts_from_end, cuts}
use Rattle.cuts.proofs.Words.{both, no_r, no_k, uncut, one_off, two_off}

-- the cuts that are left
abbrev pub cuts_left : ℕ → List ℕ → ℕ → ℕ
cuts_left j w a = cuts_from_end (letters_left j w a)

-- at the start all of them are
pub cuts_whole : (j : ℕ) (w : List ℕ) → cuts (pattern j w) ≡ cuts_left j w (length w)
unfolding cuts
cuts_whole j w = rw (take_all (length w) w (omega arith)) (ap cuts_from_end (pattern_reverse j w))

module _ (j : ℕ) (w : List ℕ) (a b : ℕ) (l : a ≤ length w) (is : b ≡ rests j (take a w)) where
  rest : count_r (letters_left j w a) ≡ b
  rest = sym (is ∙ rests_turned j (take a w))

  long : length (letters_left j w a) ≡ a
  long = left_long j w a l

  -- where only K is left, or only R, none is
  pub none_k : b ≡ 0 → cuts_left j w a ≡ 0
  none_k e = uncut (letters_left j w a) (no_r (letters_left j w a) (rest ∙ e))

  pub none_r : a ≤ b → cuts_left j w a ≡ 0
  none_r h = uncut (letters_left j w a) (no_k (letters_left j w a) (omega (arith, long, rest)))

  module _ (h : 0 < b) (m : b < a) where
    mixed : has_both (letters_left j w a) ≡ true
    mixed = both (letters_left j w a) (omega (arith, rest)) (omega (arith, rest, long))

    pub cut_k : get_or w (a - 1) 0 ≡ j → cuts_left j w a ≡ suc (cuts_left j w (a - 1))
    cut_k k =
        let e : a ≡ suc (a - 1) = omega arith in
        let f : letters_left j w a ≡ K ∷ letters_left j w (a - 1) = ap (letters_left j w) e ∙ left_k j w (a - 1) (omega (arith, l)) k in
        ap cuts_from_end f ∙ one_off (letters_left j w (a - 1)) (rw f at mixed)

    pub cut_r : (get_or w (a - 1) 0 ≡ j → ⊥) → cuts_left j w a ≡ suc (cuts_left j w (a - 2))
    cut_r k =
        let v = letters_left j w (a - 2) in
        let x = letter (eqb (get_or w (a - 2) 0) j) in
        let e : a ≡ suc (a - 1) = omega arith in
        let d : a - 1 ≡ suc (a - 2) = omega arith in
        let f : letters_left j w a ≡ R ∷ x ∷ v = ap (letters_left j w) e ∙ left_r j w (a - 1) (omega (arith, l)) k ∙ ap (λ (n : ℕ). R ∷ letters_left j w n) d ∙ ap (◌∷◌ R) (left_letter j w (a - 2) (omega (arith, l))) in
        ap cuts_from_end f ∙ two_off x v (rw f at mixed)
