-- Proofs. Moving on and back from a word of blocks, by the blocks at its end: K, K R or R R. Each law serves both directions, in the terms of code
-- that knows the number b of letters R.
use Prim.Native.Nat.{ℕ, zero, suc, pred, ◌-◌, ◌≤◌, ◌<◌}
use mathlib.Core.Path.{◌≡◌, refl, sym, ap, ◌∙◌}
use mathlib.Core.Bool.{Bool, true, false, not}
use mathlib.Core.Option.{Option, none, some}
use mathlib.Core.List.{List, ◌∷◌, reverse}
use native.Mathlib.Omega.{arith}
use borrow.Author.Tests.{eq-eqb, ne_eqb}
use lib.ListN.{length, get_or, take}
use lib.Seq.{length-take-le}
use Rattle.rules.specs.Stock.{binom}
use Rattle.rules.specs.Book.{K, R, Word, pattern}
use Rattle.rules.proofs.Turned.{binom_zero}
use Rattle.rules.proofs.Patterns.{count_r, IsWord, listed_e, binom_self}
use Rattle.rules.proofs.Moves.{count_k, gate, or_else, or_else_none, move, move_e, ResultE, e_move, count_both, on_k, back_k, on_kr, back_kr, on_rr, back_rr}
use Rattle.rules.proofs.Books.{length_pattern}
use Rattle.rules.proofs.Last.{rev_one, rev_two}
use Rattle.rules.proofs.Index.{rests, rests_k, rests_turned, pattern_reverse, length_turned, in_kr_word, in_rr_word}

-- ---- the places to exchange where one part of the rule's list meets the part beside it, in words of a letters with b letters R

-- after the words that end in K comes the first that ends in K R
abbrev pub seam_of_k : Bool → ℕ → Option (ℕ × ℕ)
seam_of_k false a = some (a - 2, a - 1)
seam_of_k true a = none

-- after those that end in K R comes the first that ends in R R, if there is one; before them stands the last that ends in K
abbrev pub seam_of_kr : Bool → ℕ → ℕ → Option (ℕ × ℕ)
seam_of_kr false a b = gate (b - 1) (b - 1 - 1, a - 2)
seam_of_kr true a b = some (a - 2, a - 1)

-- before those that end in R R stands the last that ends in K R
abbrev pub seam_of_rr : Bool → ℕ → ℕ → Option (ℕ × ℕ)
seam_of_rr false a b = none
seam_of_rr true a b = some (b - 1 - 1, a - 2)

pub gate_open : (n : ℕ) (pq : ℕ × ℕ) → 0 < n → gate n pq ≡ some pq
gate_open zero pq h = absurd (omega arith)
gate_open (suc n) pq h = refl

-- ---- a word with no R, or no K, stands alone in its list

alone : (d : Bool) (a b : ℕ) (w : Word) → IsWord a b w → binom a b ≡ 1 → (o : Option (ℕ × ℕ)) → ResultE d a b w o → o ≡ none
alone d a b w h e none m = refl
alone false a b w h e (some pq) m = absurd (omega (arith, m.onward, (listed_e a b).below m.next m.word))
alone true a b w h e (some pq) m = absurd (omega (arith, m.onward, (listed_e a b).below w h))

module _ (j : ℕ) (w : List ℕ) where
  is_word : IsWord (length w) (rests j w) (pattern j w)
  unfolding rests
  is_word = (length_pattern j w, refl)

  move_alone : (d : Bool) → binom (length w) (rests j w) ≡ 1 → move_e d (pattern j w) ≡ none
  move_alone d e = alone d (length w) (rests j w) (pattern j w) is_word e (move_e d (pattern j w)) (e_move (length w) (rests j w) (pattern j w) is_word d)

  pub move_no_rest : (d : Bool) → rests j w ≡ 0 → move_e d (pattern j w) ≡ none
  move_no_rest d e = move_alone d (rw e (binom_zero (length w)))

  pub move_all_rest : (d : Bool) → rests j w ≡ length w → move_e d (pattern j w) ≡ none
  move_all_rest d e = move_alone d (rw e (binom_self (length w)))

  turned : (d : Bool) → move_e d (pattern j w) ≡ move d false (pattern j (reverse w))
  unfolding move_e
  turned d = ap (move d false) (pattern_reverse j w)

-- ---- a word with both, by its end

-- b of the letters of w are R, and neither none nor all
pub record Both (j : ℕ) (w : List ℕ) (b : ℕ) : Type 0 where
  pub is : b ≡ rests j w
  pub some_r : 0 < b
  pub some_k : b < length w

module _ {j : ℕ} {w : List ℕ} {b : ℕ} (h : Both j w b) where
  module _ (k : get_or w (length w - 1) 0 ≡ j) where
    abbrev v : List ℕ
    v = take (length w - 1) w

    -- the shorter word, last letter first
    abbrev p : Word
    p = pattern j (reverse v)

    pub rest_k : b ≡ rests j v
    rest_k = h.is ∙ sym (rests_k j w (omega arith) k)

    others_k : count_r p ≡ b
    others_k = sym (rest_k ∙ rests_turned j v)

    letters_k : length p ≡ length w - 1
    letters_k = length_turned j v ∙ length-take-le (length w - 1) w (omega arith)

    last_k : (d : Bool) → move d false (K ∷ p) ≡ or_else (move d false p) (seam_of_k d (length w))
    last_k false =
        let e : pred (length w - 1) ≡ length w - 2 = omega arith in
        on_k p ∙ rw (others_k, letters_k, gate_open b (pred (length w - 1), length w - 1) h.some_r, e)
    last_k true = back_k p ∙ sym (or_else_none (move true false p))

    pub move_k : (d : Bool) → move_e d (pattern j w) ≡ or_else (move_e d (pattern j v)) (seam_of_k d (length w))
    unfolding pattern
    move_k d = rw (turned j w d, turned j v d, rev_one w (omega arith), eq-eqb _ j k) (last_k d)

  module _ (r : get_or w (length w - 1) 0 ≡ j → ⊥) where
    abbrev u : List ℕ
    u = take (length w - 2) w

    abbrev q : Word
    q = pattern j (reverse u)

    letters : length q ≡ length w - 2
    letters = length_turned j u ∙ length-take-le (length w - 2) w (omega arith)

    module _ (k : get_or w (length w - 2) 0 ≡ j) where
      pub rest_kr : b - 1 ≡ rests j u
      rest_kr = (in_kr_word j w b h.is (omega arith) r k).rest

      others_kr : count_r q ≡ b - 1
      others_kr = sym (rest_kr ∙ rests_turned j u)

      last_kr : (d : Bool) → move d false (R ∷ K ∷ q) ≡ or_else (move (not d) false q) (seam_of_kr d (length w) b)
      last_kr false =
          let e : pred (b - 1) ≡ b - 1 - 1 = omega arith in
          on_kr q ∙ rw (others_kr, letters, e)
      last_kr true =
          let e : suc (length w - 2) ≡ length w - 1 = omega arith in
          back_kr q ∙ rw (letters, e)

      pub move_kr : (d : Bool) → move_e d (pattern j w) ≡ or_else (move_e (not d) (pattern j u)) (seam_of_kr d (length w) b)
      unfolding pattern
      move_kr d = rw (turned j w d, turned j u (not d), rev_two w (omega arith), ne_eqb _ j r, eq-eqb _ j k) (last_kr d)

    module _ (k : get_or w (length w - 2) 0 ≡ j → ⊥) where
      pub more_rr : 1 ≤ b - 1
      more_rr = omega (arith, (in_rr_word j w b h.is (omega arith) r k).more)

      pub rest_rr : b - 1 - 1 ≡ rests j u
      rest_rr = (in_rr_word j w b h.is (omega arith) r k).rest

      others_rr : count_r q ≡ b - 1 - 1
      others_rr = sym (rest_rr ∙ rests_turned j u)

      last_rr : (d : Bool) → move d false (R ∷ R ∷ q) ≡ or_else (move d false q) (seam_of_rr d (length w) b)
      last_rr false = on_rr q ∙ sym (or_else_none (move false false q))
      last_rr true =
          let e : 0 < count_k q = omega (arith, count_both q, letters, others_rr, more_rr) in
          back_rr q ∙ rw (gate_open (count_k q) (count_r q, length q) e, letters, others_rr)

      pub move_rr : (d : Bool) → move_e d (pattern j w) ≡ or_else (move_e d (pattern j u)) (seam_of_rr d (length w) b)
      unfolding pattern
      move_rr d = rw (turned j w d, turned j u d, rev_two w (omega arith), ne_eqb _ j r, ne_eqb _ j k) (last_rr d)
