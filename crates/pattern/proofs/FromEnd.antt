-- Proofs. The parity of an index while the word is read from its end: a word v is left with b letters R.
use Prim.Native.Nat.{ℕ, suc, ◌+◌, ◌-◌, ◌≤◌, ◌<◌}
use mathlib.Core.Path.{◌≡◌, refl, sym, ap, ◌∙◌}
use mathlib.Core.Bool.{Bool, true, false, not, beq}
use mathlib.Core.List.{List, ◌∷◌, reverse}
use native.Mathlib.Omega.{arith}
use lib.ListN.{length, get_or, take}
use lib.Seq.{take_all, length-take-le}
use Rattle.rules.specs.Stock.{binom}
use Rattle.rules.specs.Book.{K, R, Word, pattern, odd}
use Rattle.rules.proofs.Listed.{face, flip, flip_not, flip_false, flip_flip, differs}
use Rattle.rules.proofs.Patterns.{count_r, rank, listed_l, binom_self, rank_k, rank_r}
use Rattle.rules.proofs.Numbers.{odd_add}
use Rattle.rules.proofs.Index.{index, rests, rests_le, rests_k, rests_turned, index_turned, length_turned}
use Rattle.rules.proofs.LettersLeft.{letters_left, left_long, left_k, left_r}

-- ---- parities

unlike : (a b c : Bool) → flip a (flip b c) ≡ flip (not (beq a b)) c
unlike a b c = flip_flip a b c ∙ ap (λ (x : Bool). flip x c) (sym (differs a b))

alike : (a b c : Bool) → flip a (flip b (not c)) ≡ flip (beq a b) c
alike a b c = flip_flip a b (not c) ∙ sym (flip_not (flip a b) c) ∙ ap (λ (x : Bool). flip x c) (go a b)
  where
    go : (a b : Bool) → not (flip a b) ≡ beq a b
    go false false = refl
    go false true = refl
    go true false = refl
    go true true = refl

-- counted from the back
odd_back : (n i : ℕ) → i < n → odd (n - suc i) ≡ flip (odd n) (not (odd i))
unfolding odd
odd_back n i h =
    let e : n ≡ suc i + (n - suc i) = omega arith in
    let f : odd n ≡ flip (not (odd i)) (odd (n - suc i)) = ap odd e ∙ odd_add (suc i) (n - suc i) in
    rw f (go (odd i) (odd (n - suc i)))
  where
    go : (b c : Bool) → c ≡ flip (flip (not b) c) (not b)
    go false false = refl
    go false true = refl
    go true false = refl
    go true true = refl

-- ---- the loop

pub record FromEnd (j : ℕ) (w v : List ℕ) (b : ℕ) (turned so_far : Bool) : Type 0 where
  pub rest : b ≡ rests j v
  pub parity : odd (index j w) ≡ flip so_far (odd (rank turned (pattern j (reverse v))))

pub start : {j : ℕ} {w : List ℕ} {b : ℕ} → b ≡ rests j w → FromEnd j w w b false false
start {j} {w} is = record { rest = is; parity = ap odd (index_turned j w) }

module _ {j : ℕ} {w v : List ℕ} {b : ℕ} {turned so_far : Bool} (s : FromEnd j w v b turned so_far) where
  pub fewer : b ≤ length v
  fewer = omega (arith, s.rest, rests_le j v)

  module _ (some : 0 < length v) where
    abbrev a : ℕ
    a = length v - 1

    -- what is left without its last letter, and its letters from the last
    abbrev u : List ℕ
    u = take a v

    abbrev p : Word
    p = letters_left j v a

    pub shorter : length u ≡ a
    shorter = length-take-le a v (omega arith)

    long : length p ≡ a
    long = left_long j v a (omega arith)

    whole : letters_left j v (suc a) ≡ pattern j (reverse v)
    whole =
        let e : suc a ≡ length v = omega arith in
        rw (e, take_all (length v) v (omega arith))

    module _ (k : get_or v a 0 ≡ j) where
      rest_k : b ≡ rests j u
      rest_k = s.rest ∙ sym (rests_k j v some k)

      counted : count_r p ≡ b
      counted = sym (rest_k ∙ rests_turned j u)

      last_k : pattern j (reverse v) ≡ K ∷ p
      last_k = sym whole ∙ left_k j v a (omega arith) k

      parity_k : odd (index j w) ≡ flip so_far (odd (face turned (binom a b) (rank false p)))
      parity_k = s.parity ∙ ap (λ (n : ℕ). flip so_far (odd n)) (ap (rank turned) last_k ∙ rank_k turned a b p (long, counted))

      below_k : rank false p < binom a b
      below_k = (listed_l false a b).below p (long, counted)

      pub on_k : turned ≡ false → FromEnd j w u b turned so_far
      unfolding face
      on_k t = rw t (record { rest = rest_k; parity = rw t at parity_k })

      pub on_turned : turned ≡ true → {odd_in_k : Bool} → odd_in_k ≡ odd (binom (length u) b) → FromEnd j w u b false (beq so_far odd_in_k)
      unfolding face
      on_turned t is = record { rest = rest_k; parity = rw (is, shorter) ((rw t at parity_k) ∙ ap (flip so_far) (odd_back (binom a b) _ below_k) ∙ alike so_far (odd (binom a b)) _) }

    module _ (k : get_or v a 0 ≡ j → ⊥) where
      last_r : pattern j (reverse v) ≡ R ∷ p
      last_r = sym whole ∙ left_r j v a (omega arith) k

      one_less : b ≡ suc (count_r p)
      one_less = s.rest ∙ rests_turned j v ∙ ap count_r last_r

      parity_r : odd (index j w) ≡ flip so_far (flip (odd (binom a b)) (odd (rank (not turned) p)))
      parity_r =
          let e : rank turned (R ∷ p) ≡ binom a b + rank (not turned) p = rank_r turned a (count_r p) p (long, refl) ∙ rw (← one_less) in
          s.parity ∙ ap (λ (n : ℕ). flip so_far (odd n)) (ap (rank turned) last_r ∙ e) ∙ ap (flip so_far) (odd_add (binom a b) (rank (not turned) p))

      pub on_r : {odd_in_k : Bool} → odd_in_k ≡ odd (binom (length u) b) → FromEnd j w u (b - 1) (not turned) (not (beq so_far odd_in_k))
      on_r is = record { rest = omega (arith, one_less, rests_turned j u); parity = rw (is, shorter) (parity_r ∙ unlike so_far (odd (binom a b)) _) }

      pub some_r : 0 < b
      some_r = omega (arith, one_less)

  -- where only R is left
  pub end : length v ≤ b → so_far ≡ odd (index j w)
  unfolding odd
  end h =
      let p = pattern j (reverse v) in
      let c : count_r p ≡ length v = omega (arith, fewer, s.rest, rests_turned j v) in
      let z : rank turned p ≡ 0 = omega (arith, rw (binom_self (length v)) at ((listed_l turned (length v) (length v)).below p (length_turned j v, c))) in
      sym (s.parity ∙ ap (λ (n : ℕ). flip so_far (odd n)) z ∙ flip_false so_far)
