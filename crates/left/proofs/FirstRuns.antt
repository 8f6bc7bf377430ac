-- Proofs. The first two runs of a word of blocks, which end at x and i: what they say of the move.
use Prim.Native.Nat.{ℕ, ◌+◌, ◌-◌, ◌≤◌, ◌<◌}
use mathlib.Core.Path.{◌≡◌, sym, ap, ◌∙◌}
use mathlib.Core.Bool.{Bool, true, false, not, beq}
use mathlib.Core.List.{List}
use native.Mathlib.Omega.{arith}
use lib.ListN.{length, drop}
use lib.Seq.{drop-drop}
use Rattle.rules.specs.Book.{K, R, Word, odd, pattern}
use Rattle.rules.proofs.Listed.{flip, differs}
use Rattle.rules.proofs.Patterns.{count_r}
use Rattle.rules.proofs.Books.{length_pattern}
use Rattle.rules.proofs.Index.{rests}
use Rattle.rules.proofs.Runs.{run, past_k_count_r, past_r_count_r, run_whole, run_begins}
use Rattle.rules.proofs.Left.{ahead, near, far, move_ahead, move_near, move_far}
use Rattle.moves.specs.Steps.{step, step_of}

module _ (j : ℕ) (s : List ℕ) (others x i : ℕ) (n : others ≡ rests j s) (p : x ≡ run K (pattern j s)) (q : i ≡ x + run R (drop x (pattern j s))) where
  abbrev w : Word
  w = pattern j s

  -- the first run of others is a part of the others
  pub counted : i - x ≤ others
  unfolding rests
  counted = omega (arith, past_k_count_r w, past_r_count_r (drop (run K w) w), rw p at q)

  -- a word that goes on behind both runs has a block in them
  pub begins : i < length s → 0 < i
  begins h = omega (arith, run_begins w (rw (length_pattern j s) (omega arith)), rw p at q)

  -- behind the second run no other stands
  pub behind : run R (drop i w) ≡ 0
  behind = rw (q, ← drop-drop (run R (drop x w)) x w) (run_whole R (drop x w))

  module _ (back t : Bool) (is : t ≡ odd (others - (i - x))) where
    turns : not (beq t back) ≡ flip (odd (count_r w - (i - x))) back
    unfolding rests
    turns = differs t back ∙ rw (is, n)

    pub ahead_is : not (beq t back) ≡ false → step (ahead i (drop i w)) ≡ step_of back j s
    ahead_is h = ap step (sym (move_ahead back w x i p q (sym turns ∙ h)))

    module _ (h : not (beq t back) ≡ true) where
      pub near_is : (x ≡ 0 → ⊥) → step (near x (i - x)) ≡ step_of back j s
      near_is e = ap step (sym (move_near back w x i p q (sym turns ∙ h) e))

      pub far_is : x ≡ 0 → (k l : ℕ) → k ≡ i + run K (drop i w) → l ≡ k + run R (drop k w) → step (far i k (l - k)) ≡ step_of back j s
      far_is e k l m o = ap step (sym (move_far back w x i p q (sym turns ∙ h) e k l m o))
