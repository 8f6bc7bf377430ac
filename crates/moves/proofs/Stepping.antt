-- Proofs. What `next` and `prev` answer for a word of blocks, by its end: one law for each branch of their code. `s` is the answer for the shorter word.
use Prim.Native.Nat.{ℕ, ◌-◌, ◌<◌}
use mathlib.Core.Path.{◌≡◌, sym, ap, ◌∙◌}
use mathlib.Core.Bool.{true, false}
use mathlib.Core.Option as maybe
use mathlib.Core.Option.{none, some}
use mathlib.Core.List.{List}
use native.Mathlib.Omega.{arith}
use lib.ListN.{length, get_or, take}
use Rattle.std.proofs.Common.{Option, Some}
use Rattle.std.specs.Option.{option_or}
use Rattle.rules.specs.Book.{pattern}
use Rattle.rules.proofs.Moves.{or_else, or_else_none, move_e}
use Rattle.rules.proofs.Index.{rests, rests_le}
use Rattle.rules.proofs.Endings.{Both, gate_open, move_no_rest, move_all_rest, rest_k, rest_kr, rest_rr, more_rr, move_k, move_kr, move_rr}
use Rattle.moves.specs.declared.Step.{Step}
use Rattle.moves.specs.Steps.{step, step_of}

-- the move of the shorter word, or else the one at the seam, if there is one
seam_at : (o m : maybe.Option (ℕ × ℕ)) (p q : ℕ) {s : Option Step} {low high : ℕ} → m ≡ or_else o (some (p, q)) → low ≡ p → high ≡ q → s ≡ step o → option_or s (Some (record { low = low; high = high })) ≡ step m
seam_at none m p q f el eh e = rw (e, f, el, eh)
seam_at (some pq) m p q f el eh e = rw (e, f)

no_seam : (o m : maybe.Option (ℕ × ℕ)) {s : Option Step} → m ≡ or_else o none → s ≡ step o → s ≡ step m
no_seam o m f e = e ∙ ap step (sym (f ∙ or_else_none o))

-- a word without its last n blocks
abbrev less : ℕ → List ℕ → List ℕ
less n w = take (length w - n) w

module _ {j : ℕ} {w : List ℕ} {b : ℕ} (h : Both j w b) where
  module _ (k : get_or w (length w - 1) 0 ≡ j) where
    pub next_k : {s : Option Step} {low high : ℕ} → low ≡ length w - 2 → high ≡ length w - 1 → s ≡ step_of false j (less 1 w) → option_or s (Some (record { low = low; high = high })) ≡ step_of false j w
    next_k = seam_at (move_e false (pattern j (less 1 w))) (move_e false (pattern j w)) (length w - 2) (length w - 1) (move_k h k false)

    pub prev_k : {s : Option Step} → s ≡ step_of true j (less 1 w) → s ≡ step_of true j w
    prev_k = no_seam (move_e true (pattern j (less 1 w))) (move_e true (pattern j w)) (move_k h k true)

  module _ (r : get_or w (length w - 1) 0 ≡ j → ⊥) where
    module _ (k : get_or w (length w - 2) 0 ≡ j) where
      pub next_kr : 0 < b - 1 → {s : Option Step} {low high : ℕ} → low ≡ b - 1 - 1 → high ≡ length w - 2 → s ≡ step_of true j (less 2 w) → option_or s (Some (record { low = low; high = high })) ≡ step_of false j w
      next_kr l =
          let g = gate_open (b - 1) (b - 1 - 1, length w - 2) l in
          seam_at (move_e true (pattern j (less 2 w))) (move_e false (pattern j w)) (b - 1 - 1) (length w - 2) (move_kr h r k false ∙ rw g)

      -- where no word ends in R R, the last that ends in K R is the last of all
      pub next_kr_none : b - 1 ≡ 0 → step none ≡ step_of false j w
      next_kr_none z =
          let e : rests j (less 2 w) ≡ 0 = sym (rest_kr h r k) ∙ z in
          let m : move_e false (pattern j w) ≡ none = move_kr h r k false ∙ rw (move_no_rest j (less 2 w) true e, z) in
          sym (ap step m)

      pub prev_kr : {s : Option Step} {low high : ℕ} → low ≡ length w - 2 → high ≡ length w - 1 → s ≡ step_of false j (less 2 w) → option_or s (Some (record { low = low; high = high })) ≡ step_of true j w
      prev_kr = seam_at (move_e false (pattern j (less 2 w))) (move_e true (pattern j w)) (length w - 2) (length w - 1) (move_kr h r k true)

    module _ (k : get_or w (length w - 2) 0 ≡ j → ⊥) where
      pub next_rr : {s : Option Step} → s ≡ step_of false j (less 2 w) → s ≡ step_of false j w
      next_rr = no_seam (move_e false (pattern j (less 2 w))) (move_e false (pattern j w)) (move_rr h r k false)

      pub prev_rr : {s : Option Step} {low high : ℕ} → low ≡ b - 1 - 1 → high ≡ length w - 2 → s ≡ step_of true j (less 2 w) → option_or s (Some (record { low = low; high = high })) ≡ step_of true j w
      prev_rr = seam_at (move_e true (pattern j (less 2 w))) (move_e true (pattern j w)) (b - 1 - 1) (length w - 2) (move_rr h r k true)

-- past the first two tests the word has letters of both sorts
pub both : {j b : ℕ} {w : List ℕ} → b ≡ rests j w → (b ≡ 0 → ⊥) → b < length w → Both j w b
both is r k = record { is = is; some_r = omega arith; some_k = k }

-- the laws that prove most goals of `next` and `prev`
pub ruleset stepping = (both, move_no_rest, move_all_rest, rests_le, more_rr, prev_k, next_kr, next_kr_none, next_rr, prev_rr)
