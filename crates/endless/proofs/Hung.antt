-- Proofs. What Stand answers and leaves, from how the strip is hung.
use Prim.Native.Nat.{ℕ, ◌<◌}
use mathlib.Core.Path.{◌≡◌, ap, ◌∙◌}
use mathlib.Core.Bool.{false}
use mathlib.Core.List.{List}
use lib.ListN.{length}
use Rattle.std.specs.Prelude.{Result, Ok}
use Rattle.std.specs.Result.{IsErrAnd}
use Rattle.std.proofs.lemmas.Result.{err_from_is_err_and}
use Rattle.rules.specs.Refusals.{No, fine, first_of, check_nos}
use Rattle.rules.proofs.Refusals.{unless_refused}
use Rattle.stock.specs.declared.refused.Refused.{Refused}
use Rattle.stock.specs.Refused.{no_of, refusal}
use Rattle.stock.proofs.Told.{stopped, stopped_left, passed_left}
use Rattle.papers.specs.Papers.{turned, hung}
use Rattle.standing.specs.Standing.{standing, is_reversed, turn_of}
use Rattle.standing.proofs.Theorems.{turn_least}
use Rattle.endless.specs.Answers.{stand_answer, stand_after}
use Rattle.endless.specs.Inner.{stood}
use Rattle.hanging.specs.declared.either.Hanging.{Hanging}

-- what it comes to, and what it leaves in the strip
abbrev pub Stands : List ℕ → List ℕ → List ℕ → Result Hanging Refused → Type 0
Stands counts s after r = (stood r ≡ stand_answer counts s) × (after ≡ stand_after counts s)

module _ (counts s : List ℕ) where
  pub stood_refused : (r : Result Hanging Refused) (e : Refused) → IsErrAnd r (λ y. y ≡ e) → no_of e ≡ first_of (check_nos counts s) → Stands counts s s r
  unfolding stand_answer stand_after
  stood_refused r e h is =
      let p = err_from_is_err_and r h in
      let k = first_of (check_nos counts s) in
      let n = stopped (check_nos counts s) e is in (
        rw (p.1, p.2) (ap (λ (q : No). record { refusal = refusal q; turn = 0; reversed = false }) is ∙ rw (unless_refused 0 (turn_of s) k n, unless_refused false (is_reversed s) k n)),
        stopped_left (check_nos counts s) s (standing s) e is,
      )

  -- hung as the smallest turn asks
  pub stood_hung : fine ≡ first_of (check_nos counts s) → 0 < length s → (h : Hanging) (after : List ℕ) → h.reversed ≡ is_reversed s → h.turn ≡ turn_of s → after ≡ turned h.turn (hung h.reversed s)
      → Stands counts s after (Ok h)
  unfolding stand_answer stand_after
  stood_hung fits some h after e f g = (
    rw (← fits, e, f),
    g ∙ rw (e, f) (turn_least s some).1 ∙ passed_left (check_nos counts s) s (standing s) fits,
  )
