-- Proofs. What the comparison of two lent strips comes to is what Which answers, whether they pass the checks or not.
use Prim.Native.Nat.{ℕ}
use mathlib.Core.Path.{◌≡◌, ap, ◌∙◌}
use mathlib.Core.List.{List}
use Rattle.std.specs.Prelude.{Option, Result}
use Rattle.std.specs.Result.{IsErrAnd}
use Rattle.std.proofs.lemmas.Result.{err_from_is_err_and}
use Rattle.rules.specs.Book.{book, place_in}
use Rattle.rules.specs.Refusals.{No, fine, first_of, unless, pair_nos}
use Rattle.rules.proofs.Refusals.{unless_refused}
use Rattle.stock.specs.declared.refused.Refused.{Refused}
use Rattle.stock.specs.Refused.{no_of}
use Rattle.stock.proofs.Told.{stopped}
use Rattle.comparing.specs.declared.order.Parting.{Parting}
use Rattle.comparing.specs.Order.{which_of, parting_kind}
use Rattle.comparing.specs.Answers.{as_compared, which_answer}
use Rattle.comparing.specs.Parted.{which_number, kind_number, compared}

both_zero : (w k : ℕ) (r : No) → (r.0 ≡ 0 → ⊥) → as_compared r 0 0 ≡ as_compared r (unless r 0 w) (unless r 0 k)
both_zero w k r h = rw (unless_refused 0 w r h, unless_refused 0 k r h)

both_given : (w k : ℕ) (r : No) → fine ≡ r → as_compared fine w k ≡ as_compared r (unless r 0 w) (unless r 0 k)
both_given w k r e = rw (← e)

module _ (counts first second : List ℕ) where
  abbrev nos : List No
  nos = pair_nos counts first second

  pub compared_refused : (r : Result (Option Parting) Refused) (e : Refused) → IsErrAnd r (λ y. y ≡ e) → no_of e ≡ first_of nos → compared r ≡ which_answer counts first second
  unfolding which_answer
  compared_refused r e h is =
      let p = err_from_is_err_and r h in
      let c : compared r ≡ as_compared (no_of e) 0 0 = rw (p.1, p.2) in
      c ∙ ap (λ (r : No). as_compared r 0 0) is ∙ both_zero _ _ (first_of nos) (stopped nos e is)

  pub compared_passed : fine ≡ first_of nos → (p : Option Parting) → which_number p ≡ which_of (place_in (book counts) first) (place_in (book counts) second) → kind_number p ≡ parting_kind counts first second
      → as_compared fine (which_number p) (kind_number p) ≡ which_answer counts first second
  unfolding which_answer
  compared_passed h p w k = rw (w, k) (both_given _ _ (first_of nos) h)
