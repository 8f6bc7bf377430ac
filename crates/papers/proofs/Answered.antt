-- Proofs. The answer of a call whose check a `?` hands on.
use mathlib.Core.Path.{◌≡◌}
use mathlib.Core.List.{List}
use Rattle.std.specs.Prelude.{Result}
use Rattle.std.specs.Result.{IsErrAnd}
use Rattle.std.proofs.lemmas.Result.{err_from_is_err_and}
use Rattle.rules.specs.Refusals.{No, first_of, answer}
use Rattle.stock.specs.declared.refused.Refused.{Refused}
use Rattle.stock.specs.Refused.{no_of, answered}
use Rattle.stock.proofs.Told.{stopped_answer}

module _ (nos : List No) {A B : Type 0} (none value : A) (build : No → A → B) where
  pub error_answer : (r : Result A Refused) (e : Refused) → IsErrAnd r (λ y. y ≡ e) → no_of e ≡ first_of nos → answered build none r ≡ answer build nos none value
  error_answer r e h is = let p = err_from_is_err_and r h in rw (p.1, p.2) (stopped_answer nos none value build e is)
