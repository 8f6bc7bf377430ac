-- Proofs. What a check came to, beside the list of refusals that it tests.
use mathlib.Core.Path.{◌≡◌, sym, ap, ◌∙◌}
use mathlib.Core.List.{List, ◌++◌}
use native.Mathlib.Omega.{arith}
use Rattle.std.specs.Prelude.{Result, Ok, Err}
use Rattle.std.specs.Result.{IsErrAnd}
use Rattle.std.proofs.lemmas.Result.{err_from_is_err_and}
use Rattle.rules.specs.Refusals.{No, fine, first_of, unless, answer}
use Rattle.rules.proofs.Refusals.{refused_first, passed_first, unless_refused, unless_passed}
use Rattle.stock.specs.declared.refused.Reason.{Reason}
use Rattle.stock.specs.declared.refused.Reason.TheVariants.{Kinds, LastZero, Long, Length, Stranger, Amount, Many, Above, NoMove, Directions, Record, Astray, Room, Far, Large, Pair, Stride}
use Rattle.stock.specs.declared.refused.Refused.{Refused}
use Rattle.stock.specs.Refused.{number_of, no_of, told, answered}

-- what a `?` hands on
pub told_error : {A : Type 0} (r : Result A Refused) (e : Refused) → IsErrAnd r (λ y. y ≡ e) → told r ≡ no_of e
told_error r e h = let p = err_from_is_err_and r h in rw (p.1, p.2)

-- a reason is never 0
pub number_some : (r : Reason) → number_of r ≡ 0 → ⊥
number_some Kinds h = absurd (omega arith)
number_some LastZero h = absurd (omega arith)
number_some Long h = absurd (omega arith)
number_some Length h = absurd (omega arith)
number_some Stranger h = absurd (omega arith)
number_some Amount h = absurd (omega arith)
number_some Many h = absurd (omega arith)
number_some Above h = absurd (omega arith)
number_some NoMove h = absurd (omega arith)
number_some Directions h = absurd (omega arith)
number_some Record h = absurd (omega arith)
number_some Astray h = absurd (omega arith)
number_some Room h = absurd (omega arith)
number_some Far h = absurd (omega arith)
number_some Large h = absurd (omega arith)
number_some Pair h = absurd (omega arith)
number_some Stride h = absurd (omega arith)

module _ (nos : List No) where
  -- ---- no refusal

  pub passed : fine ≡ first_of nos → (first_of nos).0 ≡ 0
  passed h = ap (λ (r : No). r.0) (sym h)

  -- the later checks decide
  pub passed_next : (more : List No) → fine ≡ first_of nos → (q : No) → q ≡ first_of more → q ≡ first_of (nos ++ more)
  passed_next more h q e = e ∙ sym (passed_first nos more (passed h))

  -- ---- a refusal

  module _ (e : Refused) (is : no_of e ≡ first_of nos) where
    pub stopped : (first_of nos).0 ≡ 0 → ⊥
    stopped h = number_some e.reason (ap (λ (r : No). r.0) is ∙ h)

    -- it is the refusal of a longer list of checks too
    pub stopped_first : (more : List No) → no_of e ≡ first_of (nos ++ more)
    stopped_first more = is ∙ sym (refused_first nos more stopped)

  -- ---- what a call leaves in what is lent to it, or answers beside its refusal

  module _ {A : Type 0} (refused value : A) where
    pub stopped_left : (e : Refused) → no_of e ≡ first_of nos → refused ≡ unless (first_of nos) refused value
    stopped_left e is = sym (unless_refused refused value (first_of nos) (stopped e is))

    pub passed_left : fine ≡ first_of nos → value ≡ unless (first_of nos) refused value
    passed_left h = sym (unless_passed refused value (first_of nos) (passed h))

    -- ---- the answer of a call

    module _ {B : Type 0} (build : No → A → B) where
      pub stopped_answer : (e : Refused) → no_of e ≡ first_of nos → answered build refused (Err e) ≡ answer build nos refused value
      stopped_answer e is = ap (λ (r : No). build r refused) is ∙ ap (build (first_of nos)) (stopped_left e is)

      pub passed_answer : fine ≡ first_of nos → answered build refused (Ok value) ≡ answer build nos refused value
      passed_answer h = ap (λ (r : No). build r value) h ∙ ap (build (first_of nos)) (passed_left h)
