-- Proofs. What a step answers: what the caller then knows of the strip, the places and the walker.
use Prim.Native.Nat.{ℕ}
use mathlib.Core.Path.{◌≡◌, refl, ◌∙◌}
use mathlib.Core.Bool.{Bool, true, false}
use mathlib.Core.List.{List, [], ◌∷◌}
use lib.Dec.{eqb}
use Rattle.std.proofs.Common.{Some, None}
use Rattle.rules.specs.Stock.{IsStrip}
use Rattle.rules.specs.Neighbours.{places}
use Rattle.rules.specs.Refusals.{fine, when, unless}
use Rattle.walker.specs.Walkers.{walker_for}
use Rattle.walking.specs.declared.stepping.Made.{Made}
use Rattle.walking.specs.Answers.{left_along, beside, end_no}
use Rattle.walking.specs.Checked.{made_to, step_answer, step_strip}
use Rattle.walking.proofs.OneMove.{made}

-- refusal 9, or none
when_none : (n : ℕ) (b : Bool) → (when n b).0 ≡ 0 → when n b ≡ fine
when_none n false h = refl
when_none n true h = rw h

answered_none : (b : Bool) (m : Made) → None ≡ unless (when 9 b) None (Some m) → when 9 b ≡ (9, 0)
answered_none false m e = cc
answered_none true m e = refl

answered_some : (b : Bool) (m r : Made) → Some r ≡ unless (when 9 b) None (Some m) → (when 9 b ≡ fine) × (r ≡ m)
answered_some false m r e = (refl, cc)
answered_some true m r e = cc

module _ (d : Bool) (counts s : List ℕ) where
  pub end_none : (end_no d counts s).0 ≡ 0 → end_no d counts s ≡ fine
  unfolding end_no
  end_none = when_none 9 (eqb (left_along d counts s) 0)

  -- no step, by refusal 9
  pub no_answer : None ≡ step_answer d counts s → end_no d counts s ≡ (9, 0)
  unfolding step_answer end_no
  no_answer = answered_none (eqb (left_along d counts s) 0) (made_to counts s (beside d counts s))

  -- a step, to the strip beside
  pub some_answer : (r : Made) → Some r ≡ step_answer d counts s → (end_no d counts s ≡ fine) × (r ≡ made_to counts s (beside d counts s))
  unfolding step_answer end_no
  some_answer = answered_some (eqb (left_along d counts s) 0) (made_to counts s (beside d counts s))

-- what a step that was made gives: the strip beside, its places and its walker
pub record Step (d : Bool) (counts s : List ℕ) (r : Made) (t : List ℕ) : Type 0 where
  pub allowed : end_no d counts s ≡ fine
  pub own : IsStrip counts t
  pub strip : t ≡ beside d counts s
  pub shown : places s t ≡ r.low ∷ r.high ∷ []
  pub walker : r.walker ≡ walker_for counts t

module _ (d : Bool) (counts s t : List ℕ) where
  pub step_refused : (None ≡ step_answer d counts s) × (t ≡ step_strip d counts s) → (end_no d counts s ≡ (9, 0)) × (t ≡ s)
  unfolding step_strip
  step_refused is =
      let e = no_answer d counts s is.0 in
      (e, is.1 ∙ rw e)

  pub step_made : IsStrip counts s → (r : Made) → (Some r ≡ step_answer d counts s) × (t ≡ step_strip d counts s) → Step d counts s r t
  unfolding step_strip
  step_made h r is =
      let e = some_answer d counts s r is.0 in
      let k = (made d counts s h e.0).1 in
      let p = k.shown in
      let u : t ≡ beside d counts s = is.1 ∙ rw e.0 in
      rw (u, e.1) (record { allowed = e.0; own = k.own; strip = refl; shown = rw p; walker = refl })
