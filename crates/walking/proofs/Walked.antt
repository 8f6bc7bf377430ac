-- Proofs. A walk on its way, on or back: after i moves the strip is the one i numbers further, and the walker is its walker.
use Prim.Native.Nat.{ℕ, suc, ◌+◌, ◌-◌, ◌≤◌, ◌<◌}
use mathlib.Core.Path.{◌≡◌, sym, ap, ◌∙◌}
use mathlib.Core.Bool.{Bool}
use mathlib.Core.List.{List, [], ◌∷◌}
use native.Mathlib.Numerals.{add-one}
use native.Mathlib.Omega.{arith}
use lib.ListN.{length}
use Rattle.std.proofs.Common.{Some, None}
use Rattle.rules.specs.Stock.{IsStock, IsStrip}
use Rattle.rules.specs.Neighbours.{places, swap}
use Rattle.rules.proofs.Strips.{move_of, strip_sum}
use Rattle.walker.specs.declared.Walker.{Walker}
use Rattle.walker.specs.Walkers.{walker_for}
use Rattle.walking.specs.declared.stepping.Made.{Made}
use Rattle.walking.specs.declared.finding.Found.{Found}
use Rattle.walking.specs.Answers.{along, left_along}
use Rattle.walking.specs.Checked.{Checked, found, as_made, step_answer, step_strip}
use Rattle.walking.proofs.OneMove.{Makes, found_none, found_some, moves}
use Rattle.walking.proofs.Along.{none_left, some_left, along_none, along_strip, along_left, along_beside}
use Rattle.walking.proofs.Stepped.{Step, no_answer, step_refused, step_made}

pub record Walked (d : Bool) (counts s t : List ℕ) (w : Walker) (i : ℕ) : Type 0 where
  pub made : i ≤ left_along d counts s
  pub strip : t ≡ along d counts s i
  pub walker : w ≡ walker_for counts t

pub start : (d : Bool) (counts s : List ℕ) (w : Walker) → Checked counts s w → Walked d counts s s w 0
start d counts s w c = record { made = omega arith; strip = sym (along_none d counts s c.strip); walker = c.walker }

module _ (d : Bool) (counts s t : List ℕ) (w : Walker) (i : ℕ) (k : IsStock counts) (h : IsStrip counts s) (v : Walked d counts s t w i) where
  pub checked : Checked counts t w
  checked = record { stock = k; strip = rw v.strip (along_strip d counts s h i v.made); walker = v.walker }

  pub same_length : length t ≡ length s
  same_length = strip_sum counts t checked.strip ∙ sym (strip_sum counts s h)

  -- how many moves are left where the walk stands
  pub here : left_along d counts t ≡ left_along d counts s - i
  here = rw v.strip (along_left d counts s h i v.made)

  -- a step from there is made where a move is left
  pub allowed : i < left_along d counts s → None ≡ step_answer d counts t → ⊥
  allowed l e = omega (arith, none_left d counts t (no_answer d counts t e), here)

  -- and else not
  pub stopped : (u : List ℕ) → (None ≡ step_answer d counts t) × (u ≡ step_strip d counts t) → (left_along d counts s ≡ i) × (u ≡ t)
  stopped u is =
      let m = step_refused d counts t u is in
      (omega (arith, none_left d counts t m.0, here, v.made), m.1)

  module _ (r : Made) (u : List ℕ) (is : (Some r ≡ step_answer d counts t) × (u ≡ step_strip d counts t)) where
    step : Step d counts t r u
    step = step_made d counts t u checked.strip r is

    to : u ≡ along d counts s (suc i)
    to = step.strip ∙ rw v.strip (along_beside d counts s h i v.made)

    -- the walk goes on, and these are the places of the move
    pub on : Walked d counts s u r.walker (i + 1)
    on = rw (add-one i) record { made = omega (arith, some_left d counts t step.allowed, here); strip = to; walker = step.walker }

    pub shown : places (along d counts s i) (along d counts s (suc i)) ≡ r.low ∷ r.high ∷ []
    shown = rw (← v.strip, ← to) step.shown

  -- a move looked for from there: none is found, and the end of the book is reached
  pub at_end : None ≡ found (length counts) (move_of d counts t) → left_along d counts s ≡ i
  at_end is = omega (arith, none_left d counts t (found_none d counts t checked.strip is), here, v.made)

  -- or one is
  module _ (m : Found) (is : Some m ≡ found (length counts) (move_of d counts t)) where
    pub move : Makes d counts t m.kind m.low m.high
    move = found_some d counts t checked.strip m is

    pub more : i < left_along d counts s
    more = omega (arith, some_left d counts t move.allowed, here)

    -- it is made: that is a step
    pub as_step : (r : Made) (u : List ℕ) → (r ≡ as_made m (length counts) w) × (u ≡ swap 0 t m.low m.high) → (Some r ≡ step_answer d counts t) × (u ≡ step_strip d counts t)
    as_step r u e =
        let makes = moves d counts t w checked m move in
        (ap (λ (r : Made). Some r) e.0 ∙ makes.0, e.1 ∙ makes.1)
