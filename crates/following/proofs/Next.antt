-- Proofs. A step that was made on the way, beside the two places of a move record.
use Prim.Native.Nat.{ℕ}
use mathlib.Core.Path.{◌≡◌, ◌∙◌}
use mathlib.Core.Bool.{false, and-false}
use mathlib.Core.List.{List, [], ◌∷◌}
use borrow.Author.Tests.{eq-eqb, ne_eqb}
use lib.Dec.{eqb}
use Rattle.std.specs.Prelude.{Some, None}
use Rattle.rules.specs.Stock.{IsStrip}
use Rattle.rules.specs.Book.{same}
use Rattle.rules.proofs.Neighbours.{no_places}
use Rattle.walking.specs.declared.stepping.Made.{Made}
use Rattle.walking.specs.Checked.{step_answer, step_strip}
use Rattle.walking.proofs.Along.{past_last, none_left, some_left}
use Rattle.walking.proofs.Stepped.{Step, step_refused, step_made}
use Rattle.following.specs.Ends.{shows, NextMade}

module _ (counts s t : List ℕ) (own : IsStrip counts s) (low high : ℕ) where
  -- there is no next move
  pub no_move : (None ≡ step_answer false counts s) × (t ≡ step_strip false counts s) → shows counts s low high ≡ false
  unfolding same
  no_move is = rw (past_last counts s own (none_left false counts s (step_refused false counts s t is).0), no_places 1 s)

  module _ (m : Made) (is : (Some m ≡ step_answer false counts s) × (t ≡ step_strip false counts s)) where
    step : Step false counts s m t
    step = step_made false counts s t own m is

    shown : shows counts s low high ≡ same (m.low ∷ m.high ∷ []) (low ∷ high ∷ [])
    shown = rw (← step.strip, step.shown)

    -- the next move is another one
    pub other_low : (m.low ≡ low → ⊥) → shows counts s low high ≡ false
    unfolding same
    other_low e = shown ∙ rw (ne_eqb m.low low e)

    pub other_high : (m.high ≡ high → ⊥) → shows counts s low high ≡ false
    unfolding same
    other_high e = shown ∙ rw (ne_eqb m.high high e, and-false (eqb m.low low))

    -- it is the record's
    pub next_made : m.low ≡ low → m.high ≡ high → NextMade counts s low high m.walker t
    unfolding same
    next_made e k = record {
      shown = shown ∙ rw (eq-eqb m.low low e, eq-eqb m.high high k);
      some = some_left false counts s step.allowed;
      strip = step.strip;
      walker = step.walker;
    }
