-- Proofs. Run called with any stock, strip and walker: refused by 1 to 6 or 10, or else what the loop makes of what is then checked.
use Prim.Native.Nat.{ℕ}
use mathlib.Core.Path.{◌≡◌, ap, ◌∙◌}
use mathlib.Core.Bool.{Bool, false}
use mathlib.Core.List.{List}
use lib.Dec.{eqb}
use Rattle.rules.specs.Refusals.{No, fine, first_of, unless}
use Rattle.stock.specs.declared.refused.Refused.{Refused}
use Rattle.stock.specs.Refused.{no_of, refusal}
use Rattle.stock.proofs.Told.{stopped_left}
use Rattle.walker.specs.declared.Walker.{Walker}
use Rattle.walker.specs.Walkers.{walker_nos}
use Rattle.walking.specs.Answers.{left_along}
use Rattle.running.specs.declared.run.Ran.{Ran}
use Rattle.running.specs.Answers.{run_moves, as_ran, run_answer, run_strip, run_list}
use Rattle.running.specs.Made.{Made}

module _ (d : Bool) (counts s list : List ℕ) (w : Walker) where
  pub refused : (e : Refused) → no_of e ≡ first_of (walker_nos counts s w)
      → (record { refusal = refusal (no_of e); moves = 0; ended = false; walker = w } ≡ run_answer d counts s w list) × (s ≡ run_strip d counts s w list) × (list ≡ run_list d counts s w list)
  unfolding run_answer run_strip run_list
  refused e is =
      let nos = walker_nos counts s w in
      let r = first_of nos in
      let m = run_moves d counts s list in (
        ap (λ (r : No). as_ran r 0 false w) is
            ∙ ap (λ (n : ℕ). as_ran r n false w) (stopped_left nos 0 m e is)
            ∙ ap (λ (b : Bool). as_ran r (unless r 0 m) b w) (stopped_left nos false (eqb m (left_along d counts s)) e is)
            ∙ ap (as_ran r (unless r 0 m) (unless r false (eqb m (left_along d counts s)))) (stopped_left nos w _ e is),
        stopped_left nos s _ e is,
        stopped_left nos list _ e is,
      )

  pub run : fine ≡ first_of (walker_nos counts s w) → (m : Ran) (t listed : List ℕ) → Made d counts s list m t listed
      → (m ≡ run_answer d counts s w list) × (t ≡ run_strip d counts s w list) × (listed ≡ run_list d counts s w list)
  unfolding run_answer run_strip run_list
  run h m t listed v = rw (← h) (v.answer, v.strip, v.listed)
