-- Proofs. A move called with any stock, strip and walker: refused by 1 to 6 or 10, or else decided by the step on what is then checked.
use Prim.Native.Nat.{ℕ, suc}
use mathlib.Core.Path.{◌≡◌, refl, sym, ap, ◌∙◌}
use mathlib.Core.Bool.{Bool, true, false}
use mathlib.Core.List.{List, [], ◌∷◌, ◌++◌, append_assoc}
use lib.ListN.{length}
use lib.Dec.{eqb}
use Rattle.std.proofs.Common.{Some, None}
use Rattle.rules.specs.Neighbours.{places}
use Rattle.rules.specs.Refusals.{No, fine, first_of, unless, when, check_nos}
use Rattle.rules.proofs.Refusals.{refused_first, passed_first}
use Rattle.stock.specs.declared.refused.Refused.{Refused}
use Rattle.stock.specs.Refused.{no_of, refusal}
use Rattle.stock.proofs.Told.{passed, stopped, stopped_left}
use Rattle.walker.specs.declared.Walker.{Walker}
use Rattle.walker.specs.Walkers.{walker_for, walker_no, walker_nos}
use Rattle.walker.proofs.Differing.{accepted_walker}
use Rattle.walking.specs.declared.stepping.Made.{Made}
use Rattle.walking.specs.Answers.{left_along, beside, end_no, as_moved, move_nos, move_answer, move_strip}
use Rattle.walking.specs.Checked.{Checked, made_to, step_answer, step_strip}
use Rattle.walking.proofs.Stepped.{no_answer, some_answer}

one_row : (n : ℕ) (b : Bool) → first_of (when (suc n) b ∷ []) ≡ when (suc n) b
unfolding first_of
one_row n false = refl
one_row n true = refl

end_row : (d : Bool) (counts s : List ℕ) → first_of (end_no d counts s ∷ []) ≡ end_no d counts s
unfolding end_no
end_row d counts s = one_row 8 (eqb (left_along d counts s) 0)

-- what none of 1 to 6 and 10 refuses
pub checked : (counts s : List ℕ) (w : Walker) → fine ≡ first_of (walker_nos counts s w) → length w.back ≡ 16 → Checked counts s w
checked counts s w h l =
    let b = accepted_walker counts s w l (passed (walker_nos counts s w) h) in
    record { stock = b.0; strip = b.1; walker = b.2 }

-- 1 to 6 and 10, and then 9
module _ (d : Bool) (counts s : List ℕ) (w : Walker) where
  rows : move_nos d counts s w ≡ walker_nos counts s w ++ (end_no d counts s ∷ [])
  unfolding move_nos
  rows = sym (append_assoc (check_nos counts s) (walker_no counts s w ∷ []) (end_no d counts s ∷ []))

  pub before_nine : ((first_of (walker_nos counts s w)).0 ≡ 0 → ⊥) → first_of (move_nos d counts s w) ≡ first_of (walker_nos counts s w)
  before_nine h = ap first_of rows ∙ refused_first (walker_nos counts s w) (end_no d counts s ∷ []) h

  pub at_nine : (first_of (walker_nos counts s w)).0 ≡ 0 → first_of (move_nos d counts s w) ≡ end_no d counts s
  at_nine h = ap first_of rows ∙ passed_first (walker_nos counts s w) (end_no d counts s ∷ []) h ∙ end_row d counts s

  -- ---- a move on any strip: refused before the step
  module _ (e : Refused) (is : no_of e ≡ first_of (walker_nos counts s w)) where
    pub refused : no_of e ≡ first_of (move_nos d counts s w)
    refused = is ∙ sym (before_nine (stopped (walker_nos counts s w) e is))

    pub kept : s ≡ move_strip d counts s w
    unfolding move_strip
    kept = stopped_left (move_nos d counts s w) s (beside d counts s) e refused

  -- or not, and the step decides: by 9
  module _ (h : fine ≡ first_of (walker_nos counts s w)) (t : List ℕ) where
    nine : first_of (move_nos d counts s w) ≡ end_no d counts s
    nine = at_nine (passed (walker_nos counts s w) h)

    pub not_moved : (None ≡ step_answer d counts s) × (t ≡ step_strip d counts s) → ((9, 0) ≡ first_of (move_nos d counts s w)) × (t ≡ move_strip d counts s w)
    unfolding move_strip step_strip
    not_moved is = (sym (nine ∙ no_answer d counts s is.0), is.1 ∙ rw nine)

    -- or it is made
    pub moved : (r : Made) → (Some r ≡ step_answer d counts s) × (t ≡ step_strip d counts s) → (fine ≡ first_of (move_nos d counts s w)) × (r ≡ made_to counts s (beside d counts s)) × (t ≡ move_strip d counts s w)
    unfolding move_strip step_strip
    moved r is =
        let e = some_answer d counts s r is.0 in
        (sym (nine ∙ e.0), e.1, is.1 ∙ rw nine)

  -- ---- the answer of Walk

  pub walk_refused : (e : Refused) → no_of e ≡ first_of (move_nos d counts s w) → record { refusal = refusal (no_of e); low = 0; high = 0; walker = w } ≡ move_answer d counts s w
  unfolding move_answer
  walk_refused e is =
      let nos = move_nos d counts s w in
      let t = beside d counts s in
      let r = first_of nos in
      ap (λ (r : No). as_moved r [] w) is
      ∙ ap (λ (l : List ℕ). as_moved r l w) (stopped_left nos [] (places s t) e is)
      ∙ ap (as_moved r (unless r [] (places s t))) (stopped_left nos w (walker_for counts t) e is)

  pub walk_moved : fine ≡ first_of (move_nos d counts s w) → (r : Made) → r ≡ made_to counts s (beside d counts s)
      → record { refusal = refusal fine; low = r.low; high = r.high; walker = r.walker } ≡ move_answer d counts s w
  unfolding move_answer
  walk_moved h r e = rw (← h, e)
