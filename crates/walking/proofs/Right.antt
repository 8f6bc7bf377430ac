-- Proofs. What an answer of a move on (at false) or back (at true) must be.
use Prim.Native.Nat.{ℕ, ◌<◌}
use mathlib.Core.Path.{◌≡◌, refl, sym, ap, ◌∙◌}
use mathlib.Core.Bool.{Bool}
use mathlib.Core.List.{List, [], ◌∷◌}
use native.Mathlib.Decide.{ℕ_discrete}
use native.Mathlib.Omega.{arith}
use lib.ListN.{length, get_or}
use Rattle.rules.specs.Stock.{IsStock, IsStrip}
use Rattle.rules.specs.Book.{book, place_in}
use Rattle.rules.specs.Neighbours.{Neighbours, places}
use Rattle.rules.specs.Refusals.{No, fine, first_of, check_nos}
use Rattle.rules.proofs.Refusals.{passed_both, passed_fine, unless_refused}
use Rattle.rules.proofs.Checks.{passed_head, accepted_both}
use Rattle.walker.specs.declared.Walker.{Walker}
use Rattle.walker.specs.Walkers.{walker_for, walker_no, walker_nos}
use Rattle.walker.proofs.Differing.{walker_passed, accepted_walker_back, never_nine}
use Rattle.walking.specs.declared.Moved.{Moved}
use Rattle.walking.specs.Answers.{shifted, left_along, beside, end_no, as_moved, move_nos, move_answer, move_strip}
use Rattle.walking.proofs.OneMove.{made}
use Rattle.walking.proofs.Along.{some_left, left_allowed, left_nine, along_place}
use Rattle.walking.proofs.Stepped.{end_none}
use Rattle.walking.proofs.Called.{before_nine, at_nine}

-- it refuses no more and no less than the table says, and by 9 exactly where no strip is left; accepted, the strip is the one beside, one exchange away, the
-- places are those of the exchange and the walker is that of the strip; refused, it gives 0, 0 and the walker that was lent, and leaves the strip
pub record MoveRight (d : Bool) (counts s : List ℕ) (w : Walker) (r : Moved) (t : List ℕ) : Type 0 where
  pub accepts : length w.back ≡ 16 → r.refusal.no ≡ 0 → IsStock counts × IsStrip counts s × (w ≡ walker_for counts s) × (0 < left_along d counts s)
  pub accepted : IsStock counts → IsStrip counts s → w ≡ walker_for counts s → 0 < left_along d counts s → r.refusal.no ≡ 0
  pub ended : IsStock counts → IsStrip counts s → w ≡ walker_for counts s → left_along d counts s ≡ 0 → r.refusal.no ≡ 9
  pub ends : r.refusal.no ≡ 9 → IsStock counts × IsStrip counts s × (left_along d counts s ≡ 0)
  pub next : r.refusal.no ≡ 0 → place_in (book counts) t ≡ shifted d (place_in (book counts) s) 1
  pub exchanged : r.refusal.no ≡ 0 → Neighbours s t
  pub shown : r.refusal.no ≡ 0 → (r.low < r.high) × (places s t ≡ r.low ∷ r.high ∷ [])
  pub walker : r.refusal.no ≡ 0 → IsStrip counts t × (r.walker ≡ walker_for counts t)
  pub refused : (r.refusal.no ≡ 0 → ⊥) → (r.low ≡ 0) × (r.high ≡ 0) × (r.walker ≡ w) × (t ≡ s)

module _ (d : Bool) (counts s : List ℕ) (w : Walker) where
  -- which rows are passed where all are
  rows : (first_of (move_nos d counts s w)).0 ≡ 0 → (IsStock counts × IsStrip counts s) × ((walker_no counts s w).0 ≡ 0) × ((end_no d counts s).0 ≡ 0)
  unfolding move_nos
  rows e =
      let p = passed_both (check_nos counts s) (walker_no counts s w ∷ end_no d counts s ∷ []) e in
      let q = passed_head (walker_no counts s w) (end_no d counts s ∷ []) p.1 in
      (accepted_both counts s p.0, q.0, (passed_head (end_no d counts s) [] q.1).0)

  -- of an accepted stock, a strip of it and its walker, 9 decides
  pub nine_decides : IsStock counts → IsStrip counts s → w ≡ walker_for counts s → first_of (move_nos d counts s w) ≡ end_no d counts s
  nine_decides k h v = at_nine d counts s w (ap (λ (r : No). r.0) (accepted_walker_back counts s w k h v))

  only_nine : (first_of (move_nos d counts s w)).0 ≡ 9 → IsStock counts × IsStrip counts s × (left_along d counts s ≡ 0)
  only_nine e = elim (ℕ_discrete (first_of (walker_nos counts s w)).0 0) [
    | yes z ↦
        let b = accepted_both counts s (passed_both (check_nos counts s) (walker_no counts s w ∷ []) z).0 in
        elim (ℕ_discrete (left_along d counts s) 0) [
          | yes l ↦ (b.0, b.1, l)
          | no l ↦ absurd (omega (arith, rw (at_nine d counts s w z, left_allowed d counts s (omega arith)) at e))
        ]
    | no z ↦ absurd (never_nine counts s w (rw (before_nine d counts s w z) at e))
  ]

  module _ (r : Moved) (t : List ℕ) (is : (r ≡ move_answer d counts s w) × (t ≡ move_strip d counts s w)) where
    no_is : r.refusal.no ≡ (first_of (move_nos d counts s w)).0
    unfolding move_answer
    no_is = ap (λ (r : Moved). r.refusal.no) is.0

    -- accepted
    module _ (z : r.refusal.no ≡ 0) where
      none : first_of (move_nos d counts s w) ≡ fine
      none = passed_fine (move_nos d counts s w) (sym no_is ∙ z)

      own : IsStrip counts s
      own = (rows (sym no_is ∙ z)).0.1

      has : 0 < left_along d counts s
      has = some_left d counts s (end_none d counts s (rows (sym no_is ∙ z)).2)

      strip_is : t ≡ beside d counts s
      unfolding move_strip
      strip_is = is.1 ∙ rw none

      answer_is : r ≡ as_moved fine (places s (beside d counts s)) (walker_for counts (beside d counts s))
      unfolding move_answer
      answer_is = is.0 ∙ rw none

    -- refused
    stays : (r.refusal.no ≡ 0 → ⊥) → (r.low ≡ 0) × (r.high ≡ 0) × (r.walker ≡ w) × (t ≡ s)
    unfolding move_answer move_strip
    stays z =
        let n = first_of (move_nos d counts s w) in
        let u = beside d counts s in
        let k : n.0 ≡ 0 → ⊥ = λ e. z (no_is ∙ e) in
        let p = unless_refused [] (places s u) n k in (
          ap (λ (r : Moved). r.low) is.0 ∙ ap (λ (l : List ℕ). get_or l 0 0) p,
          ap (λ (r : Moved). r.high) is.0 ∙ ap (λ (l : List ℕ). get_or l 1 0) p,
          ap (λ (r : Moved). r.walker) is.0 ∙ unless_refused w (walker_for counts u) n k,
          is.1 ∙ unless_refused s u n k,
        )

    pub right : MoveRight d counts s w r t
    right = record {
      accepts = λ l z. let p = rows (sym no_is ∙ z) in (p.0.0, p.0.1, walker_passed counts s w l p.1, has z);
      accepted = λ k h v l. no_is ∙ ap (λ (r : No). r.0) (nine_decides k h v ∙ left_allowed d counts s l);
      ended = λ k h v l. no_is ∙ ap (λ (r : No). r.0) (nine_decides k h v ∙ left_nine d counts s l);
      ends = λ e. only_nine (sym no_is ∙ e);
      next = λ z. rw (strip_is z) (along_place d counts s (own z) 1 (has z));
      exchanged = λ z. rw (strip_is z) (made d counts s (own z) (left_allowed d counts s (has z))).1.exchanged;
      shown = λ z. let m = (made d counts s (own z) (left_allowed d counts s (has z))).1 in rw (strip_is z, answer_is z, m.shown) (omega (arith, m.order), refl);
      walker = λ z. rw (strip_is z, answer_is z) ((made d counts s (own z) (left_allowed d counts s (has z))).1.own, refl);
      refused = stays;
    }
