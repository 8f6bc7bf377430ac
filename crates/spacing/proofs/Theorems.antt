-- Theorems on the search for the next strip with no two of a kind touching, over the call's contract as the function states it: `Post` says which answers it allows for which input.
use Prim.Native.Nat.{ℕ}
use mathlib.Core.Path.{◌≡◌, sym, ap, ◌∙◌}
use mathlib.Core.Bool.{Bool}
use mathlib.Core.List.{List, [], ◌∷◌}
use lib.ListN.{length}
use contract.Lifetimes.{Lfts}
use borrow.Fn.Kinds.{Dens, ended_of}
use denote.Triple.Clauses.{AtExit}
use Rattle.rules.specs.Stock.{IsStock, IsStrip}
use Rattle.rules.specs.Book.{book}
use Rattle.rules.specs.Refusals.{No, first_of, check_nos}
use Rattle.rules.specs.Outcome.{OneOutcome}
use Rattle.rules.proofs.Refusals.{passed_both, unless_refused, unless_passed}
use Rattle.rules.proofs.Checks.{accepted_both}
use Rattle.walker.specs.declared.Walker.{Walker}
use Rattle.walker.specs.Walkers.{walker_for, walker_no, walker_nos}
use Rattle.walker.proofs.Differing.{accepted_walker, accepted_walker_back}
use Rattle.searching.specs.Searching.{later}
use Rattle.searching.proofs.Theorems.{SearchRight, search_right, found_so, not_found_so}
use Rattle.touching.specs.Apart.{stands_apart}
use Rattle.spacing.specs.declared.next_apart.Spaced.{Spaced}
use Rattle.spacing.specs.Answers.{apart_outcome, apart_moves, apart_after, apart_walker, next_apart_answer, next_apart_after}
use Rattle.spacing.proofs.next_apart.next_apart.Kinds as next_apart
use Rattle.spacing.proofs.next_apart.next_apart.Reads as reads

-- two outcomes that the contract allows for one input are the same
pub one_outcome : OneOutcome 2 next_apart.ps next_apart.r (λ κs s. s.1.0.now) reads.Post
one_outcome κs a x y s t h k = (h.0 ∙ sym k.0, h.1 ∙ sym k.1)

-- it refuses no more and no less than 1 to 6 and 10 say, and then answers 0, 0 and the walker that was lent, and the strip is as it was. Else it is right of a search among the strips that come
-- later in the book; found, its walker is Open's for the strip that it leaves, and else the one lent, which is that of the strip too
pub record NextApartRight (endless : Bool) (counts s : List ℕ) (w : Walker) (given : ℕ) (r : Spaced) (after : List ℕ) : Type 0 where
  pub accepts : r.refusal.no ≡ 0 → IsStock counts × IsStrip counts s
  pub own_walker : length w.back ≡ 16 → r.refusal.no ≡ 0 → w ≡ walker_for counts s
  pub accepted : IsStock counts → IsStrip counts s → w ≡ walker_for counts s → r.refusal.no ≡ 0
  pub kept : (r.refusal.no ≡ 0 → ⊥) → (r.outcome ≡ 0) × (r.moves ≡ 0) × (r.walker ≡ w) × (after ≡ s)
  pub searched : r.refusal.no ≡ 0 → SearchRight (stands_apart endless) (later (book counts) s) given s r.outcome r.moves after
  pub walker_found : r.refusal.no ≡ 0 → r.outcome ≡ 1 → r.walker ≡ walker_for counts after
  pub walker_kept : r.refusal.no ≡ 0 → (r.outcome ≡ 1 → ⊥) → r.walker ≡ w

module _ (endless : Bool) (counts s : List ℕ) (w : Walker) (given : ℕ) (r : Spaced) (after : List ℕ)
    (is : (r ≡ next_apart_answer endless counts s w given) × (after ≡ next_apart_after endless counts s w given)) where
  abbrev nos : No
  nos = first_of (walker_nos counts s w)

  no_is : r.refusal.no ≡ nos.0
  unfolding next_apart_answer
  no_is = ap (λ (r : Spaced). r.refusal.no) is.0

  -- accepted
  module _ (z : r.refusal.no ≡ 0) where
    passed : nos.0 ≡ 0
    passed = sym no_is ∙ z

    outcome_is : r.outcome ≡ apart_outcome endless counts s given
    unfolding next_apart_answer
    outcome_is = ap (λ (r : Spaced). r.outcome) is.0 ∙ unless_passed 0 _ nos passed

    moves_are : r.moves ≡ apart_moves endless counts s given
    unfolding next_apart_answer
    moves_are = ap (λ (r : Spaced). r.moves) is.0 ∙ unless_passed 0 _ nos passed

    walker_is : r.walker ≡ apart_walker endless counts s w given
    unfolding next_apart_answer
    walker_is = ap (λ (r : Spaced). r.walker) is.0 ∙ unless_passed w _ nos passed

    after_is : after ≡ apart_after endless counts s given
    unfolding next_apart_after
    after_is = is.1 ∙ unless_passed s _ nos passed

    searched : SearchRight (stands_apart endless) (later (book counts) s) given s r.outcome r.moves after
    unfolding apart_outcome apart_moves apart_after
    searched = search_right (stands_apart endless) (later (book counts) s) given s r.outcome r.moves after outcome_is moves_are after_is

    walker_found : r.outcome ≡ 1 → r.walker ≡ walker_for counts after
    unfolding apart_outcome apart_walker
    walker_found o = walker_is ∙ rw (found_so (stands_apart endless) (later (book counts) s) given (sym outcome_is ∙ o)) (ap (walker_for counts) (sym after_is))

    walker_kept : (r.outcome ≡ 1 → ⊥) → r.walker ≡ w
    unfolding apart_outcome apart_walker
    walker_kept n = walker_is ∙ rw (not_found_so (stands_apart endless) (later (book counts) s) given (λ o. n (outcome_is ∙ o)))

  -- refused
  stays : (r.refusal.no ≡ 0 → ⊥) → (r.outcome ≡ 0) × (r.moves ≡ 0) × (r.walker ≡ w) × (after ≡ s)
  unfolding next_apart_answer next_apart_after
  stays z =
      let n : nos.0 ≡ 0 → ⊥ = λ e. z (no_is ∙ e) in (
        ap (λ (r : Spaced). r.outcome) is.0 ∙ unless_refused 0 _ nos n,
        ap (λ (r : Spaced). r.moves) is.0 ∙ unless_refused 0 _ nos n,
        ap (λ (r : Spaced). r.walker) is.0 ∙ unless_refused w _ nos n,
        is.1 ∙ unless_refused s _ nos n,
      )

  right : NextApartRight endless counts s w given r after
  right = record {
    accepts = λ z. accepted_both counts s (passed_both (check_nos counts s) (walker_no counts s w ∷ []) (passed z)).0;
    own_walker = λ l z. (accepted_walker counts s w l (passed z)).2;
    accepted = λ k h v. no_is ∙ ap (λ (r : No). r.0) (accepted_walker_back counts s w k h v);
    kept = stays;
    searched = searched;
    walker_found = walker_found;
    walker_kept = walker_kept;
  }

pub next_apart_right : (κs : Lfts 2) (a : Dens κs next_apart.ps) (r : Spaced) (s : AtExit (ended_of 2 next_apart.ps next_apart.r) κs) → reads.Post κs a r s
    → NextApartRight a.1.1.1.0 a.0.now a.1.0.now a.1.1.0 a.1.1.1.1.0 r s.1.0.now
next_apart_right κs a r s h = right a.1.1.1.0 _ _ _ _ r _ h
