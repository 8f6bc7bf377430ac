-- Theorems on Walk, over its contract as the function states it: `Post` says which answers it allows for which input. Its fourth parameter is the direction.
use Prim.Native.Nat.{ℕ, ◌<◌}
use mathlib.Core.Path.{◌≡◌, refl, sym, ◌∙◌}
use mathlib.Core.Bool.{Bool}
use mathlib.Core.List.{List, [], ◌∷◌}
use lib.ListN.{get_or}
use contract.Lifetimes.{Lfts}
use borrow.Fn.Kinds.{Dens, ended_of}
use denote.Triple.Clauses.{AtExit}
use Rattle.rules.specs.Stock.{total, IsStock, IsStrip}
use Rattle.rules.specs.Book.{book, place_in}
use Rattle.rules.specs.Outcome.{OneOutcome}
use Rattle.rules.proofs.Checks.{accepted_both_back}
use Rattle.rules.proofs.Refusals.{unless_passed}
use Rattle.rules.proofs.Places.{place_undone, place_below, book_only, book_place}
use Rattle.walker.specs.declared.Walker.{Walker}
use Rattle.walker.specs.Walkers.{walker_for, all_forward}
use Rattle.walker.specs.Answers.{open_answer}
use Rattle.walking.specs.declared.Moved.{Moved}
use Rattle.walking.specs.Answers.{shifted, ahead, along, left_along, beside, move_answer, move_strip}
use Rattle.walking.specs.Walks.{after, number_after, StayBelow}
use Rattle.walking.proofs.Numbers.{shifted_below}
use Rattle.walking.proofs.Along.{left_allowed}
use Rattle.walking.proofs.Right.{MoveRight, right, nine_decides}
use Rattle.walking.proofs.walk.walk.Kinds as walk
use Rattle.walking.proofs.walk.walk.Reads as reads

-- two outcomes that the contract allows for one input are the same
pub walk_one_outcome : OneOutcome 2 walk.ps walk.r (λ κs s. s.1.0.now) reads.Post
walk_one_outcome κs a x y s t h k = (h.0 ∙ sym k.0, h.1 ∙ sym k.1)

-- each outcome that the contract allows is right
pub walk_right : (κs : Lfts 2) (a : Dens κs walk.ps) (r : Moved) (s : AtExit (ended_of 2 walk.ps walk.r) κs) → reads.Post κs a r s
    → MoveRight a.1.1.1.0 a.0.now a.1.0.now a.1.1.0 r s.1.0.now
walk_right κs a r s h = right a.1.1.1.0 _ _ _ r _ h

-- ---- each is one move of a walk

pub move_after : (d : Bool) (counts s : List ℕ) (w : Walker) (r : Moved) (t : List ℕ) → (r ≡ move_answer d counts s w) × (t ≡ move_strip d counts s w)
    → after counts (d ∷ []) s w ≡ (t, r.walker)
unfolding after
move_after d counts s w r t is = rw (is.0, is.1) refl

pub walk_after : (κs : Lfts 2) (a : Dens κs walk.ps) (r : Moved) (s : AtExit (ended_of 2 walk.ps walk.r) κs) → reads.Post κs a r s
    → after a.0.now (a.1.1.1.0 ∷ []) a.1.0.now a.1.1.0 ≡ (s.1.0.now, r.walker)
walk_after κs a r s h = move_after a.1.1.1.0 _ _ _ r _ h

-- ---- demand 3

module _ (counts : List ℕ) (k : IsStock counts) where
  abbrev at : ℕ → List ℕ
  at i = get_or (book counts) i []

  -- a move from the strip at i leads to the strip beside
  one_move : (d : Bool) (i : ℕ) → i < total counts → 0 < ahead d (total counts) i → (move_strip d counts (at i) (walker_for counts (at i)) ≡ beside d counts (at i)) × ((move_answer d counts (at i) (walker_for counts (at i))).walker ≡ walker_for counts (beside d counts (at i)))
  unfolding move_strip move_answer left_along
  one_move d i l b =
      let e = nine_decides d counts (at i) (walker_for counts (at i)) k (book_only counts i l) refl ∙ left_allowed d counts (at i) (rw (book_place counts i l) b) in
      rw e (refl, refl)

  walks : (ds : List Bool) (i : ℕ) → i < total counts → StayBelow (total counts) ds i → after counts ds (at i) (walker_for counts (at i)) ≡ (at (number_after ds i), walker_for counts (at (number_after ds i)))
  unfolding after number_after along
  walks [] i l w = refl
  walks (d ∷ ds) i l w =
      let m = one_move d i l w.0 in
      rw (m.0, m.1, book_place counts i l) (walks ds (shifted d i 1) (shifted_below (total counts) i 1 l d w.0) w.1)

  pub walk_from : (s : List ℕ) → IsStrip counts s → (ds : List Bool) → StayBelow (total counts) ds (place_in (book counts) s)
      → after counts ds s (walker_for counts s) ≡ (at (number_after ds (place_in (book counts) s)), walker_for counts (at (number_after ds (place_in (book counts) s))))
  walk_from s h ds w = rw (place_undone counts s h) at (walks ds (place_in (book counts) s) (place_below counts s h) w)

  -- a walker opened at any strip shows, after any moves on and back that stay within the book, exactly the strip that the book has there, and is that strip's walker
  pub walk_shows : (s : List ℕ) → IsStrip counts s → (ds : List Bool) → StayBelow (total counts) ds (place_in (book counts) s)
      → after counts ds s (open_answer counts s).walker ≡ (at (number_after ds (place_in (book counts) s)), walker_for counts (at (number_after ds (place_in (book counts) s))))
  unfolding open_answer
  walk_shows s h ds w =
      let o : (open_answer counts s).walker ≡ walker_for counts s = unless_passed all_forward (walker_for counts s) _ (accepted_both_back counts s k h) in
      rw o (walk_from s h ds w)
