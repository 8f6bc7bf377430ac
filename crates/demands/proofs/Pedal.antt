-- Document 02, P2. One pedal for on and back: Walk and Run by the direction of the call, which is true for back. That demand 3 reads the direction from the call
-- is `walk_after` and `drive_after` in Third.antt.
use Prim.Native.Nat.{ℕ, ◌+◌, ◌-◌, ◌≤◌}
use mathlib.Core.Path.{◌≡◌, ◌∙◌}
use mathlib.Core.Bool.{true, false}
use mathlib.Core.List.{List}
use native.Mathlib.Omega.{arith}
use lib.Dec.{eqb}
use contract.Lifetimes.{Lfts}
use borrow.Fn.Kinds.{Dens, ended_of}
use denote.Triple.Clauses.{AtExit}
use Rattle.rules.specs.Stock.{total, IsStock, IsStrip}
use Rattle.rules.specs.Book.{book, place_in}
use Rattle.rules.proofs.Places.{place_below}
use Rattle.walker.specs.Walkers.{walker_for}
use Rattle.walking.specs.declared.Moved.{Moved}
use Rattle.walking.specs.Answers.{left_along}
use Rattle.walking.proofs.Theorems.{walk_right}
use Rattle.walking.proofs.walk.walk.Kinds as walk
use Rattle.walking.proofs.walk.walk.Reads as walk_reads
use Rattle.running.specs.declared.run.Ran.{Ran}
use Rattle.running.proofs.Theorems.{same_test, run_right}
use Rattle.running.proofs.run.run.Kinds as run
use Rattle.running.proofs.run.run.Reads as run_reads
-- as many moves the other way give the strip and the walker one began with, and the same places in reverse order
pub use Rattle.running.proofs.ThereAndBack.{run_there_and_back}

-- ---- nothing is left of the book: on, from its last strip, and back, from strip 0

module _ (counts s : List ℕ) where
  none_on : place_in (book counts) s + 1 ≡ total counts → left_along false counts s ≡ 0
  unfolding left_along
  none_on e = omega arith

  none_back : place_in (book counts) s ≡ 0 → left_along true counts s ≡ 0
  unfolding left_along
  none_back e = e

  only_last : IsStrip counts s → left_along false counts s ≡ 0 → place_in (book counts) s + 1 ≡ total counts
  unfolding left_along
  only_last h e = omega (arith, place_below counts s h)

  only_first : left_along true counts s ≡ 0 → place_in (book counts) s ≡ 0
  unfolding left_along
  only_first e = e

-- ---- Walk: 9 at either end, and there alone

module _ (κs : Lfts 2) (a : Dens κs walk.ps) (r : Moved) (s : AtExit (ended_of 2 walk.ps walk.r) κs) (h : walk_reads.Post κs a r s) where
  module _ (k : IsStock a.0.now) (l : IsStrip a.0.now a.1.0.now) (w : a.1.1.0 ≡ walker_for a.0.now a.1.0.now) where
    pub nine_on_the_last : a.1.1.1.0 ≡ false → place_in (book a.0.now) a.1.0.now + 1 ≡ total a.0.now → r.refusal.no ≡ 9
    nine_on_the_last d e = (walk_right κs a r s h).ended k l w (rw d (none_on a.0.now a.1.0.now e))

    pub nine_on_strip_0 : a.1.1.1.0 ≡ true → place_in (book a.0.now) a.1.0.now ≡ 0 → r.refusal.no ≡ 9
    nine_on_strip_0 d e = (walk_right κs a r s h).ended k l w (rw d (none_back a.0.now a.1.0.now e))

  module _ (z : r.refusal.no ≡ 9) where
    pub on_the_last_alone : a.1.1.1.0 ≡ false → place_in (book a.0.now) a.1.0.now + 1 ≡ total a.0.now
    on_the_last_alone d = let e = (walk_right κs a r s h).ends z in only_last a.0.now a.1.0.now e.1 (rw d at e.2)

    pub on_strip_0_alone : a.1.1.1.0 ≡ true → place_in (book a.0.now) a.1.0.now ≡ 0
    on_strip_0_alone d = only_first a.0.now a.1.0.now (rw d at ((walk_right κs a r s h).ends z).2)

-- ---- Run: its moves are the change in number, either way; yes exactly on the last strip going on, and on strip 0 going back; never 9

module _ (κs : Lfts 3) (a : Dens κs run.ps) (r : Ran) (s : AtExit (ended_of 3 run.ps run.r) κs) (h : run_reads.Post κs a r s) where
  module _ (z : r.refusal.no ≡ 0) where
    pub moves_up : a.1.1.1.0 ≡ false → place_in (book a.0.now) s.1.0.now ≡ place_in (book a.0.now) a.1.0.now + r.moves
    moves_up d = rw d at ((run_right κs a r s h).number z).1

    pub moves_down : a.1.1.1.0 ≡ true → place_in (book a.0.now) a.1.0.now ≡ place_in (book a.0.now) s.1.0.now + r.moves
    unfolding left_along
    moves_down d =
        let n : (r.moves ≤ left_along true a.0.now a.1.0.now) × (place_in (book a.0.now) s.1.0.now ≡ place_in (book a.0.now) a.1.0.now - r.moves) = rw d at ((run_right κs a r s h).number z) in
        omega (arith, n.0, n.1)

    pub yes_on_the_last : a.1.1.1.0 ≡ false → r.ended ≡ eqb (place_in (book a.0.now) s.1.0.now + 1) (total a.0.now)
    yes_on_the_last d =
        let t = s.1.0.now in
        let e : r.ended ≡ eqb (left_along false a.0.now t) 0 = rw d at ((run_right κs a r s h).says z) in
        e ∙ same_test (left_along false a.0.now t) 0 (place_in (book a.0.now) t + 1) (total a.0.now) (only_last a.0.now t ((run_right κs a r s h).strip z).0) (none_on a.0.now t)

    pub yes_on_strip_0 : a.1.1.1.0 ≡ true → r.ended ≡ eqb (place_in (book a.0.now) s.1.0.now) 0
    unfolding left_along
    yes_on_strip_0 d = rw d at ((run_right κs a r s h).says z)

  pub run_is_never_nine : r.refusal.no ≡ 9 → ⊥
  run_is_never_nine = (run_right κs a r s h).never_nine
