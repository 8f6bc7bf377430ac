-- Theorems on Run, over its contract as the function states it: `Post` says which answers it allows for which input.
use Prim.Native.Nat.{ℕ, zero, suc, ◌+◌, ◌*◌, ◌/◌, ◌≤◌, ◌<◌}
use mathlib.Core.Path.{◌≡◌, refl, sym, ap, ◌∙◌}
use mathlib.Core.Bool.{Bool, true, false}
use mathlib.Core.List.{List, [], ◌∷◌, ◌++◌}
use native.Mathlib.Decide.{ℕ_discrete}
use native.Mathlib.Omega.{arith}
use borrow.Author.Tests.{eq-eqb, ne_eqb}
use lib.Dec.{eqb}
use lib.ListN.{length, drop, replicate}
use contract.Lifetimes.{Lfts}
use borrow.Fn.Kinds.{Dens, ended_of}
use denote.Triple.Clauses.{AtExit}
use Rattle.rules.specs.Stock.{total, IsStock, IsStrip}
use Rattle.rules.specs.Book.{book, place_in}
use Rattle.rules.specs.Refusals.{No, fine, first_of, check_nos}
use Rattle.rules.specs.Outcome.{OneOutcome}
use Rattle.rules.proofs.Refusals.{passed_both, passed_fine, unless_refused}
use Rattle.rules.proofs.Checks.{accepted_both}
use Rattle.walker.specs.declared.Walker.{Walker}
use Rattle.walker.specs.Walkers.{walker_for, walker_no, walker_nos}
use Rattle.walker.proofs.Differing.{accepted_walker, accepted_walker_back, never_nine}
use Rattle.walking.specs.Answers.{shifted, ahead, along, left_along}
use Rattle.walking.specs.Walks.{after, number_after, StayBelow}
use Rattle.walking.proofs.Numbers.{shifted_none, shifted_further, ahead_further}
use Rattle.walking.proofs.Along.{along_strip, along_place, along_left}
use Rattle.walking.proofs.Theorems.{walk_from}
use Rattle.running.specs.declared.run.Ran.{Ran}
use Rattle.running.specs.Answers.{run_moves, as_ran, run_answer, run_strip, moves_from, run_list}
use Rattle.running.proofs.run.run.Kinds as run
use Rattle.running.proofs.run.run.Reads as reads

-- two outcomes that the contract allows for one input are the same
pub run_one_outcome : OneOutcome 3 run.ps run.r {C = List ℕ × List ℕ} (λ κs s. (s.1.0.now, s.1.1.1.1.0.now)) reads.Post
run_one_outcome κs a x y s t h k =
    let e = h.1 ∙ sym k.1 in
    let f = h.2 ∙ sym k.2 in
    (h.0 ∙ sym k.0, rw (e, f))

-- ---- each outcome that the contract allows is right

-- it refuses no more and no less than the table says. Accepted, its moves are the change in number in its direction, as many as there is room for or as are
-- left; it says yes exactly where none is left; the strip and the walker are those that as many moves of Walk leave; the list has the places of the moves, and
-- later bytes stay. Refused, it gives 0, no and the walker that was lent, and leaves the strip and the list
pub record RunRight (d : Bool) (counts s : List ℕ) (w : Walker) (list₀ : List ℕ) (r : Ran) (t list : List ℕ) : Type 0 where
  pub accepts : r.refusal.no ≡ 0 → IsStock counts × IsStrip counts s
  pub own_walker : length w.back ≡ 16 → r.refusal.no ≡ 0 → w ≡ walker_for counts s
  pub accepted : IsStock counts → IsStrip counts s → w ≡ walker_for counts s → r.refusal.no ≡ 0
  pub never_nine : r.refusal.no ≡ 9 → ⊥
  pub strip : r.refusal.no ≡ 0 → IsStrip counts t × (r.walker ≡ walker_for counts t)
  pub number : r.refusal.no ≡ 0 → (r.moves ≤ left_along d counts s) × (place_in (book counts) t ≡ shifted d (place_in (book counts) s) r.moves)
  pub room : r.refusal.no ≡ 0 → r.moves ≤ length list₀ / 2
  pub used : r.refusal.no ≡ 0 → r.moves < length list₀ / 2 → r.ended ≡ true
  pub says : r.refusal.no ≡ 0 → r.ended ≡ eqb (left_along d counts t) 0
  pub walks : length w.back ≡ 16 → r.refusal.no ≡ 0 → after counts (replicate r.moves d) s w ≡ (t, r.walker)
  pub listed : r.refusal.no ≡ 0 → list ≡ moves_from d counts s r.moves ++ drop (2 * r.moves) list₀
  pub refused : (r.refusal.no ≡ 0 → ⊥) → (r.moves ≡ 0) × (r.ended ≡ false) × (r.walker ≡ w) × (t ≡ s) × (list ≡ list₀)

-- m moves one way stay within n numbers and lead to the number m further
stays_below : (d : Bool) (n m i : ℕ) → m ≤ ahead d n i → StayBelow n (replicate m d) i
stays_below d n zero i h = tt
stays_below d n (suc m) i h = (omega arith, stays_below d n m (shifted d i 1) (omega (arith, ahead_further d n i 1)))

number_further : (d : Bool) (m i : ℕ) → number_after (replicate m d) i ≡ shifted d i m
unfolding number_after
number_further d zero i = sym (shifted_none d i)
number_further d (suc m) i = let e : 1 + m ≡ suc m = omega arith in number_further d m (shifted d i 1) ∙ shifted_further d i 1 m ∙ rw e

pub same_test : (a b c d : ℕ) → (a ≡ b → c ≡ d) → (c ≡ d → a ≡ b) → eqb a b ≡ eqb c d
same_test a b c d f g = elim (ℕ_discrete a b) [ yes e ↦ rw (eq-eqb a b e, eq-eqb c d (f e)) | no e ↦ rw (ne_eqb a b e, ne_eqb c d (λ k. e (g k))) ]

module _ (d : Bool) (counts s : List ℕ) (w : Walker) (list₀ : List ℕ) (r : Ran) (t list : List ℕ)
    (is : (r ≡ run_answer d counts s w list₀) × (t ≡ run_strip d counts s w list₀) × (list ≡ run_list d counts s w list₀)) where
  abbrev m : ℕ
  m = run_moves d counts s list₀

  abbrev u : List ℕ
  u = along d counts s m

  no_is : r.refusal.no ≡ (first_of (walker_nos counts s w)).0
  unfolding run_answer
  no_is = ap (λ (r : Ran). r.refusal.no) is.0

  few : (m ≤ left_along d counts s) × (m ≤ length list₀ / 2)
  unfolding run_moves
  few = (omega arith, omega arith)

  -- accepted
  module _ (z : r.refusal.no ≡ 0) where
    none : first_of (walker_nos counts s w) ≡ fine
    none = passed_fine (walker_nos counts s w) (sym no_is ∙ z)

    answer_is : r ≡ as_ran fine m (eqb m (left_along d counts s)) (walker_for counts u)
    unfolding run_answer
    answer_is = is.0 ∙ rw none

    strip_is : t ≡ u
    unfolding run_strip
    strip_is = is.1 ∙ rw none

    list_is : list ≡ moves_from d counts s m ++ drop (2 * m) list₀
    unfolding run_list
    list_is = is.2 ∙ rw none

    both : IsStock counts × IsStrip counts s
    both = accepted_both counts s (passed_both (check_nos counts s) (walker_no counts s w ∷ []) (sym no_is ∙ z)).0

    says : eqb m (left_along d counts s) ≡ eqb (left_along d counts u) 0
    says = let e = along_left d counts s both.1 m few.0 in same_test m (left_along d counts s) (left_along d counts u) 0 (λ f. omega arith) (λ f. omega (arith, few.0))

    used : m < length list₀ / 2 → eqb m (left_along d counts s) ≡ true
    unfolding run_moves
    used h = eq-eqb m (left_along d counts s) (omega arith)

    own_walker : length w.back ≡ 16 → w ≡ walker_for counts s
    own_walker l = (accepted_walker counts s w l (sym no_is ∙ z)).2

    walks : length w.back ≡ 16 → after counts (replicate m d) s w ≡ (u, walker_for counts u)
    unfolding along left_along
    walks l =
        rw (own_walker l, ← number_further d m (place_in (book counts) s))
        (walk_from counts both.0 s both.1 (replicate m d) (stays_below d (total counts) m (place_in (book counts) s) few.0))

  -- refused
  stays : (r.refusal.no ≡ 0 → ⊥) → (r.moves ≡ 0) × (r.ended ≡ false) × (r.walker ≡ w) × (t ≡ s) × (list ≡ list₀)
  unfolding run_answer run_strip run_list
  stays z =
      let n = first_of (walker_nos counts s w) in
      let k : n.0 ≡ 0 → ⊥ = λ e. z (no_is ∙ e) in (
        ap (λ (r : Ran). r.moves) is.0 ∙ unless_refused 0 m n k,
        ap (λ (r : Ran). r.ended) is.0 ∙ unless_refused false _ n k,
        ap (λ (r : Ran). r.walker) is.0 ∙ unless_refused w _ n k,
        is.1 ∙ unless_refused s u n k,
        is.2 ∙ unless_refused list₀ _ n k,
      )

  right : RunRight d counts s w list₀ r t list
  right = record {
    accepts = both;
    own_walker = λ l z. own_walker z l;
    accepted = λ k h v. no_is ∙ ap (λ (r : No). r.0) (accepted_walker_back counts s w k h v);
    never_nine = λ e. never_nine counts s w (sym no_is ∙ e);
    strip = λ z. rw (strip_is z, answer_is z) (along_strip d counts s (both z).1 m few.0, refl);
    number = λ z. rw (strip_is z, answer_is z) (few.0, along_place d counts s (both z).1 m few.0);
    room = λ z. rw (answer_is z) few.1;
    used = λ z. rw (answer_is z) (used z);
    says = λ z. rw (strip_is z, answer_is z) (says z);
    walks = λ l z. rw (strip_is z, answer_is z) (walks z l);
    listed = λ z. rw (answer_is z) (list_is z);
    refused = stays;
  }

pub run_right : (κs : Lfts 3) (a : Dens κs run.ps) (r : Ran) (s : AtExit (ended_of 3 run.ps run.r) κs) → reads.Post κs a r s
    → RunRight a.1.1.1.0 a.0.now a.1.0.now a.1.1.0 a.1.1.1.1.0.now r s.1.0.now s.1.1.1.1.0.now
run_right κs a r s h = right a.1.1.1.0 _ _ _ _ r _ _ h
