-- Proofs. The search called with any stock, strip and walker: refused by 1 to 6 or 10, or else as it ended on a copy of the strip.
use Prim.Native.Nat.{ℕ}
use mathlib.Core.Path.{◌≡◌, sym, ap, ◌∙◌}
use mathlib.Core.Bool.{Bool}
use mathlib.Core.List.{List}
use Rattle.std.specs.Prelude.{Result, Ok}
use Rattle.std.specs.Result.{IsErrAnd}
use Rattle.std.proofs.lemmas.Result.{err_from_is_err_and}
use Rattle.rules.specs.Book.{book}
use Rattle.rules.specs.Refusals.{No, fine, first_of}
use Rattle.rules.proofs.Refusals.{unless_refused}
use Rattle.stock.specs.declared.refused.Refused.{Refused}
use Rattle.stock.specs.Refused.{no_of}
use Rattle.stock.proofs.Told.{stopped, stopped_left, passed_left}
use Rattle.walker.specs.declared.Walker.{Walker}
use Rattle.walker.specs.Walkers.{walker_for, walker_nos}
use Rattle.searching.specs.Searching.{later}
use Rattle.searching.specs.Ended.{number_of}
use Rattle.searching.specs.declared.Ended.{Ended}
use Rattle.searching.specs.declared.Outcome.TheVariants.{Found}
use Rattle.searching.proofs.Theorems.{found_so, not_found_so}
use Rattle.searching.proofs.Loops.{sought_kept, found_one}
use Rattle.touching.specs.Apart.{stands_apart}
use Rattle.spacing.specs.Answers.{as_spaced, apart_outcome, apart_moves, apart_after, apart_walker, next_apart_answer, next_apart_after}
use Rattle.spacing.specs.Seeking.{Reached, spaced}

module _ (endless : Bool) (counts s : List ℕ) (w : Walker) (given : ℕ) where
  -- what the call comes to, and what it leaves in the strip
  abbrev pub Answers : Result (Ended × Walker) Refused → List ℕ → Type 0
  Answers r t = (spaced w r ≡ next_apart_answer endless counts s w given) × (t ≡ next_apart_after endless counts s w given)

  pub refused : (r : Result (Ended × Walker) Refused) (e : Refused) → IsErrAnd r (λ y. y ≡ e) → no_of e ≡ first_of (walker_nos counts s w) → Answers r s
  unfolding next_apart_answer next_apart_after
  refused r e h is =
      let p = err_from_is_err_and r h in
      let k = first_of (walker_nos counts s w) in
      let n = stopped (walker_nos counts s w) e is in (
        rw (p.1, p.2) (ap (λ (q : No). as_spaced q 0 0 w) is ∙ rw (unless_refused {A = ℕ} 0 (apart_outcome endless counts s given) k n, unless_refused {A = ℕ} 0 (apart_moves endless counts s given) k n) (ap (as_spaced k 0 0) (sym (unless_refused w _ k n)))),
        stopped_left (walker_nos counts s w) s _ e is,
      )

  module _ (fits : fine ≡ first_of (walker_nos counts s w)) (e : Ended) (t : List ℕ) (x : Walker) (v : Reached endless counts s given e t x) where
    answered : (y : Walker) → y ≡ apart_walker endless counts s w given → spaced w (Ok (e, y)) ≡ next_apart_answer endless counts s w given
    unfolding next_apart_answer apart_outcome apart_moves
    answered y f = rw (← fits, ← v.sought.outcome_is, ← v.sought.steps_are) (ap (as_spaced fine (number_of e.outcome) e.steps) f)

    left : apart_after endless counts s given ≡ next_apart_after endless counts s w given
    unfolding next_apart_after
    left = passed_left (walker_nos counts s w) s _ fits

    -- none is found: the strip and the walker stay
    pub not_found : (e.outcome ≡ Found → ⊥) → Answers (Ok (e, w)) s
    unfolding apart_after apart_walker
    not_found n =
        let h : number_of e.outcome ≡ 1 → ⊥ = λ o. n (found_one e.outcome o) in
        (answered w (rw (not_found_so (stands_apart endless) (later (book counts) s) given (λ o. h (v.sought.outcome_is ∙ o)))), sought_kept (stands_apart endless) (later (book counts) s) given s _ _ t v.sought h ∙ left)

    -- one is found, and written
    pub found : e.outcome ≡ Found → (u : List ℕ) → u ≡ t → Answers (Ok (e, x)) u
    unfolding apart_after apart_walker
    found o u f =
        let one : number_of e.outcome ≡ 1 = ap number_of o in
        let g = v.sought.strip_is one in
        (answered x (rw (found_so (stands_apart endless) (later (book counts) s) given (sym v.sought.outcome_is ∙ one)) (v.walker ∙ ap (walker_for counts) g)), f ∙ g ∙ left)
