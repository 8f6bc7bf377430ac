-- Proofs. The search for the next standing strip, so many steps made.
use Prim.Native.Nat.{ℕ, suc, ◌+◌, ◌≤◌, ◌<◌}
use mathlib.Core.Path.{◌≡◌, sym, ap, ◌∙◌}
use mathlib.Core.Bool.{Bool, true, false}
use mathlib.Core.List.{List, []}
use native.Mathlib.Omega.{arith}
use lib.ListN.{length, get_or}
use Rattle.std.specs.Prelude.{Result, Ok}
use Rattle.std.specs.Result.{IsErrAnd}
use Rattle.std.proofs.lemmas.Result.{err_from_is_err_and}
use Rattle.rules.specs.Stock.{IsStrip}
use Rattle.rules.specs.Book.{place_in}
use Rattle.rules.specs.Refusals.{No, fine, first_of, check_nos}
use Rattle.rules.proofs.Refusals.{unless_refused}
use Rattle.stock.specs.declared.refused.Refused.{Refused}
use Rattle.stock.specs.Refused.{no_of, refusal}
use Rattle.stock.proofs.Told.{stopped, stopped_left, passed_left}
use Rattle.dictionary.specs.Dictionary.{dictionary}
use Rattle.dictionary.proofs.Theorems.{dictionary_only, dictionary_place}
use Rattle.succession.specs.Steps.{Advanced}
use Rattle.searching.specs.Searching.{later}
use Rattle.searching.specs.Sought.{Sought}
use Rattle.searching.specs.Ended.{number_of, EndsSo}
use Rattle.searching.specs.declared.Ended.{Ended}
use Rattle.searching.specs.declared.Outcome.TheVariants.{Found}
use Rattle.searching.proofs.Later.{later_at}
use Rattle.searching.proofs.First.{Fail}
use Rattle.searching.proofs.Loops.{fail_on, sought_none, sought_stopped, sought_found, sought_kept, found_one}
use Rattle.standing.specs.Standing.{stands_for_paper}
use Rattle.endless.specs.Answers.{paper_outcome, paper_steps, paper_after, next_paper_answer, next_paper_after}
use Rattle.endless.specs.Inner.{stepped}
use Rattle.endless.proofs.Later.{later_length}

-- so many steps lead from s to t, and none of the strips passed is standing
pub record Made (counts s t : List ℕ) (steps : ℕ) : Type 0 where
  pub own : IsStrip counts t
  pub place : place_in (dictionary counts) t ≡ place_in (dictionary counts) s + steps
  pub none : Fail stands_for_paper (later (dictionary counts) s) steps

pub made_start : (counts s : List ℕ) → IsStrip counts s → Made counts s s 0
made_start counts s h = record { own = h; place = omega arith; none = λ i l. absurd (omega arith) }

module _ (counts s : List ℕ) (h : IsStrip counts s) (given : ℕ) (t : List ℕ) (steps : ℕ) (m : Made counts s t steps) (moved : Bool) (v : List ℕ) (a : Advanced counts t moved v) where
  abbrev after : List (List ℕ)
  after = later (dictionary counts) s

  -- there is no step more
  pub made_last : moved ≡ false → steps ≤ given → Sought stands_for_paper after given s 2 steps v
  made_last e l = sought_none stands_for_paper after given s steps m.none v (omega (arith, (a.end e).0, m.place, later_length counts s h)) l

  -- there is one, to v
  module _ (e : moved ≡ true) where
    within : steps < length after
    within = omega (arith, (a.on e).0, m.place, later_length counts s h)

    v_is : v ≡ get_or after steps []
    v_is =
        let f : suc (place_in (dictionary counts) t) ≡ place_in (dictionary counts) s + suc steps = omega (arith, m.place) in
        (a.on e).1 ∙ rw f (sym (later_at (dictionary counts) s steps))

    pub made_stopped : steps ≡ given → Sought stands_for_paper after given s 3 steps v
    made_stopped f = sought_stopped stands_for_paper after given s steps m.none v within f

    pub made_found : steps < given → stands_for_paper v ≡ true → Sought stands_for_paper after given s 1 (steps + 1) v
    made_found l y = sought_found stands_for_paper after given s steps m.none v within l v_is y

    pub made_on : stands_for_paper v ≡ false → Made counts s v (steps + 1)
    made_on n =
        let f : place_in (dictionary counts) v ≡ suc (place_in (dictionary counts) t) = ap (place_in (dictionary counts)) (a.on e).1 ∙ dictionary_place counts (suc (place_in (dictionary counts) t)) (a.on e).0 in
        record {
          own = rw (a.on e).1 (dictionary_only counts (suc (place_in (dictionary counts) t)) (a.on e).0);
          place = omega (arith, f, m.place);
          none = fail_on stands_for_paper after steps m.none (rw (← v_is) n);
        }

-- ---- the call, from the search on a copy of the strip

-- what it comes to, and what it leaves in the strip
abbrev pub Steps : List ℕ → List ℕ → ℕ → List ℕ → Result Ended Refused → Type 0
Steps counts s given left r = (stepped r ≡ next_paper_answer counts s given) × (left ≡ next_paper_after counts s given)

module _ (counts s : List ℕ) (given : ℕ) where
  pub stepped_refused : (r : Result Ended Refused) (e : Refused) → IsErrAnd r (λ y. y ≡ e) → no_of e ≡ first_of (check_nos counts s) → Steps counts s given s r
  unfolding next_paper_answer next_paper_after
  stepped_refused r e h is =
      let p = err_from_is_err_and r h in
      let k = first_of (check_nos counts s) in
      let n = stopped (check_nos counts s) e is in (
        rw (p.1, p.2) (ap (λ (q : No). record { refusal = refusal q; outcome = 0; steps = 0 }) is ∙ rw (unless_refused 0 (paper_outcome counts s given) k n, unless_refused 0 (paper_steps counts s given) k n)),
        stopped_left (check_nos counts s) s (paper_after counts s given) e is,
      )

  module _ (fits : fine ≡ first_of (check_nos counts s)) (e : Ended) (t : List ℕ) (q : EndsSo stands_for_paper (later (dictionary counts) s) given s e t) where
    ended : stepped (Ok e) ≡ next_paper_answer counts s given
    unfolding next_paper_answer paper_outcome paper_steps
    ended = rw (← fits, q.outcome_is, q.steps_are)

    -- found, and written back
    pub stepped_found : (left : List ℕ) → e.outcome ≡ Found → left ≡ t → Steps counts s given left (Ok e)
    unfolding next_paper_after paper_after
    stepped_found left o f = (ended, f ∙ q.strip_is (ap number_of o) ∙ passed_left (check_nos counts s) s _ fits)

    -- not found: the strip stays
    pub stepped_kept : (e.outcome ≡ Found → ⊥) → Steps counts s given s (Ok e)
    unfolding next_paper_after paper_after
    stepped_kept n = (ended, sought_kept stands_for_paper (later (dictionary counts) s) given s (number_of e.outcome) e.steps t q (λ o. n (found_one e.outcome o)) ∙ passed_left (check_nos counts s) s _ fits)
