-- Proofs. The standing strip that is shown after a search.
use Prim.Native.Nat.{ℕ, suc, ◌+◌, ◌≤◌, ◌<◌}
use mathlib.Core.Path.{◌≡◌, sym, ap, ◌∙◌}
use mathlib.Core.Bool.{true}
use mathlib.Core.List.{List, [], ◌++◌}
use native.Mathlib.Omega.{arith}
use lib.ListN.{get_or, drop}
use Rattle.std.specs.Prelude.{Some, None}
use Rattle.rules.specs.Stock.{sum}
use Rattle.rules.specs.Book.{place_in}
use Rattle.rules.specs.Refusals.{first_of, check_nos}
use Rattle.rules.proofs.Refusals.{unless_passed}
use Rattle.rules.proofs.Checks.{accepted_both_back}
use Rattle.dictionary.specs.Dictionary.{dictionary}
use Rattle.searching.specs.Searching.{later, outcome, steps_made, found_or}
use Rattle.searching.proofs.Theorems.{few_steps}
use Rattle.standing.specs.Standing.{stands_for_paper}
use Rattle.endless.specs.declared.next_paper.Stepped.{Stepped}
use Rattle.endless.specs.Answers.{paper_outcome, paper_steps, paper_after, next_paper_answer, next_paper_after}
use Rattle.showing.specs.declared.Shown.{Shown}
use Rattle.printed.specs.Output.{strips}
use Rattle.showing.specs.States.{walker_at, next_shown, blocks_shown, Held}
use Rattle.printed.proofs.PaperStrips.{Next, paper_near, paper_own, last_paper, next_paper_lem}
use Rattle.showing.proofs.Showing.{number_is, walker_is, strip_is, next_last, shown_next}

module _ (counts : List ℕ) (sh : Shown) (st : Held true counts sh) where
  abbrev t : List ℕ
  t = blocks_shown counts sh

  abbrev s : List ℕ
  s = get_or (strips true counts) sh.index []

  same_strip : t ≡ s
  same_strip = strip_is true counts st.stock sh.index st.within sh st.is

  place : sh.number ≡ place_in (dictionary counts) s
  place = number_is true counts st.stock sh.index st.within sh st.is

  -- its number is one of those that are looked at
  pub small : sh.number ≤ 999999
  small = omega (arith, place, paper_near counts sh.index st.within)

  -- the search is not refused
  passed : (first_of (check_nos counts t)).0 ≡ 0
  passed = accepted_both_back counts t st.stock (rw same_strip (paper_own counts sh.index st.within))

  -- a search of so many steps that all are looked at, and no more
  module _ (given : ℕ) (all : sh.number + given ≡ 999999) where
    as_many : suc (place_in (dictionary counts) s) + given ≡ 1000000
    as_many = omega (arith, place)

    module _ (r : Stepped) (is : r ≡ next_paper_answer counts t given) where
      outcome_is : r.outcome ≡ outcome stands_for_paper (later (dictionary counts) s) given
      unfolding next_paper_answer paper_outcome
      outcome_is =
          ap (λ (x : Stepped). x.outcome) is ∙ unless_passed 0 (paper_outcome counts t given) (first_of (check_nos counts t)) passed
          ∙ ap (λ (x : List ℕ). outcome stands_for_paper (later (dictionary counts) x) given) same_strip

      steps_are : r.steps ≡ steps_made stands_for_paper (later (dictionary counts) s) given
      unfolding next_paper_answer paper_steps
      steps_are =
          ap (λ (x : Stepped). x.steps) is ∙ unless_passed 0 (paper_steps counts t given) (first_of (check_nos counts t)) passed
          ∙ ap (λ (x : List ℕ). steps_made stands_for_paper (later (dictionary counts) x) given) same_strip

      pub steps_few : sh.number + r.steps ≤ 999999
      steps_few = omega (arith, steps_are, few_steps stands_for_paper (later (dictionary counts) s) given)

      -- nothing is found: it is the last strip
      pub none_found : (r.outcome ≡ 1 → ⊥) → next_shown true counts (Some sh) ≡ None
      none_found n =
          next_last true counts sh
          (last_paper counts sh.index st.within given as_many (λ e. n (outcome_is ∙ e)))

      module _ (u : List ℕ) (left : u ≡ next_paper_after counts t given) where
        found_is : u ≡ found_or stands_for_paper (later (dictionary counts) s) given s
        unfolding next_paper_after paper_after
        found_is =
            left ∙ unless_passed t (paper_after counts t given) (first_of (check_nos counts t)) passed
            ∙ ap (λ (x : List ℕ). found_or stands_for_paper (later (dictionary counts) x) given x) same_strip

        pub found : r.outcome ≡ 1 → sh.index < 4095
            → Some (record { strip = u ++ drop (sum counts) sh.strip; number = sh.number + r.steps; index = sh.index + 1; walker = sh.walker }) ≡ next_shown true counts (Some sh)
        unfolding walker_at
        found o few =
            let n : Next counts sh.index (place_in (dictionary counts) s) u r.steps = rw (found_is, steps_are) (next_paper_lem counts sh.index st.within given as_many (omega arith) (sym outcome_is ∙ o)) in
            shown_next true counts sh st u (sh.number + r.steps) sh.walker n.within (sym n.strip) (ap (λ (x : ℕ). x + r.steps) place ∙ sym n.place)
            (walker_is true counts st.stock sh.index st.within sh st.is)
