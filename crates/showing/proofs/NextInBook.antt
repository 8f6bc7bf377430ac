-- Proofs. The strip of the book that is shown after a step.
use Prim.Native.Nat.{ℕ, ◌+◌, ◌<◌}
use mathlib.Core.Path.{◌≡◌, sym, ap, ◌∙◌}
use mathlib.Core.Bool.{false}
use mathlib.Core.List.{List, [], ◌++◌}
use native.Mathlib.Omega.{arith}
use lib.ListN.{length, get_or, drop}
use Rattle.std.specs.Prelude.{Some, None}
use Rattle.rules.specs.Stock.{sum}
use Rattle.rules.specs.Book.{book, place_in}
use Rattle.walker.specs.Walkers.{walker_for}
use Rattle.walking.specs.declared.stepping.Made.{Made}
use Rattle.walking.specs.Answers.{along, left_along}
use Rattle.walking.specs.Checked.{Checked, step_answer, step_strip}
use Rattle.walking.proofs.Along.{none_left, some_left}
use Rattle.walking.proofs.Stepped.{Step, step_refused, step_made}
use Rattle.showing.specs.declared.Shown.{Shown}
use Rattle.printed.specs.Output.{strips}
use Rattle.showing.specs.States.{walker_at, next_shown, blocks_shown, Held}
use Rattle.printed.proofs.BookStrips.{book_many, book_strip, book_number, book_own}
use Rattle.showing.proofs.Showing.{number_is, walker_is, strip_is, next_last, shown_next}

module _ (counts : List ℕ) (sh : Shown) (st : Held false counts sh) where
  abbrev t : List ℕ
  t = blocks_shown counts sh

  same_strip : t ≡ get_or (strips false counts) sh.index []
  same_strip = strip_is false counts st.stock sh.index st.within sh st.is

  pub ready : Checked counts t sh.walker
  unfolding walker_at
  ready = record {
    stock = st.stock;
    strip = rw same_strip (book_own counts sh.index st.within);
    walker = walker_is false counts st.stock sh.index st.within sh st.is ∙ ap (walker_for counts) (sym same_strip);
  }

  -- its number is its index
  place : place_in (book counts) t ≡ sh.index
  place = rw same_strip (book_number counts sh.index st.within)

  pub counted : sh.number ≡ sh.index
  counted = number_is false counts st.stock sh.index st.within sh st.is ∙ book_number counts sh.index st.within

  module _ (u : List ℕ) where
    -- no step: it is the last strip
    pub no_step : (None ≡ step_answer false counts t) × (u ≡ step_strip false counts t) → next_shown false counts (Some sh) ≡ None
    unfolding left_along
    no_step is =
        let e = none_left false counts t (step_refused false counts t u is).0 in
        next_last false counts sh (omega (arith, e, place, book_many counts))

    pub stepped : (r : Made) → (Some r ≡ step_answer false counts t) × (u ≡ step_strip false counts t) → sh.index < 4095
        → Some (record { strip = u ++ drop (sum counts) sh.strip; number = sh.number + 1; index = sh.index + 1; walker = r.walker }) ≡ next_shown false counts (Some sh)
    unfolding left_along along walker_at
    stepped r is few =
        let m : Step false counts t r u = step_made false counts t u ready.strip r is in
        let more : sh.index + 1 < length (strips false counts) = omega (arith, some_left false counts t m.allowed, place, book_many counts) in
        let to : u ≡ get_or (strips false counts) (sh.index + 1) [] = m.strip ∙ ap (λ (i : ℕ). get_or (book counts) (i + 1) []) place ∙ sym (book_strip counts (sh.index + 1) more) in
        let number : sh.number + 1 ≡ place_in (book counts) u = ap (λ (i : ℕ). i + 1) counted ∙ sym (ap (place_in (book counts)) to ∙ book_number counts (sh.index + 1) more) in
        shown_next false counts sh st u (sh.number + 1) r.walker more to number (m.walker ∙ ap (walker_for counts) to)
