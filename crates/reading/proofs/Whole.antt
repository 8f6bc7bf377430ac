-- Proofs. Reading a whole sheet, step by step as the code finds it: refused by 4, by its first two records or by what follows them, or read to its end.
use Prim.Native.Nat.{ℕ, ◌≤◌, ◌<◌}
use mathlib.Core.Path.{◌≡◌, sym, ap, ◌∙◌}
use mathlib.Core.Bool.{Bool}
use mathlib.Core.List.{List, [], ◌∷◌, ◌++◌}
use borrow.Author.Tests.{lt-ltb}
use lib.ListN.{length, drop}
use Rattle.std.specs.Prelude.{Result, Ok, Err}
use Rattle.std.specs.Result.{IsErrAnd}
use Rattle.std.proofs.lemmas.Result.{err_from_is_err_and}
use Rattle.rules.specs.Stock.{sum, IsStock, IsStrip}
use Rattle.rules.specs.Refusals.{fine, first_of}
use Rattle.rules.proofs.Refusals.{first_stopped}
use Rattle.rules.proofs.Checks.{accepted_both}
use Rattle.rules.proofs.Strips.{strip_sum}
use Rattle.stock.specs.declared.refused.Reason.TheVariants.{Length}
use Rattle.stock.specs.declared.refused.Refused.{Refused}
use Rattle.stock.specs.Refused.{no_of, answered}
use Rattle.stock.proofs.Told.{number_some, stopped_first, passed_next, stopped_left, passed_left, stopped_answer, passed_answer}
use Rattle.records.specs.declared.held.Opening.{Opening}
use Rattle.records.specs.Records.{sheet_stock, first_two_nos}
use Rattle.records.specs.Opened.{held_stock, held_strip, Opened}
use Rattle.records.proofs.FirstTwo.{first_two_refused, stock_held, strip_held}
use Rattle.following.specs.Following.{Followed, follow, as_readout}
use Rattle.following.specs.Ends.{Ends}
use Rattle.reading.specs.Reading.{followed, record_nos, read_nos, read_answer, read_buffer}
use Rattle.reading.proofs.Exactly.{read_roomy}

module _ (strides : Bool) (sheet buffer : List ℕ) where
  abbrev Leaves : Result ℕ Refused → List ℕ → Type 0
  Leaves r b = (answered as_readout 0 r ≡ read_answer strides sheet buffer) × (b ≡ read_buffer strides sheet buffer)

  stopped : (e : Refused) → no_of e ≡ first_of (read_nos strides sheet buffer) → Leaves (Err e) buffer
  unfolding read_answer read_buffer
  stopped e is = (stopped_answer (read_nos strides sheet buffer) 0 (followed strides sheet).moves as_readout e is, stopped_left (read_nos strides sheet buffer) buffer _ e is)

  pub too_small : length buffer < 64 → (e : Refused) → e ≡ record { reason = Length; place = 0 } → Leaves (Err e) buffer
  unfolding read_nos first_of
  too_small l e is = rw is (stopped (record { reason = Length; place = 0 }) (rw (lt-ltb (length buffer) 64 l)))

  module _ (room : 64 ≤ length buffer) where
    past_four : first_of (record_nos strides sheet) ≡ first_of (read_nos strides sheet buffer)
    past_four = sym (read_roomy strides sheet buffer room)

    pub records_refused : (e : Refused) → Opened 0 sheet (Err e) → (r : Result ℕ Refused) → IsErrAnd r (λ y. y ≡ e) → Leaves r buffer
    unfolding record_nos
    records_refused e o r h =
        let p = err_from_is_err_and r h in
        rw (p.1, p.2) (stopped e (stopped_first (first_two_nos sheet) e (first_two_refused sheet (Err e) o) ((followed strides sheet).no ∷ []) ∙ past_four))

    -- the first two records are read
    module _ (o : Opening) (opened : Opened 0 sheet (Ok o)) where
      followed_is : follow strides (held_stock o) (held_strip o) 82 (drop 82 sheet) ≡ followed strides sheet
      unfolding followed
      followed_is = rw (stock_held sheet o opened, strip_held sheet o opened)

      pub moves_refused : (e : Refused) (t : List ℕ) → Ends (follow strides (held_stock o) (held_strip o) 82 (drop 82 sheet)) (Err e) t → (r : Result ℕ Refused) → IsErrAnd r (λ y. y ≡ e) → Leaves r buffer
      unfolding record_nos
      moves_refused e t k r h =
          let p = err_from_is_err_and r h in
          let row : (followed strides sheet).no ≡ no_of e = ap (λ (f : Followed). f.no) (sym followed_is) ∙ k in
          let last : no_of e ≡ first_of ((followed strides sheet).no ∷ []) = rw row (sym (first_stopped (no_of e) [] (number_some e.reason))) in
          rw (p.1, p.2) (stopped e (passed_next (first_two_nos sheet) ((followed strides sheet).no ∷ []) (first_two_refused sheet (Ok o) opened) (no_of e) last ∙ past_four))

      pub read_on : (moves : ℕ) (t : List ℕ) → Ends (follow strides (held_stock o) (held_strip o) 82 (drop 82 sheet)) (Ok moves) t → length t ≡ sum (held_stock o) → (b : List ℕ) → b ≡ t ++ drop (length t) buffer → Leaves (Ok moves) b
      unfolding record_nos read_answer read_buffer first_of
      read_on moves t k l b is =
          let f : followed strides sheet ≡ record { no = fine; moves = moves; strip = t } = sym followed_is ∙ k in
          let n : fine ≡ first_of (read_nos strides sheet buffer) = passed_next (first_two_nos sheet) ((followed strides sheet).no ∷ []) (first_two_refused sheet (Ok o) opened) fine (rw f) ∙ past_four in
          let s : length t ≡ sum (sheet_stock sheet) = l ∙ ap sum (stock_held sheet o opened) in (
            passed_answer (read_nos strides sheet buffer) 0 moves as_readout n ∙ rw f,
            is ∙ passed_left (read_nos strides sheet buffer) buffer (t ++ drop (length t) buffer) n ∙ rw (f, s),
          )

-- ---- what is read of the first two records

module _ (o : Opening) where
  pub held_sound : IsStock (held_stock o) × IsStrip (held_stock o) (held_strip o)
  held_sound = accepted_both (held_stock o) (held_strip o) o.sound

  pub held_long : length (held_strip o) ≡ sum (held_stock o)
  held_long = strip_sum (held_stock o) (held_strip o) held_sound.1
