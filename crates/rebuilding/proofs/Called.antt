-- Proofs. Rebuilding called with any sheet and any second buffer: refused by its length, by its first two records or by 13, or the proper sheet is written.
use Prim.Native.Nat.{ℕ, ◌+◌, ◌-◌, ◌*◌, ◌/◌, ◌≤◌, ◌<◌, min}
use mathlib.Core.Path.{◌≡◌, refl, sym, ap, ◌∙◌}
use mathlib.Core.List.{List, [], ◌∷◌, ◌++◌}
use borrow.Author.Tests.{lt-ltb, le-ltb}
use lib.ListN.{length, get_or, take, drop}
use Rattle.std.specs.Prelude.{Result, Ok, Err, slice_get, unwrap_or}
use Rattle.std.specs.Result.{IsErrAnd}
use Rattle.std.proofs.lemmas.Result.{err_from_is_err_and}
use lib.Seq.{take_at}
use Rattle.rules.specs.Stock.{IsStock, IsStrip}
use Rattle.rules.specs.Refusals.{No, fine, first_of, room_no}
use Rattle.rules.proofs.Refusals.{passed_first}
use Rattle.stock.specs.declared.refused.Reason.TheVariants.{Record, Room}
use Rattle.stock.specs.declared.refused.Refused.{Refused}
use Rattle.stock.specs.Refused.{no_of}
use Rattle.stock.proofs.Told.{stopped_left, stopped_answer, stopped_first as told_stopped}
use Rattle.walking.specs.Answers.{left}
use Rattle.sheets.specs.Sheets.{sheet_of}
use Rattle.records.specs.declared.held.Opening.{Opening}
use Rattle.records.specs.Records.{first_two_nos}
use Rattle.records.specs.Opened.{held_stock, held_strip, Opened}
use Rattle.records.proofs.FirstTwo.{first_two_long, first_two_stock, first_two_strip, first_two_refused, stock_held, strip_held}
use Rattle.rebuilding.specs.declared.rebuild.Proper.{Proper}
use Rattle.rebuilding.specs.declared.differing.Found.{Found}
use Rattle.rebuilding.specs.Rebuilding.{rebuilt_moves, proper_sheet, differing, rebuild_nos, as_rebuilt, rebuild_answer, rebuild_out}
use Rattle.rebuilding.specs.Parts.{Holds, Sound}
use Rattle.rebuilding.specs.Told.{told_rebuilt}

-- ---- what the sound records hold

-- what is read of the first two records is sound
pub sound : (sheet : List ℕ) (o : Opening) → Opened 0 sheet (Ok o) → Sound sheet (held_stock o) (held_strip o)
sound sheet o r = record {
  none = ap (λ (r : No). r.0) (sym (first_two_refused sheet (Ok o) r));
  stock = stock_held sheet o r;
  strip = strip_held sheet o r;
}

module _ (sheet counts s : List ℕ) (v : Sound sheet counts s) where
  pub sound_stock : IsStock counts
  sound_stock = rw v.stock (first_two_stock sheet v.none)

  pub sound_strip : IsStrip counts s
  sound_strip = rw (v.stock, v.strip) (first_two_strip sheet v.none)

  pub sound_long : 82 ≤ length sheet
  sound_long = first_two_long sheet v.none

  -- the moves and the proper sheet, of the stock and the strip that are read
  module _ (c : ℕ) where
    pub moves_are : c ≡ min ((length sheet - 82) / 3) (left counts s) → c ≡ rebuilt_moves sheet
    unfolding rebuilt_moves
    moves_are e = e ∙ rw (v.stock, v.strip)

    proper_is : c ≡ rebuilt_moves sheet → sheet_of counts s c ≡ proper_sheet sheet
    unfolding proper_sheet
    proper_is e = rw (v.stock, v.strip, e)

-- the first of a list, and 0 where it has none
or_zero : (l : List ℕ) → unwrap_or (slice_get l 0) 0 ≡ get_or l 0 0
or_zero [] = refl
or_zero (x ∷ l) = refl

-- the front of what is written
pub front_is : (z p t : List ℕ) (n : ℕ) → length p ≡ n → z ≡ p ++ t → take n z ≡ p
front_is z p t n l e = ap (take n) e ∙ take_at p t n l

-- ---- the answer, and what is left in the second buffer

module _ (sheet out : List ℕ) where
  abbrev pub Leaves : Result Proper Refused → List ℕ → Type 0
  Leaves r z = (told_rebuilt r ≡ rebuild_answer sheet out) × (z ≡ rebuild_out sheet out)

  stopped_by : (e : Refused) → no_of e ≡ first_of (rebuild_nos sheet out) → Leaves (Err e) out
  unfolding rebuild_answer rebuild_out
  stopped_by e is = let n = rebuild_nos sheet out in (stopped_answer n (0, []) _ as_rebuilt e is, stopped_left n out _ e is)

  pub too_short : length sheet < 82 → (e : Refused) → e ≡ record { reason = Record; place = 0 } → Leaves (Err e) out
  unfolding rebuild_nos first_of
  too_short l e is = rw is (stopped_by (record { reason = Record; place = 0 }) (rw (lt-ltb (length sheet) 82 l)))

  abbrev room_row : List No
  room_row = room_no (length out) (rebuilt_moves sheet) ∷ []

  long_enough : 82 ≤ length sheet → first_of (rebuild_nos sheet out) ≡ first_of (first_two_nos sheet ++ room_row)
  unfolding rebuild_nos first_of
  long_enough long = rw (le-ltb (length sheet) 82 long)

  pub records_refused : 82 ≤ length sheet → (e : Refused) → Opened 0 sheet (Err e) → (r : Result Proper Refused) → IsErrAnd r (λ y. y ≡ e) → Leaves r out
  records_refused long e o r h =
      let p = err_from_is_err_and r h in
      rw (p.1, p.2) (stopped_by e (told_stopped (first_two_nos sheet) e (first_two_refused sheet (Err e) o) room_row ∙ sym (long_enough long)))

  -- past them
  module _ (counts s : List ℕ) (v : Sound sheet counts s) (c : ℕ) (is : c ≡ rebuilt_moves sheet) where
    last : first_of (rebuild_nos sheet out) ≡ first_of room_row
    last = long_enough (sound_long sheet counts s v) ∙ passed_first (first_two_nos sheet) room_row v.none

    pub no_room : length out < 83 + 3 * c → (e : Refused) → e ≡ record { reason = Room; place = 0 } → Leaves (Err e) out
    unfolding first_of
    no_room h e k = rw k (stopped_by (record { reason = Room; place = 0 }) (sym (last ∙ rw (← is, lt-ltb (length out) (83 + 3 * c) h))))

    pub rebuilt : 83 + 3 * c ≤ length out → (f : Found) → Holds (differing (sheet_of counts s c) sheet c) f → (z : List ℕ) → z ≡ sheet_of counts s c ++ drop (83 + 3 * c) out
        → Leaves (Ok (record { moves = c; found = f })) z
    unfolding rebuild_answer rebuild_out first_of
    rebuilt room f h z e =
        let n : first_of (rebuild_nos sheet out) ≡ fine = last ∙ rw (← is, le-ltb (length out) (83 + 3 * c) room) in
        rw (n, ← is, ← proper_is sheet counts s v c is, h.many, h.first, or_zero) (refl, e)
