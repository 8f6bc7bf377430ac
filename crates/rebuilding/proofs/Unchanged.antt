-- Proofs. A sheet that writing gives is rebuilt as it is, and what is rebuilt is such a sheet.
use Prim.Native.Nat.{ℕ, ◌+◌, ◌-◌, ◌*◌, ◌/◌, ◌≤◌, ◌<◌}
use mathlib.Core.Path.{◌≡◌, refl, sym, ap, ◌∙◌}
use mathlib.Core.List.{List, [], ◌∷◌, ◌++◌}
use native.Mathlib.Nat.{min-eq_left}
use native.Mathlib.Omega.{arith}
use borrow.Author.Tests.{le-ltb}
use lib.ListN.{length, get_or, drop}
use lib.Seq.{get_or-take, get_or-drop}
use Rattle.rules.specs.Refusals.{No, fine, first_of, room_no}
use Rattle.rules.proofs.Refusals.{passed_first}
use Rattle.sheets.proofs.Lengths.{sheet_long, move_kind}
use Rattle.records.specs.Records.{sheet_stock, sheet_strip, first_two_nos}
use Rattle.records.proofs.FirstTwo.{first_two_stock, first_two_strip}
use Rattle.reading.proofs.Exactly.{stock_back, strip_back, first_two_back}
use Rattle.reading.proofs.Theorems.{Writes}
use Rattle.rebuilding.specs.Rebuilding.{rebuilt_moves, proper_sheet, bytes_behind, rebuild_nos, as_rebuilt, rebuild_answer, rebuild_out}
use Rattle.rebuilding.proofs.Numbers.{none_differ}

pub writes_long : (counts s : List ℕ) (c : ℕ) (sheet : List ℕ) → Writes counts s c sheet → length sheet ≡ 83 + 3 * c
writes_long counts s c sheet w = ap length w.is ∙ sheet_long counts s w.stock w.strip c w.moves

-- what is rebuilt of sound records
pub proper_writes : (sheet : List ℕ) → (first_of (first_two_nos sheet)).0 ≡ 0 → Writes (sheet_stock sheet) (sheet_strip sheet) (rebuilt_moves sheet) (proper_sheet sheet)
unfolding proper_sheet rebuilt_moves
proper_writes sheet none = record { stock = first_two_stock sheet none; strip = first_two_strip sheet none; moves = omega arith; is = refl }

-- whose moves have records of kind 3, so that one of kind 5 is another
pub proper_kind : (sheet : List ℕ) → (first_of (first_two_nos sheet)).0 ≡ 0 → (j : ℕ) → j < rebuilt_moves sheet → get_or (proper_sheet sheet) (82 + 3 * j) 0 ≡ 3
proper_kind sheet none j b = let w = proper_writes sheet none in rw w.is (move_kind _ _ w.stock w.strip (rebuilt_moves sheet) w.moves j b)

first_behind : (j : ℕ) (sheet : List ℕ) → get_or (bytes_behind j sheet) 0 0 ≡ get_or sheet (82 + 3 * j) 0
first_behind j sheet =
    let e : 82 + 3 * j + 0 ≡ 82 + 3 * j = omega arith in
    get_or-take 3 (drop (82 + 3 * j) sheet) 0 0 (omega arith) ∙ get_or-drop (82 + 3 * j) sheet 0 0 ∙ rw e

pub other_kind : (proper damaged : List ℕ) (j : ℕ) → get_or proper (82 + 3 * j) 0 ≡ 3 → get_or damaged (82 + 3 * j) 0 ≡ 5 → bytes_behind j proper ≡ bytes_behind j damaged → ⊥
other_kind proper damaged j three five e =
    omega (arith, sym (first_behind j proper) ∙ ap (λ (l : List ℕ). get_or l 0 0) e ∙ first_behind j damaged, three, five)

module _ (counts s : List ℕ) (c : ℕ) (sheet : List ℕ) (w : Writes counts s c sheet) where
  stock_is : sheet_stock sheet ≡ counts
  stock_is = ap sheet_stock w.is ∙ stock_back counts s w.stock w.strip c

  strip_is : sheet_strip sheet ≡ s
  strip_is = ap sheet_strip w.is ∙ strip_back counts s w.stock w.strip c

  sound_written : first_of (first_two_nos sheet) ≡ fine
  sound_written = ap (λ (l : List ℕ). first_of (first_two_nos l)) w.is ∙ first_two_back counts s w.stock w.strip c

  moves_are : rebuilt_moves sheet ≡ c
  unfolding rebuilt_moves
  moves_are =
      let e : (length sheet - 82) / 3 ≡ c = omega (arith, writes_long counts s c sheet w) in
      rw (e, stock_is, strip_is) (min-eq_left w.moves)

  proper_is : proper_sheet sheet ≡ sheet
  unfolding proper_sheet
  proper_is = rw (stock_is, strip_is, moves_are) (sym w.is)

  module _ (out : List ℕ) (room : length sheet ≤ length out) where
    none_refused : first_of (rebuild_nos sheet out) ≡ fine
    unfolding rebuild_nos first_of
    none_refused =
        let n = writes_long counts s c sheet w in
        rw (le-ltb (length sheet) 82 (omega (arith, n)), passed_first (first_two_nos sheet) (room_no (length out) (rebuilt_moves sheet) ∷ []) (ap (λ (r : No). r.0) sound_written), moves_are, le-ltb (length out) (83 + 3 * c) (omega (arith, n)))

    pub unchanged : (rebuild_answer sheet out ≡ as_rebuilt fine (c, [])) × (rebuild_out sheet out ≡ sheet ++ drop (length sheet) out)
    unfolding rebuild_answer rebuild_out
    unchanged = (rw (none_refused, proper_is, moves_are, none_differ sheet c), rw (none_refused, proper_is, moves_are, writes_long counts s c sheet w))
