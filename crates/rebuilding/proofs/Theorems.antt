-- Theorems on rebuilding, over its contract as the function states it: `Post` says which answers it allows for which input, and what it leaves in the second
-- buffer. Where writing or reading a sheet comes in, over their contracts too.
use Prim.Native.Nat.{ℕ, suc, ◌+◌, ◌-◌, ◌*◌, ◌/◌, ◌≤◌, ◌<◌, min}
use mathlib.Core.Path.{◌≡◌, refl, sym, ap, ◌∙◌}
use mathlib.Core.Bool.{false}
use mathlib.Core.List.{List, [], ◌∷◌, ◌++◌}
use native.Mathlib.Omega.{arith}
use borrow.Author.Tests.{ltb-false, le-ltb}
use lib.Dec.{ltb}
use lib.ListN.{length, get_or, take, drop}
use contract.Lifetimes.{Lfts}
use borrow.Fn.Kinds.{Dens, ended_of}
use denote.Triple.Clauses.{AtExit}
use Rattle.rules.specs.Stock.{sum}
use Rattle.rules.specs.Refusals.{fine, first_of, unless, room_no}
use Rattle.rules.specs.Outcome.{OneOutcome}
use Rattle.rules.proofs.Refusals.{passed_both, passed_first, passed_fine, unless_refused, unless_passed, row_is, both_is, end_is, when_is}
use Rattle.rules.proofs.Checks.{when_passed, passed_head}
use Rattle.walking.specs.Answers.{onward, left}
use Rattle.sheets.specs.declared.Written.{Written}
use Rattle.sheets.specs.Sheets.{sheet_of}
use Rattle.sheets.proofs.Lengths.{sheet_long}
use Rattle.records.specs.Records.{sheet_stock, sheet_strip, first_two_nos}
use Rattle.records.proofs.FirstTwo.{first_two_long}
use Rattle.writing.proofs.Theorems.{accepted as write_accepted, written as write_written, length_written}
use Rattle.writing.proofs.sheet.write_sheet.Kinds as writing
use Rattle.writing.proofs.sheet.write_sheet.Reads as writing_reads
use Rattle.following.specs.declared.Readout.{Readout}
use Rattle.following.specs.Following.{as_readout}
use Rattle.reading.proofs.SoldOut.{first_two_not_two}
use Rattle.reading.proofs.Theorems.{Writes, written_is_read, read_is_written}
use Rattle.reading.proofs.reader.read_sheet.Kinds as reading
use Rattle.reading.proofs.reader.read_sheet.Reads as reading_reads
use Rattle.rebuilding.specs.declared.Rebuilt.{Rebuilt}
use Rattle.rebuilding.specs.Rebuilding.{rebuilt_moves, proper_sheet, bytes_behind, differing, rebuild_nos, as_rebuilt, rebuild_answer, rebuild_out}
use Rattle.rebuilding.proofs.Numbers.{few, first_none, none_first, all_same, first_differs}
use Rattle.rebuilding.proofs.Called.{front_is}
use Rattle.rebuilding.proofs.Unchanged.{writes_long, proper_writes, proper_kind, other_kind, unchanged}
use Rattle.rebuilding.proofs.rebuild.rebuild.Kinds as rebuild
use Rattle.rebuilding.proofs.rebuild.rebuild.Reads as reads

-- two outcomes that the contract allows for one input have the same answer, and leave the same bytes in the second buffer
pub one_outcome : OneOutcome 2 rebuild.ps rebuild.r (λ κs s. s.1.0.now) reads.Post
one_outcome κs a x y s t h k = (h.0 ∙ sym k.0, h.1 ∙ sym k.1)

-- any answer r that the contract allows for a sheet and a second buffer, and what it leaves in that
module _ (κs : Lfts 2) (a : Dens κs rebuild.ps) (r : Rebuilt) (t : AtExit (ended_of 2 rebuild.ps rebuild.r) κs) (h : reads.Post κs a r t) where
  abbrev sheet : List ℕ
  sheet = a.0.now

  abbrev out : List ℕ
  out = a.1.0.now

  abbrev after : List ℕ
  after = t.1.0.now

  abbrev differences : List ℕ
  differences = differing (proper_sheet sheet) sheet (rebuilt_moves sheet)

  no_is : r.refusal.no ≡ (first_of (rebuild_nos sheet out)).0
  unfolding rebuild_answer
  no_is = ap (λ (r : Rebuilt). r.refusal.no) h.0

  -- it is not refused exactly where the first two records are sound and there is room; a sheet of under 82 bytes has no sound records
  pub accepts : r.refusal.no ≡ 0 → ((first_of (first_two_nos sheet)).0 ≡ 0) × (83 + 3 * rebuilt_moves sheet ≤ length out)
  unfolding rebuild_nos
  accepts e =
      let p = passed_both (first_two_nos sheet) (room_no (length out) (rebuilt_moves sheet) ∷ []) (passed_head _ _ (sym no_is ∙ e)).1 in
      (p.0, ltb-false _ _ (when_passed 12 0 _ (passed_head _ _ p.1).0))

  pub accepted : (first_of (first_two_nos sheet)).0 ≡ 0 → 83 + 3 * rebuilt_moves sheet ≤ length out → r.refusal.no ≡ 0
  unfolding rebuild_nos first_of
  accepted sound room =
      no_is
      ∙ rw (le-ltb (length sheet) 82 (first_two_long sheet sound), passed_first (first_two_nos sheet) (room_no (length out) (rebuilt_moves sheet) ∷ []) sound, le-ltb (length out) (83 + 3 * rebuilt_moves sheet) room)

  -- refused, all numbers are 0, and the second buffer stays as it was
  pub refused_stays : (r.refusal.no ≡ 0 → ⊥) → (r.moves ≡ 0) × (r.differing ≡ 0) × (r.first ≡ 0) × (after ≡ out)
  unfolding rebuild_answer rebuild_out
  refused_stays e =
      let k : (first_of (rebuild_nos sheet out)).0 ≡ 0 → ⊥ = λ z. e (no_is ∙ z) in
      let none : ℕ × List ℕ = (0, []) in
      let u : unless (first_of (rebuild_nos sheet out)) none (rebuilt_moves sheet, differences) ≡ none = unless_refused none _ _ k in
      (ap (λ (r : Rebuilt). r.moves) h.0 ∙ rw u, ap (λ (r : Rebuilt). r.differing) h.0 ∙ rw u, ap (λ (r : Rebuilt). r.first) h.0 ∙ rw u, h.1 ∙ unless_refused out _ _ k)

  -- 2 is never met: the kinds of a sheet's stock run to the last count that is not 0
  pub never_two : r.refusal.no ≡ 2 → ⊥
  unfolding rebuild_nos
  never_two e =
      let P : ℕ → Type 0 = λ n. n ≡ 2 → ⊥ in
      let none : P 0 = λ e. omega arith in
      row_is P none _ _ (when_is P none 11 0 (λ e. omega arith) (ltb (length sheet) 82))
      (both_is P none (first_two_nos sheet) _ (first_two_not_two sheet) (row_is P none _ [] (when_is P none 13 0 (λ e. omega arith) (ltb (length out) (83 + 3 * rebuilt_moves sheet))) (end_is P none)))
      (sym no_is ∙ e)

  -- ---- what is rebuilt

  module _ (e : r.refusal.no ≡ 0) where
    none : (first_of (rebuild_nos sheet out)).0 ≡ 0
    none = sym no_is ∙ e

    answered : r ≡ as_rebuilt fine (rebuilt_moves sheet, differences)
    unfolding rebuild_answer
    answered = h.0 ∙ rw (passed_fine _ none)

    moves_named : r.moves ≡ rebuilt_moves sheet
    moves_named = ap (λ (r : Rebuilt). r.moves) answered

    -- c
    pub moves_is : r.moves ≡ min ((length sheet - 82) / 3) (left (sheet_stock sheet) (sheet_strip sheet))
    unfolding rebuilt_moves
    moves_is = moves_named

    -- how many differed, and the first of them, from one list
    pub differing_is : (r.differing ≡ length differences) × (r.first ≡ get_or differences 0 0)
    differing_is = (ap (λ (r : Rebuilt). r.differing) answered, ap (λ (r : Rebuilt). r.first) answered)

    pub differing_within : r.differing ≤ r.moves
    differing_within = rw answered (few (proper_sheet sheet) sheet (rebuilt_moves sheet))

    -- the first is 0 exactly when none differed
    pub first_zero : r.first ≡ 0 → r.differing ≡ 0
    first_zero f = differing_is.0 ∙ first_none (proper_sheet sheet) sheet (rebuilt_moves sheet) (sym differing_is.1 ∙ f)

    pub zero_first : r.differing ≡ 0 → r.first ≡ 0
    zero_first f = differing_is.1 ∙ none_first differences (sym differing_is.0 ∙ f)

    -- where the first is move i + 1, its three bytes differ, and those of no move before it; where none differed, those of no move do
    pub first_right : (i : ℕ) → r.first ≡ suc i
        → (i < r.moves) × (bytes_behind i (proper_sheet sheet) ≡ bytes_behind i sheet → ⊥) × ((j : ℕ) → j < i → bytes_behind j (proper_sheet sheet) ≡ bytes_behind j sheet)
    first_right i f = rw moves_named (first_differs (proper_sheet sheet) sheet (rebuilt_moves sheet) i (sym differing_is.1 ∙ f))

    pub none_right : r.differing ≡ 0 → (j : ℕ) → j < r.moves → bytes_behind j (proper_sheet sheet) ≡ bytes_behind j sheet
    none_right f = rw moves_named (all_same (proper_sheet sheet) sheet (rebuilt_moves sheet) (sym differing_is.0 ∙ f))

    -- a record 5 where a move has its own is damage (P12)
    pub stride_differs : (j : ℕ) → j < r.moves → get_or sheet (82 + 3 * j) 0 ≡ 5 → (bytes_behind j (proper_sheet sheet) ≡ bytes_behind j sheet → ⊥) × (r.differing ≡ 0 → ⊥)
    stride_differs j b five =
        let apart = other_kind (proper_sheet sheet) sheet j (proper_kind sheet (accepts e).0 j (rw (← moves_named) b)) five in
        (apart, λ z. apart (none_right z j b))

    -- the proper sheet of c moves, and the bytes past it as they were
    pub rebuilt : after ≡ sheet_of (sheet_stock sheet) (sheet_strip sheet) r.moves ++ drop (83 + 3 * r.moves) out
    unfolding rebuild_out proper_sheet
    rebuilt = h.1 ∙ unless_passed out _ _ none ∙ rw moves_named

    -- that sheet is one that writing gives
    abbrev front : List ℕ
    front = take (83 + 3 * r.moves) after

    pub rebuilt_writes : Writes (sheet_stock sheet) (sheet_strip sheet) r.moves front
    unfolding rebuild_out
    rebuilt_writes =
        let w = proper_writes sheet (accepts e).0 in
        let n : length (proper_sheet sheet) ≡ 83 + 3 * r.moves = writes_long _ _ _ _ w ∙ rw moves_named in
        let is : front ≡ proper_sheet sheet = front_is after (proper_sheet sheet) _ (83 + 3 * r.moves) n (h.1 ∙ unless_passed out _ _ none) in
        rw (is, moves_named) w

-- ---- with writing: lent the same stock, strip, count and buffer, it leaves the same bytes

module _ (κs : Lfts 2) (a : Dens κs rebuild.ps) (r : Rebuilt) (t : AtExit (ended_of 2 rebuild.ps rebuild.r) κs) (h : reads.Post κs a r t) where
  module _ (κw : Lfts 3) (b : Dens κw writing.ps) (w : Written) (u : AtExit (ended_of 3 writing.ps writing.r) κw) (k : writing_reads.Post κw b w u) where
    pub as_written : r.refusal.no ≡ 0 → b.0.now ≡ sheet_stock a.0.now → b.1.0.now ≡ sheet_strip a.0.now → b.1.1.0 ≡ r.moves → b.1.1.1.0.now ≡ a.1.0.now
        → (w.refusal.no ≡ 0) × (w.length ≡ 83 + 3 * r.moves) × (u.1.1.1.0.now ≡ t.1.0.now)
    as_written e stock strip moves buffer =
        let p = accepts κs a r t h e in
        let own = rebuilt_writes κs a r t h e in
        let room : 83 + 3 * b.1.1.0 ≤ length b.1.1.1.0.now = rw (moves, buffer, moves_named κs a r t h e) p.1 in
        let z = write_accepted κw b w u k (rw stock own.stock) (rw (stock, strip) own.strip) room (rw (stock, strip, moves) own.moves) in
        let n : w.length ≡ 83 + 3 * r.moves = length_written κw b w u k z ∙ rw (stock, strip, moves) (sheet_long _ _ own.stock own.strip r.moves own.moves) in
        (z, n, write_written κw b w u k z ∙ rw (stock, strip, moves, n, buffer) (sym (rebuilt κs a r t h e)))

  -- ---- with reading

  module _ (κr : Lfts 2) (b : Dens κr reading.ps) (q : Readout) (u : AtExit (ended_of 2 reading.ps reading.r) κr) (k : reading_reads.Post κr b q u) where
    -- a sheet that the reader accepts comes out unchanged with 0 differing, and c is its moves
    pub accepted_unchanged : q.refusal.no ≡ 0 → a.0.now ≡ b.0.now → length a.0.now ≤ length a.1.0.now
        → (r ≡ as_rebuilt fine (q.moves, [])) × (t.1.0.now ≡ a.0.now ++ drop (length a.0.now) a.1.0.now)
    accepted_unchanged e same room =
        let w = rw (← same) at (read_is_written false _ _ q _ k refl e).1 in
        let n = unchanged _ _ q.moves a.0.now w a.1.0.now room in
        (h.0 ∙ n.0, h.1 ∙ n.1)

    -- what is rebuilt, the reader accepts: c moves, and the strip that many numbers further on
    pub rebuilt_is_read : r.refusal.no ≡ 0 → b.0.now ≡ take (83 + 3 * r.moves) t.1.0.now → 64 ≤ length b.1.0.now
        → (q ≡ as_readout fine r.moves) × (u.1.0.now ≡ onward (sheet_stock a.0.now) (sheet_strip a.0.now) r.moves ++ drop (sum (sheet_stock a.0.now)) b.1.0.now)
    rebuilt_is_read e same room = written_is_read false _ _ q _ k _ _ r.moves room (rw same (rebuilt_writes κs a r t h e))

  -- ---- rebuilding what was rebuilt changes nothing

  module _ (κt : Lfts 2) (b : Dens κt rebuild.ps) (q : Rebuilt) (u : AtExit (ended_of 2 rebuild.ps rebuild.r) κt) (k : reads.Post κt b q u) where
    pub rebuilt_twice : r.refusal.no ≡ 0 → b.0.now ≡ take (83 + 3 * r.moves) t.1.0.now → length b.0.now ≤ length b.1.0.now
        → (q ≡ as_rebuilt fine (r.moves, [])) × (u.1.0.now ≡ b.0.now ++ drop (length b.0.now) b.1.0.now)
    rebuilt_twice e same room =
        let w : Writes (sheet_stock a.0.now) (sheet_strip a.0.now) r.moves b.0.now = rw same (rebuilt_writes κs a r t h e) in
        let n = unchanged _ _ r.moves b.0.now w b.1.0.now room in
        (k.0 ∙ n.0, k.1 ∙ n.1)
