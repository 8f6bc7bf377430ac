-- Document 02, P12. Sheets for long orders: edition 2 of the press sheet has strides. All is said over the contracts of the calls, for any sheet and any buffer;
-- `Reads` is a reader's contract, with true for the new one and false for the old one. The refusals in their order are `write_long_refuses`,
-- `read_editions_refuses` and `rewrite_refuses` in First.antt, in a stride record `stride_nos`.
use Prim.Native.Nat.{ℕ, ◌≤◌, ◌<◌}
use mathlib.Core.Path.{◌≡◌}
use mathlib.Core.Bool.{true}
use mathlib.Core.List.{List, ◌++◌}
use native.Mathlib.Omega.{arith}
use lib.ListN.{length, take, drop}
use contract.Lifetimes.{Lfts}
use borrow.Fn.Kinds.{Dens, ended_of}
use denote.Triple.Clauses.{AtExit}
use Rattle.rules.specs.Stock.{sum, total}
use Rattle.rules.specs.Refusals.{fine}
use Rattle.rules.proofs.Places.{place_below}
use Rattle.walking.specs.Answers.{left_along, onward}
use Rattle.sheets.specs.declared.Written.{Written}
use Rattle.records.specs.Records.{sheet_stock, sheet_strip}
use Rattle.following.specs.declared.Readout.{Readout}
use Rattle.following.specs.Following.{as_readout}
use Rattle.reading.proofs.Exactly.{read_strip}
use Rattle.reading.proofs.Theorems.{Reads, read_passes, read_leads}
use Rattle.reading.proofs.reader.read_editions.Kinds as read_editions
use Rattle.reading.proofs.reader.read_editions.Reads as read_editions_reads
use Rattle.rewriting.proofs.Theorems.{writes_form, form_is_read}
use Rattle.forms.proofs.long.write_long.Kinds as write_long
use Rattle.forms.proofs.long.write_long.Reads as write_long_reads
-- a stride of n moves, n at least 2 and no more than are left, of a stock that can be numbered: wherever a record stands, what follows it is followed from the
-- strip n numbers further on, and the moves are n more; its number is its eight bytes, highest first
pub use Rattle.reading.proofs.MoveRecords.{follow_stride}
pub use Rattle.strides.proofs.Values.{value_bytes, bytes_long}
-- and none other is taken: a stride that no row refuses is one of these
pub use Rattle.strides.proofs.Rows.{CanStride, rows_passed, rows_fine}
-- the contracts of both readers are `Reads`
pub use Rattle.reading.proofs.Theorems.{old_reads, new_reads}
-- what a reader takes: no more moves than are left, and the strip that many numbers further on is shown
pub use Rattle.reading.proofs.Theorems.{read_leads}
-- an edition 1 sheet reads as before: one that writing gives is read by both, and whatever the old reader answers but 11, the new one answers too
pub use Rattle.reading.proofs.Theorems.{written_is_read}
pub use Rattle.reading.proofs.Editions.{reads_as_before}
-- the old reader meets record 5 with 11 at its offset and shows no strip; of any other sheet both readers answer the same
pub use Rattle.reading.proofs.Editions.{MeetsFive, old_meets_five, alike_or_meets}
-- the one form: where the stock can be numbered and c is 3 or more, one stride and 92 bytes; otherwise c single moves and 83 + 3c bytes
pub use Rattle.forms.proofs.Cases.{Long, Short, long, short_few, short_many}
-- writing gives that form, as long as it answers, and later bytes stay; it refuses no more and no less than its rows say
pub use Rattle.forms.proofs.Theorems.{accepts, accepted, written, length_written, length_is}
pub use Rattle.rewriting.proofs.Theorems.{Forms, writes_form}
-- no right sheet for them is shorter
pub use Rattle.rewriting.proofs.Theorems.{none_shorter}
-- a right sheet of another form is rewritten into that form, which says the same of stock, strip, moves and final strip; later bytes stay
pub use Rattle.rewriting.proofs.Theorems.{right_rewritten, rewrites_form, length_form, says_the_same}
-- rewriting twice changes nothing, nor does rewriting what writing gave
pub use Rattle.rewriting.proofs.Theorems.{rewritten_twice, form_stays}
-- the rebuilding of P5 takes record 5 for damage
pub use Rattle.rebuilding.proofs.Theorems.{stride_differs}

-- the moves that a reader answers are below T, so that their sum never wraps where it is made
pub moves_below : (sheet buffer : List ℕ) (r : Readout) (after : List ℕ) → Reads true sheet buffer r after → r.refusal.no ≡ 0 → r.moves < total (sheet_stock sheet)
unfolding left_along
moves_below sheet buffer r after h e =
    let own = read_strip true sheet (read_passes true sheet buffer r after h e).1 in
    omega (arith, (read_leads true sheet buffer r after h e).0, place_below (sheet_stock sheet) (sheet_strip sheet) own)

-- what the writer gives, the new reader reads with that c and the strip c numbers further on
pub written_long_is_read : (κs : Lfts 3) (a : Dens κs write_long.ps) (w : Written) (s : AtExit (ended_of 3 write_long.ps write_long.r) κs) → write_long_reads.Post κs a w s
    → (κr : Lfts 2) (b : Dens κr read_editions.ps) (r : Readout) (t : AtExit (ended_of 2 read_editions.ps read_editions.r) κr) → read_editions_reads.Post κr b r t
    → w.refusal.no ≡ 0 → b.0.now ≡ take w.length s.1.1.1.0.now → 64 ≤ length b.1.0.now
    → (r ≡ as_readout fine a.1.1.0) × (t.1.0.now ≡ onward a.0.now a.1.0.now a.1.1.0 ++ drop (sum a.0.now) b.1.0.now)
written_long_is_read κs a w s h κr b r t k e same room =
    form_is_read _ _ _ b.0.now (rw (← same) at (writes_form κs a w s h e)) b.1.0.now r t.1.0.now k room
