-- One outcome for each call for C, over its own contract as the checker reads it. That contract is the one of the call that is passed on, so that call's theorem
-- is the proof. The press driver's call has its own in `Theorems.antt`.
use Prim.Native.Nat.{ℕ}
use mathlib.Core.List.{List}
use Rattle.rules.specs.Outcome.{OneAnswer, OneOutcome}
use Rattle.counting.proofs.Theorems.{count_one_outcome, first_one_outcome}
use Rattle.numbering.proofs.Theorems.{number_one_outcome, strip_one_outcome}
use Rattle.drawers.proofs.Theorems.{dictionary_number_one_outcome, dictionary_strip_one_outcome, dictionary_next_one_outcome}
use Rattle.converting.proofs.Theorems.{to_dictionary_one_outcome, to_book_one_outcome}
use Rattle.comparing.proofs.Theorems.{which_one_outcome}
use Rattle.measuring.proofs.Theorems.{distance_one_outcome}
use Rattle.walker.proofs.Theorems.{one_outcome as open-one-outcome}
use Rattle.walking.proofs.Theorems.{walk_one_outcome}
use Rattle.running.proofs.Theorems.{run_one_outcome}
use Rattle.replaying.proofs.Theorems.{one_outcome as replay-one-outcome}
use Rattle.papers.proofs.Theorems.{one_outcome as same-paper-one-outcome}
use Rattle.endless.proofs.Theorems.{stand_one_outcome, next_paper_one_outcome}
use Rattle.spacing.proofs.Theorems.{one_outcome as next-apart-one-outcome}
use Rattle.writing.proofs.Theorems.{one_outcome as write-sheet-one-outcome}
use Rattle.reading.proofs.Theorems.{old_one_outcome as read-sheet-one-outcome, new_one_outcome as read-editions-one-outcome}
use Rattle.rebuilding.proofs.Theorems.{one_outcome as rebuild-one-outcome}
use Rattle.forms.proofs.Theorems.{one_outcome as write-long-one-outcome}
use Rattle.rewriting.proofs.Theorems.{one_outcome as rewrite-one-outcome}
use Rattle.exports.proofs.nelfrupi_count.Kinds as count
use Rattle.exports.proofs.nelfrupi_count.Reads as count-reads
use Rattle.exports.proofs.nelfrupi_first.Kinds as first
use Rattle.exports.proofs.nelfrupi_first.Reads as first_reads
use Rattle.exports.proofs.nelfrupi_number.Kinds as number
use Rattle.exports.proofs.nelfrupi_number.Reads as number-reads
use Rattle.exports.proofs.nelfrupi_strip.Kinds as strip
use Rattle.exports.proofs.nelfrupi_strip.Reads as strip-reads
use Rattle.exports.proofs.nelfrupi_dictionary_number.Kinds as dictionary-number
use Rattle.exports.proofs.nelfrupi_dictionary_number.Reads as dictionary-number-reads
use Rattle.exports.proofs.nelfrupi_dictionary_strip.Kinds as dictionary-strip
use Rattle.exports.proofs.nelfrupi_dictionary_strip.Reads as dictionary-strip-reads
use Rattle.exports.proofs.nelfrupi_dictionary_next.Kinds as dictionary-next
use Rattle.exports.proofs.nelfrupi_dictionary_next.Reads as dictionary-next-reads
use Rattle.exports.proofs.nelfrupi_to_dictionary.Kinds as to-dictionary
use Rattle.exports.proofs.nelfrupi_to_dictionary.Reads as to-dictionary-reads
use Rattle.exports.proofs.nelfrupi_to_book.Kinds as to-book
use Rattle.exports.proofs.nelfrupi_to_book.Reads as to-book-reads
use Rattle.exports.proofs.nelfrupi_which.Kinds as which
use Rattle.exports.proofs.nelfrupi_which.Reads as which-reads
use Rattle.exports.proofs.nelfrupi_distance.Kinds as distance
use Rattle.exports.proofs.nelfrupi_distance.Reads as distance-reads
use Rattle.exports.proofs.nelfrupi_open.Kinds as opening
use Rattle.exports.proofs.nelfrupi_open.Reads as opening-reads
use Rattle.exports.proofs.nelfrupi_walk.Kinds as walk
use Rattle.exports.proofs.nelfrupi_walk.Reads as walk-reads
use Rattle.exports.proofs.nelfrupi_run.Kinds as run
use Rattle.exports.proofs.nelfrupi_run.Reads as run-reads
use Rattle.exports.proofs.nelfrupi_replay.Kinds as replay
use Rattle.exports.proofs.nelfrupi_replay.Reads as replay-reads
use Rattle.exports.proofs.nelfrupi_same_paper.Kinds as same-paper
use Rattle.exports.proofs.nelfrupi_same_paper.Reads as same-paper-reads
use Rattle.exports.proofs.nelfrupi_stand.Kinds as stand
use Rattle.exports.proofs.nelfrupi_stand.Reads as stand-reads
use Rattle.exports.proofs.nelfrupi_next_paper.Kinds as next_paper_lem
use Rattle.exports.proofs.nelfrupi_next_paper.Reads as next-paper-reads
use Rattle.exports.proofs.nelfrupi_next_apart.Kinds as next-apart
use Rattle.exports.proofs.nelfrupi_next_apart.Reads as next-apart-reads
use Rattle.exports.proofs.nelfrupi_write_sheet.Kinds as write-sheet
use Rattle.exports.proofs.nelfrupi_write_sheet.Reads as write-sheet-reads
use Rattle.exports.proofs.nelfrupi_read_sheet.Kinds as read-sheet
use Rattle.exports.proofs.nelfrupi_read_sheet.Reads as read-sheet-reads
use Rattle.exports.proofs.nelfrupi_rebuild.Kinds as rebuild
use Rattle.exports.proofs.nelfrupi_rebuild.Reads as rebuild-reads
use Rattle.exports.proofs.nelfrupi_write_long.Kinds as write-long
use Rattle.exports.proofs.nelfrupi_write_long.Reads as write-long-reads
use Rattle.exports.proofs.nelfrupi_read_editions.Kinds as read-editions
use Rattle.exports.proofs.nelfrupi_read_editions.Reads as read-editions-reads
use Rattle.exports.proofs.nelfrupi_rewrite.Kinds as rewrite
use Rattle.exports.proofs.nelfrupi_rewrite.Reads as rewrite-reads

pub count_one_outcome_for_c : OneAnswer 1 count.ps count.r count-reads.Post
count_one_outcome_for_c = count_one_outcome

pub first_one_outcome_for_c : OneOutcome 2 first.ps first.r (λ κs s. s.1.0.now) first_reads.Post
first_one_outcome_for_c = first_one_outcome

pub number_one_outcome_for_c : OneAnswer 2 number.ps number.r number-reads.Post
number_one_outcome_for_c = number_one_outcome

pub strip_one_outcome_for_c : OneOutcome 2 strip.ps strip.r (λ κs s. s.1.1.0.now) strip-reads.Post
strip_one_outcome_for_c = strip_one_outcome

pub dictionary_number_one_outcome_for_c : OneAnswer 2 dictionary-number.ps dictionary-number.r dictionary-number-reads.Post
dictionary_number_one_outcome_for_c = dictionary_number_one_outcome

pub dictionary_strip_one_outcome_for_c : OneOutcome 2 dictionary-strip.ps dictionary-strip.r (λ κs s. s.1.1.0.now) dictionary-strip-reads.Post
dictionary_strip_one_outcome_for_c = dictionary_strip_one_outcome

pub dictionary_next_one_outcome_for_c : OneOutcome 2 dictionary-next.ps dictionary-next.r (λ κs s. s.1.0.now) dictionary-next-reads.Post
dictionary_next_one_outcome_for_c = dictionary_next_one_outcome

pub to_dictionary_one_outcome_for_c : OneAnswer 1 to-dictionary.ps to-dictionary.r to-dictionary-reads.Post
to_dictionary_one_outcome_for_c = to_dictionary_one_outcome

pub to_book_one_outcome_for_c : OneAnswer 1 to-book.ps to-book.r to-book-reads.Post
to_book_one_outcome_for_c = to_book_one_outcome

pub which_one_outcome_for_c : OneAnswer 3 which.ps which.r which-reads.Post
which_one_outcome_for_c = which_one_outcome

pub distance_one_outcome_for_c : OneAnswer 3 distance.ps distance.r distance-reads.Post
distance_one_outcome_for_c = distance_one_outcome

pub open_one_outcome_for_c : OneAnswer 2 opening.ps opening.r opening-reads.Post
open_one_outcome_for_c = open-one-outcome

pub walk_one_outcome_for_c : OneOutcome 2 walk.ps walk.r (λ κs s. s.1.0.now) walk-reads.Post
walk_one_outcome_for_c = walk_one_outcome

pub run_one_outcome_for_c : OneOutcome 3 run.ps run.r {C = List ℕ × List ℕ} (λ κs s. (s.1.0.now, s.1.1.1.1.0.now)) run-reads.Post
run_one_outcome_for_c = run_one_outcome

pub replay_one_outcome_for_c : OneOutcome 3 replay.ps replay.r (λ κs s. s.1.0.now) replay-reads.Post
replay_one_outcome_for_c = replay-one-outcome

pub same_paper_one_outcome_for_c : OneAnswer 3 same-paper.ps same-paper.r same-paper-reads.Post
same_paper_one_outcome_for_c = same-paper-one-outcome

pub stand_one_outcome_for_c : OneOutcome 2 stand.ps stand.r (λ κs s. s.1.0.now) stand-reads.Post
stand_one_outcome_for_c = stand_one_outcome

pub next_paper_one_outcome_for_c : OneOutcome 2 next_paper_lem.ps next_paper_lem.r (λ κs s. s.1.0.now) next-paper-reads.Post
next_paper_one_outcome_for_c = next_paper_one_outcome

pub next_apart_one_outcome_for_c : OneOutcome 2 next-apart.ps next-apart.r (λ κs s. s.1.0.now) next-apart-reads.Post
next_apart_one_outcome_for_c = next-apart-one-outcome

pub write_sheet_one_outcome_for_c : OneOutcome 3 write-sheet.ps write-sheet.r (λ κs s. s.1.1.1.0.now) write-sheet-reads.Post
write_sheet_one_outcome_for_c = write-sheet-one-outcome

pub read_sheet_one_outcome_for_c : OneOutcome 2 read-sheet.ps read-sheet.r (λ κs s. s.1.0.now) read-sheet-reads.Post
read_sheet_one_outcome_for_c = read-sheet-one-outcome

pub rebuild_one_outcome_for_c : OneOutcome 2 rebuild.ps rebuild.r (λ κs s. s.1.0.now) rebuild-reads.Post
rebuild_one_outcome_for_c = rebuild-one-outcome

pub write_long_one_outcome_for_c : OneOutcome 3 write-long.ps write-long.r (λ κs s. s.1.1.1.0.now) write-long-reads.Post
write_long_one_outcome_for_c = write-long-one-outcome

pub read_editions_one_outcome_for_c : OneOutcome 2 read-editions.ps read-editions.r (λ κs s. s.1.0.now) read-editions-reads.Post
read_editions_one_outcome_for_c = read-editions-one-outcome

pub rewrite_one_outcome_for_c : OneOutcome 2 rewrite.ps rewrite.r (λ κs s. s.1.0.now) rewrite-reads.Post
rewrite_one_outcome_for_c = rewrite-one-outcome
