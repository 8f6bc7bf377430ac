-- One outcome for each call for C, over the contract of the very function that C links, as the checker reads it. That contract is the one of the call that is passed
-- on, so that call's theorem is the proof.
use Prim.Native.Nat.{ℕ}
use mathlib.Core.List.{List}
use Rattle.walker.specs.declared.Walker.{Walker}
use Rattle.rules.specs.Outcome.{OneAnswer, OneOutcome}
use Rattle.counting.proofs.Theorems.{count_one_outcome, first_one_outcome}
use Rattle.numbering.proofs.Theorems.{number_one_outcome, strip_one_outcome}
use Rattle.drawers.proofs.Theorems.{dictionary_number_one_outcome, dictionary_strip_one_outcome, dictionary_next_one_outcome}
use Rattle.converting.proofs.Theorems.{to_dictionary_one_outcome, to_book_one_outcome}
use Rattle.comparing.proofs.Theorems.{which_one_outcome}
use Rattle.measuring.proofs.Theorems.{distance_one_outcome}
use Rattle.walker.proofs.Theorems.{one_outcome as open_one_outcome}
use Rattle.walking.proofs.Theorems.{walk_one_outcome}
use Rattle.running.proofs.Theorems.{run_one_outcome}
use Rattle.replaying.proofs.Theorems.{one_outcome as replay_one_outcome}
use Rattle.papers.proofs.Theorems.{one_outcome as same_paper_one_outcome}
use Rattle.endless.proofs.Theorems.{stand_one_outcome, next_paper_one_outcome}
use Rattle.spacing.proofs.Theorems.{one_outcome as next_apart_one_outcome}
use Rattle.writing.proofs.Theorems.{one_outcome as write_sheet_one_outcome}
use Rattle.reading.proofs.Theorems.{old_one_outcome as read_sheet_one_outcome, new_one_outcome as read_editions_one_outcome}
use Rattle.rebuilding.proofs.Theorems.{one_outcome as rebuild_one_outcome}
use Rattle.forms.proofs.Theorems.{one_outcome as write_long_one_outcome}
use Rattle.rewriting.proofs.Theorems.{one_outcome as rewrite_one_outcome}
use Rattle.exports.proofs.Theorems.{drive_one_outcome}
use Rattle.exports_c.proofs.nelfrupi_drive.Kinds as drive
use Rattle.exports_c.proofs.nelfrupi_drive.Reads as drive_reads
use Rattle.exports_c.proofs.nelfrupi_count.Kinds as count
use Rattle.exports_c.proofs.nelfrupi_count.Reads as count_reads
use Rattle.exports_c.proofs.nelfrupi_first.Kinds as first
use Rattle.exports_c.proofs.nelfrupi_first.Reads as first_reads
use Rattle.exports_c.proofs.nelfrupi_number.Kinds as number
use Rattle.exports_c.proofs.nelfrupi_number.Reads as number_reads
use Rattle.exports_c.proofs.nelfrupi_strip.Kinds as strip
use Rattle.exports_c.proofs.nelfrupi_strip.Reads as strip_reads
use Rattle.exports_c.proofs.nelfrupi_dictionary_number.Kinds as dictionary_number
use Rattle.exports_c.proofs.nelfrupi_dictionary_number.Reads as dictionary_number_reads
use Rattle.exports_c.proofs.nelfrupi_dictionary_strip.Kinds as dictionary_strip
use Rattle.exports_c.proofs.nelfrupi_dictionary_strip.Reads as dictionary_strip_reads
use Rattle.exports_c.proofs.nelfrupi_dictionary_next.Kinds as dictionary_next
use Rattle.exports_c.proofs.nelfrupi_dictionary_next.Reads as dictionary_next_reads
use Rattle.exports_c.proofs.nelfrupi_to_dictionary.Kinds as to_dictionary
use Rattle.exports_c.proofs.nelfrupi_to_dictionary.Reads as to_dictionary_reads
use Rattle.exports_c.proofs.nelfrupi_to_book.Kinds as to_book
use Rattle.exports_c.proofs.nelfrupi_to_book.Reads as to_book_reads
use Rattle.exports_c.proofs.nelfrupi_which.Kinds as which
use Rattle.exports_c.proofs.nelfrupi_which.Reads as which_reads
use Rattle.exports_c.proofs.nelfrupi_distance.Kinds as distance
use Rattle.exports_c.proofs.nelfrupi_distance.Reads as distance_reads
use Rattle.exports_c.proofs.nelfrupi_open.Kinds as opening
use Rattle.exports_c.proofs.nelfrupi_open.Reads as opening_reads
use Rattle.exports_c.proofs.nelfrupi_walk.Kinds as walk
use Rattle.exports_c.proofs.nelfrupi_walk.Reads as walk_reads
use Rattle.exports_c.proofs.nelfrupi_run.Kinds as run
use Rattle.exports_c.proofs.nelfrupi_run.Reads as run_reads
use Rattle.exports_c.proofs.nelfrupi_replay.Kinds as replay
use Rattle.exports_c.proofs.nelfrupi_replay.Reads as replay_reads
use Rattle.exports_c.proofs.nelfrupi_same_paper.Kinds as same_paper
use Rattle.exports_c.proofs.nelfrupi_same_paper.Reads as same_paper_reads
use Rattle.exports_c.proofs.nelfrupi_stand.Kinds as stand
use Rattle.exports_c.proofs.nelfrupi_stand.Reads as stand_reads
use Rattle.exports_c.proofs.nelfrupi_next_paper.Kinds as next_paper_lem
use Rattle.exports_c.proofs.nelfrupi_next_paper.Reads as next_paper_reads
use Rattle.exports_c.proofs.nelfrupi_next_apart.Kinds as next_apart
use Rattle.exports_c.proofs.nelfrupi_next_apart.Reads as next_apart_reads
use Rattle.exports_c.proofs.nelfrupi_write_sheet.Kinds as write_sheet
use Rattle.exports_c.proofs.nelfrupi_write_sheet.Reads as write_sheet_reads
use Rattle.exports_c.proofs.nelfrupi_read_sheet.Kinds as read_sheet
use Rattle.exports_c.proofs.nelfrupi_read_sheet.Reads as read_sheet_reads
use Rattle.exports_c.proofs.nelfrupi_rebuild.Kinds as rebuild
use Rattle.exports_c.proofs.nelfrupi_rebuild.Reads as rebuild_reads
use Rattle.exports_c.proofs.nelfrupi_write_long.Kinds as write_long
use Rattle.exports_c.proofs.nelfrupi_write_long.Reads as write_long_reads
use Rattle.exports_c.proofs.nelfrupi_read_editions.Kinds as read_editions
use Rattle.exports_c.proofs.nelfrupi_read_editions.Reads as read_editions_reads
use Rattle.exports_c.proofs.nelfrupi_rewrite.Kinds as rewrite
use Rattle.exports_c.proofs.nelfrupi_rewrite.Reads as rewrite_reads

pub count_one_outcome_for_c : OneAnswer 1 count.ps count.r count_reads.Post
count_one_outcome_for_c = count_one_outcome

pub first_one_outcome_for_c : OneOutcome 2 first.ps first.r (λ κs s. s.1.0.now) first_reads.Post
first_one_outcome_for_c = first_one_outcome

pub number_one_outcome_for_c : OneAnswer 2 number.ps number.r number_reads.Post
number_one_outcome_for_c = number_one_outcome

pub strip_one_outcome_for_c : OneOutcome 2 strip.ps strip.r (λ κs s. s.1.1.0.now) strip_reads.Post
strip_one_outcome_for_c = strip_one_outcome

pub dictionary_number_one_outcome_for_c : OneAnswer 2 dictionary_number.ps dictionary_number.r dictionary_number_reads.Post
dictionary_number_one_outcome_for_c = dictionary_number_one_outcome

pub dictionary_strip_one_outcome_for_c : OneOutcome 2 dictionary_strip.ps dictionary_strip.r (λ κs s. s.1.1.0.now) dictionary_strip_reads.Post
dictionary_strip_one_outcome_for_c = dictionary_strip_one_outcome

pub dictionary_next_one_outcome_for_c : OneOutcome 2 dictionary_next.ps dictionary_next.r (λ κs s. s.1.0.now) dictionary_next_reads.Post
dictionary_next_one_outcome_for_c = dictionary_next_one_outcome

pub to_dictionary_one_outcome_for_c : OneAnswer 1 to_dictionary.ps to_dictionary.r to_dictionary_reads.Post
to_dictionary_one_outcome_for_c = to_dictionary_one_outcome

pub to_book_one_outcome_for_c : OneAnswer 1 to_book.ps to_book.r to_book_reads.Post
to_book_one_outcome_for_c = to_book_one_outcome

pub which_one_outcome_for_c : OneAnswer 3 which.ps which.r which_reads.Post
which_one_outcome_for_c = which_one_outcome

pub distance_one_outcome_for_c : OneAnswer 3 distance.ps distance.r distance_reads.Post
distance_one_outcome_for_c = distance_one_outcome

pub open_one_outcome_for_c : OneAnswer 2 opening.ps opening.r opening_reads.Post
open_one_outcome_for_c = open_one_outcome

pub walk_one_outcome_for_c : OneOutcome 2 walk.ps walk.r (λ κs s. s.1.0.now) walk_reads.Post
walk_one_outcome_for_c = walk_one_outcome

pub run_one_outcome_for_c : OneOutcome 3 run.ps run.r {C = List ℕ × List ℕ} (λ κs s. (s.1.0.now, s.1.1.1.1.0.now)) run_reads.Post
run_one_outcome_for_c = run_one_outcome

pub replay_one_outcome_for_c : OneOutcome 3 replay.ps replay.r (λ κs s. s.1.0.now) replay_reads.Post
replay_one_outcome_for_c = replay_one_outcome

pub same_paper_one_outcome_for_c : OneAnswer 3 same_paper.ps same_paper.r same_paper_reads.Post
same_paper_one_outcome_for_c = same_paper_one_outcome

pub stand_one_outcome_for_c : OneOutcome 2 stand.ps stand.r (λ κs s. s.1.0.now) stand_reads.Post
stand_one_outcome_for_c = stand_one_outcome

pub next_paper_one_outcome_for_c : OneOutcome 2 next_paper_lem.ps next_paper_lem.r (λ κs s. s.1.0.now) next_paper_reads.Post
next_paper_one_outcome_for_c = next_paper_one_outcome

pub next_apart_one_outcome_for_c : OneOutcome 2 next_apart.ps next_apart.r (λ κs s. s.1.0.now) next_apart_reads.Post
next_apart_one_outcome_for_c = next_apart_one_outcome

pub write_sheet_one_outcome_for_c : OneOutcome 3 write_sheet.ps write_sheet.r (λ κs s. s.1.1.1.0.now) write_sheet_reads.Post
write_sheet_one_outcome_for_c = write_sheet_one_outcome

pub read_sheet_one_outcome_for_c : OneOutcome 2 read_sheet.ps read_sheet.r (λ κs s. s.1.0.now) read_sheet_reads.Post
read_sheet_one_outcome_for_c = read_sheet_one_outcome

pub rebuild_one_outcome_for_c : OneOutcome 2 rebuild.ps rebuild.r (λ κs s. s.1.0.now) rebuild_reads.Post
rebuild_one_outcome_for_c = rebuild_one_outcome

pub write_long_one_outcome_for_c : OneOutcome 3 write_long.ps write_long.r (λ κs s. s.1.1.1.0.now) write_long_reads.Post
write_long_one_outcome_for_c = write_long_one_outcome

pub read_editions_one_outcome_for_c : OneOutcome 2 read_editions.ps read_editions.r (λ κs s. s.1.0.now) read_editions_reads.Post
read_editions_one_outcome_for_c = read_editions_one_outcome

pub rewrite_one_outcome_for_c : OneOutcome 2 rewrite.ps rewrite.r (λ κs s. s.1.0.now) rewrite_reads.Post
rewrite_one_outcome_for_c = rewrite_one_outcome

-- of the driver's call the strip and the walker that are left
pub drive_one_outcome_for_c : OneOutcome 3 drive.ps drive.r {C = List ℕ × Walker} (λ κs s. (s.1.0.now, s.1.1.0.now)) drive_reads.Post
drive_one_outcome_for_c κs a r q s t h k =
    let e = drive_one_outcome a.1.1.1.0 a.0.now a.1.0.now a.1.1.0.now r q s.1.0.now t.1.0.now s.1.1.0.now t.1.1.0.now h k in
    (e.0, rw (e.1, e.2))
