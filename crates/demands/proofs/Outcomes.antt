-- One outcome: for each open call two outcomes, the answer and the content of everything lent, that its contract allows for one input are the same.
-- Each is stated over `Post`, the contract as the checker reads it from the source, in the crate of its call; this file is the list of them.
-- Earlier's is that of the slice: where it starts and what it holds. The driver's is over the reading of its contract that `drive_is` shows.
-- The calls for C have theirs too, over their own contracts.
pub use Rattle.counting.proofs.Theorems.{count_one_outcome, first_one_outcome}
pub use Rattle.numbering.proofs.Theorems.{number_one_outcome, strip_one_outcome}
pub use Rattle.drawers.proofs.Theorems.{dictionary_number_one_outcome, dictionary_strip_one_outcome, dictionary_next_one_outcome}
pub use Rattle.converting.proofs.Theorems.{to_dictionary_one_outcome, to_book_one_outcome}
pub use Rattle.comparing.proofs.Theorems.{which_one_outcome, earlier_one_slice}
pub use Rattle.measuring.proofs.Theorems.{distance_one_outcome}
pub use Rattle.walker.proofs.Theorems.{one_outcome as open_one_outcome}
pub use Rattle.walking.proofs.Theorems.{walk_one_outcome}
pub use Rattle.running.proofs.Theorems.{run_one_outcome}
pub use Rattle.replaying.proofs.Theorems.{one_outcome as replay_one_outcome}
pub use Rattle.exports.proofs.Theorems.{drive_is, drive_one_outcome}
pub use Rattle.papers.proofs.Theorems.{one_outcome as same_paper_one_outcome}
pub use Rattle.endless.proofs.Theorems.{stand_one_outcome, next_paper_one_outcome}
pub use Rattle.spacing.proofs.Theorems.{one_outcome as next_apart_one_outcome}
pub use Rattle.writing.proofs.Theorems.{one_outcome as write_sheet_one_outcome}
pub use Rattle.reading.proofs.Theorems.{old_one_outcome as read_sheet_one_outcome, new_one_outcome as read_editions_one_outcome}
pub use Rattle.rebuilding.proofs.Theorems.{one_outcome as rebuild_one_outcome}
pub use Rattle.forms.proofs.Theorems.{one_outcome as write_long_one_outcome}
pub use Rattle.rewriting.proofs.Theorems.{one_outcome as rewrite_one_outcome}
pub use Rattle.exports.proofs.Outcomes.{count_one_outcome_for_c, first_one_outcome_for_c, number_one_outcome_for_c, strip_one_outcome_for_c}
pub use Rattle.exports.proofs.Outcomes.{dictionary_number_one_outcome_for_c, dictionary_strip_one_outcome_for_c, dictionary_next_one_outcome_for_c}
pub use Rattle.exports.proofs.Outcomes.{to_dictionary_one_outcome_for_c, to_book_one_outcome_for_c}
pub use Rattle.exports.proofs.Outcomes.{which_one_outcome_for_c, distance_one_outcome_for_c, same_paper_one_outcome_for_c}
pub use Rattle.exports.proofs.Outcomes.{stand_one_outcome_for_c, next_paper_one_outcome_for_c, next_apart_one_outcome_for_c}
pub use Rattle.exports.proofs.Outcomes.{open_one_outcome_for_c, walk_one_outcome_for_c, run_one_outcome_for_c, replay_one_outcome_for_c}
pub use Rattle.exports.proofs.Outcomes.{write_sheet_one_outcome_for_c, read_sheet_one_outcome_for_c, rebuild_one_outcome_for_c}
pub use Rattle.exports.proofs.Outcomes.{write_long_one_outcome_for_c, read_editions_one_outcome_for_c, rewrite_one_outcome_for_c}
