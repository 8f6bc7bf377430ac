-- Demand 1, call by call: whatever the input, the call answers the first row of its list that is met, and a refusal leaves everything lent as it was.
-- That each call takes any input and comes back is what its own proof says: no call has a `requires`.
use Prim.Native.Nat.{ℕ}
use mathlib.Core.Path.{◌≡◌, ap, ◌∙◌}
use mathlib.Core.Bool.{Bool, true, false}
use mathlib.Core.List.{List}
use lib.IntN.{pos}
use contract.Lifetimes.{Lfts}
use borrow.Fn.Kinds.{Dens, ended_of}
use denote.Triple.Clauses.{AtExit}
use Rattle.rules.specs.Refusals.{first_of, check_nos, buffer_nos, pair_nos}
use Rattle.stock.specs.declared.Refusal.{Refusal}
use Rattle.demands.specs.Refusing.{Refuses}
use Rattle.counting.specs.declared.count.Counted.{Counted}
use Rattle.counting.specs.Answers.{count_nos, count_answer, first_answer}
use Rattle.counting.proofs.Theorems.{count_right, first_right}
use Rattle.counting.proofs.count.count.Kinds as count
use Rattle.counting.proofs.count.count.Reads as count_reads
use Rattle.counting.proofs.first.first.Kinds as first
use Rattle.counting.proofs.first.first.Reads as first_reads
use Rattle.numbering.specs.declared.number.Numbered.{Numbered}
use Rattle.numbering.specs.Answers.{number_nos, number_answer, by_number_nos, strip_answer}
use Rattle.numbering.proofs.Theorems.{number_right, cuts_right, strip_right}
use Rattle.numbering.proofs.number.number.Kinds as number
use Rattle.numbering.proofs.number.number.Reads as number_reads
use Rattle.numbering.proofs.strip.strip.Kinds as strip
use Rattle.numbering.proofs.strip.strip.Reads as strip_reads
use Rattle.drawers.specs.declared.Filed.{Filed}
use Rattle.drawers.specs.Answers.{dictionary_number_answer, dictionary_strip_answer, dictionary_next_nos, dictionary_next_answer}
use Rattle.drawers.proofs.Theorems.{dictionary_number_right, dictionary_strip_right, dictionary_next_right}
use Rattle.drawers.proofs.number.dictionary_number.Kinds as dictionary_number
use Rattle.drawers.proofs.number.dictionary_number.Reads as dictionary_number_reads
use Rattle.drawers.proofs.strip.dictionary_strip.Kinds as dictionary_strip
use Rattle.drawers.proofs.strip.dictionary_strip.Reads as dictionary_strip_reads
use Rattle.drawers.proofs.next.dictionary_next.Kinds as dictionary_next
use Rattle.drawers.proofs.next.dictionary_next.Reads as dictionary_next_reads
use Rattle.converting.specs.Answers.{convert_nos, convert_answer}
use Rattle.converting.proofs.Theorems.{to_dictionary_right, to_book_right}
use Rattle.converting.proofs.to_dictionary.Kinds as to_dictionary
use Rattle.converting.proofs.to_dictionary.Reads as to_dictionary_reads
use Rattle.converting.proofs.to_book.Kinds as to_book
use Rattle.converting.proofs.to_book.Reads as to_book_reads
use Rattle.comparing.specs.declared.which.Compared.{Compared}
use Rattle.comparing.specs.Answers.{Lent, EmptyPart, which_answer}
use Rattle.comparing.proofs.Theorems.{which_refused_zero, earlier_refused}
pub use Rattle.comparing.proofs.Theorems.{earlier_shows}
use Rattle.comparing.proofs.which.which.Kinds as which
use Rattle.comparing.proofs.which.which.Reads as which_reads
use Rattle.comparing.proofs.earlier.earlier.Kinds as earlier
use Rattle.comparing.proofs.earlier.earlier.Reads as earlier_reads
use Rattle.measuring.specs.declared.distance.Apart.{Apart}
use Rattle.measuring.specs.Answers.{distance_nos, distance_answer}
use Rattle.measuring.proofs.Theorems.{distance_refused_zero}
use Rattle.measuring.proofs.distance.distance.Kinds as distance
use Rattle.measuring.proofs.distance.distance.Reads as distance_reads
use Rattle.walker.specs.declared.open.Opened.{Opened}
use Rattle.walker.specs.declared.Walker.{Walker}
use Rattle.walker.specs.Walkers.{all_forward, walker_nos}
use Rattle.walker.specs.Answers.{open_answer}
use Rattle.walker.proofs.Theorems.{refused_forward}
use Rattle.walker.proofs.open.open.Kinds as opening
use Rattle.walker.proofs.open.open.Reads as opening_reads
use Rattle.walking.specs.declared.Moved.{Moved}
use Rattle.walking.specs.Answers.{move_nos, move_answer}
use Rattle.walking.proofs.Theorems.{walk_right}
use Rattle.walking.proofs.walk.walk.Kinds as walk
use Rattle.walking.proofs.walk.walk.Reads as walk_reads
use Rattle.exports.proofs.Theorems.{Allowed, drive_right}
use Rattle.running.specs.declared.run.Ran.{Ran}
use Rattle.running.specs.Answers.{run_answer}
use Rattle.running.proofs.Theorems.{run_right}
use Rattle.running.proofs.run.run.Kinds as run
use Rattle.running.proofs.run.run.Reads as run_reads
use Rattle.replaying.specs.declared.replay.Replayed.{Replayed}
use Rattle.replaying.specs.Answers.{replay_nos, replay_answer}
use Rattle.replaying.proofs.Theorems.{replay_right}
use Rattle.replaying.proofs.replay.replay.Kinds as replay
use Rattle.replaying.proofs.replay.replay.Reads as replay_reads
use Rattle.papers.specs.declared.Asked.{Asked}
use Rattle.papers.specs.Papers.{same_paper_answer}
use Rattle.papers.proofs.Theorems.{refused_no}
use Rattle.papers.proofs.same_paper.Kinds as same_paper
use Rattle.papers.proofs.same_paper.Reads as same_paper_reads
use Rattle.endless.specs.declared.stand.Stood.{Stood}
use Rattle.endless.specs.declared.next_paper.Stepped.{Stepped}
use Rattle.endless.specs.Answers.{stand_answer, next_paper_answer}
use Rattle.endless.proofs.Theorems.{stand_right, next_paper_right}
use Rattle.endless.proofs.stand.stand.Kinds as stand
use Rattle.endless.proofs.stand.stand.Reads as stand_reads
use Rattle.endless.proofs.next_paper.next_paper.Kinds as next_paper_lem
use Rattle.endless.proofs.next_paper.next_paper.Reads as next_paper_reads
use Rattle.spacing.specs.declared.next_apart.Spaced.{Spaced}
use Rattle.spacing.specs.Answers.{next_apart_answer}
use Rattle.spacing.proofs.Theorems.{next_apart_right}
use Rattle.spacing.proofs.next_apart.next_apart.Kinds as next_apart
use Rattle.spacing.proofs.next_apart.next_apart.Reads as next_apart_reads
use Rattle.sheets.specs.declared.Written.{Written}
use Rattle.sheets.specs.Writing.{put_answer, write_nos}
use Rattle.writing.proofs.Theorems.{refused_stays as write_refused_stays}
use Rattle.writing.proofs.sheet.write_sheet.Kinds as writing
use Rattle.writing.proofs.sheet.write_sheet.Reads as writing_reads
use Rattle.following.specs.declared.Readout.{Readout}
use Rattle.reading.specs.Reading.{read_nos, read_answer}
use Rattle.reading.proofs.Theorems.{refused_stays}
use Rattle.reading.proofs.reader.read_sheet.Kinds as reading
use Rattle.reading.proofs.reader.read_sheet.Reads as reading_reads
use Rattle.reading.proofs.reader.read_editions.Kinds as read_editions
use Rattle.reading.proofs.reader.read_editions.Reads as read_editions_reads
use Rattle.rebuilding.specs.declared.Rebuilt.{Rebuilt}
use Rattle.rebuilding.specs.Rebuilding.{rebuild_nos, rebuild_answer}
use Rattle.rebuilding.proofs.Theorems.{refused_stays as rebuild_refused_stays}
use Rattle.rebuilding.proofs.rebuild.rebuild.Kinds as rebuild
use Rattle.rebuilding.proofs.rebuild.rebuild.Reads as rebuild_reads
use Rattle.forms.specs.Forms.{long_nos}
use Rattle.forms.proofs.Theorems.{refused_stays as write_long_refused_stays}
use Rattle.forms.proofs.long.write_long.Kinds as write_long
use Rattle.forms.proofs.long.write_long.Reads as write_long_reads
use Rattle.rewriting.specs.Rewriting.{rewrite_nos, rewrite_answer}
use Rattle.rewriting.proofs.Theorems.{refused_stays as rewrite_refused_stays}
use Rattle.rewriting.proofs.rewrite.rewrite.Kinds as rewrite
use Rattle.rewriting.proofs.rewrite.rewrite.Reads as rewrite_reads

-- ---- Count: 1, 2, 3, 7

pub count_refuses : (κs : Lfts 1) (a : Dens κs count.ps) (r : Counted) (s : AtExit (ended_of 1 count.ps count.r) κs) → count_reads.Post κs a r s
    → Refuses (count_nos a.0.now) r.refusal (r.total ≡ 0)
unfolding count_answer
count_refuses κs a r s h = record { named = ap (λ (r : Counted). r.refusal) h; left = (count_right κs a r s h).refused_zero }

-- ---- First: 1, 2, 3, 4. The buffer stays

pub first_refuses : (κs : Lfts 2) (a : Dens κs first.ps) (r : Refusal) (s : AtExit (ended_of 2 first.ps first.r) κs) → first_reads.Post κs a r s
    → Refuses (buffer_nos a.0.now a.1.0.now) r (s.1.0.now ≡ a.1.0.now)
unfolding first_answer
first_refuses κs a r s h = record { named = h.0; left = (first_right κs a r s h).kept }

-- ---- Number: 1 to 6, 7

pub number_refuses : (κs : Lfts 2) (a : Dens κs number.ps) (r : Numbered) (s : AtExit (ended_of 2 number.ps number.r) κs) → number_reads.Post κs a r s
    → Refuses (number_nos a.0.now a.1.0.now) r.refusal ((r.number ≡ 0) × (r.cuts ≡ 0))
unfolding number_answer
number_refuses κs a r s h = record { named = ap (λ (r : Numbered). r.refusal) h; left = λ no. ((number_right κs a r s h).refused_zero no, (cuts_right κs a r s h).refused_zero no) }

-- ---- Strip: 1, 2, 3, 4, 7, 8. The buffer stays

pub strip_refuses : (κs : Lfts 2) (a : Dens κs strip.ps) (r : Refusal) (s : AtExit (ended_of 2 strip.ps strip.r) κs) → strip_reads.Post κs a r s
    → Refuses (by_number_nos a.0.now a.1.0 a.1.1.0.now) r (s.1.1.0.now ≡ a.1.1.0.now)
unfolding strip_answer
strip_refuses κs a r s h = record { named = h.0; left = (strip_right κs a r s h).kept }

-- ---- the calls on dictionary numbers. Number and strip: as Number and Strip

pub dictionary_number_refuses : (κs : Lfts 2) (a : Dens κs dictionary_number.ps) (r : Filed) (s : AtExit (ended_of 2 dictionary_number.ps dictionary_number.r) κs) → dictionary_number_reads.Post κs a r s
    → Refuses (number_nos a.0.now a.1.0.now) r.refusal (r.number ≡ 0)
unfolding dictionary_number_answer
dictionary_number_refuses κs a r s h = record { named = ap (λ (r : Filed). r.refusal) h; left = (dictionary_number_right κs a r s h).refused_zero }

pub dictionary_strip_refuses : (κs : Lfts 2) (a : Dens κs dictionary_strip.ps) (r : Refusal) (s : AtExit (ended_of 2 dictionary_strip.ps dictionary_strip.r) κs) → dictionary_strip_reads.Post κs a r s
    → Refuses (by_number_nos a.0.now a.1.0 a.1.1.0.now) r (s.1.1.0.now ≡ a.1.1.0.now)
unfolding dictionary_strip_answer
dictionary_strip_refuses κs a r s h = record { named = h.0; left = (dictionary_strip_right κs a r s h).kept }

-- the next strip: 1 to 6, 9. The strip stays

pub dictionary_next_refuses : (κs : Lfts 2) (a : Dens κs dictionary_next.ps) (r : Refusal) (s : AtExit (ended_of 2 dictionary_next.ps dictionary_next.r) κs) → dictionary_next_reads.Post κs a r s
    → Refuses (dictionary_next_nos a.0.now a.1.0.now) r (s.1.0.now ≡ a.1.0.now)
unfolding dictionary_next_answer
dictionary_next_refuses κs a r s h = record { named = h.0; left = (dictionary_next_right κs a r s h).kept }

-- conversion: 1, 2, 3, 7, 8

pub to_dictionary_refuses : (κs : Lfts 1) (a : Dens κs to_dictionary.ps) (r : Filed) (s : AtExit (ended_of 1 to_dictionary.ps to_dictionary.r) κs) → to_dictionary_reads.Post κs a r s
    → Refuses (convert_nos a.0.now a.1.0) r.refusal (r.number ≡ 0)
unfolding convert_answer
to_dictionary_refuses κs a r s h = record { named = ap (λ (r : Filed). r.refusal) h; left = (to_dictionary_right κs a r s h).refused_zero }

pub to_book_refuses : (κs : Lfts 1) (a : Dens κs to_book.ps) (r : Filed) (s : AtExit (ended_of 1 to_book.ps to_book.r) κs) → to_book_reads.Post κs a r s
    → Refuses (convert_nos a.0.now a.1.0) r.refusal (r.number ≡ 0)
unfolding convert_answer
to_book_refuses κs a r s h = record { named = ap (λ (r : Filed). r.refusal) h; left = (to_book_right κs a r s h).refused_zero }

-- ---- Which: 1, 2, 3; 4, 5, 6 of the first strip, then of the second. Earlier is refused alike: then it is the empty part at the start of the first lent strip,
-- and only then is it empty (`earlier_shows`)

pub which_refuses : (κs : Lfts 3) (a : Dens κs which.ps) (r : Compared) (s : AtExit (ended_of 3 which.ps which.r) κs) → which_reads.Post κs a r s
    → Refuses (pair_nos a.0.now a.1.0.now a.1.1.0.now) r.refusal ((r.which ≡ 0) × (r.kind ≡ 0))
unfolding which_answer
which_refuses κs a r s h = record { named = ap (λ (r : Compared). r.refusal) h; left = which_refused_zero κs a r s h }

pub earlier_refuses : (κs : Lfts 2) (a : Dens κs earlier.ps) (r : Lent) (s : AtExit (ended_of 2 earlier.ps earlier.r) κs) → earlier_reads.Post κs a r s
    → ((first_of (pair_nos a.0.now a.1.0.now a.1.1.0.now)).0 ≡ 0 → ⊥) → EmptyPart a.1.0 r
earlier_refuses κs a r s h = earlier_refused κs a r s h

-- ---- Distance: as Which, then 7, 14

pub distance_refuses : (κs : Lfts 3) (a : Dens κs distance.ps) (r : Apart) (s : AtExit (ended_of 3 distance.ps distance.r) κs) → distance_reads.Post κs a r s
    → Refuses (distance_nos a.0.now a.1.0.now a.1.1.0.now) r.refusal (r.moves ≡ pos 0)
unfolding distance_answer
distance_refuses κs a r s h = record { named = ap (λ (r : Apart). r.refusal) h; left = distance_refused_zero κs a r s h }

-- ---- Open: 1 to 6. All directions forward

pub open_refuses : (κs : Lfts 2) (a : Dens κs opening.ps) (r : Opened) (s : AtExit (ended_of 2 opening.ps opening.r) κs) → opening_reads.Post κs a r s
    → Refuses (check_nos a.0.now a.1.0.now) r.refusal (r.walker ≡ all_forward)
unfolding open_answer
open_refuses κs a r s h = record { named = ap (λ (r : Opened). r.refusal) h; left = refused_forward κs a r s h }

-- ---- Walk, in the direction of the call: 1 to 6, 10, 9. The strip stays, and the walker is the one lent

pub walk_refuses : (κs : Lfts 2) (a : Dens κs walk.ps) (r : Moved) (s : AtExit (ended_of 2 walk.ps walk.r) κs) → walk_reads.Post κs a r s
    → Refuses (move_nos a.1.1.1.0 a.0.now a.1.0.now a.1.1.0) r.refusal ((r.low ≡ 0) × (r.high ≡ 0) × (r.walker ≡ a.1.1.0) × (s.1.0.now ≡ a.1.0.now))
unfolding move_answer
walk_refuses κs a r s h = record { named = ap (λ (r : Moved). r.refusal) h.0; left = (walk_right κs a r s h).refused }

-- ---- the press driver's form: as Walk, and what it leaves in the lent walker is the one lent

pub drive_refuses : (d : Bool) (counts s : List ℕ) (w : Walker) (r : Moved) (t : List ℕ) (v : Walker) → Allowed d counts s w r t v
    → Refuses (move_nos d counts s w) r.refusal ((r.low ≡ 0) × (r.high ≡ 0) × (r.walker ≡ w) × (t ≡ s) × (v ≡ w))
unfolding move_answer
drive_refuses d counts s w r t v h = record {
  named = ap (λ (r : Moved). r.refusal) h.0;
  left = λ e. let m = (drive_right d counts s w r t v h).0.refused e in (m.0, m.1, m.2, m.3, h.2 ∙ m.2);
}

-- ---- Run: 1 to 6, 10. Strip and list stay, and the walker is the one lent

pub run_refuses : (κs : Lfts 3) (a : Dens κs run.ps) (r : Ran) (s : AtExit (ended_of 3 run.ps run.r) κs) → run_reads.Post κs a r s
    → Refuses (walker_nos a.0.now a.1.0.now a.1.1.0) r.refusal
    ((r.moves ≡ 0) × (r.ended ≡ false) × (r.walker ≡ a.1.1.0) × (s.1.0.now ≡ a.1.0.now) × (s.1.1.1.1.0.now ≡ a.1.1.1.1.0.now))
unfolding run_answer
run_refuses κs a r s h = record { named = ap (λ (r : Ran). r.refusal) h.0; left = (run_right κs a r s h).refused }

-- ---- Replay: 1 to 6, 15, 16. The strip stays

pub replay_refuses : (κs : Lfts 3) (a : Dens κs replay.ps) (r : Replayed) (s : AtExit (ended_of 3 replay.ps replay.r) κs) → replay_reads.Post κs a r s
    → Refuses (replay_nos a.0.now a.1.0.now a.1.1.0.now) r.refusal ((r.walked ≡ 0) × (r.different ≡ 0) × (r.missing ≡ 0) × (s.1.0.now ≡ a.1.0.now))
unfolding replay_answer
replay_refuses κs a r s h = record { named = ap (λ (r : Replayed). r.refusal) h.0; left = (replay_right κs a r s h).kept }

-- ---- Same paper: as Which

pub same_paper_refuses : (κs : Lfts 3) (a : Dens κs same_paper.ps) (r : Asked) (s : AtExit (ended_of 3 same_paper.ps same_paper.r) κs) → same_paper_reads.Post κs a r s
    → Refuses (pair_nos a.0.now a.1.0.now a.1.1.0.now) r.refusal (r.same ≡ false)
unfolding same_paper_answer
same_paper_refuses κs a r s h = record { named = ap (λ (r : Asked). r.refusal) h; left = refused_no κs a r s h }

-- ---- Stand: 1 to 6. The strip stays

pub stand_refuses : (κs : Lfts 2) (a : Dens κs stand.ps) (r : Stood) (s : AtExit (ended_of 2 stand.ps stand.r) κs) → stand_reads.Post κs a r s
    → Refuses (check_nos a.0.now a.1.0.now) r.refusal ((r.turn ≡ 0) × (r.reversed ≡ false) × (s.1.0.now ≡ a.1.0.now))
unfolding stand_answer
stand_refuses κs a r s h = record { named = ap (λ (r : Stood). r.refusal) h.0; left = (stand_right κs a r s h).kept }

-- ---- Next paper: 1 to 6. The strip stays

pub next_paper_refuses : (κs : Lfts 2) (a : Dens κs next_paper_lem.ps) (r : Stepped) (s : AtExit (ended_of 2 next_paper_lem.ps next_paper_lem.r) κs) → next_paper_reads.Post κs a r s
    → Refuses (check_nos a.0.now a.1.0.now) r.refusal ((r.outcome ≡ 0) × (r.steps ≡ 0) × (s.1.0.now ≡ a.1.0.now))
unfolding next_paper_answer
next_paper_refuses κs a r s h = record { named = ap (λ (r : Stepped). r.refusal) h.0; left = (next_paper_right κs a r s h).kept }

-- ---- Next apart: 1 to 6, 10. The strip stays, and the walker is the one lent

pub next_apart_refuses : (κs : Lfts 2) (a : Dens κs next_apart.ps) (r : Spaced) (s : AtExit (ended_of 2 next_apart.ps next_apart.r) κs) → next_apart_reads.Post κs a r s
    → Refuses (walker_nos a.0.now a.1.0.now a.1.1.0) r.refusal ((r.outcome ≡ 0) × (r.moves ≡ 0) × (r.walker ≡ a.1.1.0) × (s.1.0.now ≡ a.1.0.now))
unfolding next_apart_answer
next_apart_refuses κs a r s h = record { named = ap (λ (r : Spaced). r.refusal) h.0; left = (next_apart_right κs a r s h).kept }

-- ---- writing a sheet: 1 to 6, 13, 9. The sheet stays

pub write_sheet_refuses : (κs : Lfts 3) (a : Dens κs writing.ps) (r : Written) (s : AtExit (ended_of 3 writing.ps writing.r) κs) → writing_reads.Post κs a r s
    → Refuses (write_nos a.0.now a.1.0.now a.1.1.0 a.1.1.1.0.now) r.refusal ((r.length ≡ 0) × (s.1.1.1.0.now ≡ a.1.1.1.0.now))
unfolding put_answer
write_sheet_refuses κs a r s h = record { named = ap (λ (r : Written). r.refusal) h.0; left = write_refused_stays κs a r s h }

-- ---- reading a sheet of edition 1: 4, then record by record. The buffer stays

pub read_sheet_refuses : (κs : Lfts 2) (a : Dens κs reading.ps) (r : Readout) (s : AtExit (ended_of 2 reading.ps reading.r) κs) → reading_reads.Post κs a r s
    → Refuses (read_nos false a.0.now a.1.0.now) r.refusal ((r.moves ≡ 0) × (s.1.0.now ≡ a.1.0.now))
unfolding read_answer
read_sheet_refuses κs a r s h = record { named = ap (λ (r : Readout). r.refusal) h.0; left = refused_stays false _ _ r _ h }

-- ---- rebuilding a sheet: 11 at 0 where it has under 82 bytes; then as reading, without 4, for the stock and the strip; then 13. The second buffer stays

pub rebuild_refuses : (κs : Lfts 2) (a : Dens κs rebuild.ps) (r : Rebuilt) (s : AtExit (ended_of 2 rebuild.ps rebuild.r) κs) → rebuild_reads.Post κs a r s
    → Refuses (rebuild_nos a.0.now a.1.0.now) r.refusal ((r.moves ≡ 0) × (r.differing ≡ 0) × (r.first ≡ 0) × (s.1.0.now ≡ a.1.0.now))
unfolding rebuild_answer
rebuild_refuses κs a r s h = record { named = ap (λ (r : Rebuilt). r.refusal) h.0; left = rebuild_refused_stays κs a r s h }

-- ---- writing a sheet of edition 2: 1 to 6, 13 by its one form, 9. The sheet stays

pub write_long_refuses : (κs : Lfts 3) (a : Dens κs write_long.ps) (r : Written) (s : AtExit (ended_of 3 write_long.ps write_long.r) κs) → write_long_reads.Post κs a r s
    → Refuses (long_nos a.0.now a.1.0.now a.1.1.0 a.1.1.1.0.now) r.refusal ((r.length ≡ 0) × (s.1.1.1.0.now ≡ a.1.1.1.0.now))
unfolding put_answer
write_long_refuses κs a r s h = record { named = ap (λ (r : Written). r.refusal) h.0; left = write_long_refused_stays κs a r s h }

-- ---- reading a sheet of either edition: 4, then record by record; in a stride 11, 17, 7, 12. The buffer stays

pub read_editions_refuses : (κs : Lfts 2) (a : Dens κs read_editions.ps) (r : Readout) (s : AtExit (ended_of 2 read_editions.ps read_editions.r) κs) → read_editions_reads.Post κs a r s
    → Refuses (read_nos true a.0.now a.1.0.now) r.refusal ((r.moves ≡ 0) × (s.1.0.now ≡ a.1.0.now))
unfolding read_answer
read_editions_refuses κs a r s h = record { named = ap (λ (r : Readout). r.refusal) h.0; left = refused_stays true _ _ r _ h }

-- ---- rewriting a sheet: as reading one of either edition, without 4; then 13 by its one form. The second buffer stays

pub rewrite_refuses : (κs : Lfts 2) (a : Dens κs rewrite.ps) (r : Written) (s : AtExit (ended_of 2 rewrite.ps rewrite.r) κs) → rewrite_reads.Post κs a r s
    → Refuses (rewrite_nos a.0.now a.1.0.now) r.refusal ((r.length ≡ 0) × (s.1.0.now ≡ a.1.0.now))
unfolding rewrite_answer
rewrite_refuses κs a r s h = record { named = ap (λ (r : Written). r.refusal) h.0; left = rewrite_refused_stays κs a r s h }
