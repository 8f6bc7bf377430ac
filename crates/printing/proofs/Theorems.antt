-- Theorems. The printer gives the lines of the output, one after the other; and one outcome of each open call.
use Prim.Native.Nat.{ℕ, min, ◌+◌, ◌≤◌, ◌<◌}
use mathlib.Core.Path.{◌≡◌, refl, sym, ap, ◌∙◌}
use mathlib.Core.Bool.{Bool, true, false}
use mathlib.Core.Option.{Option, none, some}
use mathlib.Core.List.{List, [], ◌∷◌}
use native.Mathlib.Decide.{ℕ_discrete}
use native.Mathlib.Omega.{arith}
use contract.Lifetimes.{Lfts}
use borrow.Fn.Kinds.{Dens, ended_of}
use denote.Triple.Clauses.{AtExit}
use lib.ListN.{length, get_or, drop, length-append}
use Rattle.std.specs.Prelude.{Option as Answer, Some, None}
use Rattle.rules.specs.Stock.{total, IsStrip}
use Rattle.rules.specs.Book.{book, place_in}
use Rattle.rules.specs.Refusals.{first_of}
use Rattle.rules.specs.Outcome.{OneOutcome}
use Rattle.rules.proofs.Refusals.{unless_refused, unless_passed}
use Rattle.dictionary.specs.Dictionary.{dictionary}
use Rattle.standing.specs.Standing.{stands_for_paper}
use Rattle.lines.specs.Text.{unreadable_line, refused_line, strip_line}
use Rattle.counts.specs.Readable.{Readable}
use Rattle.counts.specs.Reading.{counts_read}
use Rattle.lines.specs.Puts.{put}
use Rattle.counts.proofs.Theorems.{nothing_read}
use Rattle.counts.proofs.Readings.{readable_read}
use Rattle.showing.specs.declared.Listing.{Listing}
use Rattle.printing.specs.declared.printer.Printer.{Printer}
use Rattle.printing.specs.declared.printer.Printed.{Printed}
use Rattle.printed.specs.Output.{strips, strip_lines, nos_of, stock_lines, lines_of, output}
use Rattle.showing.specs.States.{of_papers, shown_at, lines_left, Shows}
use Rattle.printing.specs.States.{stock_of, Sound, shown_first, printer_of, after, rest, Prints}
use Rattle.printed.proofs.BookStrips.{book_many, book_strip, book_number}
use Rattle.printed.proofs.PaperStrips.{paper_own, paper_stands, all_papers}
use Rattle.printed.proofs.Lines.{some_strip, lines_many, line_at}
use Rattle.showing.proofs.Showing.{shows_next, left_next}
use Rattle.printing.proofs.Refused.{none_refused}
use Rattle.printing.proofs.printer.first_line.Kinds as first_line
use Rattle.printing.proofs.printer.first_line.Reads as first_line_reads
use Rattle.printing.proofs.printer.next_line.Kinds as next_line
use Rattle.printing.proofs.printer.next_line.Reads as next_line_reads

-- ---- one outcome: two that the contract allows for one input are the same

pub first_one_outcome : OneOutcome 2 first_line.ps first_line.r (λ κs s. s.1.1.0.now) first_line_reads.Post
first_one_outcome κs a x y s t h k = (let e : Some x ≡ Some y = h.0 ∙ sym k.0 in cc, h.1 ∙ sym k.1)

pub next_one_outcome : OneOutcome 1 next_line.ps next_line.r (λ κs s. s.1.0.now) next_line_reads.Post
next_one_outcome κs a x y s t h k = (h.0 ∙ sym k.0, h.1 ∙ sym k.1)

-- ---- what the output is; computed rows are in `Rows`

-- of a line that can be read, the lines of its stock; of any other, one line
pub output_read : (papers : Bool) (counts input : List ℕ) → Readable counts input → output papers input ≡ stock_lines papers counts
unfolding output
output_read papers counts input r = ap (lines_of papers) (readable_read counts input r)

pub output_unreadable : (papers : Bool) (input : List ℕ) → ((counts : List ℕ) → Readable counts input → ⊥) → output papers input ≡ unreadable_line ∷ []
unfolding output
output_unreadable papers input n = ap (lines_of papers) (nothing_read input n (counts_read input) refl)

-- of a book at most 4,096 lines: line i is strip i, with number i
pub book_lines : (counts : List ℕ) → length (strip_lines false counts) ≡ min 4096 (total counts)
book_lines counts = lines_many false counts ∙ book_many counts

pub book_line : (counts : List ℕ) (i : ℕ) → i < length (strip_lines false counts) → get_or (strip_lines false counts) i [] ≡ strip_line i (get_or (book counts) i [])
book_line counts i h =
    let l : i < length (strips false counts) = omega (arith, lines_many false counts) in
    line_at false counts i l ∙ rw (book_number counts i l, book_strip counts i l)

-- of the papers each line is that of a standing strip of the stock, with its number in the dictionary
pub line_stands : (counts : List ℕ) (i : ℕ) → i < length (strip_lines true counts)
    → (s : List ℕ) × IsStrip counts s × (stands_for_paper s ≡ true) × (get_or (strip_lines true counts) i [] ≡ strip_line (place_in (dictionary counts) s) s)
line_stands counts i h =
    let l : i < length (strips true counts) = omega (arith, lines_many true counts) in
    (get_or (strips true counts) i [], paper_own counts i l, paper_stands counts i l, line_at true counts i l)

-- and each standing strip with a number below 1,000,000 has its line, where there are fewer than 4,096
pub standing_has_line : (counts s : List ℕ) → IsStrip counts s → stands_for_paper s ≡ true → place_in (dictionary counts) s < 1000000 → length (strip_lines true counts) < 4096
    → (i : ℕ) × (i < length (strip_lines true counts)) × (get_or (strip_lines true counts) i [] ≡ strip_line (place_in (dictionary counts) s) s)
standing_has_line counts s own stands near few =
    let w = all_papers counts s own stands near (omega (arith, lines_many true counts)) in
    (w.0, omega (arith, w.1, lines_many true counts), line_at true counts w.0 w.1 ∙ rw w.2)

-- ---- the lines that are left

module _ (papers : Bool) (counts : List ℕ) where
  first_shows : Shows papers counts (shown_first papers (some counts))
  unfolding shown_at
  first_shows = elim (ℕ_discrete (first_of (nos_of papers counts)).0 0) [
    | yes z ↦
        let k = none_refused papers counts z in
        rw (unless_passed None (Some (shown_at papers counts 0)) (first_of (nos_of papers counts)) z) (record { stock = k; within = some_strip counts papers k; is = refl })
    | no n ↦ rw (unless_refused None (Some (shown_at papers counts 0)) (first_of (nos_of papers counts)) n) tt
  ]

  left_first : lines_left papers counts (shown_first papers (some counts)) ≡ drop 1 (stock_lines papers counts)
  unfolding stock_lines shown_at
  left_first = elim (ℕ_discrete (first_of (nos_of papers counts)).0 0) [
    | yes z ↦
        rw (
          unless_passed None (Some (shown_at papers counts 0)) (first_of (nos_of papers counts)) z,
          unless_passed (refused_line (first_of (nos_of papers counts)) ∷ []) (strip_lines papers counts) (first_of (nos_of papers counts)) z,
        )
    | no n ↦
        rw (
          unless_refused None (Some (shown_at papers counts 0)) (first_of (nos_of papers counts)) n,
          unless_refused (refused_line (first_of (nos_of papers counts)) ∷ []) (strip_lines papers counts) (first_of (nos_of papers counts)) n,
        )
  ]

module _ (listing : Listing) where
  pub first_sound : (o : Option (List ℕ)) → Sound (printer_of listing o)
  unfolding printer_of
  first_sound none = record { shows = tt }
  first_sound (some counts) = record { shows = first_shows (of_papers listing) counts }

  rest_of : (o : Option (List ℕ)) → rest (printer_of listing o) ≡ drop 1 (lines_of (of_papers listing) o)
  unfolding printer_of
  rest_of none = refl
  rest_of (some counts) = left_first (of_papers listing) counts

  pub rest_first : (input : List ℕ) → rest (printer_of listing (counts_read input)) ≡ drop 1 (output (of_papers listing) input)
  unfolding output
  rest_first input = rest_of (counts_read input)

pub next_sound : (p : Printer) → Sound p → Sound (after p)
unfolding after
next_sound p s = record { shows = shows_next (of_papers p.listing) (stock_of p.read) p.shown s.shows }

pub rest_next : (p : Printer) → Sound p → rest (after p) ≡ drop 1 (rest p)
unfolding after
rest_next p s = left_next (of_papers p.listing) (stock_of p.read) p.shown s.shows

-- ---- the calls: the first of the lines that are to come stands in the lent line, and the others are left

pub record Gives (lines : List (List ℕ)) (line written : List ℕ) (r : Printed) : Type 0 where
  pub some : 0 < length lines
  pub bytes : r.length ≡ length (get_or lines 0 [])
  pub inside : r.length ≤ length written
  pub text : written ≡ put line 0 (get_or lines 0 [])
  pub sound : Sound r.printer
  pub left : rest r.printer ≡ drop 1 lines

-- or none is to come, and the lent line stays as it was
abbrev pub MayGive : List (List ℕ) → List ℕ → List ℕ → Answer Printed → Type 0
MayGive lines line written None = (lines ≡ []) × (written ≡ line)
MayGive lines line written (Some r) = Gives lines line written r

gives : (lines : List (List ℕ)) (line written : List ℕ) (o : Answer Printed) (p : Printer) → Prints lines p line written o → Sound p → rest p ≡ drop 1 lines → MayGive lines line written o
gives [] line written o p h s l = rw h.0 (refl, h.1)
gives (t ∷ lines) line written o p h s l =
    let n : length written ≡ length t + length (drop (0 + length t) line) = ap length h.1 ∙ length-append t (drop (0 + length t) line) in
    rw h.0 (record { some = omega arith; bytes = refl; inside = omega (arith, n); text = h.1; sound = s; left = l })

pub first_gives : (listing : Listing) (input line written : List ℕ) (r : Printed)
    → Prints (output (of_papers listing) input) (printer_of listing (counts_read input)) line written (Some r) → Gives (output (of_papers listing) input) line written r
first_gives listing input line written r h =
    gives (output (of_papers listing) input) line written (Some r) (printer_of listing (counts_read input)) h (first_sound listing (counts_read input)) (rest_first listing input)

pub next_gives : (p : Printer) (line written : List ℕ) (o : Answer Printed) → Sound p
    → Prints (rest p) (after p) line written o → MayGive (rest p) line written o
next_gives p line written o s h = gives (rest p) line written o (after p) h (next_sound p s) (rest_next p s)

pub first_right : (κs : Lfts 2) (a : Dens κs first_line.ps) (r : Printed) (s : AtExit (ended_of 2 first_line.ps first_line.r) κs) → first_line_reads.Post κs a r s
    → Gives (output (of_papers a.1.0) a.0.now) a.1.1.0.now s.1.1.0.now r
first_right κs a r s h = first_gives a.1.0 a.0.now _ _ r h

pub next_right : (κs : Lfts 1) (a : Dens κs next_line.ps) (r : Answer Printed) (s : AtExit (ended_of 1 next_line.ps next_line.r) κs) → Sound a.0 → next_line_reads.Post κs a r s
    → MayGive (rest a.0) a.1.0.now s.1.0.now r
next_right κs a r s k h = next_gives a.0 _ _ r k h
