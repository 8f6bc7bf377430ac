-- The states of a printer, and what its functions promise of them. What they mean is proved by the lines that are left to print (`rest_first`,
-- `rest_next`), so nothing here is to be believed.
use Rattle.std.specs.Prelude.{ℕ, ◌≡◌, Bool, List, [], ◌∷◌, length, get_or, Option as Answer, Some, None}
use Rattle.std.proofs.Math.Option.{Option, none, some}
use Rattle.rules.specs.Refusals.{first_of, unless}
use Rattle.lines.specs.Puts.{put}
use Rattle.counts.specs.Reading.{line_read}
use Rattle.showing.specs.declared.Listing.{Listing}
use Rattle.showing.specs.declared.Shown.{Shown}
use Rattle.printing.specs.declared.printer.Begun.{Begun}
use Rattle.printing.specs.declared.printer.Printer.{Printer}
use Rattle.printing.specs.declared.printer.Printed.{Printed}
use Rattle.printed.specs.Output.{nos_of}
use Rattle.showing.specs.States.{of_papers, shown_at, next_shown, lines_left, Shows}

-- the stock that was read
abbrev pub stock_of : Answer (List ℕ) → List ℕ
stock_of None = []
stock_of (Some counts) = counts

-- a printer on its way
pub record Sound (p : Printer) : Type 0 where
  pub shows : Shows (of_papers p.listing) (stock_of p.read) p.shown

-- the strip that is shown first
abbrev pub shown_first : Bool → Option (List ℕ) → Answer Shown
shown_first papers none = None
shown_first papers (some counts) = unless (first_of (nos_of papers counts)) None (Some (shown_at papers counts 0))

-- the printer of what is read of an input
unfoldable pub printer_of : Listing → Option (List ℕ) → Printer
printer_of listing o = record { read = line_read o; listing = listing; shown = shown_first (of_papers listing) o }

-- the printer after one more line
unfoldable pub after : Printer → Printer
after p = record { read = p.read; listing = p.listing; shown = next_shown (of_papers p.listing) (stock_of p.read) p.shown }

-- the lines that a printer has left
abbrev pub rest : Printer → List (List ℕ)
rest p = lines_left (of_papers p.listing) (stock_of p.read) p.shown

-- ---- the answers

abbrev pub as_begun : List ℕ → Answer Shown → Begun
as_begun text sh = record { length = length text; shown = sh }

-- of some lines that are left the first is printed, if there is one
abbrev pub as_printed : List (List ℕ) → Printer → Answer Printed
as_printed [] p = None
as_printed (text ∷ lines) p = Some (record { length = length text; printer = p })

-- the first of some lines is written at the start of a lent line; the answer is its length, and the strip that is then shown
abbrev pub Begins : List (List ℕ) → Answer Shown → List ℕ → List ℕ → Begun → Type 0
Begins lines sh line written r = (r ≡ as_begun (get_or lines 0 []) sh) × (written ≡ put line 0 (get_or lines 0 []))

-- the same with the printer; where there is no line, the lent one stays as it was
abbrev pub Prints : List (List ℕ) → Printer → List ℕ → List ℕ → Answer Printed → Type 0
Prints lines p line written r = (r ≡ as_printed lines p) × (written ≡ put line 0 (get_or lines 0 []))
