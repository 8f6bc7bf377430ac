-- Proofs. What the printer's functions answer, from what their parts answer.
use Prim.Native.Nat.{ℕ}
use mathlib.Core.Path.{◌≡◌, refl, sym, ap, ◌∙◌}
use mathlib.Core.Bool.{Bool}
use mathlib.Core.Option.{Option, none, some}
use mathlib.Core.List.{List, [], ◌∷◌}
use native.Mathlib.Decide.{ℕ_discrete}
use native.Mathlib.Nat.{zero-add}
use native.Mathlib.Omega.{arith}
use lib.ListN.{length, get_or, drop}
use Rattle.std.specs.Prelude.{Option as Answer, Some, None}
use Rattle.rules.specs.Refusals.{first_of}
use Rattle.rules.proofs.Refusals.{unless_refused, unless_passed}
use Rattle.rules.proofs.Checks.{some_block}
use Rattle.lines.specs.Text.{unreadable_line, refused_line}
use Rattle.lines.specs.Puts.{put, Puts}
use Rattle.counts.specs.Reading.{counts_read, line_read}
use Rattle.showing.specs.declared.Listing.{Listing}
use Rattle.showing.specs.declared.Shown.{Shown}
use Rattle.printing.specs.declared.printer.Begun.{Begun}
use Rattle.printing.specs.declared.printer.Printer.{Printer}
use Rattle.printed.specs.Output.{strip_lines, nos_of, stock_lines, lines_of, output}
use Rattle.showing.specs.States.{of_papers, shown_at, next_shown, shown_text, Shows}
use Rattle.printing.specs.States.{stock_of, Sound, shown_first, printer_of, after, rest, as_begun, as_printed, Begins, Prints}
use Rattle.printing.proofs.Refused.{none_refused}
use Rattle.printed.proofs.Lines.{some_strip}
use Rattle.showing.proofs.Showing.{lines_from, follows, ends}

-- ---- the first line of a stock

begun_is : (line written text other : List ℕ) (to : ℕ) (sh one : Answer Shown) → text ≡ other → sh ≡ one → Puts line 0 text written to
    → (◌≡◌ {A = Begun} record { length = to; shown = sh } (as_begun other one)) × (written ≡ put line 0 other)
begun_is line written text other to sh one e f w = rw (← e) (rw (w.0, zero-add (length text), f), w.1)

module _ (papers : Bool) (counts line written : List ℕ) (to : ℕ) where
  -- what it is
  abbrev Starts : Answer Shown → Type 0
  Starts sh = Begins (stock_lines papers counts) (shown_first papers (some counts)) line written (record { length = to; shown = sh })

  pub begun_refused : ((first_of (nos_of papers counts)).0 ≡ 0 → ⊥) → Puts line 0 (refused_line (first_of (nos_of papers counts))) written to → Starts None
  unfolding stock_lines
  begun_refused n w =
      let r = first_of (nos_of papers counts) in
      begun_is line written _ _ to None _ (sym (ap (λ (l : List (List ℕ)). get_or l 0 []) (unless_refused (refused_line r ∷ []) (strip_lines papers counts) r n)))
      (sym (unless_refused None (Some (shown_at papers counts 0)) r n)) w

  pub begun_shown : (first_of (nos_of papers counts)).0 ≡ 0 → (sh : Shown) → sh ≡ shown_at papers counts 0 → Puts line 0 (shown_text counts sh) written to → Starts (Some sh)
  unfolding stock_lines
  begun_shown z sh e w =
      let r = first_of (nos_of papers counts) in
      let k = none_refused papers counts z in
      begun_is line written _ _ to (Some sh) _
      (ap (shown_text counts) e ∙ sym (ap (λ (l : List (List ℕ)). get_or l 0 []) (unless_passed (refused_line r ∷ []) (strip_lines papers counts) r z ∙ lines_from papers counts k 0 (some_strip counts papers k))))
      (ap (λ (x : Shown). Some x) e ∙ sym (unless_passed None (Some (shown_at papers counts 0)) r z)) w

-- ---- the first line of an input

-- there is one
stock_line : (papers : Bool) (counts : List ℕ) → stock_lines papers counts ≡ get_or (stock_lines papers counts) 0 [] ∷ drop 1 (stock_lines papers counts)
unfolding stock_lines
stock_line papers counts =
    let r = first_of (nos_of papers counts) in
    elim (ℕ_discrete r.0 0) [
      | yes z ↦ rw (unless_passed (refused_line r ∷ []) (strip_lines papers counts) r z ∙ lines_from papers counts (none_refused papers counts z) 0 (some_strip counts papers (none_refused papers counts z)))
      | no n ↦ rw (unless_refused (refused_line r ∷ []) (strip_lines papers counts) r n)
    ]

some_line : (papers : Bool) (o : Option (List ℕ)) → lines_of papers o ≡ get_or (lines_of papers o) 0 [] ∷ drop 1 (lines_of papers o)
some_line papers none = refl
some_line papers (some counts) = stock_line papers counts

pub first_printed : (listing : Listing) (input line written : List ℕ) (read : Answer (List ℕ)) (b : Begun) → read ≡ line_read (counts_read input)
    → Begins (output (of_papers listing) input) (shown_first (of_papers listing) (counts_read input)) line written b
    → Prints (output (of_papers listing) input) (printer_of listing (counts_read input)) line written (Some (record { length = b.length; printer = record { read = read; listing = listing; shown = b.shown } }))
unfolding output printer_of
first_printed listing input line written read b is h =
    (rw (h.0, is) (sym (ap (λ (l : List (List ℕ)). as_printed l (printer_of listing (counts_read input))) (some_line (of_papers listing) (counts_read input)))), h.1)

-- where nothing can be read
pub begun_unreadable : (papers : Bool) (input line written : List ℕ) (to : ℕ) → None ≡ line_read (counts_read input) → Puts line 0 unreadable_line written to
    → Begins (output papers input) (shown_first papers (counts_read input)) line written (record { length = to; shown = None })
unfolding output
begun_unreadable papers input line written to is w = go (counts_read input) is
  where
    go : (o : Option (List ℕ)) → None ≡ line_read o → Begins (lines_of papers o) (shown_first papers o) line written (record { length = to; shown = None })
    go none e = begun_is line written unreadable_line unreadable_line to None None refl refl w
    go (some counts) e = absurd (let q : None ≡ Some counts = e in cc)

-- where counts are read
pub begun_stock : (papers : Bool) (input line written counts : List ℕ) (b : Begun) → Some counts ≡ line_read (counts_read input)
    → Begins (stock_lines papers counts) (shown_first papers (some counts)) line written b → Begins (output papers input) (shown_first papers (counts_read input)) line written b
unfolding output
begun_stock papers input line written counts b is h = go (counts_read input) is
  where
    go : (o : Option (List ℕ)) → Some counts ≡ line_read o → Begins (lines_of papers o) (shown_first papers o) line written b
    go none e = absurd (let q : Some counts ≡ None = e in cc)
    go (some l) e = let q : counts ≡ l = cc in rw (← q) h

-- ---- the next line

module _ (p : Printer) (line : List ℕ) (s : Sound p) where
  pub next_printed : (written : List ℕ) (to : ℕ) (sh : Shown) → next_shown (of_papers p.listing) (stock_of p.read) p.shown ≡ Some sh → Puts line 0 (shown_text (stock_of p.read) sh) written to
      → Prints (rest p) (after p) line written (Some (record { length = to; printer = record { read = p.read; listing = p.listing; shown = Some sh } }))
  unfolding after
  next_printed written to sh e w =
      let f = follows (of_papers p.listing) (stock_of p.read) p.shown s.shows sh e in
      rw (f.lines, e) (rw (w.0, zero-add (length (shown_text (stock_of p.read) sh))), w.1)

  pub none_printed : next_shown (of_papers p.listing) (stock_of p.read) p.shown ≡ None → Prints (rest p) (after p) line line None
  none_printed e = rw (ends (of_papers p.listing) (stock_of p.read) p.shown s.shows e) (refl, refl)

-- where nothing could be read, no strip is shown
pub unread : (papers : Bool) (o : Answer Shown) → Shows papers [] o → next_shown papers [] o ≡ None
unread papers None h = refl
unread papers (Some sh) h = absurd (omega (arith, some_block [] h.stock))
