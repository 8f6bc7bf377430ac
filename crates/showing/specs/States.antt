-- The strip that is shown, and what the functions that show one promise. What the printer makes of it is proved by the lines that are left to print (`rest_first`,
-- `rest_next` of `printing`), so nothing here is to be believed.
use Rattle.std.specs.Prelude.{ℕ, ◌+◌, ◌-◌, ◌≤◌, ◌<◌, ◌≡◌, Bool, true, false, cond, List, [], ◌++◌, ltb, length, get_or, take, drop, replicate, Option, Some, None}
use Rattle.rules.specs.Stock.{sum, IsStock}
use Rattle.rules.specs.Book.{place_in}
use Rattle.rules.specs.Refusals.{pick}
use Rattle.walker.specs.declared.Walker.{Walker}
use Rattle.walker.specs.Walkers.{walker_for}
use Rattle.lines.specs.Text.{strip_line}
use Rattle.showing.specs.declared.Listing.{Listing}
use Rattle.showing.specs.declared.Listing.TheVariants.{Book, Papers}
use Rattle.showing.specs.declared.Shown.{Shown}
use Rattle.printed.specs.Output.{list_of, strips, strip_lines}

-- what is printed, as the flag of the definitions of the output
abbrev pub of_papers : Listing → Bool
of_papers Book = false
of_papers Papers = true

-- the walker beside strip i of those that are printed. No walker leads through the papers, so there it stays that of the first
unfoldable pub walker_at : Bool → List ℕ → ℕ → Walker
walker_at papers counts i = walker_for counts (get_or (strips papers counts) (pick papers 0 i) [])

-- strip i
unfoldable pub shown_at : Bool → List ℕ → ℕ → Shown
shown_at papers counts i =
    let s = get_or (strips papers counts) i [] in
    record { strip = s ++ replicate (64 - length s) 0; number = place_in (list_of papers counts) s; index = i; walker = walker_at papers counts i }

-- strip i, where there is one
unfoldable pub shown_if : Bool → List ℕ → ℕ → Option Shown
shown_if papers counts i = cond (ltb i (length (strips papers counts))) (Some (shown_at papers counts i)) None

-- the strip after the one that is shown
abbrev pub next_shown : Bool → List ℕ → Option Shown → Option Shown
next_shown papers counts None = None
next_shown papers counts (Some sh) = shown_if papers counts (sh.index + 1)

-- the blocks of a strip that is shown
abbrev pub blocks_shown : List ℕ → Shown → List ℕ
blocks_shown counts sh = take (sum counts) sh.strip

-- its line
abbrev pub shown_text : List ℕ → Shown → List ℕ
shown_text counts sh = strip_line sh.number (blocks_shown counts sh)

-- the lines that are left after the strip that is shown
abbrev pub lines_left : Bool → List ℕ → Option Shown → List (List ℕ)
lines_left papers counts None = []
lines_left papers counts (Some sh) = drop (sh.index + 1) (strip_lines papers counts)

-- a strip that is printed, of an accepted stock
pub record Held (papers : Bool) (counts : List ℕ) (sh : Shown) : Type 0 where
  pub stock : IsStock counts
  pub within : sh.index < length (strips papers counts)
  pub is : sh ≡ shown_at papers counts sh.index

-- such a strip, or none
abbrev pub Shows : Bool → List ℕ → Option Shown → Type 0
Shows papers counts None = Unit {0}
Shows papers counts (Some sh) = Held papers counts sh

-- what a line needs of the strip that is shown: it has room
pub record Fits (counts : List ℕ) (sh : Shown) : Type 0 where
  pub some : 0 < sum counts
  pub few : sum counts ≤ 64
  pub inside : sum counts ≤ length sh.strip
  pub small : sh.number < 1000000
  pub short : length (shown_text counts sh) ≤ 200
