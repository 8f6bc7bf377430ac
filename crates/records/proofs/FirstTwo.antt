-- Proofs. The first two records of a sheet are those that begin at byte 0: their rows, what they hold where no row refuses, and what is read of them.
use Prim.Native.Nat.{ℕ, ◌≤◌}
use mathlib.Core.Path.{◌≡◌, refl, ap, ◌∙◌}
use mathlib.Core.List.{List}
use native.Mathlib.Omega.{arith}
use lib.ListN.{length}
use Rattle.std.specs.Prelude.{Result, Ok}
use Rattle.rules.specs.Stock.{IsStock, IsStrip}
use Rattle.rules.specs.Refusals.{first_of}
use Rattle.stock.specs.declared.refused.Refused.{Refused}
use Rattle.stock.specs.Refused.{told}
use Rattle.records.specs.declared.held.Opening.{Opening}
use Rattle.records.specs.Records.{sheet_stock, strip_body, sheet_strip, padding_no, first_two_nos}
use Rattle.records.specs.Opened.{stock_at, strip_at, rest_at, stock_at_nos, strip_at_nos, opening_nos, held_stock, held_strip, Opened}
use Rattle.records.proofs.Beginning.{opening_stock, opening_strip, opening_body}

first_two_rows : (sheet : List ℕ) → opening_nos 0 sheet ≡ first_two_nos sheet
unfolding first_two_nos opening_nos stock_at_nos strip_at_nos padding_no stock_at strip_at rest_at sheet_stock sheet_strip strip_body
first_two_rows sheet = refl

module _ (sheet : List ℕ) (none : (first_of (first_two_nos sheet)).0 ≡ 0) where
  opened : (first_of (opening_nos 0 sheet)).0 ≡ 0
  opened = rw (first_two_rows sheet) none

  pub first_two_long : 82 ≤ length sheet
  first_two_long = omega (arith, opening_body 0 sheet opened)

  pub first_two_stock : IsStock (sheet_stock sheet)
  unfolding sheet_stock stock_at
  first_two_stock = opening_stock 0 sheet opened

  pub first_two_strip : IsStrip (sheet_stock sheet) (sheet_strip sheet)
  unfolding sheet_stock sheet_strip strip_body stock_at strip_at
  first_two_strip = opening_strip 0 sheet opened

-- what is read of them
module _ (sheet : List ℕ) (r : Result Opening Refused) (h : Opened 0 sheet r) where
  pub first_two_refused : told r ≡ first_of (first_two_nos sheet)
  first_two_refused = h.refused ∙ ap first_of (first_two_rows sheet)

module _ (sheet : List ℕ) (o : Opening) (h : Opened 0 sheet (Ok o)) where
  pub stock_held : held_stock o ≡ sheet_stock sheet
  unfolding sheet_stock stock_at
  stock_held = h.stock

  pub strip_held : held_strip o ≡ sheet_strip sheet
  unfolding sheet_stock sheet_strip strip_body stock_at strip_at
  strip_held = h.strip
