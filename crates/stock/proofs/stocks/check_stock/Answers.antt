-- `stock::stocks::check_stock` meets its contract: row by row of the table.
use Prim.Native.Nat.{ℕ, ◌<◌}
use mathlib.Core.Path.{◌≡◌, ap, ◌∙◌}
use mathlib.Core.Logic.{◌⊎◌}
use mathlib.Core.List.{List}
use native.Mathlib.Omega.{arith}
use lib.ListN.{length}
use Rattle.std.proofs.Common.{inl, inr}
use Rattle.rules.specs.Refusals.{first_of, stock_nos}
use Rattle.rules.proofs.Checks.{stock_empty, stock_over, stock_zero, stock_long, stock_fine}
use Rattle.stock.specs.Refused.{no_of}
use Rattle.stock.proofs.stocks.check_stock.Goals as goal

-- no kinds, or more than 16
wrong_kinds : (counts : List ℕ) → (length counts ≡ 0) ⊎ ((length counts ≡ 0 → ⊥) × (16 < length counts)) → (1, 0) ≡ first_of (stock_nos counts)
wrong_kinds counts (inl h) = stock_empty counts h
wrong_kinds counts (inr h) = stock_over counts h.1

pub returns-then-kinds-eq0 : goal.returns-then-kinds-eq0
returns-then-kinds-eq0 c = ap no_of c.at.ensures ∙ wrong_kinds _ c.then-kinds-eq0.either

pub returns-then-last-eq0 : goal.returns-then-last-eq0
returns-then-last-eq0 c = ap no_of c.at-then-last-eq0.ensures ∙ stock_zero _ (omega arith) (omega arith) (omega arith)

pub returns-then-n-gt64 : goal.returns-then-n-gt64
returns-then-n-gt64 c = ap no_of c.at-then-n-gt64.ensures ∙ stock_long _ (omega arith) (omega arith) (omega arith) (omega arith)

pub returns : goal.returns
returns c = stock_fine _ (omega arith) (omega arith) (omega arith) (omega arith)
