-- Proofs. The refusals of a stock, for its book or for its papers.
use Prim.Native.Nat.{ℕ, ◌^◌, ◌≤◌}
use mathlib.Core.Path.{◌≡◌}
use mathlib.Core.Bool.{Bool, true, false}
use mathlib.Core.List.{List, [], ◌∷◌}
use native.Mathlib.Decide.{dec_lt, ℕ_discrete}
use native.Mathlib.Omega.{arith}
use lib.Dec.{leb}
use lib.ListN.{length}
use Rattle.rules.specs.Stock.{sum, last_count, total, IsStock}
use Rattle.std.specs.Prelude.{Some, None}
use Rattle.rules.specs.Refusals.{fine, when, first_of, many_no, stock_nos}
use Rattle.rules.proofs.Refusals.{refused_first, passed_first, passed_both, many_refused, many_passed}
use Rattle.rules.proofs.Checks.{stock_empty, stock_over, stock_zero, stock_long, stock_fine, accepted}
use Rattle.stock.specs.declared.refused.Refused.{Refused}
use Rattle.stock.specs.Refused.{no_of}
use Rattle.stock.proofs.Told.{passed_next, stopped_first}
use Rattle.counting.specs.Answers.{count_nos}
use Rattle.counting.proofs.Held.{Held, many, few}
use Rattle.printed.specs.Output.{nos_of}

-- the place of a refused stock is a kind, or 0
stock_place : (counts : List ℕ) → (first_of (stock_nos counts)).1 ≤ 16
stock_place counts = elim (ℕ_discrete (length counts) 0) [
  | yes e ↦ rw (← stock_empty counts e) (omega arith)
  | no e ↦ elim (dec_lt 16 (length counts)) [
    | yes l ↦ rw (← stock_over counts l) (omega arith)
    | no l ↦ elim (ℕ_discrete (last_count counts) 0) [
      | yes z ↦ rw (← stock_zero counts e (omega arith) z) (omega arith)
      | no z ↦ elim (dec_lt 64 (sum counts)) [
        | yes n ↦ rw (← stock_long counts e (omega arith) z n) (omega arith)
        | no n ↦ rw (← stock_fine counts e (omega arith) z (omega arith)) (omega arith)
      ]
    ]
  ]
]

pub refused_place : (papers : Bool) (counts : List ℕ) → (first_of (nos_of papers counts)).1 ≤ 16
unfolding count_nos first_of
refused_place false counts = stock_place counts
refused_place true counts = elim (ℕ_discrete (first_of (stock_nos counts)).0 0) [
  | yes z ↦ rw (passed_first (stock_nos counts) (many_no counts ∷ []) z) (none_many (leb (2 ^ 64) (total counts)))
  | no n ↦ rw (refused_first (stock_nos counts) (many_no counts ∷ []) n) (stock_place counts)
]
  where
    none_many : (b : Bool) → (first_of (when 7 b ∷ [])).1 ≤ 16
    none_many true = omega arith
    none_many false = omega arith

-- a stock that nothing refuses
pub none_refused : (papers : Bool) (counts : List ℕ) → (first_of (nos_of papers counts)).0 ≡ 0 → IsStock counts
unfolding count_nos
none_refused false counts z = accepted counts z
none_refused true counts z = accepted counts (passed_both (stock_nos counts) (many_no counts ∷ []) z).0

-- a stock that is refused itself, and one that only T refuses, or does not
module _ (counts : List ℕ) where
  pub stock_refused : (papers : Bool) (e : Refused) → no_of e ≡ first_of (stock_nos counts) → no_of e ≡ first_of (nos_of papers counts)
  unfolding count_nos
  stock_refused false e is = is
  stock_refused true e is = stopped_first (stock_nos counts) e is (many_no counts ∷ [])

  module _ (h : fine ≡ first_of (stock_nos counts)) where
    pub many_stopped : Held counts None → (7, 0) ≡ first_of (nos_of true counts)
    unfolding count_nos first_of
    many_stopped n = passed_next (stock_nos counts) (many_no counts ∷ []) h (7, 0) (rw (many_refused counts (many counts n)))

    pub few_passed : {t : ℕ} → Held counts (Some t) → fine ≡ first_of (nos_of true counts)
    unfolding count_nos first_of
    few_passed n = passed_next (stock_nos counts) (many_no counts ∷ []) h fine (rw (many_passed counts (few counts n).0))
