-- Proofs. How long the records of a sheet are, 83 bytes and 3 a move; and so, at which byte the record of each move begins.
use Prim.Native.Nat.{ℕ, zero, suc, ◌+◌, ◌*◌, ◌≤◌, ◌<◌}
use mathlib.Core.Path.{◌≡◌, refl, ◌∙◌}
use mathlib.Core.Bool.{false}
use mathlib.Core.List.{List, ◌∷◌, ◌++◌, append_assoc}
use native.Mathlib.Decide.{ℕ_discrete}
use native.Mathlib.Omega.{arith}
use lib.ListN.{length, get_or, length-append}
use lib.Seq.{get_or_at, get_or-append-add}
use Rattle.rules.specs.Stock.{IsStock, IsStrip}
use Rattle.rules.specs.Neighbours.{places}
use Rattle.rules.proofs.Strips.{strip_fits}
use Rattle.walking.specs.Answers.{onward, left}
use Rattle.walking.proofs.Along.{along_places}
use Rattle.sheets.specs.Sheets.{stock_record, strip_record, move_records, end_record, sheet_of}
use Rattle.sheets.proofs.Bodies.{padded_long}

module _ (counts s : List ℕ) (k : IsStock counts) (h : IsStrip counts s) where
  pub moves_long : (c : ℕ) → c ≤ left counts s → length (move_records counts s c) ≡ 3 * c
  unfolding move_records
  moves_long zero l = refl
  moves_long (suc c) l =
      let p = along_places false counts s h c l in
      length-append (move_records counts s c) (3 ∷ places (onward counts s c) (onward counts s (suc c))) ∙ rw p.2 (omega (arith, moves_long c (omega arith)))

  pub sheet_long : (c : ℕ) → c ≤ left counts s → length (sheet_of counts s c) ≡ 83 + 3 * c
  unfolding sheet_of stock_record strip_record
  sheet_long c l =
      let m = move_records counts s c in
      omega (
        arith,
        length-append (stock_record counts) (strip_record s ++ (m ++ end_record)),
        length-append (strip_record s) (m ++ end_record),
        length-append m end_record,
        moves_long c l,
        padded_long 16 counts k.few,
        padded_long 64 s (strip_fits counts s k h),
      )

  -- ---- the kind of the record of each move

  kind_at : (c : ℕ) → c ≤ left counts s → (j : ℕ) → j < c → (rest : List ℕ) → get_or (move_records counts s c ++ rest) (3 * j) 0 ≡ 3
  unfolding move_records
  kind_at zero l j b rest = absurd (omega arith)
  kind_at (suc c) l j b rest =
      let m = move_records counts s c in
      let next : List ℕ = 3 ∷ places (onward counts s c) (onward counts s (suc c)) in
      rw (append_assoc m next rest) (elim (ℕ_discrete j c) [
        | yes e ↦ rw e (get_or_at m 3 (places (onward counts s c) (onward counts s (suc c)) ++ rest) 0 (3 * c) (moves_long c (omega arith)))
        | no e ↦ kind_at c (omega arith) j (omega arith) (next ++ rest)
      ])

  pub move_kind : (c : ℕ) → c ≤ left counts s → (j : ℕ) → j < c → get_or (sheet_of counts s c) (82 + 3 * j) 0 ≡ 3
  unfolding sheet_of stock_record strip_record
  move_kind c l j b =
      let rest = move_records counts s c ++ end_record in
      let e : 82 + 3 * j ≡ length (stock_record counts) + (length (strip_record s) + 3 * j) = omega (arith, padded_long 16 counts k.few, padded_long 64 s (strip_fits counts s k h)) in
      rw e (get_or-append-add (stock_record counts) (strip_record s ++ rest) (length (strip_record s) + 3 * j) 0 ∙ get_or-append-add (strip_record s) rest (3 * j) 0 ∙ kind_at c l j b end_record)
