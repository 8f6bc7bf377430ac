-- Proofs. A sheet whose stock has counts of 0: 2 is never met, sixteen zeros are 1, and a byte of the strip that names a kind without blocks is 6.
use Prim.Native.Nat.{ℕ, suc, ◌+◌, ◌≤◌, ◌<◌}
use mathlib.Core.Path.{◌≡◌, refl, ap, ◌∙◌}
use mathlib.Core.Bool.{Bool, not, ◌||◌}
use mathlib.Core.List.{List, [], ◌∷◌, ◌++◌}
use native.Mathlib.Omega.{arith}
use lib.Dec.{eqb, ltb}
use borrow.Author.Tests.{le-ltb, ne_eqb}
use lib.ListN.{length, get_or, take, drop, replicate, take-append-drop}
use Rattle.rules.specs.Stock.{sum, last_count, IsStock}
use Rattle.rules.specs.Book.{same}
use Rattle.rules.specs.Refusals.{No, when, at_place, first_of, smallest, is_stranger, is_miscounted, zero_no, stock_nos}
use Rattle.rules.specs.SoldOut.{used}
use Rattle.rules.proofs.Refusals.{first_passed, refused_first, passed_first, at_place_lem, end_is, row_is, both_is, when_is, stock_is, stranger_is, amount_is}
use Rattle.rules.proofs.Checks.{accepted_back}
use Rattle.rules.proofs.SoldOut.{sold_out_miscounted}
use Rattle.rules.proofs.Used.{used_ends}
use Rattle.records.specs.Records.{sheet_stock, strip_body, sheet_strip, record_no, padding_no, first_two_nos}
use Rattle.records.proofs.BodyLaws.{record_there}
use Rattle.following.proofs.Steps.{follow_is}
use Rattle.reading.specs.Reading.{followed, record_nos, read_nos}

-- ---- 2

abbrev NotTwo : ℕ → Type 0
NotTwo n = n ≡ 2 → ⊥

none : NotTwo 0
none e = omega arith

-- no kinds are 1
empty_not_two : NotTwo (first_of (stock_nos [])).0
unfolding stock_nos first_of
empty_not_two e = omega arith

-- a stock that ends in a count that is not 0, or has no kind at all
stock_not_two : (counts : List ℕ) → (0 < length counts → 1 ≤ last_count counts) → NotTwo (first_of (stock_nos counts)).0
stock_not_two [] ends = empty_not_two
stock_not_two (c ∷ cs) ends = stock_is NotTwo none (c ∷ cs) (λ e. omega arith) two (λ e. omega arith)
  where
    two : NotTwo (zero_no (c ∷ cs)).0
    two = rw (ne_eqb (last_count (c ∷ cs)) 0 (omega (arith, ends (omega arith)))) none

sheet_not_two : (sheet : List ℕ) → NotTwo (first_of (stock_nos (sheet_stock sheet))).0
unfolding sheet_stock
sheet_not_two sheet = stock_not_two (used (take 16 (drop 1 sheet))) (used_ends (take 16 (drop 1 sheet)))

record_not_two : (kind body at : ℕ) (sheet : List ℕ) → NotTwo (record_no kind body at sheet).0
unfolding record_no
record_not_two kind body at sheet = when_is NotTwo none 11 at (λ e. omega arith) (not (eqb (get_or sheet at 0) kind) || ltb (length sheet) (at + 1 + body))

padding_not_two : (sheet : List ℕ) → NotTwo (padding_no sheet).0
unfolding padding_no
padding_not_two sheet = let rest = drop (sum (sheet_stock sheet)) (strip_body sheet) in when_is NotTwo none 11 17 (λ e. omega arith) (not (same rest (replicate (length rest) 0)))

followed_not_two : (strides : Bool) (sheet : List ℕ) → NotTwo (followed strides sheet).no.0
unfolding followed
followed_not_two strides sheet =
    follow_is NotTwo none (λ e. omega arith) (λ e. omega arith) (λ e. omega arith) (λ e. omega arith) strides (sheet_stock sheet) (sheet_strip sheet) 82 (drop 82 sheet)

-- of the first two records, whoever reads them
pub first_two_not_two : (sheet : List ℕ) → NotTwo (first_of (first_two_nos sheet)).0
unfolding first_two_nos
first_two_not_two sheet =
    let counts = sheet_stock sheet in
    let s = sheet_strip sheet in
    row_is NotTwo none _ _ (record_not_two 1 16 0 sheet)
    (both_is NotTwo none (stock_nos counts) _ (sheet_not_two sheet)
    (row_is NotTwo none _ _ (record_not_two 2 64 17 sheet)
    (row_is NotTwo none _ _ (stranger_is NotTwo none counts (λ e. omega arith) s)
    (row_is NotTwo none _ _ (amount_is NotTwo none counts (λ e. omega arith) s)
    (row_is NotTwo none _ [] (padding_not_two sheet) (end_is NotTwo none))))))

pub two_never : (strides : Bool) (sheet buffer : List ℕ) → (first_of (read_nos strides sheet buffer)).0 ≡ 2 → ⊥
unfolding read_nos record_nos
two_never strides sheet buffer =
    row_is NotTwo none _ _ (when_is NotTwo none 4 0 (λ e. omega arith) (ltb (length buffer) 64))
    (both_is NotTwo none (first_two_nos sheet) _ (first_two_not_two sheet) (row_is NotTwo none _ [] (followed_not_two strides sheet) (end_is NotTwo none)))

-- ---- sixteen zeros

zeros_first : (strides : Bool) (buffer rest : List ℕ) → 64 ≤ length buffer → first_of (read_nos strides ((1 ∷ replicate 16 0) ++ rest) buffer) ≡ (1, 0)
unfolding read_nos record_nos first_two_nos sheet_stock used stock_nos first_of
zeros_first strides buffer rest room = rw (le-ltb (length buffer) 64 room, ← record_there 1 16 0 ((1 ∷ replicate 16 0) ++ rest) refl (omega arith))

pub zeros_are_one : (strides : Bool) (sheet buffer : List ℕ) → 64 ≤ length buffer → take 17 sheet ≡ 1 ∷ replicate 16 0 → first_of (read_nos strides sheet buffer) ≡ (1, 0)
zeros_are_one strides sheet buffer room h =
    let e : (1 ∷ replicate 16 0) ++ drop 17 sheet ≡ sheet = rw h at (take-append-drop 17 sheet) in
    rw e at (zeros_first strides buffer (drop 17 sheet) room)

-- ---- a byte of a kind without blocks

-- every row before 6 passed
module _ (strides : Bool) (sheet buffer : List ℕ) (room : 64 ≤ length buffer) (first : (record_no 1 16 0 sheet).0 ≡ 0) (stock : IsStock (sheet_stock sheet))
    (second : (record_no 2 64 17 sheet).0 ≡ 0) (own : smallest (is_stranger (sheet_stock sheet)) (sheet_strip sheet) ≡ 0) where
  pub sold_out_read : (i j : ℕ) → i < length (sheet_strip sheet) → get_or (sheet_strip sheet) i 0 ≡ suc j → j < length (sheet_stock sheet) → get_or (sheet_stock sheet) j 0 ≡ 0
      → (first_of (read_nos strides sheet buffer)).0 ≡ 6
  unfolding read_nos record_nos first_two_nos
  sold_out_read i j inside names kind none =
      let p = smallest (is_miscounted (sheet_strip sheet)) (sheet_stock sheet) in
      let four : (when 4 (ltb (length buffer) 64)).0 ≡ 0 = rw (le-ltb (length buffer) 64 room) in
      let six : first_of (first_two_nos sheet) ≡ (6, p) =
      first_passed _ _ first
      ∙ passed_first (stock_nos (sheet_stock sheet)) _ (ap (λ (r : No). r.0) (accepted_back (sheet_stock sheet) stock))
      ∙ first_passed _ _ second
      ∙ first_passed _ _ (ap (λ (p : ℕ). (at_place 5 p).0) own)
      ∙ at_place_lem 5 _ p (sold_out_miscounted (sheet_stock sheet) (sheet_strip sheet) i j inside names kind none)
      in
      let refused : (first_of (first_two_nos sheet)).0 ≡ 0 → ⊥ = λ z. omega (arith, ap (λ (r : No). r.0) six) in
      ap (λ (r : No). r.0) (first_passed _ _ four ∙ refused_first (first_two_nos sheet) ((followed strides sheet).no ∷ []) refused ∙ six)
