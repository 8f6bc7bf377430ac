-- Proofs. A sheet of an accepted stock, a strip of it and records that are followed to the end is read, in either edition; and a sheet that is read is one of these.
use Prim.Native.Nat.{ℕ, ◌-◌, ◌≤◌}
use mathlib.Core.Path.{◌≡◌, refl, sym, ap, ◌∙◌}
use mathlib.Core.Bool.{Bool, true, false}
use mathlib.Core.List.{List, [], ◌∷◌, ◌++◌}
use native.Mathlib.Decide.{ℕ_discrete}
use native.Mathlib.Omega.{arith}
use borrow.Author.Tests.{le-ltb, ltb-false, not-false}
use lib.ListN.{length, get_or, take, drop, length-take, length-drop}
use Rattle.rules.specs.Stock.{sum, IsStock, IsStrip}
use Rattle.rules.specs.Refusals.{No, fine, first_of, stranger_no, amount_no, stock_nos, strip_nos}
use Rattle.rules.proofs.Refusals.{passed_first, passed_both}
use Rattle.rules.proofs.Checks.{passed_head, when_passed, accepted_back, accepted_strip_back, length_right}
use Rattle.rules.proofs.Strips.{strip_sum, strip_fits}
use Rattle.walking.specs.Answers.{onward, left}
use Rattle.sheets.specs.Sheets.{padded, stock_record, strip_record, move_records, sheet_of}
use Rattle.sheets.proofs.Bodies.{padded_long}
use Rattle.records.specs.Records.{sheet_stock, strip_body, sheet_strip, record_no, padding_no, first_two_nos}
use Rattle.records.proofs.BodyLaws.{zeros, record_other, record_there}
use Rattle.records.proofs.FirstTwo.{first_two_long, first_two_stock, first_two_strip}
use Rattle.following.specs.Following.{follow}
use Rattle.reading.specs.Reading.{followed, record_nos, read_nos}
use Rattle.reading.proofs.Padding.{used_padded, padded_used, padded_front, padded_rest, zeros_zeros, padded_split}
use Rattle.reading.proofs.MoveRecords.{follow_written}
use Rattle.reading.proofs.Right.{Right, right}
use Rattle.reading.proofs.Shape.{shaped, long_enough, first_body, second_kind, second_body, left_over, reshaped}

-- ---- a stock, a strip of it, and what stands behind them

abbrev pub headed : List ℕ → List ℕ → List ℕ → List ℕ
headed counts s m = shaped (padded 16 counts) (padded 64 s) m

module _ (counts s : List ℕ) (k : IsStock counts) (h : IsStrip counts s) (m : List ℕ) where
  abbrev a : List ℕ
  a = padded 16 counts

  abbrev b : List ℕ
  b = padded 64 s

  la : length a ≡ 16
  la = padded_long 16 counts k.few

  long : length s ≡ sum counts
  long = strip_sum counts s h

  lb : length b ≡ 64
  lb = padded_long 64 s (strip_fits counts s k h)

  pub stock_of_lem : sheet_stock (headed counts s m) ≡ counts
  unfolding sheet_stock
  stock_of_lem = rw (first_body a b m la lb) (used_padded 16 counts k.last)

  body_of : strip_body (headed counts s m) ≡ b
  unfolding strip_body
  body_of = second_body a b m la lb

  pub strip_of_lem : sheet_strip (headed counts s m) ≡ s
  unfolding sheet_strip
  strip_of_lem = rw (stock_of_lem, body_of) (padded_front 64 (sum counts) s long)

  padding_of : padding_no (headed counts s m) ≡ fine
  unfolding padding_no
  padding_of = rw (stock_of_lem, body_of, padded_rest 64 (sum counts) s long, zeros_zeros (64 - length s))

  first_of_lem : record_no 1 16 0 (headed counts s m) ≡ fine
  first_of_lem = sym (record_there 1 16 0 (headed counts s m) refl (omega (arith, long_enough a b m la lb)))

  second_of : record_no 2 64 17 (headed counts s m) ≡ fine
  second_of = sym (record_there 2 64 17 (headed counts s m) (second_kind a b m la lb) (omega (arith, long_enough a b m la lb)))

  own_of : first_of (stranger_no counts s ∷ amount_no counts s ∷ []) ≡ fine
  unfolding strip_nos
  own_of = length_right counts s (stranger_no counts s ∷ amount_no counts s ∷ []) long ∙ accepted_strip_back counts s h

  -- its first two records refuse nothing
  pub first_two_of : first_of (first_two_nos (headed counts s m)) ≡ fine
  unfolding first_two_nos first_of
  first_two_of =
      let own = stranger_no counts s ∷ amount_no counts s ∷ [] in
      rw (first_of_lem, stock_of_lem, second_of, strip_of_lem, padding_of)
      (passed_first (stock_nos counts) (fine ∷ (own ++ (fine ∷ []))) (ap (λ (r : No). r.0) (accepted_back counts k)) ∙ passed_first own (fine ∷ []) (ap (λ (r : No). r.0) own_of))

  module _ (strides : Bool) where
    pub followed_of : followed strides (headed counts s m) ≡ follow strides counts s 82 m
    unfolding followed
    followed_of = rw (stock_of_lem, strip_of_lem, left_over a b m la lb)

    -- what is behind them decides
    pub records_of : first_of (record_nos strides (headed counts s m)) ≡ first_of ((follow strides counts s 82 m).no ∷ [])
    unfolding record_nos
    records_of = rw followed_of (passed_first (first_two_nos (headed counts s m)) ((follow strides counts s 82 m).no ∷ []) (ap (λ (r : No). r.0) first_two_of))

pub read_roomy : (strides : Bool) (sheet buffer : List ℕ) → 64 ≤ length buffer → first_of (read_nos strides sheet buffer) ≡ first_of (record_nos strides sheet)
unfolding read_nos first_of
read_roomy strides sheet buffer room = rw (le-ltb (length buffer) 64 room)

-- ---- a sheet of c moves

pub sheet_headed : (counts s : List ℕ) (c : ℕ) → sheet_of counts s c ≡ headed counts s (move_records counts s c ++ (4 ∷ []))
unfolding sheet_of stock_record strip_record
sheet_headed counts s c = refl

module _ (counts s : List ℕ) (k : IsStock counts) (h : IsStrip counts s) (c : ℕ) where
  abbrev records : List ℕ
  records = move_records counts s c ++ (4 ∷ [])

  pub stock_back : sheet_stock (sheet_of counts s c) ≡ counts
  stock_back = rw (sheet_headed counts s c) (stock_of_lem counts s k h records)

  pub strip_back : sheet_strip (sheet_of counts s c) ≡ s
  strip_back = rw (sheet_headed counts s c) (strip_of_lem counts s k h records)

  pub first_two_back : first_of (first_two_nos (sheet_of counts s c)) ≡ fine
  first_two_back = rw (sheet_headed counts s c) (first_two_of counts s k h records)

  module _ (strides : Bool) (l : c ≤ left counts s) where
    pub followed_back : followed strides (sheet_of counts s c) ≡ record { no = fine; moves = c; strip = onward counts s c }
    followed_back = rw (sheet_headed counts s c) (followed_of counts s k h records strides ∙ follow_written strides counts c s h l 82)

    pub none_back : (buffer : List ℕ) → 64 ≤ length buffer → first_of (read_nos strides (sheet_of counts s c) buffer) ≡ fine
    unfolding first_of
    none_back buffer room =
        read_roomy strides (sheet_of counts s c) buffer room
        ∙ rw (sheet_headed counts s c) (records_of counts s k h records strides ∙ rw (follow_written strides counts c s h l 82))

-- ---- and back: a sheet whose records refuse nothing

record_kind : (kind body at : ℕ) (sheet : List ℕ) → (record_no kind body at sheet).0 ≡ 0 → get_or sheet at 0 ≡ kind
record_kind kind body at sheet z = elim (ℕ_discrete (get_or sheet at 0) kind) [
  | yes e ↦ e
  | no e ↦ absurd (omega (arith, ap (λ (r : No). r.0) (record_other kind body at sheet e), z))
]

-- the first two
module _ (sheet : List ℕ) (none : (first_of (first_two_nos sheet)).0 ≡ 0) where
  abbrev counts : List ℕ
  counts = sheet_stock sheet

  abbrev s : List ℕ
  s = sheet_strip sheet

  -- what each row that did not refuse says
  record Rows : Type 0 where
    pub first : get_or sheet 0 0 ≡ 1
    pub second : get_or sheet 17 0 ≡ 2
    pub padding : zeros (drop (sum counts) (strip_body sheet)) ≡ true

  rows : Rows
  unfolding first_two_nos padding_no
  rows =
      let one = passed_head _ _ none in
      let two = passed_head _ _ (passed_both (stock_nos counts) _ one.1).1 in
      let five = passed_head _ _ two.1 in
      let six = passed_head _ _ five.1 in
      record { first = record_kind 1 16 0 sheet one.0; second = record_kind 2 64 17 sheet two.0; padding = not-false _ (when_passed 10 17 _ (passed_head _ _ six.1).0) }

  first_padded : padded 16 counts ≡ take 16 (drop 1 sheet)
  unfolding sheet_stock
  first_padded =
      let l : length (take 16 (drop 1 sheet)) ≡ 16 = simp (length-take, length-drop) (omega (arith, first_two_long sheet none)) in
      rw l at (padded_used (take 16 (drop 1 sheet)))

  second_padded : padded 64 s ≡ take 64 (drop 18 sheet)
  unfolding sheet_strip strip_body
  second_padded =
      let l : length (take 64 (drop 18 sheet)) ≡ 64 = simp (length-take, length-drop) (omega (arith, first_two_long sheet none)) in
      rw l at (padded_split (sum counts) (take 64 (drop 18 sheet)) (omega (arith, (first_two_stock sheet none).short)) rows.padding)

  -- the sheet by its parts
  pub is_headed : sheet ≡ headed counts s (drop 82 sheet)
  is_headed =
      reshaped sheet (omega (arith, first_two_long sheet none)) rows.first rows.second
      ∙ ap (λ (l : List ℕ). shaped l (take 64 (drop 18 sheet)) (drop 82 sheet)) (sym first_padded)
      ∙ ap (λ (l : List ℕ). shaped (padded 16 counts) l (drop 82 sheet)) (sym second_padded)

-- all of them, in either edition
module _ (strides : Bool) (sheet : List ℕ) (z : (first_of (record_nos strides sheet)).0 ≡ 0) where
  both : ((first_of (first_two_nos sheet)).0 ≡ 0) × ((first_of ((followed strides sheet).no ∷ [])).0 ≡ 0)
  unfolding record_nos
  both = passed_both (first_two_nos sheet) ((followed strides sheet).no ∷ []) z

  pub read_head : (first_of (first_two_nos sheet)).0 ≡ 0
  read_head = both.0

  pub read_long : 82 ≤ length sheet
  read_long = first_two_long sheet both.0

  pub read_stock : IsStock (sheet_stock sheet)
  read_stock = first_two_stock sheet both.0

  pub read_strip : IsStrip (sheet_stock sheet) (sheet_strip sheet)
  read_strip = first_two_strip sheet both.0

  pub read_right : Right strides (sheet_stock sheet) (sheet_strip sheet) (drop 82 sheet) (followed strides sheet)
  unfolding followed
  read_right = right strides (sheet_stock sheet) (drop 82 sheet) (sheet_strip sheet) read_strip 82 (passed_head _ _ both.1).0

  -- without strides it is a sheet of as many moves
  pub read_is : strides ≡ false → sheet ≡ sheet_of (sheet_stock sheet) (sheet_strip sheet) (followed strides sheet).moves
  read_is e =
      is_headed sheet both.0
      ∙ ap (headed (sheet_stock sheet) (sheet_strip sheet)) (read_right.single e)
      ∙ sym (sheet_headed (sheet_stock sheet) (sheet_strip sheet) (followed strides sheet).moves)

-- with a buffer
pub read_room : (strides : Bool) (sheet buffer : List ℕ) → (first_of (read_nos strides sheet buffer)).0 ≡ 0 → (64 ≤ length buffer) × ((first_of (record_nos strides sheet)).0 ≡ 0)
unfolding read_nos
read_room strides sheet buffer z = let four = passed_head _ _ z in (ltb-false _ _ (when_passed 3 0 _ four.0), four.1)
