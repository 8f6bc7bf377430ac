-- Proofs. The checks of the records before the moves: which row refuses, as the code finds it.
use Prim.Native.Nat.{ℕ, suc, min, ◌+◌, ◌-◌, ◌<◌}
use mathlib.Core.Path.{◌≡◌, refl, sym, ap, ◌∙◌}
use mathlib.Core.Bool.{Bool, true, false, not, ◌||◌}
use mathlib.Core.List.{List, [], ◌∷◌, ◌++◌}
use native.Mathlib.Decide.{dec_lt}
use native.Mathlib.Omega.{arith}
use lib.Dec.{eqb, ltb}
use lib.ListN.{length, get_or, take, drop, length-take, length-drop}
use Rattle.rules.specs.Stock.{sum, IsStock, IsStrip}
use Rattle.rules.specs.Refusals.{No, fine, when_at, first_of, stranger_no, amount_no, strip_nos}
use Rattle.rules.specs.SoldOut.{used}
use Rattle.rules.proofs.Refusals.{passed_both}
use Rattle.rules.proofs.Used.{used_prefix}
use Rattle.rules.proofs.Checks.{length_right, passed_head, accepted, accepted_strip}
use Rattle.stock.specs.declared.refused.Refused.{Refused}
use Rattle.stock.specs.Refused.{no_of}
use Rattle.stock.proofs.Told.{stopped_first, passed_next}
use Rattle.records.specs.Records.{record_no}
use Rattle.records.specs.Opened.{stock_at, strip_at, rest_at, stock_at_nos, strip_at_nos}
use Rattle.records.proofs.BodyLaws.{zeros, record_short}

-- ---- one row with a byte offset

byte_row : (n at : ℕ) (b : Bool) → first_of (when_at (suc n) at b ∷ []) ≡ when_at (suc n) at b
unfolding first_of
byte_row n at true = refl
byte_row n at false = refl

module _ (kind body at : ℕ) (sheet : List ℕ) where
  record_row : first_of (record_no kind body at sheet ∷ []) ≡ record_no kind body at sheet
  unfolding record_no
  record_row = byte_row 10 at (not (eqb (get_or sheet at 0) kind) || ltb (length sheet) (at + 1 + body))

  -- a record that is not refused has its body
  pub record_fits : (record_no kind body at sheet).0 ≡ 0 → at + body < length sheet
  record_fits h = elim (dec_lt (at + body) (length sheet)) [
    | yes l ↦ l
    | no l ↦ absurd (omega (arith, ap (λ (r : No). r.0) (record_short kind body at sheet (omega arith)), h))
  ]

  -- a check that begins with this record: it refuses
  pub record_stopped : (e : Refused) → no_of e ≡ record_no kind body at sheet → (more : List No) → no_of e ≡ first_of (record_no kind body at sheet ∷ more)
  record_stopped e is more = stopped_first (record_no kind body at sheet ∷ []) e (is ∙ sym record_row) more

  -- or it is there
  module _ (there : fine ≡ record_no kind body at sheet) where
    pub record_passed : (more : List No) (q : No) → q ≡ first_of more → q ≡ first_of (record_no kind body at sheet ∷ more)
    record_passed more q e = passed_next (record_no kind body at sheet ∷ []) more (there ∙ sym record_row) q e

    pub record_body : at + body < length sheet
    record_body = record_fits (sym (ap (λ (r : No). r.0) there))

-- ---- the stock record

module _ (at : ℕ) (sheet : List ℕ) where
  -- the counts that are used, as the code holds them
  pub counts_held : (counts : List ℕ) (kinds : ℕ) → counts ≡ take 16 (drop (at + 1) sheet) → kinds ≡ length (used counts) → take kinds counts ≡ stock_at at sheet
  unfolding stock_at
  counts_held counts kinds e k = rw (k, ← e) (used_prefix counts)

  pub stock_accepted : (first_of (stock_at_nos at sheet)).0 ≡ 0 → IsStock (stock_at at sheet)
  unfolding stock_at_nos
  stock_accepted h = accepted (stock_at at sheet) (passed_head _ _ h).1

-- ---- the strip record

module _ (counts : List ℕ) (k : IsStock counts) (at : ℕ) (sheet : List ℕ) where
  -- the two parts of its body that the code finds
  module _ (body : List ℕ) (is : body ≡ take (at + 65 - (at + 1)) (drop (at + 1) sheet)) (n : ℕ) (blocks : n ≡ min 65 (sum counts)) where
    whole : body ≡ take 64 (drop (at + 1) sheet)
    whole = let e : at + 65 - (at + 1) ≡ 64 = omega arith in is ∙ rw e

    all_blocks : n ≡ sum counts
    all_blocks = omega (arith, blocks, k.short)

    pub strip_part : take n body ≡ strip_at counts at sheet
    unfolding strip_at
    strip_part = rw (all_blocks, whole)

    pub rest_part : drop n body ≡ rest_at counts at sheet
    unfolding rest_at
    rest_part = rw (all_blocks, whole)

  -- a record of which none of these two rows is met, or that its own rows refuse
  abbrev own : List No
  own = stranger_no counts (strip_at counts at sheet) ∷ amount_no counts (strip_at counts at sheet) ∷ []

  abbrev more : List No
  more = when_at 11 at (not (zeros (rest_at counts at sheet))) ∷ []

  module _ (fits : at + 64 < length sheet) where
    strip_long : length (strip_at counts at sheet) ≡ sum counts
    unfolding strip_at
    strip_long = simp (length-take, length-drop) (omega (arith, fits, k.short))

    own_rows : first_of own ≡ first_of (strip_nos counts (strip_at counts at sheet))
    unfolding strip_nos
    own_rows = length_right counts (strip_at counts at sheet) own strip_long

  -- a strip record that nothing refuses
  pub strip_accepted : (first_of (strip_at_nos counts at sheet)).0 ≡ 0 → IsStrip counts (strip_at counts at sheet)
  unfolding strip_at_nos
  strip_accepted h =
      let p = passed_head _ _ h in
      accepted_strip counts (strip_at counts at sheet) (sym (ap (λ (r : No). r.0) (own_rows (record_fits 2 64 at sheet p.0))) ∙ (passed_both own more p.1).0)

  module _ (there : fine ≡ record_no 2 64 at sheet) where
    own_is : first_of (strip_nos counts (strip_at counts at sheet)) ≡ first_of own
    own_is = sym (own_rows (record_body 2 64 at sheet there))

    pub strip_stopped : (e : Refused) → no_of e ≡ first_of (strip_nos counts (strip_at counts at sheet)) → no_of e ≡ first_of (strip_at_nos counts at sheet)
    unfolding strip_at_nos
    strip_stopped e is = record_passed 2 64 at sheet there (own ++ more) (no_of e) (stopped_first own e (is ∙ own_is) more)

    module _ (passed : fine ≡ first_of (strip_nos counts (strip_at counts at sheet))) where
      decided : (p : No) → p ≡ first_of more → p ≡ first_of (strip_at_nos counts at sheet)
      unfolding strip_at_nos
      decided p e = record_passed 2 64 at sheet there (own ++ more) p (passed_next own more (passed ∙ own_is) p e)

      pub strip_padded : zeros (rest_at counts at sheet) ≡ true → fine ≡ first_of (strip_at_nos counts at sheet)
      unfolding first_of
      strip_padded e = decided fine (rw e)

      pub strip_unpadded : zeros (rest_at counts at sheet) ≡ false → (11, at) ≡ first_of (strip_at_nos counts at sheet)
      unfolding first_of
      strip_unpadded e = decided (11, at) (rw e)
