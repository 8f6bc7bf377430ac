-- Theorems on the two readers of one sheet: they answer alike, or the old one meets a record 5.
use Prim.Native.Nat.{ℕ, ◌+◌, ◌*◌, ◌≤◌, ◌<◌}
use mathlib.Core.Path.{◌≡◌, refl, sym, ap, ◌∙◌}
use mathlib.Core.Bool.{Bool, true, false}
use mathlib.Core.List.{List, [], ◌∷◌, ◌++◌}
use mathlib.Core.Logic.{◌⊎◌, inl, inr}
use native.Mathlib.Decide.{ℕ_discrete, dec_lt}
use native.Mathlib.Omega.{arith}
use borrow.Author.Tests.{lt-ltb}
use lib.ListN.{length, drop}
use Rattle.rules.specs.Stock.{IsStock, IsStrip}
use Rattle.rules.specs.Refusals.{No, first_of}
use Rattle.rules.proofs.Refusals.{refused_first, unless_refused}
use Rattle.walking.specs.Answers.{left}
use Rattle.sheets.specs.Sheets.{move_records}
use Rattle.records.specs.Records.{sheet_stock, sheet_strip, first_two_nos}
use Rattle.records.proofs.FirstTwo.{first_two_stock, first_two_strip}
use Rattle.following.specs.declared.Readout.{Readout}
use Rattle.following.specs.Following.{as_readout}
use Rattle.reading.specs.Reading.{followed, record_nos, read_nos, read_answer, read_buffer}
use Rattle.reading.proofs.Parting.{five_refused, alike_or_five}
use Rattle.reading.proofs.Exactly.{headed, records_of, read_roomy, is_headed}
use Rattle.reading.proofs.Theorems.{Reads}

-- a stock, a strip of it, so many moves that are right, and then a record 5
pub record MeetsFive (counts s : List ℕ) (c : ℕ) (sheet : List ℕ) : Type 0 where
  pub stock : IsStock counts
  pub strip : IsStrip counts s
  pub moves : c ≤ left counts s
  pub rest : List ℕ
  pub is : sheet ≡ headed counts s (move_records counts s c ++ (5 ∷ rest))

-- there the old reader answers 11 at that record's offset and shows no strip
pub old_meets_five : (counts s : List ℕ) (c : ℕ) (sheet buffer : List ℕ) (r : Readout) (after : List ℕ) → Reads false sheet buffer r after → 64 ≤ length buffer → MeetsFive counts s c sheet → (r ≡ as_readout (11, 82 + 3 * c) 0) × (after ≡ buffer)
unfolding read_answer read_buffer first_of
old_meets_five counts s c sheet buffer r after h room v =
    let behind = move_records counts s c ++ (5 ∷ v.rest) in
    let e : first_of (read_nos false sheet buffer) ≡ (11, 82 + 3 * c) =
    read_roomy false sheet buffer room
    ∙ ap (λ (l : List ℕ). first_of (record_nos false l)) v.is
    ∙ records_of counts s v.stock v.strip behind false
    ∙ rw (five_refused counts s v.strip c 82 v.rest v.moves)
    in
    (h.0 ∙ rw e, h.1 ∙ rw e)

-- ---- of any sheet

module _ (sheet buffer : List ℕ) where
  abbrev Alike : Type 0
  Alike = (read_answer true sheet buffer ≡ read_answer false sheet buffer) × (read_buffer true sheet buffer ≡ read_buffer false sheet buffer)

  -- or a record 5 is met, with a buffer that is long enough
  abbrev Parts : Type 0
  Parts = (c : ℕ) × MeetsFive (sheet_stock sheet) (sheet_strip sheet) c sheet × (64 ≤ length buffer)

  -- both are refused by the same row
  by_refusal : (n : No) → (n.0 ≡ 0 → ⊥) → ((strides : Bool) → first_of (read_nos strides sheet buffer) ≡ n) → Alike
  unfolding read_answer read_buffer
  by_refusal n h e =
      rw (e true, e false) (ap (as_readout n) (unless_refused 0 _ n h ∙ sym (unless_refused 0 _ n h)), unless_refused buffer _ n h ∙ sym (unless_refused buffer _ n h))

  by_records : followed true sheet ≡ followed false sheet → Alike
  unfolding read_answer read_buffer read_nos record_nos
  by_records e = rw e (refl, refl)

  too_small : length buffer < 64 → Alike
  unfolding read_nos first_of
  too_small l = by_refusal (4, 0) (λ z. omega arith) (λ strides. rw (lt-ltb (length buffer) 64 l))

  module _ (room : 64 ≤ length buffer) where
    by_head : ((first_of (first_two_nos sheet)).0 ≡ 0 → ⊥) → Alike
    unfolding record_nos
    by_head h = by_refusal (first_of (first_two_nos sheet)) h (λ strides. read_roomy strides sheet buffer room ∙ refused_first (first_two_nos sheet) ((followed strides sheet).no ∷ []) h)

    sound : (first_of (first_two_nos sheet)).0 ≡ 0 → Alike ⊎ Parts
    unfolding followed
    sound z =
        let own = first_two_strip sheet z in
        elim (alike_or_five (sheet_stock sheet) (drop 82 sheet) (sheet_strip sheet) own 82) [
          | inl e ↦ inl (by_records e)
          | inr v ↦ inr (v.moves, record { stock = first_two_stock sheet z; strip = own; moves = v.within; rest = v.rest; is = is_headed sheet z ∙ ap (headed (sheet_stock sheet) (sheet_strip sheet)) v.is }, room)
        ]

  pub alike_or_meets : Alike ⊎ Parts
  alike_or_meets = elim (dec_lt (length buffer) 64) [
    | yes l ↦ inl (too_small l)
    | no l ↦
        let room : 64 ≤ length buffer = omega arith in
        elim (ℕ_discrete (first_of (first_two_nos sheet)).0 0) [ yes z ↦ sound room z | no z ↦ inl (by_head room z) ]
  ]

-- whatever the old reader answers but 11, the new one answers too, and leaves in the buffer
pub reads_as_before : (sheet buffer : List ℕ) (r r' : Readout) (after after' : List ℕ) → Reads false sheet buffer r after → Reads true sheet buffer r' after' → (r.refusal.no ≡ 11 → ⊥) → (r' ≡ r) × (after' ≡ after)
reads_as_before sheet buffer r r' after after' h h' other = elim (alike_or_meets sheet buffer) [
  | inl e ↦ (h'.0 ∙ e.0 ∙ sym h.0, h'.1 ∙ e.1 ∙ sym h.1)
  | inr v ↦ absurd (other (ap (λ (r : Readout). r.refusal.no) (old_meets_five _ _ v.0 sheet buffer r after h v.2 v.1).0))
]
