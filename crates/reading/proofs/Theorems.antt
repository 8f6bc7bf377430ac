-- Theorems on reading a sheet. The two calls' contracts are two cases of `Reads`: without strides, and with them.
use Prim.Native.Nat.{ℕ, suc, ◌≤◌, ◌<◌}
use mathlib.Core.Path.{◌≡◌, sym, ap, ◌∙◌}
use mathlib.Core.Bool.{Bool, true, false}
use mathlib.Core.List.{List, ◌∷◌, ◌++◌}
use lib.ListN.{length, get_or, take, drop, replicate}
use contract.Lifetimes.{Lfts}
use borrow.Fn.Kinds.{Dens, ended_of}
use denote.Triple.Clauses.{AtExit}
use Rattle.rules.specs.Stock.{sum, IsStock, IsStrip}
use Rattle.rules.specs.Refusals.{fine, first_of, smallest, is_stranger}
use Rattle.rules.specs.Outcome.{OneOutcome}
use Rattle.rules.proofs.Refusals.{unless_refused, unless_passed}
use Rattle.walking.specs.Answers.{onward, left}
use Rattle.sheets.specs.Sheets.{sheet_of}
use Rattle.records.specs.Records.{sheet_stock, sheet_strip, record_no}
use Rattle.following.specs.declared.Readout.{Readout}
use Rattle.following.specs.Following.{Followed, as_readout}
use Rattle.reading.specs.Reading.{followed, record_nos, read_nos, read_answer, read_buffer}
use Rattle.reading.proofs.Exactly.{stock_back, strip_back, followed_back, none_back, read_room, read_stock, read_strip, read_right, read_is}
use Rattle.reading.proofs.SoldOut.{two_never, zeros_are_one, sold_out_read}
use Rattle.reading.proofs.reader.read_sheet.Kinds as old
use Rattle.reading.proofs.reader.read_sheet.Reads as old_reader
use Rattle.reading.proofs.reader.read_editions.Kinds as new
use Rattle.reading.proofs.reader.read_editions.Reads as new_reader

-- a sheet that writing gives: of an accepted stock, a strip of it and no more moves than are left
pub record Writes (counts s : List ℕ) (c : ℕ) (sheet : List ℕ) : Type 0 where
  pub stock : IsStock counts
  pub strip : IsStrip counts s
  pub moves : c ≤ left counts s
  pub is : sheet ≡ sheet_of counts s c

-- a sheet is given by one writing only
pub one_writing : (counts counts' s s' : List ℕ) (c c' : ℕ) (sheet : List ℕ) → Writes counts s c sheet → Writes counts' s' c' sheet → (counts ≡ counts') × (s ≡ s') × (c ≡ c')
one_writing counts counts' s s' c c' sheet w w' =
    let e : sheet_of counts s c ≡ sheet_of counts' s' c' = sym w.is ∙ w'.is in (
      sym (stock_back counts s w.stock w.strip c) ∙ ap sheet_stock e ∙ stock_back counts' s' w'.stock w'.strip c',
      sym (strip_back counts s w.stock w.strip c) ∙ ap sheet_strip e ∙ strip_back counts' s' w'.stock w'.strip c',
      ap (λ (f : Followed). f.moves) (sym (followed_back counts s w.stock w.strip c false w.moves) ∙ ap (followed false) e ∙ followed_back counts' s' w'.stock w'.strip c' false w'.moves),
    )

-- an answer that a contract allows for a sheet and a buffer, and what it leaves in the buffer
abbrev pub Reads : Bool → List ℕ → List ℕ → Readout → List ℕ → Type 0
Reads strides sheet buffer r after = (r ≡ read_answer strides sheet buffer) × (after ≡ read_buffer strides sheet buffer)

module _ (strides : Bool) (sheet buffer : List ℕ) (r : Readout) (after : List ℕ) (h : Reads strides sheet buffer r after) where
  no_is : r.refusal.no ≡ (first_of (read_nos strides sheet buffer)).0
  unfolding read_answer
  no_is = ap (λ (r : Readout). r.refusal.no) h.0

  -- a sheet that some writing gives is read: its moves, and the strip that many numbers further on in the first n bytes
  pub written_is_read : (counts s : List ℕ) (c : ℕ) → 64 ≤ length buffer → Writes counts s c sheet → (r ≡ as_readout fine c) × (after ≡ onward counts s c ++ drop (sum counts) buffer)
  unfolding read_answer read_buffer
  written_is_read counts s c room w =
      let n : first_of (read_nos strides sheet buffer) ≡ fine = rw w.is (none_back counts s w.stock w.strip c strides w.moves buffer room) in
      let f : followed strides sheet ≡ record { no = fine; moves = c; strip = onward counts s c } = rw w.is (followed_back counts s w.stock w.strip c strides w.moves) in
      let k : sheet_stock sheet ≡ counts = rw w.is (stock_back counts s w.stock w.strip c) in
      (h.0 ∙ rw (n, f), h.1 ∙ rw (n, f, k))

  -- a sheet that is read: the buffer is long enough, no row of a record refuses, and its moves are those of the records
  pub read_passes : r.refusal.no ≡ 0 → (64 ≤ length buffer) × ((first_of (record_nos strides sheet)).0 ≡ 0) × (r.moves ≡ (followed strides sheet).moves)
  unfolding read_answer
  read_passes e =
      let z = sym no_is ∙ e in
      let p = read_room strides sheet buffer z in
      (p.0, p.1, ap (λ (r : Readout). r.moves) h.0 ∙ unless_passed 0 (followed strides sheet).moves _ z)

  -- they are no more than are left, and the strip that many numbers further on stands in the first n bytes of the buffer
  pub read_leads : r.refusal.no ≡ 0 → (r.moves ≤ left (sheet_stock sheet) (sheet_strip sheet)) × (after ≡ onward (sheet_stock sheet) (sheet_strip sheet) r.moves ++ drop (sum (sheet_stock sheet)) buffer)
  unfolding read_buffer
  read_leads e =
      let z = sym no_is ∙ e in
      let p = read_passes e in
      let v = read_right strides sheet p.1 in
      rw p.2 (v.within, h.1 ∙ unless_passed buffer _ _ z ∙ ap (λ (s : List ℕ). s ++ drop (sum (sheet_stock sheet)) buffer) v.strip)

  -- without strides it is given by some writing, of as many moves as are answered
  pub read_is_written : strides ≡ false → r.refusal.no ≡ 0 → (64 ≤ length buffer) × Writes (sheet_stock sheet) (sheet_strip sheet) r.moves sheet
  read_is_written one e =
      let p = read_passes e in
      let y = p.1 in
      (p.0, rw p.2 (record { stock = read_stock strides sheet y; strip = read_strip strides sheet y; moves = (read_right strides sheet y).within; is = read_is strides sheet y one }))

  -- a refused reading answers 0 moves and leaves the buffer as it was
  pub refused_stays : (r.refusal.no ≡ 0 → ⊥) → (r.moves ≡ 0) × (after ≡ buffer)
  unfolding read_answer read_buffer
  refused_stays e =
      let k : (first_of (read_nos strides sheet buffer)).0 ≡ 0 → ⊥ = λ z. e (no_is ∙ z) in
      (ap (λ (r : Readout). r.moves) h.0 ∙ unless_refused 0 _ _ k, h.1 ∙ unless_refused buffer _ _ k)

  -- ---- counts of 0 (P3)

  -- 2 is never met in a sheet: its kinds run to the last count that is not 0
  pub never_two : r.refusal.no ≡ 2 → ⊥
  never_two e = two_never strides sheet buffer (sym no_is ∙ e)

  -- and where all sixteen are 0, it is refused by 1, place 0
  pub sixteen_zeros : 64 ≤ length buffer → take 17 sheet ≡ 1 ∷ replicate 16 0 → r ≡ as_readout (1, 0) 0
  unfolding read_answer
  sixteen_zeros room z = h.0 ∙ rw (zeros_are_one strides sheet buffer room z)

  -- a byte of the strip that names a kind without blocks meets 6, where no row before 6 refuses
  pub sold_out_byte : 64 ≤ length buffer → (record_no 1 16 0 sheet).0 ≡ 0 → IsStock (sheet_stock sheet) → (record_no 2 64 17 sheet).0 ≡ 0
      → smallest (is_stranger (sheet_stock sheet)) (sheet_strip sheet) ≡ 0
      → (i j : ℕ) → i < length (sheet_strip sheet) → get_or (sheet_strip sheet) i 0 ≡ suc j → j < length (sheet_stock sheet) → get_or (sheet_stock sheet) j 0 ≡ 0
      → r.refusal.no ≡ 6
  sold_out_byte room first stock second own i j inside names kind none = no_is ∙ sold_out_read strides sheet buffer room first stock second own i j inside names kind none

-- ---- the calls' contracts: any answer that one allows, and what it leaves in the buffer

pub old_reads : (κs : Lfts 2) (a : Dens κs old.ps) (r : Readout) (t : AtExit (ended_of 2 old.ps old.r) κs) → old_reader.Post κs a r t → Reads false a.0.now a.1.0.now r t.1.0.now
old_reads κs a r t h = h

pub new_reads : (κs : Lfts 2) (a : Dens κs new.ps) (r : Readout) (t : AtExit (ended_of 2 new.ps new.r) κs) → new_reader.Post κs a r t → Reads true a.0.now a.1.0.now r t.1.0.now
new_reads κs a r t h = h

-- two outcomes that a contract allows for one input have the same answer, and leave the same buffer
pub old_one_outcome : OneOutcome 2 old.ps old.r (λ κs s. s.1.0.now) old_reader.Post
old_one_outcome κs a x y s t h k = (h.0 ∙ sym k.0, h.1 ∙ sym k.1)

pub new_one_outcome : OneOutcome 2 new.ps new.r (λ κs s. s.1.0.now) new_reader.Post
new_one_outcome κs a x y s t h k = (h.0 ∙ sym k.0, h.1 ∙ sym k.1)
