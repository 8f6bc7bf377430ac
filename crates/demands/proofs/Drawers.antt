-- Document 02, P1. The strips of a stock numbered as in a dictionary, from 0: number from strip, strip from number, the next strip, and conversion between the
-- two numberings.
use Prim.Native.Nat.{ℕ, ◌+◌, ◌^◌, ◌<◌}
use mathlib.Core.Path.{◌≡◌}
use mathlib.Core.List.{List, []}
use native.Mathlib.Omega.{arith}
use lib.ListN.{length, get_or}
use contract.Lifetimes.{Lfts}
use borrow.Fn.Kinds.{Dens, ended_of}
use denote.Triple.Clauses.{AtExit}
use Rattle.rules.specs.Stock.{sum, total, IsStock, IsStrip}
use Rattle.rules.specs.Book.{book, place_in}
use Rattle.rules.proofs.Places.{book_only, place_below, place_undone}
use Rattle.stock.specs.declared.Refusal.{Refusal}
use Rattle.dictionary.specs.Dictionary.{dictionary}
use Rattle.drawers.specs.declared.Filed.{Filed}
use Rattle.drawers.proofs.Theorems.{dictionary_number_right, dictionary_strip_right, dictionary_next_right}
use Rattle.converting.proofs.Theorems.{to_dictionary_right, to_book_right}
use Rattle.drawers.proofs.number.dictionary_number.Kinds as number
use Rattle.drawers.proofs.number.dictionary_number.Reads as number_reads
use Rattle.drawers.proofs.strip.dictionary_strip.Kinds as strip
use Rattle.drawers.proofs.strip.dictionary_strip.Reads as strip_reads
use Rattle.drawers.proofs.next.dictionary_next.Kinds as next
use Rattle.drawers.proofs.next.dictionary_next.Reads as next_reads
use Rattle.converting.proofs.to_dictionary.Kinds as to_dictionary
use Rattle.converting.proofs.to_dictionary.Reads as to_dictionary_reads
use Rattle.converting.proofs.to_book.Kinds as to_book
use Rattle.converting.proofs.to_book.Reads as to_book_reads
-- the list rises strictly in dictionary order, and no other list does that holds the strips of the stock
pub use Rattle.dictionary.proofs.Theorems.{dictionary_order}
pub use Rattle.dictionary.proofs.Unique.{dictionary_unique}
-- it has T strips, each of them a strip of the stock, each strip of the stock among them, none twice
pub use Rattle.dictionary.proofs.Theorems.{dictionary_size, dictionary_only, dictionary_below, dictionary_undone, dictionary_once}
-- the binary case of document 004
pub use Rattle.dictionary.proofs.Marked.{binary}
-- number and strip undo each other, and conversion there and back gives the number one began with, for any outcomes that the contracts allow
pub use Rattle.drawers.proofs.Theorems.{dictionary_number_of_strip, dictionary_strip_of_number}
pub use Rattle.converting.proofs.Theorems.{to_dictionary_and_back, to_book_and_back}

-- ---- dictionary order and book hold the same strips

pub book_in_dictionary : (counts : List ℕ) (i : ℕ) → i < total counts → (j : ℕ) × (j < total counts) × (get_or (dictionary counts) j [] ≡ get_or (book counts) i [])
book_in_dictionary counts i h =
    let s = get_or (book counts) i [] in
    let own : IsStrip counts s = book_only counts i h in
    (place_in (dictionary counts) s, dictionary_below counts s own, dictionary_undone counts s own)

pub dictionary_in_book : (counts : List ℕ) (i : ℕ) → i < total counts → (j : ℕ) × (j < total counts) × (get_or (book counts) j [] ≡ get_or (dictionary counts) i [])
dictionary_in_book counts i h =
    let s = get_or (dictionary counts) i [] in
    let own : IsStrip counts s = dictionary_only counts i h in
    (place_in (book counts) s, place_below counts s own, place_undone counts s own)

-- ---- number from strip, and strip from number

-- any answer r for a strip of an accepted stock that has fewer than 2^64 strips: not refused, and the strip's place in the dictionary
pub number_is_the_dictionary's : (κs : Lfts 2) (a : Dens κs number.ps) (r : Filed) (s : AtExit (ended_of 2 number.ps number.r) κs) → number_reads.Post κs a r s
    → IsStock a.0.now → IsStrip a.0.now a.1.0.now → total a.0.now < 2 ^ 64 → (r.refusal.no ≡ 0) × (r.number ≡ place_in (dictionary a.0.now) a.1.0.now)
number_is_the_dictionary's κs a r s h k l m =
    let n = dictionary_number_right κs a r s h in
    let e = n.accepted k l m in
    (e, n.place e)

-- any outcome for a number below T: not refused, and the dictionary's strip there
pub strip_is_the_dictionary's : (κs : Lfts 2) (a : Dens κs strip.ps) (r : Refusal) (s : AtExit (ended_of 2 strip.ps strip.r) κs) → strip_reads.Post κs a r s
    → IsStock a.0.now → length a.1.1.0.now ≡ sum a.0.now → total a.0.now < 2 ^ 64 → a.1.0 < total a.0.now
    → (r.no ≡ 0) × (s.1.1.0.now ≡ get_or (dictionary a.0.now) a.1.0 [])
strip_is_the_dictionary's κs a r s h k l m i =
    let n = dictionary_strip_right κs a r s h in
    let e = n.accepted k l m i in
    (e, n.written e)

-- ---- the next strip, also where T is 2^64 or more

module _ (κs : Lfts 2) (a : Dens κs next.ps) (r : Refusal) (s : AtExit (ended_of 2 next.ps next.r) κs) (h : next_reads.Post κs a r s) where
  -- any outcome for a strip that is not the last: not refused, and the entry after it
  pub next_is_the_entry_after : IsStock a.0.now → IsStrip a.0.now a.1.0.now → place_in (dictionary a.0.now) a.1.0.now + 1 < total a.0.now
      → (r.no ≡ 0) × (s.1.0.now ≡ get_or (dictionary a.0.now) (place_in (dictionary a.0.now) a.1.0.now + 1) [])
  next_is_the_entry_after k l m =
      let n = dictionary_next_right κs a r s h in
      let e = n.accepted k l m in
      (e, n.moved e)

  -- 9 on the last strip, and there alone
  pub nine_at_the_last : IsStock a.0.now → IsStrip a.0.now a.1.0.now → place_in (dictionary a.0.now) a.1.0.now + 1 ≡ total a.0.now → r.no ≡ 9
  nine_at_the_last = (dictionary_next_right κs a r s h).ended

  pub only_the_last_is_nine : r.no ≡ 9 → IsStock a.0.now × IsStrip a.0.now a.1.0.now × (place_in (dictionary a.0.now) a.1.0.now + 1 ≡ total a.0.now)
  only_the_last_is_nine = (dictionary_next_right κs a r s h).ends

  -- neither 7 nor 8, whatever the input
  pub next_is_never_seven_or_eight : (r.no ≡ 7 → ⊥) × (r.no ≡ 8 → ⊥)
  next_is_never_seven_or_eight =
      let n = dictionary_next_right κs a r s h in
      (λ e. omega (arith, n.other (λ f. omega arith)), λ e. omega (arith, n.other (λ f. omega arith)))

-- ---- conversion

-- any answer for a number below T: not refused, and the other number of the strip that has it
pub to_dictionary_is_the_other_number : (κs : Lfts 1) (a : Dens κs to_dictionary.ps) (r : Filed) (s : AtExit (ended_of 1 to_dictionary.ps to_dictionary.r) κs) → to_dictionary_reads.Post κs a r s
    → IsStock a.0.now → total a.0.now < 2 ^ 64 → a.1.0 < total a.0.now → (r.refusal.no ≡ 0) × (r.number ≡ place_in (dictionary a.0.now) (get_or (book a.0.now) a.1.0 []))
to_dictionary_is_the_other_number κs a r s h k m i =
    let n = to_dictionary_right κs a r s h in
    let e = n.accepted k m i in
    (e, n.place e)

pub to_book_is_the_other_number : (κs : Lfts 1) (a : Dens κs to_book.ps) (r : Filed) (s : AtExit (ended_of 1 to_book.ps to_book.r) κs) → to_book_reads.Post κs a r s
    → IsStock a.0.now → total a.0.now < 2 ^ 64 → a.1.0 < total a.0.now → (r.refusal.no ≡ 0) × (r.number ≡ place_in (book a.0.now) (get_or (dictionary a.0.now) a.1.0 []))
to_book_is_the_other_number κs a r s h k m i =
    let n = to_book_right κs a r s h in
    let e = n.accepted k m i in
    (e, n.place e)
