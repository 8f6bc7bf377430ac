-- Theorems on conversion, over the contracts of its calls as the functions state them: `Post` says which answers they allow for which input.
use Prim.Native.Nat.{ℕ, ◌^◌, ◌<◌}
use mathlib.Core.Path.{◌≡◌, sym, ap, ◌∙◌}
use mathlib.Core.List.{List, [], ◌∷◌}
use lib.ListN.{get_or}
use contract.Lifetimes.{Lfts}
use borrow.Fn.Kinds.{Dens, ended_of}
use denote.Triple.Clauses.{AtExit}
use Rattle.rules.specs.Stock.{total, IsStock, IsStrip}
use Rattle.rules.specs.Book.{book, place_in}
use Rattle.rules.specs.Refusals.{No, first_of, stock_nos, many_no, above_no}
use Rattle.rules.specs.Outcome.{OneAnswer}
use Rattle.rules.proofs.Listed.{Listed}
use Rattle.rules.proofs.Strips.{listed as book_listed}
use Rattle.rules.proofs.Places.{there_and_back}
use Rattle.rules.proofs.Refusals.{unless_passed, unless_refused, passed_both, passed_both_back}
use Rattle.rules.proofs.Checks.{accepted, accepted_back, accepted_number, accepted_number_back}
use Rattle.dictionary.specs.Dictionary.{dictionary}
use Rattle.dictionary.proofs.Places.{listed}
use Rattle.drawers.specs.declared.Filed.{Filed}
use Rattle.converting.specs.Answers.{convert_nos, convert_answer}
use Rattle.converting.proofs.to_dictionary.Kinds as to_dictionary
use Rattle.converting.proofs.to_dictionary.Reads as to_dictionary_reads
use Rattle.converting.proofs.to_book.Kinds as to_book
use Rattle.converting.proofs.to_book.Reads as to_book_reads

-- ---- one outcome: two that the contract allows for one input are the same

pub to_dictionary_one_outcome : OneAnswer 1 to_dictionary.ps to_dictionary.r to_dictionary_reads.Post
to_dictionary_one_outcome κs a x y s t h k = h ∙ sym k

pub to_book_one_outcome : OneAnswer 1 to_book.ps to_book.r to_book_reads.Post
to_book_one_outcome κs a x y s t h k = h ∙ sym k

-- ---- each outcome that the contract allows is right

-- it refuses no more and no less than the table says; accepted, the number is the place in the list `to` of the strip that the list `from` has at the number
-- given; refused, it is 0
pub record ConvertRight (from to : List (List ℕ)) (counts : List ℕ) (i no number : ℕ) : Type 0 where
  pub accepts : no ≡ 0 → IsStock counts × (total counts < 2 ^ 64) × (i < total counts)
  pub accepted : IsStock counts → total counts < 2 ^ 64 → i < total counts → no ≡ 0
  pub place : no ≡ 0 → number ≡ place_in to (get_or from i [])
  pub refused_zero : (no ≡ 0 → ⊥) → number ≡ 0

convert_is_right : (from to : List (List ℕ)) (counts : List ℕ) (i : ℕ) (r : Filed) → r ≡ convert_answer from to counts i → ConvertRight from to counts i r.refusal.no r.number
unfolding convert_answer convert_nos
convert_is_right from to counts i r h =
    let no : r.refusal.no ≡ (first_of (convert_nos counts i)).0 = ap (λ (r : Filed). r.refusal.no) h in
    let number = ap (λ (r : Filed). r.number) h in
    let rows : List No = many_no counts ∷ above_no counts i ∷ [] in
    record {
      accepts = λ e. let p = passed_both (stock_nos counts) rows (sym no ∙ e) in
          let n = accepted_number counts i p.1 in
          (accepted counts p.0, n.0, n.1);
      accepted = λ a b c. no ∙ passed_both_back (stock_nos counts) rows (ap (λ (r : No). r.0) (accepted_back counts a)) (accepted_number_back counts i b c);
      place = λ e. number ∙ unless_passed 0 _ _ (sym no ∙ e);
      refused_zero = λ e. number ∙ unless_refused 0 _ _ (λ m. e (no ∙ m));
    }

pub to_dictionary_right : (κs : Lfts 1) (a : Dens κs to_dictionary.ps) (r : Filed) (s : AtExit (ended_of 1 to_dictionary.ps to_dictionary.r) κs) → to_dictionary_reads.Post κs a r s
    → ConvertRight (book a.0.now) (dictionary a.0.now) a.0.now a.1.0 r.refusal.no r.number
to_dictionary_right κs a r s h = convert_is_right (book a.0.now) (dictionary a.0.now) a.0.now a.1.0 r h

pub to_book_right : (κs : Lfts 1) (a : Dens κs to_book.ps) (r : Filed) (s : AtExit (ended_of 1 to_book.ps to_book.r) κs) → to_book_reads.Post κs a r s
    → ConvertRight (dictionary a.0.now) (book a.0.now) a.0.now a.1.0 r.refusal.no r.number
to_book_right κs a r s h = convert_is_right (dictionary a.0.now) (book a.0.now) a.0.now a.1.0 r h

-- ---- there and back

-- from one list to another and back: the second call is not refused, and gives the number that the first was given
and_back : {counts : List ℕ} {from to : List (List ℕ)} {f g : List ℕ → ℕ} → Listed [] (IsStrip counts) (total counts) from f → Listed [] (IsStrip counts) (total counts) to g
    → {i no no' number number' : ℕ} → ConvertRight from to counts i no number → ConvertRight to from counts number no' number' → no ≡ 0 → (no' ≡ 0) × (number' ≡ i)
and_back {to = to} ls ms {i = i} there back e =
    let a = there.accepts e in
    let w = there_and_back ls ms i a.2 in
    let none = back.accepted a.0 a.1 (rw (there.place e) w.0) in
    (none, back.place none ∙ rw (there.place e) w.1)

-- a call of each with the same stock, the one given the number that the other answered
module _ (κs κt : Lfts 1) (a : Dens κs to_dictionary.ps) (b : Dens κt to_book.ps) (d q : Filed) (s : AtExit (ended_of 1 to_dictionary.ps to_dictionary.r) κs) (t : AtExit (ended_of 1 to_book.ps to_book.r) κt)
    (h : to_dictionary_reads.Post κs a d s) (k : to_book_reads.Post κt b q t) (same : b.0.now ≡ a.0.now) where
  pub to_dictionary_and_back : b.1.0 ≡ d.number → d.refusal.no ≡ 0 → (q.refusal.no ≡ 0) × (q.number ≡ a.1.0)
  to_dictionary_and_back e = and_back (book_listed a.0.now) (listed a.0.now) (to_dictionary_right κs a d s h) (rw (same, e) at (to_book_right κt b q t k))

  pub to_book_and_back : a.1.0 ≡ q.number → q.refusal.no ≡ 0 → (d.refusal.no ≡ 0) × (d.number ≡ b.1.0)
  to_book_and_back e = and_back (listed a.0.now) (book_listed a.0.now) (rw same at (to_book_right κt b q t k)) (rw e at (to_dictionary_right κs a d s h))
