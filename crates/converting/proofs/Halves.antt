-- Proofs. Conversion from what its two halves answer: the strip of a number in one list, and the number of that strip in another.
use Prim.Native.Nat.{ℕ, min, ◌^◌, ◌<◌, ◌≤◌}
use mathlib.Core.Path.{◌≡◌, sym, ap, ◌∙◌}
use mathlib.Core.List.{List, [], ◌∷◌}
use native.Mathlib.Decide.{ℕ_discrete}
use native.Mathlib.Omega.{arith}
use lib.ListN.{length, get_or, take, replicate}
use lib.Seq.{length-take-le}
use Rattle.rules.specs.Stock.{sum, total, IsStock, IsStrip}
use Rattle.rules.specs.Book.{place_in}
use Rattle.rules.specs.Refusals.{No, fine, first_of, unless, stock_nos, length_no, buffer_nos, many_no, above_no}
use Rattle.rules.proofs.Refusals.{passed_first, refused_first, passed_both, passed_fine, unless_passed, answer_stopped, answer_passed}
use Rattle.rules.proofs.Checks.{accepted, accepted_buffer, accepted_buffer_back, accepted_number}
use Rattle.rules.proofs.Places.{book_only}
use Rattle.numbering.specs.Answers.{by_number_nos}
use Rattle.dictionary.proofs.Theorems.{dictionary_only}
use Rattle.drawers.specs.Answers.{as_filed}
use Rattle.converting.specs.declared.Listing.{Listing}
use Rattle.converting.specs.declared.Listing.TheVariants.{Book, Dictionary}
use Rattle.converting.specs.Answers.{convert_nos, convert_answer}
use Rattle.converting.specs.Lists.{list_of}

-- either list holds strips of the stock only
only : (l : Listing) (counts : List ℕ) (i : ℕ) → i < total counts → IsStrip counts (get_or (list_of l counts) i [])
only Book counts = book_only counts
only Dictionary counts = dictionary_only counts

-- a word of as many places as the stock has blocks
module _ {counts : List ℕ} {n : ℕ} (is : n ≡ min 65 (sum counts)) (stock : IsStock counts) where
  pub few : n ≤ 64
  few = omega (arith, is, stock.short)

  pub as_long : length (take n (replicate {A = ℕ} 64 0)) ≡ sum counts
  as_long = length-take-le n (replicate 64 0) few ∙ omega (arith, is, stock.short)

module _ (counts : List ℕ) (at : ℕ) (buffer : List ℕ) where
  abbrev nos : List No
  nos = by_number_nos counts at buffer

  abbrev rows : List No
  rows = many_no counts ∷ above_no counts at ∷ []

  -- laid: the strip stands in the buffer
  module _ (z : (first_of nos).0 ≡ 0) where
    pub laid_in : IsStock counts × (total counts < 2 ^ 64) × (at < total counts)
    unfolding by_number_nos
    laid_in =
        let p = passed_both (buffer_nos counts buffer) rows z in
        let n = accepted_number counts at p.1 in
        ((accepted_buffer counts buffer p.0).0, n.0, n.1)

    module _ (l : Listing) (word : List ℕ) (after : word ≡ unless (first_of nos) buffer (get_or (list_of l counts) at [])) where
      word_is : word ≡ get_or (list_of l counts) at []
      word_is = after ∙ unless_passed buffer _ _ z

      pub word_own : IsStrip counts word
      word_own = rw word_is (only l counts at laid_in.2)

  -- a buffer that is long enough for a stock that is accepted leaves 1, 2, 3, then 7 and 8
  module _ (room : IsStock counts → length buffer ≡ sum counts) where
    same_rows : first_of nos ≡ first_of (convert_nos counts at)
    unfolding by_number_nos buffer_nos convert_nos
    same_rows = elim (ℕ_discrete (first_of (stock_nos counts)).0 0) [
      | yes z ↦
          let stock = accepted counts z in
          passed_first (buffer_nos counts buffer) rows (accepted_buffer_back counts buffer stock (room stock)) ∙ sym (passed_first (stock_nos counts) rows z)
      | no h ↦
          let e : first_of (buffer_nos counts buffer) ≡ first_of (stock_nos counts) = refused_first (stock_nos counts) (length_no counts buffer ∷ []) h in
          refused_first (buffer_nos counts buffer) rows (λ z. h (ap (λ (r : No). r.0) (sym e) ∙ z)) ∙ e ∙ sym (refused_first (stock_nos counts) rows h)
    ]

    -- refused
    pub not_laid : (from to : List (List ℕ)) → ((first_of nos).0 ≡ 0 → ⊥) → as_filed (first_of nos) 0 ≡ convert_answer from to counts at
    unfolding convert_answer
    not_laid from to h =
        ap (λ (r : No). as_filed r 0) same_rows ∙ answer_stopped as_filed 0 (place_in to (get_or from at [])) (convert_nos counts at) (λ z. h (ap (λ (r : No). r.0) same_rows ∙ z))

    -- the number of the strip that was laid
    pub converted : (z : (first_of nos).0 ≡ 0) (l : Listing) (word : List ℕ) → word ≡ unless (first_of nos) buffer (get_or (list_of l counts) at []) → (to : List (List ℕ)) (number : ℕ) → number ≡ place_in to word
        → as_filed (first_of nos) number ≡ convert_answer (list_of l counts) to counts at
    unfolding convert_answer
    converted z l word after to number h =
        ap (λ (r : No). as_filed r number) (passed_fine nos z) ∙ ap (as_filed fine) (h ∙ ap (place_in to) (word_is z l word after)) ∙ answer_passed as_filed 0 _ (convert_nos counts at) (ap (λ (r : No). r.0) (sym same_rows) ∙ z)
