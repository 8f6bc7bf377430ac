-- Theorems. What an answer of Number, and of Strip, must be over any list that holds the strips of a stock, each once: the book, or another order of them.
use Prim.Native.Nat.{ℕ, ◌^◌, ◌<◌}
use mathlib.Core.Path.{◌≡◌, sym, ap, ◌∙◌}
use mathlib.Core.List.{List, [], ◌∷◌}
use lib.ListN.{length, get_or}
use Rattle.rules.specs.Stock.{sum, total, IsStock, IsStrip}
use Rattle.rules.specs.Book.{place_in}
use Rattle.rules.specs.Refusals.{first_of, unless, check_nos, buffer_nos, many_no, above_no}
use Rattle.rules.proofs.Refusals.{passed_both, passed_both_back, unless_refused, unless_passed, many_passed}
use Rattle.rules.proofs.Checks.{passed_head, accepted_both, accepted_both_back, accepted_buffer, accepted_buffer_back, numberable, accepted_number, accepted_number_back}
use Rattle.rules.proofs.Listed.{Listed}
use Rattle.rules.proofs.Places.{place_of}
use Rattle.rules.proofs.Strips.{strip_sum}
use Rattle.numbering.specs.Answers.{number_nos, by_number_nos}

-- a refusal and a number: it refuses no more and no less than the table says; accepted, the number is the strip's place in the list, which reading the
-- list there undoes; refused, it is 0
pub record NumberRight (strips : List (List ℕ)) (counts strip : List ℕ) (no number : ℕ) : Type 0 where
  pub accepts : no ≡ 0 → IsStock counts × IsStrip counts strip × (total counts < 2 ^ 64)
  pub accepted : IsStock counts → IsStrip counts strip → total counts < 2 ^ 64 → no ≡ 0
  pub place : no ≡ 0 → number ≡ place_in strips strip
  pub undone : no ≡ 0 → get_or strips number [] ≡ strip
  pub below_total : no ≡ 0 → number < total counts
  pub refused_zero : (no ≡ 0 → ⊥) → number ≡ 0

-- a refusal, and what is then in the buffer: the strip at the number; refused, what was there
pub record StripRight (strips : List (List ℕ)) (counts : List ℕ) (i : ℕ) (buffer after : List ℕ) (no : ℕ) : Type 0 where
  pub accepts : no ≡ 0 → IsStock counts × (length buffer ≡ sum counts) × (total counts < 2 ^ 64) × (i < total counts)
  pub accepted : IsStock counts → length buffer ≡ sum counts → total counts < 2 ^ 64 → i < total counts → no ≡ 0
  pub written : no ≡ 0 → after ≡ get_or strips i []
  pub kept : (no ≡ 0 → ⊥) → after ≡ buffer

module _ {counts : List ℕ} {strips : List (List ℕ)} {rk : List ℕ → ℕ} (ls : Listed [] (IsStrip counts) (total counts) strips rk) where
  module _ (s : List ℕ) {no number : ℕ} (no_is : no ≡ (first_of (number_nos counts s)).0) (number_is : number ≡ unless (first_of (number_nos counts s)) 0 (place_in strips s)) where
    accepts : no ≡ 0 → IsStock counts × IsStrip counts s × (total counts < 2 ^ 64)
    unfolding number_nos
    accepts e =
        let p = passed_both (check_nos counts s) (many_no counts ∷ []) (sym no_is ∙ e) in
        let b = accepted_both counts s p.0 in
        (b.0, b.1, numberable counts (passed_head (many_no counts) [] p.1).0)

    accepts_back : IsStock counts → IsStrip counts s → total counts < 2 ^ 64 → no ≡ 0
    unfolding number_nos first_of
    accepts_back stock own few = no_is ∙ passed_both_back (check_nos counts s) (many_no counts ∷ []) (accepted_both_back counts s stock own) (rw (many_passed counts few))

    place : no ≡ 0 → number ≡ place_in strips s
    place e = number_is ∙ unless_passed 0 _ _ (sym no_is ∙ e)

    at_rank : no ≡ 0 → number ≡ rk s
    at_rank e = place e ∙ place_of ls s (accepts e).1

    pub number_right_of : NumberRight strips counts s no number
    number_right_of = record {
      accepts = accepts;
      accepted = accepts_back;
      place = place;
      undone = λ e. rw (at_rank e) (ls.find s (accepts e).1);
      below_total = λ e. rw (at_rank e) (ls.below s (accepts e).1);
      refused_zero = λ e. number_is ∙ unless_refused 0 _ _ (λ k. e (no_is ∙ k));
    }

  module _ (i : ℕ) (buffer : List ℕ) {after : List ℕ} {no : ℕ} (no_is : no ≡ (first_of (by_number_nos counts i buffer)).0) (after_is : after ≡ unless (first_of (by_number_nos counts i buffer)) buffer (get_or strips i [])) where
    takes : no ≡ 0 → IsStock counts × (length buffer ≡ sum counts) × (total counts < 2 ^ 64) × (i < total counts)
    unfolding by_number_nos
    takes e =
        let p = passed_both (buffer_nos counts buffer) (many_no counts ∷ above_no counts i ∷ []) (sym no_is ∙ e) in
        let b = accepted_buffer counts buffer p.0 in
        let n = accepted_number counts i p.1 in
        (b.0, b.1, n.0, n.1)

    takes_back : IsStock counts → length buffer ≡ sum counts → total counts < 2 ^ 64 → i < total counts → no ≡ 0
    unfolding by_number_nos
    takes_back stock long few below =
        no_is ∙ passed_both_back (buffer_nos counts buffer) (many_no counts ∷ above_no counts i ∷ []) (accepted_buffer_back counts buffer stock long) (accepted_number_back counts i few below)

    pub strip_right_of : StripRight strips counts i buffer after no
    strip_right_of = record {
      accepts = takes;
      accepted = takes_back;
      written = λ e. after_is ∙ unless_passed buffer _ _ (sym no_is ∙ e);
      kept = λ e. after_is ∙ unless_refused buffer _ _ (λ m. e (no_is ∙ m));
    }

  -- ---- each undoes the other, whatever answers there are

  -- the number of the strip that was written is the number that was given
  pub undone_number : {i : ℕ} {buffer after : List ℕ} {no no' number : ℕ} → StripRight strips counts i buffer after no → NumberRight strips counts after no' number
      → no ≡ 0 → (no' ≡ 0) × (number ≡ i)
  undone_number {i} s n e =
      let a = s.accepts e in
      let own : IsStrip counts (get_or strips i []) = ls.sound i a.3 in
      let none = n.accepted a.0 (rw (s.written e) own) a.2 in
      (none, n.place none ∙ ap (place_in strips) (s.written e) ∙ place_of ls (get_or strips i []) own ∙ ls.place i a.3)

-- the strip of the number that was answered is the strip that was given
pub undone_strip : {strips : List (List ℕ)} {counts strip buffer after : List ℕ} {no no' number : ℕ} → NumberRight strips counts strip no' number → StripRight strips counts number buffer after no
    → no' ≡ 0 → length buffer ≡ length strip → (no ≡ 0) × (after ≡ strip)
undone_strip {counts = counts} {strip = strip} n s e l =
    let a = n.accepts e in
    let none = s.accepted a.0 (l ∙ strip_sum counts strip a.1) a.2 (n.below_total e) in
    (none, s.written none ∙ n.undone e)
