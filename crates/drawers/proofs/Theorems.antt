-- Theorems on the calls of the old drawers, over their contracts as the functions state them: `Post` says which answers they allow for which input.
use Prim.Native.Nat.{ℕ, ◌+◌, ◌≤◌, ◌<◌}
use mathlib.Core.Path.{◌≡◌, refl, sym, ap, ◌∙◌}
use mathlib.Core.Bool.{Bool, true, false}
use mathlib.Core.List.{List, [], ◌∷◌}
use native.Mathlib.Decide.{ℕ_discrete}
use native.Mathlib.Omega.{arith}
use lib.Dec.{eqb}
use lib.ListN.{length, get_or}
use borrow.Author.Tests.{eqb-true, eqb-false, eq-eqb, ne_eqb}
use contract.Lifetimes.{Lfts}
use borrow.Fn.Kinds.{Dens, ended_of}
use denote.Triple.Clauses.{AtExit}
use Rattle.rules.specs.Stock.{total, IsStock, IsStrip}
use Rattle.rules.specs.Book.{place_in}
use Rattle.rules.specs.Refusals.{No, when, first_of, check_nos}
use Rattle.rules.specs.Outcome.{OneAnswer, OneOutcome}
use Rattle.rules.proofs.Refusals.{passed_first, refused_first, unless_passed, unless_refused, passed_both}
use Rattle.rules.proofs.Checks.{accepted_both, accepted_both_back, passed_head, when_passed, check_to_six}
use Rattle.stock.specs.declared.Refusal.{Refusal}
use Rattle.numbering.proofs.Right.{NumberRight, StripRight, number_right_of, strip_right_of, undone_number, undone_strip}
use Rattle.dictionary.specs.Dictionary.{dictionary}
use Rattle.dictionary.proofs.Places.{listed}
use Rattle.dictionary.proofs.Theorems.{dictionary_below}
use Rattle.drawers.specs.declared.Filed.{Filed}
use Rattle.drawers.specs.Answers.{last_no, dictionary_number_answer, dictionary_strip_answer, dictionary_strip_after, dictionary_next_nos, dictionary_next_answer, dictionary_next_after}
use Rattle.drawers.proofs.number.dictionary_number.Kinds as number
use Rattle.drawers.proofs.number.dictionary_number.Reads as number_reads
use Rattle.drawers.proofs.strip.dictionary_strip.Kinds as strip
use Rattle.drawers.proofs.strip.dictionary_strip.Reads as strip_reads
use Rattle.drawers.proofs.next.dictionary_next.Kinds as next
use Rattle.drawers.proofs.next.dictionary_next.Reads as next_reads

-- ---- one outcome for each call

pub dictionary_number_one_outcome : OneAnswer 2 number.ps number.r number_reads.Post
dictionary_number_one_outcome κs a x y s t h k = h ∙ sym k

pub dictionary_strip_one_outcome : OneOutcome 2 strip.ps strip.r (λ κs s. s.1.1.0.now) strip_reads.Post
dictionary_strip_one_outcome κs a x y s t h k = (h.0 ∙ sym k.0, h.1 ∙ sym k.1)

pub dictionary_next_one_outcome : OneOutcome 2 next.ps next.r (λ κs s. s.1.0.now) next_reads.Post
dictionary_next_one_outcome κs a x y s t h k = (h.0 ∙ sym k.0, h.1 ∙ sym k.1)

-- ---- number from strip, and strip from number

number_is_right : (counts s : List ℕ) (r : Filed) → r ≡ dictionary_number_answer counts s → NumberRight (dictionary counts) counts s r.refusal.no r.number
unfolding dictionary_number_answer
number_is_right counts s r h = number_right_of (listed counts) s (ap (λ (r : Filed). r.refusal.no) h) (ap (λ (r : Filed). r.number) h)

pub dictionary_number_right : (κs : Lfts 2) (a : Dens κs number.ps) (r : Filed) (s : AtExit (ended_of 2 number.ps number.r) κs) → number_reads.Post κs a r s
    → NumberRight (dictionary a.0.now) a.0.now a.1.0.now r.refusal.no r.number
dictionary_number_right κs a r s h = number_is_right a.0.now a.1.0.now r h

strip_is_right : (counts : List ℕ) (i : ℕ) (buffer after : List ℕ) (r : Refusal) → r ≡ dictionary_strip_answer counts i buffer → after ≡ dictionary_strip_after counts i buffer
    → StripRight (dictionary counts) counts i buffer after r.no
unfolding dictionary_strip_answer dictionary_strip_after
strip_is_right counts i buffer after r h k = strip_right_of (listed counts) i buffer (ap (λ (r : Refusal). r.no) h) k

pub dictionary_strip_right : (κs : Lfts 2) (a : Dens κs strip.ps) (r : Refusal) (s : AtExit (ended_of 2 strip.ps strip.r) κs) → strip_reads.Post κs a r s
    → StripRight (dictionary a.0.now) a.0.now a.1.0 a.1.1.0.now s.1.1.0.now r.no
dictionary_strip_right κs a r s h = strip_is_right a.0.now a.1.0 a.1.1.0.now s.1.1.0.now r h.0 h.1

-- ---- each undoes the other, whatever answers the two contracts allow

-- a call of each, b of the number and a of the strip, with the same stock
module _ (κs κt : Lfts 2) (a : Dens κs strip.ps) (b : Dens κt number.ps) (r : Refusal) (q : Filed) (s : AtExit (ended_of 2 strip.ps strip.r) κs) (t : AtExit (ended_of 2 number.ps number.r) κt)
    (h : strip_reads.Post κs a r s) (k : number_reads.Post κt b q t) (same : b.0.now ≡ a.0.now) where
  -- the number of the strip that was written is the number that was given
  pub dictionary_number_of_strip : b.1.0.now ≡ s.1.1.0.now → r.no ≡ 0 → (q.refusal.no ≡ 0) × (q.number ≡ a.1.0)
  dictionary_number_of_strip e = undone_number (listed a.0.now) (dictionary_strip_right κs a r s h) (rw (same, e) at (dictionary_number_right κt b q t k))

  -- the strip of the number that was answered is the strip that was given
  pub dictionary_strip_of_number : a.1.0 ≡ q.number → length a.1.1.0.now ≡ length b.1.0.now → q.refusal.no ≡ 0 → (r.no ≡ 0) × (s.1.1.0.now ≡ b.1.0.now)
  dictionary_strip_of_number e l z = undone_strip (rw same at (dictionary_number_right κt b q t k)) (rw e at (dictionary_strip_right κs a r s h)) z l

-- ---- the next strip

-- it is refused by 1 to 6, or by 9 on the last entry and there alone; moved on, the strip is the entry after; refused, as it was
pub record NextRight (counts strip after : List ℕ) (no : ℕ) : Type 0 where
  pub accepts : no ≡ 0 → IsStock counts × IsStrip counts strip × (place_in (dictionary counts) strip + 1 < total counts)
  pub accepted : IsStock counts → IsStrip counts strip → place_in (dictionary counts) strip + 1 < total counts → no ≡ 0
  pub ends : no ≡ 9 → IsStock counts × IsStrip counts strip × (place_in (dictionary counts) strip + 1 ≡ total counts)
  pub ended : IsStock counts → IsStrip counts strip → place_in (dictionary counts) strip + 1 ≡ total counts → no ≡ 9
  pub other : (no ≡ 9 → ⊥) → no ≤ 6
  pub moved : no ≡ 0 → after ≡ get_or (dictionary counts) (place_in (dictionary counts) strip + 1) []
  pub kept : (no ≡ 0 → ⊥) → after ≡ strip

module _ (counts s : List ℕ) where
  abbrev at : ℕ
  at = place_in (dictionary counts) s + 1

  -- past 1 to 6, 9 decides
  decides : IsStock counts → IsStrip counts s → first_of (dictionary_next_nos counts s) ≡ first_of (last_no counts s ∷ [])
  unfolding dictionary_next_nos
  decides a b = passed_first (check_nos counts s) _ (accepted_both_back counts s a b)

  next_passed : IsStock counts → IsStrip counts s → at < total counts → (first_of (dictionary_next_nos counts s)).0 ≡ 0
  unfolding first_of
  next_passed a b l = rw (decides a b, ne_eqb at (total counts) (λ e. omega arith))

  next_ended : IsStock counts → IsStrip counts s → at ≡ total counts → (first_of (dictionary_next_nos counts s)).0 ≡ 9
  unfolding first_of
  next_ended a b e = rw (decides a b, eq-eqb at (total counts) e)

  next_accepts : (first_of (dictionary_next_nos counts s)).0 ≡ 0 → IsStock counts × IsStrip counts s × (at < total counts)
  unfolding dictionary_next_nos
  next_accepts e =
      let p = passed_both (check_nos counts s) (last_no counts s ∷ []) e in
      let b = accepted_both counts s p.0 in
      (b.0, b.1, omega (arith, dictionary_below counts s b.1, eqb-false at (total counts) (when_passed 8 0 _ (passed_head (last_no counts s) [] p.1).0)))

  -- a refusal by 1 to 6 is none by 9
  refused_to_six : ((first_of (check_nos counts s)).0 ≡ 0 → ⊥) → (first_of (dictionary_next_nos counts s)).0 ≤ 6
  unfolding dictionary_next_nos
  refused_to_six z = rw (refused_first (check_nos counts s) (last_no counts s ∷ []) z) (check_to_six counts s)

  next_other : ((first_of (dictionary_next_nos counts s)).0 ≡ 9 → ⊥) → (first_of (dictionary_next_nos counts s)).0 ≤ 6
  unfolding first_of
  next_other n = elim (ℕ_discrete (first_of (check_nos counts s)).0 0) [
    | yes z ↦ let b = accepted_both counts s z in none_or_nine (eqb at (total counts)) (decides b.0 b.1)
    | no z ↦ refused_to_six z
  ]
    where
      none_or_nine : (b : Bool) → first_of (dictionary_next_nos counts s) ≡ first_of (when 9 b ∷ []) → (first_of (dictionary_next_nos counts s)).0 ≤ 6
      none_or_nine true e = absurd (n (ap (λ (r : No). r.0) e))
      none_or_nine false e = omega (arith, ap (λ (r : No). r.0) e)

  last_of : (b : Bool) → eqb at (total counts) ≡ b → (first_of (when 9 b ∷ [])).0 ≡ 9 → at ≡ total counts
  unfolding first_of
  last_of true f e = eqb-true at (total counts) f
  last_of false f e = absurd (omega arith)

  next_ends : (first_of (dictionary_next_nos counts s)).0 ≡ 9 → IsStock counts × IsStrip counts s × (at ≡ total counts)
  next_ends e = elim (ℕ_discrete (first_of (check_nos counts s)).0 0) [
    | yes z ↦ let b = accepted_both counts s z in (b.0, b.1, last_of (eqb at (total counts)) refl (sym (ap (λ (r : No). r.0) (decides b.0 b.1)) ∙ e))
    | no z ↦ absurd (omega (arith, refused_to_six z))
  ]

next_is_right : (counts s after : List ℕ) (r : Refusal) → r ≡ dictionary_next_answer counts s → after ≡ dictionary_next_after counts s → NextRight counts s after r.no
unfolding dictionary_next_answer dictionary_next_after
next_is_right counts s after r h k =
    let no : r.no ≡ (first_of (dictionary_next_nos counts s)).0 = ap (λ (r : Refusal). r.no) h in
    record {
      accepts = λ e. next_accepts counts s (sym no ∙ e);
      accepted = λ a b l. no ∙ next_passed counts s a b l;
      ends = λ e. next_ends counts s (sym no ∙ e);
      ended = λ a b l. no ∙ next_ended counts s a b l;
      other = λ n. rw no (next_other counts s (λ e. n (no ∙ e)));
      moved = λ e. k ∙ unless_passed s _ _ (sym no ∙ e);
      kept = λ e. k ∙ unless_refused s _ _ (λ m. e (no ∙ m));
    }

pub dictionary_next_right : (κs : Lfts 2) (a : Dens κs next.ps) (r : Refusal) (s : AtExit (ended_of 2 next.ps next.r) κs) → next_reads.Post κs a r s
    → NextRight a.0.now a.1.0.now s.1.0.now r.no
dictionary_next_right κs a r s h = next_is_right a.0.now a.1.0.now s.1.0.now r h.0 h.1
