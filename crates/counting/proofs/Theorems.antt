-- Theorems on Count and First, over their contracts as the functions state them: `Post` says which answers they allow for which input.
use Prim.Native.Nat.{ℕ, ◌^◌, ◌<◌}
use mathlib.Core.Path.{◌≡◌, sym, ap, ◌∙◌}
use mathlib.Core.List.{List, [], ◌∷◌}
use lib.ListN.{length, get_or}
use contract.Lifetimes.{Lfts}
use borrow.Fn.Kinds.{Dens, ended_of}
use denote.Triple.Clauses.{AtExit}
use Rattle.rules.specs.Stock.{sum, total, IsStock}
use Rattle.rules.specs.Book.{book}
use Rattle.rules.specs.Refusals.{No, first_of, unless, stock_nos, buffer_nos, many_no}
use Rattle.rules.specs.Outcome.{OneAnswer, OneOutcome}
use Rattle.rules.proofs.Refusals.{passed_both, passed_both_back, unless_refused, unless_passed, many_refused, many_passed}
use Rattle.rules.proofs.Checks.{passed_head, accepted, accepted_back, accepted_buffer, accepted_buffer_back, numberable}
use Rattle.rules.proofs.Numbers.{runs}
use Rattle.rules.proofs.Neighbours.{first_strip}
use Rattle.stock.specs.declared.Refusal.{Refusal}
use Rattle.counting.specs.declared.count.Counted.{Counted}
use Rattle.counting.specs.Answers.{count_nos, count_answer, first_answer, first_after}
use Rattle.counting.proofs.Marked.{total_30_31_1, total_31_31_1}
use Rattle.counting.proofs.count.count.Kinds as count
use Rattle.counting.proofs.count.count.Reads as count_reads
use Rattle.counting.proofs.first.first.Kinds as first
use Rattle.counting.proofs.first.first.Reads as first_reads

-- ---- one outcome: two that the contract allows for one input are the same

pub count_one_outcome : OneAnswer 1 count.ps count.r count_reads.Post
count_one_outcome κs a x y s t h k = h ∙ sym k

pub first_one_outcome : OneOutcome 2 first.ps first.r (λ κs s. s.1.0.now) first_reads.Post
first_one_outcome κs a x y s t h k = (h.0 ∙ sym k.0, h.1 ∙ sym k.1)

-- ---- Count

-- what an answer must be: it refuses no more and no less than the table says; accepted, it is T; refused, 0
pub record CountRight (counts : List ℕ) (r : Counted) : Type 0 where
  pub accepts : r.refusal.no ≡ 0 → IsStock counts × (total counts < 2 ^ 64)
  pub accepted : IsStock counts → total counts < 2 ^ 64 → r.refusal.no ≡ 0
  pub is_total : r.refusal.no ≡ 0 → r.total ≡ total counts
  pub refused_zero : (r.refusal.no ≡ 0 → ⊥) → r.total ≡ 0

module _ (counts : List ℕ) (r : Counted) (h : r ≡ count_answer counts) where
  no_is : r.refusal.no ≡ (first_of (count_nos counts)).0
  unfolding count_answer
  no_is = ap (λ (r : Counted). r.refusal.no) h

  total_is : r.total ≡ unless (first_of (count_nos counts)) 0 (total counts)
  unfolding count_answer
  total_is = ap (λ (r : Counted). r.total) h

  accepts : r.refusal.no ≡ 0 → IsStock counts × (total counts < 2 ^ 64)
  unfolding count_nos
  accepts e =
      let p = passed_both (stock_nos counts) (many_no counts ∷ []) (sym no_is ∙ e) in
      (accepted counts p.0, numberable counts (passed_head (many_no counts) [] p.1).0)

  accepts_back : IsStock counts → total counts < 2 ^ 64 → r.refusal.no ≡ 0
  unfolding count_nos first_of
  accepts_back stock few = no_is ∙ passed_both_back (stock_nos counts) (many_no counts ∷ []) (ap (λ (r : No). r.0) (accepted_back counts stock)) (rw (many_passed counts few))

  right : CountRight counts r
  right = record {
    accepts = accepts;
    accepted = accepts_back;
    is_total = λ e. total_is ∙ unless_passed 0 _ _ (sym no_is ∙ e);
    refused_zero = λ e. total_is ∙ unless_refused 0 _ _ (λ k. e (no_is ∙ k));
  }

pub count_right : (κs : Lfts 1) (a : Dens κs count.ps) (r : Counted) (s : AtExit (ended_of 1 count.ps count.r) κs) → count_reads.Post κs a r s → CountRight a.0.now r
count_right κs a r s h = right a.0.now r h

-- the marked stocks: T of 30 31 1 is 14428278950913093728, and 31 31 1 is refused with 7
answer_fits : count_answer (30 ∷ 31 ∷ 1 ∷ []) ≡ record { refusal = record { no = 0; place = 0 }; total = 14428278950913093728 }
unfolding count_answer count_nos stock_nos first_of sum
answer_fits = rw (total_30_31_1)

answer_many : count_answer (31 ∷ 31 ∷ 1 ∷ []) ≡ record { refusal = record { no = 7; place = 0 }; total = 0 }
unfolding count_answer count_nos stock_nos first_of sum
answer_many = rw (many_refused (31 ∷ 31 ∷ 1 ∷ []) total_31_31_1)

module _ (κs : Lfts 1) (a : Dens κs count.ps) (r : Counted) (s : AtExit (ended_of 1 count.ps count.r) κs) (h : count_reads.Post κs a r s) where
  pub count_30_31_1 : a.0.now ≡ 30 ∷ 31 ∷ 1 ∷ [] → r ≡ record { refusal = record { no = 0; place = 0 }; total = 14428278950913093728 }
  count_30_31_1 e = h ∙ ap count_answer e ∙ answer_fits

  pub count_31_31_1 : a.0.now ≡ 31 ∷ 31 ∷ 1 ∷ [] → r ≡ record { refusal = record { no = 7; place = 0 }; total = 0 }
  count_31_31_1 e = h ∙ ap count_answer e ∙ answer_many

-- ---- First

-- what an answer must be, and what is then in the buffer: strip 0, which is the kinds one after the other; refused, what was there
pub record FirstRight (counts buffer after : List ℕ) (r : Refusal) : Type 0 where
  pub accepts : r.no ≡ 0 → IsStock counts × (length buffer ≡ sum counts)
  pub accepted : IsStock counts → length buffer ≡ sum counts → r.no ≡ 0
  pub strip_zero : r.no ≡ 0 → after ≡ get_or (book counts) 0 []
  pub in_runs : r.no ≡ 0 → after ≡ runs 1 counts
  pub kept : (r.no ≡ 0 → ⊥) → after ≡ buffer

pub first_right : (κs : Lfts 2) (a : Dens κs first.ps) (r : Refusal) (s : AtExit (ended_of 2 first.ps first.r) κs) → first_reads.Post κs a r s → FirstRight a.0.now a.1.0.now s.1.0.now r
unfolding first_answer first_after
first_right κs a r s h = record {
  accepts = λ e. accepted_buffer counts buffer (sym no ∙ e);
  accepted = λ p q. no ∙ accepted_buffer_back counts buffer p q;
  strip_zero = zero;
  in_runs = λ e. zero e ∙ first_strip counts;
  kept = λ e. h.1 ∙ unless_refused buffer _ _ (λ k. e (no ∙ k));
}
  where
    counts : List ℕ
    counts = a.0.now

    buffer : List ℕ
    buffer = a.1.0.now

    no : r.no ≡ (first_of (buffer_nos counts buffer)).0
    no = ap (λ (r : Refusal). r.no) h.0

    zero : r.no ≡ 0 → s.1.0.now ≡ get_or (book counts) 0 []
    zero e = h.1 ∙ unless_passed buffer _ _ (sym no ∙ e)
