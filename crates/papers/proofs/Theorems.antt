-- Theorems on Same paper, over its contract as the function states it.
use Prim.Native.Nat.{ℕ, ◌<◌}
use mathlib.Core.Path.{◌≡◌, sym, ap, ◌∙◌}
use mathlib.Core.Bool.{Bool, true, false}
use mathlib.Core.List.{List}
use lib.ListN.{length}
use contract.Lifetimes.{Lfts}
use borrow.Fn.Kinds.{Dens, ended_of}
use denote.Triple.Clauses.{AtExit}
use Rattle.rules.specs.Stock.{IsStock, IsStrip}
use Rattle.rules.specs.Refusals.{first_of, pair_nos}
use Rattle.rules.specs.Outcome.{OneAnswer}
use Rattle.rules.proofs.Refusals.{unless_refused, unless_passed}
use Rattle.rules.proofs.Checks.{accepted_pair, accepted_pair_back}
use Rattle.papers.specs.declared.Asked.{Asked}
use Rattle.papers.specs.Papers.{turned, hung, is_a_turn, same_paper_answer}
use Rattle.papers.proofs.Turning.{hung_turn, turn_hung}
use Rattle.papers.proofs.same_paper.Kinds as same_paper
use Rattle.papers.proofs.same_paper.Reads as reads

-- two answers that the contract allows for one input are the same
pub one_outcome : OneAnswer 3 same_paper.ps same_paper.r reads.Post
one_outcome κs a x y s t h k = h ∙ sym k

-- any answer r that the contract allows for a stock and two strips
module _ (κs : Lfts 3) (a : Dens κs same_paper.ps) (r : Asked) (s : AtExit (ended_of 3 same_paper.ps same_paper.r) κs) (h : reads.Post κs a r s) where
  abbrev counts : List ℕ
  counts = a.0.now

  abbrev first : List ℕ
  first = a.1.0.now

  abbrev second : List ℕ
  second = a.1.1.0.now

  no_is : r.refusal.no ≡ (first_of (pair_nos counts first second)).0
  unfolding same_paper_answer
  no_is = ap (λ (r : Asked). r.refusal.no) h

  pub same_is : r.refusal.no ≡ 0 → r.same ≡ is_a_turn first second
  unfolding same_paper_answer
  same_is e = ap (λ (r : Asked). r.same) h ∙ unless_passed false _ _ (sym no_is ∙ e)

  -- it refuses no more and no less than the table says
  pub accepts : r.refusal.no ≡ 0 → IsStock counts × IsStrip counts first × IsStrip counts second
  accepts e = accepted_pair counts first second (sym no_is ∙ e)

  pub accepted : IsStock counts → IsStrip counts first → IsStrip counts second → r.refusal.no ≡ 0
  accepted stock one two = no_is ∙ accepted_pair_back counts first second stock one two

  -- a refused answer is no
  pub refused_no : (r.refusal.no ≡ 0 → ⊥) → r.same ≡ false
  unfolding same_paper_answer
  refused_no e = ap (λ (r : Asked). r.same) h ∙ unless_refused false _ _ (λ k. e (no_is ∙ k))

  -- yes: the second strip is the first, as it stands or foot up, turned by some number of places below n
  pub yes_turned : r.refusal.no ≡ 0 → r.same ≡ true → (back : Bool) × (t : ℕ) × (t < length first) × (turned t (hung back first) ≡ second)
  yes_turned e y = turn_hung first second (sym (same_is e) ∙ y)

  -- and back
  pub turned_yes : r.refusal.no ≡ 0 → (back : Bool) (t : ℕ) → t < length first → turned t (hung back first) ≡ second → r.same ≡ true
  turned_yes e back t l f = same_is e ∙ hung_turn first second back t l f
