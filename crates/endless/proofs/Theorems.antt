-- Theorems on the calls on endless papers, over their contracts as the functions state them: `Post` says which answers they allow for which input.
use Prim.Native.Nat.{ℕ, ◌<◌}
use mathlib.Core.Path.{◌≡◌, refl, sym, ap, ◌∙◌}
use mathlib.Core.Bool.{Bool, true, false}
use mathlib.Core.List.{List}
use native.Mathlib.Decide.{dec_lt}
use native.Mathlib.Omega.{arith}
use lib.ListN.{length}
use contract.Lifetimes.{Lfts}
use borrow.Fn.Kinds.{Dens, ended_of}
use denote.Triple.Clauses.{AtExit}
use Rattle.rules.specs.Stock.{IsStock, IsStrip}
use Rattle.rules.specs.Book.{turn}
use Rattle.rules.specs.Refusals.{No, first_of, unless, check_nos}
use Rattle.rules.specs.Outcome.{OneOutcome}
use Rattle.rules.proofs.Refusals.{unless_passed, unless_refused}
use Rattle.rules.proofs.Checks.{some_blocks, accepted_both, accepted_both_back}
use Rattle.papers.specs.Papers.{turned, hung, is_a_turn}
use Rattle.papers.proofs.Turning.{turned_none}
use Rattle.dictionary.specs.Dictionary.{before, dictionary}
use Rattle.dictionary.proofs.Order.{before_not}
use Rattle.searching.specs.Searching.{later}
use Rattle.searching.proofs.Theorems.{SearchRight, search_right}
use Rattle.standing.specs.Standing.{standing, is_reversed, turn_of, stands_for_paper}
use Rattle.standing.proofs.Turns.{turn_in}
use Rattle.standing.proofs.Theorems.{standing_least, reversed_only, turn_least, standing_paper, paper_standing, standing_strip, standing_twice}
use Rattle.endless.specs.declared.stand.Stood.{Stood}
use Rattle.endless.specs.declared.next_paper.Stepped.{Stepped}
use Rattle.endless.specs.Answers.{stand_answer, stand_after, paper_outcome, paper_steps, paper_after, next_paper_answer, next_paper_after}
use Rattle.endless.proofs.stand.stand.Kinds as stand
use Rattle.endless.proofs.stand.stand.Reads as stand_reads
use Rattle.endless.proofs.next_paper.next_paper.Kinds as next_paper_lem
use Rattle.endless.proofs.next_paper.next_paper.Reads as next_paper_reads

-- ---- one outcome for each call

pub stand_one_outcome : OneOutcome 2 stand.ps stand.r (λ κs s. s.1.0.now) stand_reads.Post
stand_one_outcome κs a x y s t h k = (h.0 ∙ sym k.0, h.1 ∙ sym k.1)

pub next_paper_one_outcome : OneOutcome 2 next_paper_lem.ps next_paper_lem.r (λ κs s. s.1.0.now) next_paper_reads.Post
next_paper_one_outcome κs a x y s t h k = (h.0 ∙ sym k.0, h.1 ∙ sym k.1)

-- ---- the standing strip

-- it is refused by 1 to 6 alone, and then the answers are 0 and no, and the strip as it was. Else the strip left is the standing one: the strip reversed or not, as the answer says, and then turned
-- by so many places, below n; reversed only where no turn of it as it stands is that strip; no fewer places lead to it; and no turn of the strip, as it stands or foot up, comes before it
pub record StandRight (counts s after : List ℕ) (no turn : ℕ) (reversed : Bool) : Type 0 where
  pub accepts : no ≡ 0 → IsStock counts × IsStrip counts s
  pub accepted : IsStock counts → IsStrip counts s → no ≡ 0
  pub kept : (no ≡ 0 → ⊥) → (turn ≡ 0) × (reversed ≡ false) × (after ≡ s)
  pub stands : no ≡ 0 → after ≡ standing s
  pub hung_so : no ≡ 0 → (turn < length s) × (turned turn (hung reversed s) ≡ after)
  pub preferring_not : no ≡ 0 → reversed ≡ true → (t : ℕ) → t < length s → turned t s ≡ after → ⊥
  pub fewest : no ≡ 0 → (t : ℕ) → t < turn → turned t (hung reversed s) ≡ after → ⊥
  pub smallest : no ≡ 0 → (back : Bool) (t : ℕ) → t < length s → before (turned t (hung back s)) after ≡ false

stand_is_right : (counts s after : List ℕ) (r : Stood) → r ≡ stand_answer counts s → after ≡ stand_after counts s → StandRight counts s after r.refusal.no r.turn r.reversed
unfolding stand_answer stand_after
stand_is_right counts s after r h k = record {
  accepts = λ e. accepted_both counts s (sym no ∙ e);
  accepted = λ a b. no ∙ accepted_both_back counts s a b;
  kept = λ e. let n : nos.0 ≡ 0 → ⊥ = λ z. e (no ∙ z) in (turn ∙ unless_refused 0 (turn_of s) nos n, reversed ∙ unless_refused false (is_reversed s) nos n, k ∙ unless_refused s (standing s) nos n);
  stands = after_is;
  hung_so = λ e. (omega (arith, turn_is e, (turn_least s (some e)).0), rw (turn_is e, reversed_is e, after_is e) (turn_least s (some e)).1);
  preferring_not = λ e f t l g. reversed_only s (some e) (sym (reversed_is e) ∙ f) t l (g ∙ after_is e);
  fewest = λ e t l f. (turn_least s (some e)).2 t (omega (arith, turn_is e)) (rw (← reversed_is e) (f ∙ after_is e));
  smallest = λ e back t l. before_not (turned t (hung back s)) after (λ b. standing_least s (some e) (turned t (hung back s)) (turn_in s back t l) (rw (after_is e) at b));
}
  where
    nos : No
    nos = first_of (check_nos counts s)

    no : r.refusal.no ≡ (first_of (check_nos counts s)).0
    no = ap (λ (r : Stood). r.refusal.no) h

    turn : r.turn ≡ unless (first_of (check_nos counts s)) 0 (turn_of s)
    turn = ap (λ (r : Stood). r.turn) h

    reversed : r.reversed ≡ unless (first_of (check_nos counts s)) false (is_reversed s)
    reversed = ap (λ (r : Stood). r.reversed) h

    some : r.refusal.no ≡ 0 → 0 < length s
    some e = let a = accepted_both counts s (sym no ∙ e) in some_blocks counts s a.0 a.1

    after_is : r.refusal.no ≡ 0 → after ≡ standing s
    after_is e = k ∙ unless_passed s (standing s) (first_of (check_nos counts s)) (sym no ∙ e)

    turn_is : r.refusal.no ≡ 0 → r.turn ≡ turn_of s
    turn_is e = turn ∙ unless_passed 0 (turn_of s) (first_of (check_nos counts s)) (sym no ∙ e)

    reversed_is : r.refusal.no ≡ 0 → r.reversed ≡ is_reversed s
    reversed_is e = reversed ∙ unless_passed false (is_reversed s) (first_of (check_nos counts s)) (sym no ∙ e)

pub stand_right : (κs : Lfts 2) (a : Dens κs stand.ps) (r : Stood) (s : AtExit (ended_of 2 stand.ps stand.r) κs) → stand_reads.Post κs a r s
    → StandRight a.0.now a.1.0.now s.1.0.now r.refusal.no r.turn r.reversed
stand_right κs a r s h = stand_is_right a.0.now a.1.0.now s.1.0.now r h.0 h.1

-- two strips of a stock are left the same exactly when one is a turn of the other
module _ (counts s u left_s left_u : List ℕ) (no₁ turn₁ : ℕ) (reversed₁ : Bool) (no₂ turn₂ : ℕ) (reversed₂ : Bool)
    (h : StandRight counts s left_s no₁ turn₁ reversed₁) (k : StandRight counts u left_u no₂ turn₂ reversed₂) (e : no₁ ≡ 0) (f : no₂ ≡ 0) where
  pub turn_left_same : is_a_turn s u ≡ true → left_s ≡ left_u
  turn_left_same y = let a = h.accepts e in h.stands e ∙ standing_paper s u (some_blocks counts s a.0 a.1) y ∙ sym (k.stands f)

  pub left_same_turn : left_s ≡ left_u → is_a_turn s u ≡ true
  left_same_turn y =
      let a = h.accepts e in
      let b = k.accepts f in
      paper_standing s u (some_blocks counts s a.0 a.1) (some_blocks counts u b.0 b.1) (sym (h.stands e) ∙ y ∙ k.stands f)

-- standing twice changes nothing: the second time the strip is not reversed, and turned by 0 places
pub stand_twice : (counts s left again : List ℕ) (no₁ turn₁ : ℕ) (reversed₁ : Bool) (no₂ turn₂ : ℕ) (reversed₂ : Bool)
    → StandRight counts s left no₁ turn₁ reversed₁ → StandRight counts left again no₂ turn₂ reversed₂ → no₁ ≡ 0 → (no₂ ≡ 0) × (again ≡ left) × (turn₂ ≡ 0) × (reversed₂ ≡ false)
unfolding turn
stand_twice counts s left again no₁ turn₁ reversed₁ no₂ turn₂ reversed₂ h k e =
    let a = h.accepts e in
    let some = some_blocks counts s a.0 a.1 in
    let own : IsStrip counts left = rw (h.stands e) (standing_strip counts s some a.1) in
    let f = k.accepted a.0 own in
    let same : again ≡ left = k.stands f ∙ ap standing (h.stands e) ∙ standing_twice s some ∙ sym (h.stands e) in
    let there = unreversed f same reversed₂ refl in
    (f, same, unturned f same there, there)
  where
    unreversed : no₂ ≡ 0 → again ≡ left → (b : Bool) → reversed₂ ≡ b → reversed₂ ≡ false
    unreversed f same false g = g
    unreversed f same true g = absurd (k.preferring_not f g 0 (omega (arith, (k.hung_so f).0)) (turned_none left ∙ sym same))

    unturned : no₂ ≡ 0 → again ≡ left → reversed₂ ≡ false → turn₂ ≡ 0
    unturned f same g = elim (dec_lt 0 turn₂) [ yes l ↦ absurd (k.fewest f 0 l (rw g (turned_none left ∙ sym same))) | no l ↦ omega arith ]

-- ---- stepping through a stock's papers

-- it is refused by 1 to 6 alone, and then both answers are 0 and the strip as it was. Else it is right of a search for a standing strip among those that come later
pub record NextPaperRight (counts s after : List ℕ) (given no end steps : ℕ) : Type 0 where
  pub accepts : no ≡ 0 → IsStock counts × IsStrip counts s
  pub accepted : IsStock counts → IsStrip counts s → no ≡ 0
  pub kept : (no ≡ 0 → ⊥) → (end ≡ 0) × (steps ≡ 0) × (after ≡ s)
  pub searched : no ≡ 0 → SearchRight stands_for_paper (later (dictionary counts) s) given s end steps after

next_paper_is_right : (counts s after : List ℕ) (given : ℕ) (r : Stepped) → r ≡ next_paper_answer counts s given → after ≡ next_paper_after counts s given
    → NextPaperRight counts s after given r.refusal.no r.outcome r.steps
unfolding next_paper_answer next_paper_after paper_outcome paper_steps paper_after
next_paper_is_right counts s after given r h k =
    let nos = first_of (check_nos counts s) in
    let no : r.refusal.no ≡ nos.0 = ap (λ (r : Stepped). r.refusal.no) h in
    let end = ap (λ (r : Stepped). r.outcome) h in
    let steps = ap (λ (r : Stepped). r.steps) h in
    record {
      accepts = λ e. accepted_both counts s (sym no ∙ e);
      accepted = λ a b. no ∙ accepted_both_back counts s a b;
      kept = λ e. let n : nos.0 ≡ 0 → ⊥ = λ z. e (no ∙ z) in (end ∙ unless_refused 0 _ nos n, steps ∙ unless_refused 0 _ nos n, k ∙ unless_refused s _ nos n);
      searched = λ e. let z = sym no ∙ e in
          search_right stands_for_paper (later (dictionary counts) s) given s r.outcome r.steps after (end ∙ unless_passed 0 _ nos z) (steps ∙ unless_passed 0 _ nos z) (k ∙ unless_passed s _ nos z);
    }

pub next_paper_right : (κs : Lfts 2) (a : Dens κs next_paper_lem.ps) (r : Stepped) (s : AtExit (ended_of 2 next_paper_lem.ps next_paper_lem.r) κs) → next_paper_reads.Post κs a r s
    → NextPaperRight a.0.now a.1.0.now s.1.0.now a.1.1.0 r.refusal.no r.outcome r.steps
next_paper_right κs a r s h = next_paper_is_right a.0.now a.1.0.now s.1.0.now a.1.1.0 r h.0 h.1
