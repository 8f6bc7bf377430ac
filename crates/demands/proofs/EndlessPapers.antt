-- Document 02, P7. Endless papers: of all turns of a strip, since P8 also foot up, the smallest in dictionary order stands for the paper, and next paper steps from one standing strip to the next.
-- All is said over the contracts of the calls. The refusals are `stand_refuses` and `next_paper_refuses` in First.antt.
use Prim.Native.Nat.{ℕ, suc, ◌+◌, ◌-◌, ◌^◌, ◌≤◌, ◌<◌}
use mathlib.Core.Path.{◌≡◌, sym, ◌∙◌}
use mathlib.Core.Bool.{true, false}
use mathlib.Core.List.{List, []}
use native.Mathlib.Omega.{arith}
use lib.ListN.{get_or}
use contract.Lifetimes.{Lfts}
use borrow.Fn.Kinds.{Dens, ended_of}
use denote.Triple.Clauses.{AtExit}
use Rattle.rules.specs.Stock.{total, IsStock, IsStrip}
use Rattle.stock.specs.declared.Refusal.{Refusal}
use Rattle.counting.proofs.Theorems.{first_right}
use Rattle.counting.proofs.first.first.Kinds as first
use Rattle.counting.proofs.first.first.Reads as first_reads
use Rattle.papers.specs.Papers.{is_a_turn}
use Rattle.papers.specs.declared.Asked.{Asked}
use Rattle.papers.proofs.Theorems.{accepts, same_is}
use Rattle.papers.proofs.same_paper.Kinds as same_paper
use Rattle.papers.proofs.same_paper.Reads as same_paper_reads
use Rattle.dictionary.specs.Dictionary.{dictionary}
use Rattle.standing.specs.Standing.{stands_for_paper}
use Rattle.endless.specs.declared.stand.Stood.{Stood}
use Rattle.endless.specs.declared.next_paper.Stepped.{Stepped}
use Rattle.endless.proofs.Theorems.{StandRight, turn_left_same, left_same_turn}
use Rattle.endless.proofs.Theorems as endless
use Rattle.endless.proofs.Listing.{papers_of}
use Rattle.endless.proofs.Chain.{Answer, Calls, Lists, many}
use Rattle.endless.proofs.Chain as chain
use Rattle.endless.proofs.stand.stand.Kinds as stand
use Rattle.endless.proofs.stand.stand.Reads as stand_reads
use Rattle.endless.proofs.next_paper.next_paper.Kinds as next_paper_lem
use Rattle.endless.proofs.next_paper.next_paper.Reads as next_paper_reads
-- the smallest turn stands, and the smallest number of places leads to it, the strip reversed or not: any outcome of stand
pub use Rattle.endless.proofs.Theorems.{stand_right}
-- found, none left and stopped: what each means, exactly when it is given, and that one always is: any outcome of next paper
pub use Rattle.endless.proofs.Theorems.{next_paper_right}
-- a later strip of the dictionary, by its place
pub use Rattle.searching.proofs.Later.{later_at}
pub use Rattle.endless.proofs.Later.{later_length}
-- the first strip in dictionary order is the one that First gives, and is standing
pub use Rattle.dictionary.proofs.FirstEntry.{first_entry}
pub use Rattle.endless.proofs.Listing.{first_standing}

-- ---- two strips have the same standing strip exactly when Same paper says yes

-- a and b of calls of stand, p of a call of Same paper on the same stock and strips
module _ (κs κt : Lfts 2) (κu : Lfts 3) (a : Dens κs stand.ps) (b : Dens κt stand.ps) (p : Dens κu same_paper.ps) (x y : Stood) (q : Asked)
    (s : AtExit (ended_of 2 stand.ps stand.r) κs) (t : AtExit (ended_of 2 stand.ps stand.r) κt) (u : AtExit (ended_of 3 same_paper.ps same_paper.r) κu)
    (h : stand_reads.Post κs a x s) (k : stand_reads.Post κt b y t) (m : same_paper_reads.Post κu p q u)
    (stock : a.0.now ≡ p.0.now) (stock_too : b.0.now ≡ p.0.now) (first_strip : a.1.0.now ≡ p.1.0.now) (second_strip : b.1.0.now ≡ p.1.1.0.now) where
  one : StandRight p.0.now p.1.0.now s.1.0.now x.refusal.no x.turn x.reversed
  one = rw (stock, first_strip) at (stand_right κs a x s h)

  two : StandRight p.0.now p.1.1.0.now t.1.0.now y.refusal.no y.turn y.reversed
  two = rw (stock_too, second_strip) at (stand_right κt b y t k)

  module _ (e : q.refusal.no ≡ 0) where
    both_stand : (x.refusal.no ≡ 0) × (y.refusal.no ≡ 0)
    both_stand =
        let g = accepts κu p q u m e in
        (one.accepted g.0 g.1, two.accepted g.0 g.2)

    pub same_paper_same_standing : q.same ≡ true → s.1.0.now ≡ t.1.0.now
    same_paper_same_standing f =
        turn_left_same p.0.now p.1.0.now p.1.1.0.now s.1.0.now t.1.0.now _ _ _ _ _ _ one two both_stand.0 both_stand.1 (sym (same_is κu p q u m e) ∙ f)

    pub same_standing_same_paper : s.1.0.now ≡ t.1.0.now → q.same ≡ true
    same_standing_same_paper f =
        same_is κu p q u m e ∙ left_same_turn p.0.now p.1.0.now p.1.1.0.now s.1.0.now t.1.0.now _ _ _ _ _ _ one two both_stand.0 both_stand.1 f

-- ---- standing twice changes nothing: the second time the strip is not reversed, and turned by 0 places

-- b of a second call, lent the strip that the first left
pub standing_again : (κs κt : Lfts 2) (a : Dens κs stand.ps) (b : Dens κt stand.ps) (x y : Stood) (s : AtExit (ended_of 2 stand.ps stand.r) κs) (t : AtExit (ended_of 2 stand.ps stand.r) κt)
    → stand_reads.Post κs a x s → stand_reads.Post κt b y t → b.0.now ≡ a.0.now → b.1.0.now ≡ s.1.0.now → x.refusal.no ≡ 0
    → (y.refusal.no ≡ 0) × (t.1.0.now ≡ s.1.0.now) × (y.turn ≡ 0) × (y.reversed ≡ false)
standing_again κs κt a b x y s t h k stock lent e =
    endless.stand_twice a.0.now a.1.0.now s.1.0.now t.1.0.now _ _ _ _ _ _ (stand_right κs a x s h) (rw (stock, lent) at (stand_right κt b y t k)) e

-- ---- what First leaves is standing

pub first_leaves_standing : (κs : Lfts 2) (a : Dens κs first.ps) (r : Refusal) (s : AtExit (ended_of 2 first.ps first.r) κs) → first_reads.Post κs a r s → r.no ≡ 0
    → (s.1.0.now ≡ get_or (dictionary a.0.now) 0 []) × (stands_for_paper s.1.0.now ≡ true)
first_leaves_standing κs a r s h e =
    let f = first_right κs a r s h in
    let is : s.1.0.now ≡ get_or (dictionary a.0.now) 0 [] = f.strip_zero e ∙ sym (first_entry a.0.now) in
    (is, rw is (first_standing a.0.now (f.accepts e).0))

-- ---- from the first strip, with enough steps, it lists every paper once

-- calls one after the other, each lent the strip that the one before left: strip i is what call i is lent
module _ (counts : List ℕ) (accepted : IsStock counts) (given : ℕ) (κs : ℕ → Lfts 2) (a : (i : ℕ) → Dens (κs i) next_paper_lem.ps) (r : ℕ → Stepped)
    (s : (i : ℕ) → AtExit (ended_of 2 next_paper_lem.ps next_paper_lem.r) (κs i)) (h : (i : ℕ) → next_paper_reads.Post (κs i) (a i) (r i) (s i))
    (stock : (i : ℕ) → (a i).0.now ≡ counts) (steps : (i : ℕ) → (a i).1.1.0 ≡ given) (lent : (i : ℕ) → (a (suc i)).1.0.now ≡ (s i).1.0.now)
    (start : (a 0).1.0.now ≡ get_or (dictionary counts) 0 []) (enough : total counts ≤ given + 1) where
  abbrev strip : ℕ → List ℕ
  strip i = (a i).1.0.now

  abbrev answer : ℕ → Answer
  answer i = ((r i).refusal.no, (r i).outcome, (r i).steps)

  calls : (i : ℕ) → Calls counts accepted given (strip i) (strip (suc i)) (answer i)
  calls i = rw (stock i, steps i, ← lent i) at (next_paper_right (κs i) (a i) (r i) (s i) (h i))

  -- strip n is the n-th standing strip of the dictionary; each is found but the last, after which none is left
  pub papers_in_order : (n : ℕ) → n < many counts accepted given → Lists counts accepted given (papers_of counts) n (strip n) (answer n)
  papers_in_order = chain.chain_lists counts accepted given enough strip answer start calls

  -- each is a standing strip of the stock
  pub papers_standing : (n : ℕ) → n < many counts accepted given → IsStrip counts (strip n) × (stands_for_paper (strip n) ≡ true)
  papers_standing = chain.chain_stands counts accepted given enough strip answer start calls

  -- every strip of the stock is the paper of one of them
  pub every_paper : (t : List ℕ) → IsStrip counts t → (n : ℕ) × (n < many counts accepted given) × (is_a_turn t (strip n) ≡ true)
  every_paper = chain.chain_all counts accepted given enough strip answer start calls

  -- and of one alone
  pub paper_once : (t : List ℕ) (n m : ℕ) → IsStrip counts t → n < many counts accepted given → m < many counts accepted given → is_a_turn t (strip n) ≡ true → is_a_turn t (strip m) ≡ true → n ≡ m
  paper_once = chain.chain_once counts accepted given enough strip answer start calls

-- a 64-bit number of steps is enough where T is below 2^64
pub steps_enough : (counts : List ℕ) → total counts < 2 ^ 64 → (given : ℕ) × (given < 2 ^ 64) × (total counts ≤ given + 1)
steps_enough counts l = (2 ^ 64 - 1, omega arith, omega arith)
