-- Theorems on Open, over its contract as the function states it: `Post` says which answers it allows for which input.
use Prim.Native.Nat.{ℕ, suc, ◌≤◌, ◌<◌}
use mathlib.Core.Path.{◌≡◌, refl, sym, ap, ◌∙◌}
use mathlib.Core.Bool.{true, false}
use mathlib.Core.List.{List, [], ◌∷◌}
use native.Mathlib.Omega.{arith}
use borrow.Author.Tests.{le-leb, lt-leb}
use lib.ListN.{length, get_or, replicate}
use contract.Lifetimes.{Lfts}
use borrow.Fn.Kinds.{Dens, ended_of}
use denote.Triple.Clauses.{AtExit}
use Rattle.rules.specs.Stock.{IsStock, IsStrip}
use Rattle.rules.specs.Book.{book, same, place_in, odd, reduced, backward}
use Rattle.rules.specs.Refusals.{first_of, unless, check_nos}
use Rattle.rules.specs.Outcome.{OneAnswer}
use Rattle.rules.proofs.Refusals.{unless_refused, unless_passed}
use Rattle.rules.proofs.Checks.{accepted_both, accepted_both_back}
use Rattle.rules.proofs.Parity.{kind_one_forward}
use Rattle.walker.specs.declared.Walker.{Walker}
use Rattle.walker.specs.declared.open.Opened.{Opened}
use Rattle.walker.specs.Walkers.{walker_for, all_forward}
use Rattle.walker.specs.Answers.{open_answer}
use Rattle.walker.proofs.ByKind.{walker_to_lem, to_at}
use Rattle.walker.proofs.open.open.Kinds as opening
use Rattle.walker.proofs.open.open.Reads as reads

-- two answers that the contract allows for one input are the same
pub one_outcome : OneAnswer 2 opening.ps opening.r reads.Post
one_outcome κs a x y s t h k = h ∙ sym k

-- a kind without blocks runs by parity as the others do: in 421 of 1 1 0 1, kinds 3 and 4 run backward
pub open_1_1_0_1 : (walker_for (1 ∷ 1 ∷ 0 ∷ 1 ∷ []) (4 ∷ 2 ∷ 1 ∷ [])).back ≡ false ∷ false ∷ true ∷ true ∷ replicate 12 false
unfolding walker_for backward odd place_in book same reduced
open_1_1_0_1 = refl

-- any answer r that the contract allows for a stock and a strip
module _ (κs : Lfts 2) (a : Dens κs opening.ps) (r : Opened) (s : AtExit (ended_of 2 opening.ps opening.r) κs) (h : reads.Post κs a r s) where
  abbrev counts : List ℕ
  counts = a.0.now

  abbrev strip : List ℕ
  strip = a.1.0.now

  no_is : r.refusal.no ≡ (first_of (check_nos counts strip)).0
  unfolding open_answer
  no_is = ap (λ (r : Opened). r.refusal.no) h

  walker_is : r.walker ≡ unless (first_of (check_nos counts strip)) all_forward (walker_for counts strip)
  unfolding open_answer
  walker_is = ap (λ (r : Opened). r.walker) h

  -- it refuses no more and no less than the table says
  pub accepts : r.refusal.no ≡ 0 → IsStock counts × IsStrip counts strip
  accepts e = accepted_both counts strip (sym no_is ∙ e)

  pub accepted : IsStock counts → IsStrip counts strip → r.refusal.no ≡ 0
  accepted stock own = no_is ∙ accepted_both_back counts strip stock own

  -- a refused walker has all directions forward
  pub refused_forward : (r.refusal.no ≡ 0 → ⊥) → r.walker ≡ all_forward
  refused_forward e = walker_is ∙ unless_refused all_forward _ (first_of (check_nos counts strip)) (λ k. e (no_is ∙ k))

  -- an accepted one has the direction of each kind, with blocks or without; kind 1 and kinds that the stock has not run forward
  module _ (e : r.refusal.no ≡ 0) where
    at : (i : ℕ) → i < 16 → get_or r.walker.back i false ≡ get_or (walker_for counts strip).back i false
    at i l = ap (λ (w : Walker). get_or w.back i false) (walker_is ∙ unless_passed all_forward _ (first_of (check_nos counts strip)) (sym no_is ∙ e))

    pub each_kind : (i : ℕ) → i < length counts → get_or r.walker.back i false ≡ backward counts (suc i) strip
    each_kind i l =
        let m : i < 16 = omega (arith, (accepts e).0.few) in
        at i m ∙ rw (walker_to_lem counts strip) (rw (le-leb (suc i) (length counts) l) at (to_at counts strip (length counts) i m))

    pub kind_one : get_or r.walker.back 0 false ≡ false
    kind_one = each_kind 0 (omega (arith, (accepts e).0.some)) ∙ kind_one_forward counts strip (accepts e).1

    pub unused : (i : ℕ) → length counts ≤ i → i < 16 → get_or r.walker.back i false ≡ false
    unused i l m = at i m ∙ rw (walker_to_lem counts strip) (rw (lt-leb (suc i) (length counts) (omega arith)) at (to_at counts strip (length counts) i m))
