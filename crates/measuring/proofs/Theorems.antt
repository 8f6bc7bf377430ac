-- Theorems on Distance, over its contract as the function states it: `Post` says which answers it allows for which input.
use Prim.Native.Nat.{ℕ, ◌^◌, ◌<◌}
use mathlib.Core.Path.{◌≡◌, sym, ap, ◌∙◌}
use mathlib.Core.List.{List}
use native.Mathlib.Omega.{arith}
use lib.IntN.{ℤ, pos, ◌-ℤ◌, +ℤ_invr}
use mir.Syntax.{w64}
use mir.Val.{SFits}
use contract.Lifetimes.{Lfts}
use borrow.Fn.Kinds.{Dens, ended_of}
use denote.Triple.Clauses.{AtExit}
use Rattle.rules.specs.Stock.{total, IsStock, IsStrip}
use Rattle.rules.specs.Book.{book, place_in}
use Rattle.rules.specs.Refusals.{first_of, unless, pair_nos}
use Rattle.rules.specs.Outcome.{OneAnswer}
use Rattle.rules.proofs.Refusals.{passed_both, passed_first, unless_refused, unless_passed, many_passed}
use Rattle.rules.proofs.Checks.{passed_head, accepted_pair, accepted_pair_back, numberable}
use Rattle.measuring.specs.declared.distance.Apart.{Apart}
use Rattle.measuring.specs.Answers.{distance_nos, distance_answer}
use Rattle.measuring.proofs.Signed.{far_fits, fits_near}
use Rattle.measuring.proofs.distance.distance.Kinds as distance
use Rattle.measuring.proofs.distance.distance.Reads as distance_reads

-- two answers that the contract allows for one input are the same
pub distance_one_outcome : OneAnswer 3 distance.ps distance.r distance_reads.Post
distance_one_outcome κs a x y s t h k = h ∙ sym k

-- any answer r that the contract allows for a stock and two strips
module _ (κs : Lfts 3) (a : Dens κs distance.ps) (r : Apart) (s : AtExit (ended_of 3 distance.ps distance.r) κs) (h : distance_reads.Post κs a r s) where
  abbrev counts : List ℕ
  counts = a.0.now

  abbrev from : List ℕ
  from = a.1.0.now

  abbrev to : List ℕ
  to = a.1.1.0.now

  -- from the number of the first to that of the second
  abbrev moves : ℤ
  moves = pos (place_in (book counts) to) -ℤ pos (place_in (book counts) from)

  distance_no : r.refusal.no ≡ (first_of (distance_nos counts from to)).0
  unfolding distance_answer
  distance_no = ap (λ (r : Apart). r.refusal.no) h

  moves_are : r.moves ≡ unless (first_of (distance_nos counts from to)) (pos 0) moves
  unfolding distance_answer
  moves_are = ap (λ (r : Apart). r.moves) h

  -- it refuses no more and no less than the table says: past the checks of the strips, a total of 2^64 or more, and a difference that no signed 64-bit number holds
  pub distance_accepts : r.refusal.no ≡ 0 → IsStock counts × IsStrip counts from × IsStrip counts to × (total counts < 2 ^ 64) × SFits w64 moves
  unfolding distance_nos
  distance_accepts e =
      let p = passed_both (pair_nos counts from to) _ (sym distance_no ∙ e) in
      let b = accepted_pair counts from to p.0 in
      let q = passed_head _ _ p.1 in
      (b.0, b.1, b.2, numberable counts q.0, far_fits (place_in (book counts) from) (place_in (book counts) to) (passed_head _ _ q.1).0)

  pub distance_accepted : IsStock counts → IsStrip counts from → IsStrip counts to → total counts < 2 ^ 64 → SFits w64 moves → r.refusal.no ≡ 0
  unfolding distance_nos first_of
  distance_accepted stock one two few fits = distance_no ∙ rw (passed_first (pair_nos counts from to) _ (accepted_pair_back counts from to stock one two), many_passed counts few, fits_near (place_in (book counts) from) (place_in (book counts) to) fits)

  pub distance_is : r.refusal.no ≡ 0 → r.moves ≡ moves
  distance_is e = moves_are ∙ unless_passed (pos 0) _ _ (sym distance_no ∙ e)

  pub distance_refused_zero : (r.refusal.no ≡ 0 → ⊥) → r.moves ≡ pos 0
  distance_refused_zero e = moves_are ∙ unless_refused (pos 0) _ _ (λ k. e (distance_no ∙ k))

  -- from a strip to itself it is 0
  pub self_zero : IsStock counts → IsStrip counts from → total counts < 2 ^ 64 → to ≡ from → (r.refusal.no ≡ 0) × (r.moves ≡ pos 0)
  self_zero stock own few e =
      let z : moves ≡ pos 0 = ap (λ (t : List ℕ). pos (place_in (book counts) t) -ℤ pos (place_in (book counts) from)) e ∙ +ℤ_invr (pos (place_in (book counts) from)) in
      let a : r.refusal.no ≡ 0 = distance_accepted stock own (rw e own) few (rw z (record { sfits = omega arith })) in
      (a, distance_is a ∙ z)
