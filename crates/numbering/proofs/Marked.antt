-- Proofs. The marked last strip of document 01: of counts 30 31 1, thirty-one 2s, thirty 1s, one 3.
use Prim.Native.Nat.{ℕ}
use mathlib.Core.Path.{◌≡◌, refl, sym, ap, ◌∙◌}
use mathlib.Core.Bool.{true, false}
use mathlib.Core.List.{List, [], ◌∷◌, ◌++◌}
use native.Mathlib.Omega.{arith}
use lib.ListN.{length, get_or, replicate}
use contract.Lifetimes.{Lfts}
use borrow.Fn.Kinds.{Dens, ended_of}
use denote.Triple.Clauses.{AtExit}
use Rattle.rules.specs.Stock.{sum, product, total, IsStock}
use Rattle.rules.specs.Book.{book, odd}
use Rattle.rules.specs.Refusals.{first_of, stock_nos}
use Rattle.rules.proofs.Checks.{accepted}
use Rattle.rules.proofs.Strips.{total_one}
use Rattle.rules.proofs.Numbers.{odd_rest}
use Rattle.rules.proofs.Neighbours.{last_to, last_strip}
use Rattle.stock.specs.declared.Refusal.{Refusal}
use Rattle.counting.proofs.Marked.{total_30_31, total_30_31_1}
use Rattle.numbering.proofs.Right.{StripRight}
use Rattle.numbering.proofs.Theorems.{strip_right}
use Rattle.numbering.proofs.strip.strip.Kinds as strip
use Rattle.numbering.proofs.strip.strip.Reads as strip_reads

abbrev pub marked : List ℕ
marked = 30 ∷ 31 ∷ 1 ∷ []

abbrev pub marked_last : List ℕ
marked_last = replicate 31 2 ++ (replicate 30 1 ++ 3 ∷ [])

-- the strips of no kind and of kind 1 are one, an odd number; those of 30 31 are even in number
odd_none : odd (total []) ≡ true
unfolding odd total product
odd_none = refl

odd_one : odd (total (30 ∷ [])) ≡ true
unfolding odd
odd_one = ap odd (total_one 30)

even_two : odd (total (30 ∷ 31 ∷ [])) ≡ false
even_two = ap odd total_30_31 ∙ sym (odd_rest 232714176627630544)

pub marked_last_lem : get_or (book marked) 14428278950913093727 [] ≡ marked_last
unfolding last_to
marked_last_lem = rw total_30_31_1 at (last_strip marked) ∙ rw (odd_none, odd_one, even_two)

marked_stock : IsStock marked
unfolding stock_nos first_of sum
marked_stock = accepted marked refl

-- whatever Strip answers for the last number and a buffer of 62 bytes
pub strip_30_31_1 : (κs : Lfts 2) (a : Dens κs strip.ps) (r : Refusal) (s : AtExit (ended_of 2 strip.ps strip.r) κs) → strip_reads.Post κs a r s
    → a.0.now ≡ marked → a.1.0 ≡ 14428278950913093727 → length a.1.1.0.now ≡ 62 → (r.no ≡ 0) × (s.1.1.0.now ≡ marked_last)
unfolding sum
strip_30_31_1 κs a r s h e f l =
    let right : StripRight (book marked) marked 14428278950913093727 a.1.1.0.now s.1.1.0.now r.no = rw (e, f) at (strip_right κs a r s h) in
    let none = right.accepted marked_stock l (rw total_30_31_1 (omega arith)) (rw total_30_31_1 (omega arith)) in
    (none, right.written none ∙ marked_last_lem)
