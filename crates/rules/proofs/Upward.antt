-- Proofs. A loop that goes up the kinds of a strip and keeps one bit, whether the number of the reduced strip is odd: j kinds are done, which have `below` blocks.
use Prim.Native.Nat.{ℕ, ◌+◌, ◌≤◌, ◌<◌}
use mathlib.Core.Path.{◌≡◌, refl, sym, ap, ◌∙◌}
use mathlib.Core.Bool.{Bool, false, not, beq}
use mathlib.Core.List.{List}
use native.Mathlib.Omega.{arith}
use lib.ListN.{length, get_or, take}
use Rattle.rules.specs.Stock.{sum, binom, IsStock, IsStrip}
use Rattle.rules.specs.Book.{odd, reduced}
use Rattle.rules.proofs.Listed.{differs}
use Rattle.rules.proofs.Snake.{numbered}
use Rattle.rules.proofs.Books.{number'}
use Rattle.rules.proofs.Turned.{sum_next}
use Rattle.rules.proofs.Strips.{number}
use Rattle.rules.proofs.Index.{rests, index}
use Rattle.rules.proofs.Prefixes.{OneMore, one_more, one_kind_first}
use Rattle.rules.proofs.Parity as parity

pub record Upward (counts s : List ℕ) (before : Bool) (below j : ℕ) : Type 0 where
  pub done : j ≤ length counts
  pub blocks : below ≡ sum (take j counts)
  pub parity : odd (number (take j counts) (reduced j s)) ≡ before

-- before any kind, and with kind 1 done
pub start : (counts s : List ℕ) → Upward counts s false 0 0
unfolding sum number number' odd
start counts s = record { done = omega arith; blocks = refl; parity = refl }

pub start_one : (counts s : List ℕ) → IsStock counts → IsStrip counts s → Upward counts s false (get_or counts 0 0) 1
unfolding odd sum
start_one counts s stock strip = record { done = stock.some; blocks = omega (arith, sum_next counts 0 stock.some); parity = ap odd (one_kind_first counts s strip stock.some) }

-- the parity, with one kind more
odd_next : (before odd_index : Bool) (n q i : ℕ) → i < n → odd q ≡ before → odd_index ≡ odd i → not (beq before odd_index) ≡ odd (numbered n q i)
odd_next before odd_index n q i h e f = rw (f, ← e) (differs (odd q) (odd i) ∙ sym (parity.odd_index n q i h))

module _ {counts s : List ℕ} {before : Bool} {below j : ℕ} (u : Upward counts s before below j) (strip : IsStrip counts s) (h : j < length counts) where
  more : OneMore counts s j (j + 1)
  more = one_more counts s strip j h

  -- the blocks of the kinds before are the letters R of the next kind's pattern
  pub others : below ≡ rests (j + 1) (reduced (j + 1) s)
  others = u.blocks ∙ sym more.others

  pub on : {n : ℕ} {odd_index : Bool} → n ≡ length (reduced (j + 1) s) → odd_index ≡ odd (index (j + 1) (reduced (j + 1) s)) → Upward counts s (not (beq before odd_index)) n (j + 1)
  on {n} {odd_index} n_is index_is = record {
    done = omega arith;
    blocks = n_is ∙ more.letters;
    parity = sym (odd_next before odd_index (binom (sum (take (j + 1) counts)) (sum (take j counts))) (number (take j counts) (reduced j s)) (index (j + 1) (reduced (j + 1) s)) more.within u.parity index_is ∙ ap odd more.next);
  }
