-- Proofs. The parity of a strip's number, kind by kind: the parities of the patterns' indices give it, also where the number is 2^64 or more.
use Prim.Native.Nat.{ℕ, suc, ◌+◌, ◌-◌, ◌≤◌, ◌<◌}
use mathlib.Core.Path.{◌≡◌, refl, ap, ◌∙◌}
use mathlib.Core.Bool.{Bool, true, false, not, ◌&&◌}
use mathlib.Core.List.{List}
use native.Mathlib.Omega.{arith}
use lib.ListN.{length, take}
use Rattle.rules.specs.Stock.{IsStrip}
use Rattle.rules.specs.Book.{odd, reduced, backward}
use Rattle.rules.proofs.Listed.{face, flip}
use Rattle.rules.proofs.Snake.{numbered}
use Rattle.rules.proofs.Books.{number'}
use Rattle.rules.proofs.Strips.{number}
use Rattle.rules.proofs.Numbers.{odd_add, odd_numbered}
use Rattle.rules.proofs.Places.{place_number}
use Rattle.rules.proofs.Reduced.{prefix_strip}

flip_undone : (a b : Bool) → flip (flip a b) a ≡ b
flip_undone false false = refl
flip_undone false true = refl
flip_undone true false = refl
flip_undone true true = refl

-- counted from the back, the patterns before and those after the strip's own are n - 1 together: their number n does not matter
pub odd_index : (n q i : ℕ) → i < n → odd (numbered n q i) ≡ flip (odd q) (odd i)
unfolding odd face
odd_index n q i h = odd_numbered n q i ∙ go (odd q)
  where
    whole : odd n ≡ flip (odd (n - suc i)) (not (odd i))
    whole =
        let e : n ≡ n - suc i + suc i = omega arith in
        ap odd e ∙ odd_add (n - suc i) (suc i)

    go : (b : Bool) → flip (b && odd n) (odd (face b n i)) ≡ flip b (odd i)
    go false = refl
    go true = rw whole (flip_undone (odd (n - suc i)) (not (odd i)))

module _ (counts s : List ℕ) (h : IsStrip counts s) where
  -- a kind runs backward where the number of the reduced strip before it is odd
  pub backward_number : (j : ℕ) → j ≤ length counts → backward counts (suc j) s ≡ odd (number (take j counts) (reduced j s))
  unfolding backward
  backward_number j l =
      let e : suc j - 1 ≡ j = omega arith in
      rw (e, place_number (take j counts) (reduced j s) (prefix_strip counts s h j l))

  pub kind_one_forward : backward counts 1 s ≡ false
  unfolding number number' odd
  kind_one_forward = backward_number 0 (omega arith)
