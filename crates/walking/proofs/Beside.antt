-- Proofs. The move from a strip leads to the strip beside it in the book, and there is none exactly where refusal 9 says so.
use Prim.Native.Nat.{ℕ, ◌<◌}
use mathlib.Core.Path.{◌≡◌}
use mathlib.Core.Bool.{Bool}
use mathlib.Core.Option.{Option, none, some}
use mathlib.Core.List.{List, reverse}
use native.Mathlib.Decide.{ℕ_discrete}
use native.Mathlib.Omega.{arith}
use borrow.Author.Tests.{eq-eqb, ne_eqb}
use Rattle.rules.specs.Stock.{total, IsStrip}
use Rattle.rules.specs.Book.{book, place_in}
use Rattle.rules.specs.Refusals.{fine}
use Rattle.rules.proofs.Walk.{Move, Leads}
use Rattle.rules.proofs.Strips.{move_of, leads, no_move}
use Rattle.rules.proofs.Places.{place_number, place_below, book_only}
use Rattle.walking.specs.Answers.{shifted, along, left_along, beside, end_no}
use Rattle.walking.proofs.Numbers.{shifted_below, none_ahead, some_ahead}

-- what refusal 9 says of a strip, and where it does not refuse, that the move leads to the strip beside
abbrev pub Outcome : Bool → List ℕ → List ℕ → Option Move → Type 0
Outcome d counts s none = end_no d counts s ≡ (9, 0)
Outcome d counts s (some m) = (end_no d counts s ≡ fine) × IsStrip counts (beside d counts s) × Leads (reverse counts) s (beside d counts s) (some m)

module _ (counts s : List ℕ) (h : IsStrip counts s) (d : Bool) where
  some_move : (o : Option Move) → end_no d counts s ≡ fine → IsStrip counts (beside d counts s) → Leads (reverse counts) s (beside d counts s) o → Outcome d counts s o
  some_move none e k m = let z : ◌≡◌ {A = ℕ} 0 1 = cc m.is in absurd (omega arith)
  some_move (some o) e k m = (e, k, m)

  pub outcome : Outcome d counts s (move_of d counts s)
  unfolding along end_no left_along
  outcome =
      let low = place_below counts s h in
      let at = place_number counts s h in
      elim (ℕ_discrete (left_along d counts s) 0) [
        | yes e ↦ rw (no_move counts s h d (rw (← at) (none_ahead d (total counts) (place_in (book counts) s) low e)), eq-eqb (left_along d counts s) 0 e)
        | no e ↦
            let l : 0 < left_along d counts s = omega arith in
            let i = shifted d (place_in (book counts) s) 1 in
            let k = shifted_below (total counts) (place_in (book counts) s) 1 low d l in
            some_move (move_of d counts s) (rw (ne_eqb (left_along d counts s) 0 e)) (book_only counts i k) (leads counts s h d i k (rw (← at) (some_ahead d (total counts) (place_in (book counts) s) l)))
      ]
