-- Proofs. The strip that is shown first: strip 0 of the book, whichever is printed.
use Prim.Native.Nat.{ℕ, zero, suc, ◌-◌}
use mathlib.Core.Path.{◌≡◌, sym, ap, ◌∙◌}
use mathlib.Core.Bool.{Bool, true, false}
use mathlib.Core.List.{List, [], ◌++◌}
use native.Mathlib.Omega.{arith}
use lib.ListN.{length, get_or, take, drop, replicate}
use lib.Seq.{length-take-le, take_at}
use Rattle.rules.specs.Stock.{sum, IsStock, IsStrip}
use Rattle.rules.specs.Book.{book, place_in}
use Rattle.rules.proofs.Refusals.{unless_passed}
use Rattle.rules.proofs.Checks.{accepted_buffer_back}
use Rattle.rules.proofs.Strips.{strip_sum}
use Rattle.rules.proofs.Prefixes.{total_some}
use Rattle.rules.proofs.Places.{book_only}
use Rattle.counting.specs.Answers.{first_after}
use Rattle.walker.specs.Walkers.{walker_for}
use Rattle.walker.specs.declared.Walker.{Walker}
use Rattle.showing.specs.declared.Shown.{Shown}
use Rattle.printed.specs.Output.{list_of}
use Rattle.showing.specs.States.{walker_at, shown_at}
use Rattle.printed.proofs.Lines.{first_strip, first_number}
use Rattle.showing.proofs.Showing.{shown_is}

drop_zeros : (n m : ℕ) → ◌≡◌ {A = List ℕ} (drop n (replicate m 0)) (replicate (m - n) 0)
drop_zeros zero m = let e : m - 0 ≡ m = omega arith in rw e
drop_zeros (suc n) zero = let e : 0 - suc n ≡ 0 = omega arith in rw e
drop_zeros (suc n) (suc m) = let e : suc m - suc n ≡ m - n = omega arith in rw e (drop_zeros n m)

-- the walker is that of the first strip
walker_0 : (papers : Bool) (counts : List ℕ) → IsStock counts → walker_at papers counts 0 ≡ walker_for counts (get_or (book counts) 0 [])
unfolding walker_at
walker_0 false counts k = ap (walker_for counts) (first_strip counts false k)
walker_0 true counts k = ap (walker_for counts) (first_strip counts true k)

module _ (counts : List ℕ) (k : IsStock counts) (n : ℕ) (is : n ≡ sum counts) where
  abbrev buffer : List ℕ
  buffer = take n (replicate 64 0)

  pub room : n ≡ length buffer
  room = sym (length-take-le n (replicate 64 0) (omega (arith, k.short)))

  module _ (s : List ℕ) (filled : s ≡ first_after counts buffer) where
    strip_0 : s ≡ get_or (book counts) 0 []
    unfolding first_after
    strip_0 = filled ∙ unless_passed buffer _ _ (accepted_buffer_back counts buffer k (sym room ∙ is))

    own_0 : IsStrip counts s
    own_0 = rw strip_0 (book_only counts 0 (total_some counts))

    pub length_0 : n ≡ length s
    length_0 = is ∙ sym (strip_sum counts s own_0)

    abbrev strip : List ℕ
    strip = s ++ drop n (replicate 64 0)

    pub part_0 : take n strip ≡ s
    part_0 = take_at s _ n (sym length_0)

    pub own_part : IsStrip counts (take n strip)
    own_part = rw part_0 own_0

    pub first_shown : (w : Walker) → w ≡ walker_for counts (take n strip)
        → (papers : Bool) → ◌≡◌ {A = Shown} record { strip = strip; number = 0; index = 0; walker = w } (shown_at papers counts 0)
    first_shown w e papers =
        shown_is papers counts s (drop n (replicate 64 0)) 0 0 w (strip_0 ∙ sym (first_strip counts papers k)) (drop_zeros n 64 ∙ ap (λ (m : ℕ). replicate (64 - m) 0) length_0)
        (sym (ap (place_in (list_of papers counts)) strip_0 ∙ first_number counts papers)) (e ∙ ap (walker_for counts) (part_0 ∙ strip_0) ∙ sym (walker_0 papers counts k))
