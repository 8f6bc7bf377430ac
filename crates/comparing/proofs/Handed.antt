-- Proofs. The lent strip that Earlier hands back, by what Which answers: 0 is a refusal, and nothing else is.
use Prim.Native.Nat.{ℕ, zero, suc}
use mathlib.Core.Path.{◌≡◌, refl, sym, ap, ◌∙◌}
use mathlib.Core.List.{List}
use native.Mathlib.Omega.{arith}
use Rattle.rules.specs.Book.{book, place_in}
use Rattle.rules.specs.Refusals.{No, fine, first_of, unless, pair_nos}
use Rattle.std.specs.Prelude.{Option, Some, None}
use Rattle.stock.specs.declared.refused.Refused.{Refused}
use Rattle.stock.specs.Refused.{no_of}
use Rattle.comparing.specs.Order.{which_of}
use Rattle.comparing.specs.declared.order.Parting.{Parting}
use Rattle.comparing.specs.declared.which.Compared.{Compared}
use Rattle.comparing.specs.Answers.{Lent, EmptyPart, named, IsEarlier, as_compared, which_answer}
use Rattle.comparing.specs.Parted.{which_number, kind_number}
use Rattle.comparing.proofs.Numbers.{which_some, ahead_range}

-- a value that is never 0, or 0 where refused: it tells whether the call was refused
module _ (A B : Type 0) (v w : ℕ) (some : v ≡ 0 → ⊥) where
  told_refused : (p : No) → w ≡ unless p 0 v → w ≡ 0 → A → unless p A B
  told_refused (zero, p) e h a = absurd (some (sym e ∙ h))
  told_refused (suc n, p) e h a = a

  told_passed : (p : No) → w ≡ unless p 0 v → (w ≡ 0 → ⊥) → (w ≡ v → B) → unless p A B
  told_passed (zero, p) e h b = b e
  told_passed (suc n, p) e h b = absurd (h e)

module _ (counts : List ℕ) (first second : Lent) where
  abbrev pub order : ℕ
  order = which_of (place_in (book counts) first.now) (place_in (book counts) second.now)

  abbrev pub refused : No
  refused = first_of (pair_nos counts first.now second.now)

  -- a refusal
  module _ (e : Refused) (is : as_compared (no_of e) 0 0 ≡ which_answer counts first.now second.now) where
    pub handed_none : (r : Lent) → EmptyPart first r → IsEarlier counts first second r
    unfolding IsEarlier which_answer
    handed_none r = told_refused (EmptyPart first r) (r ≡ named order first second) order 0 (which_some _ _) refused (ap (λ (r : Compared). r.which) is) refl

  -- or which stands ahead, which is never 0
  some : (parted : Option Parting) → which_number parted ≡ 0 → ⊥
  some (Some p) h = omega (arith, ahead_range p.ahead, h)
  some None h = absurd (omega arith)

  pub handed_named : (parted : Option Parting) → as_compared fine (which_number parted) (kind_number parted) ≡ which_answer counts first.now second.now → (r : Lent) → r ≡ named (which_number parted) first second → IsEarlier counts first second r
  unfolding IsEarlier which_answer
  handed_named parted is r e = told_passed (EmptyPart first r) (r ≡ named order first second) order (which_number parted) (which_some _ _) refused (ap (λ (r : Compared). r.which) is) (some parted) (λ f. rw f at e)
