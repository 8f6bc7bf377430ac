-- Proofs. The last place of a strip that is like the next: how it is looked for, what a move leaves of it, and what it tells.
use Prim.Native.Nat.{ℕ, suc, ◌-◌, ◌<◌}
use mathlib.Core.Path.{◌≡◌, sym, ◌∙◌}
use mathlib.Core.Bool.{Bool, true, false, not}
use mathlib.Core.List.{List}
use native.Mathlib.Omega.{arith}
use lib.Dec.{eqb}
use lib.ListN.{length, get_or}
use Rattle.rules.specs.Neighbours.{swap}
use Rattle.rules.proofs.Swapped.{swap_length, swap_other}
use Rattle.touching.specs.Apart.{stands_apart}
use Rattle.touching.specs.Places.{FreeBehind, FreeFrom}
use Rattle.touching.proofs.Theorems.{alike_not_apart, apart_panel, endless_apart}

-- ---- a move leaves the places behind the larger one that it changes

pub moved_free : (s : List ℕ) (low high seen : ℕ) → low < high → FreeFrom s seen → FreeBehind (swap 0 s low high) seen high
moved_free s low high seen order f k l m n e =
    let one = swap_other s low high k (λ q. omega arith) (λ q. omega arith) in
    let two = swap_other s low high (suc k) (λ q. omega arith) (λ q. omega arith) in
    f.free k l (omega (arith, swap_length s low high)) (sym one ∙ e ∙ two)

-- ---- what it tells

module _ (s : List ℕ) where
  pub last_touches : (endless : Bool) (i : ℕ) → FreeFrom s i × (0 < i) × (get_or s (i - 1) 0 ≡ get_or s i 0) → false ≡ stands_apart endless s
  last_touches endless i (f, some, alike) =
      let e : suc (i - 1) ≡ i = omega arith in
      sym (alike_not_apart s endless (i - 1) (omega (arith, f.within)) (rw e alike))

  -- a strip with no such place
  module _ (none : FreeFrom s 0) where
    panel : stands_apart false s ≡ true
    panel = apart_panel s (λ i. none.free i (omega arith))

    pub none_on_panel : (endless : Bool) → endless ≡ false → true ≡ stands_apart endless s
    none_on_panel endless e = rw e (sym panel)

    pub none_but_ends : (endless : Bool) → endless ≡ true → not (eqb (get_or s (length s - 1) 0) (get_or s 0 0)) ≡ stands_apart endless s
    none_but_ends endless e = rw e (sym (endless_apart s none.within ∙ rw panel))
