-- Theorems on strips with no two of a kind touching: on a panel, place by place; on an endless paper, by the panel and the two ends.
use Prim.Native.Nat.{ℕ, zero, suc, ◌-◌, ◌<◌}
use mathlib.Core.Path.{◌≡◌, refl, sym, ap, ◌∙◌}
use mathlib.Core.Bool.{Bool, true, false, not, ◌&&◌, false≢true, and-false, and-true, and_assoc}
use mathlib.Core.List.{List, [], ◌∷◌, ◌++◌}
use native.Mathlib.Omega.{arith}
use borrow.Author.Tests.{eq-eqb, ne_eqb}
use lib.Dec.{eqb}
use lib.ListN.{length, get_or}
use Rattle.papers.specs.Papers.{turned}
use Rattle.touching.specs.Apart.{on_right, unlike, stands_apart}

-- ---- on a panel: no place is like the next

alike_panel : (s : List ℕ) (i : ℕ) → suc i < length s → get_or s i 0 ≡ get_or s (suc i) 0 → stands_apart false s ≡ false
unfolding stands_apart on_right unlike
alike_panel [] i l e = absurd (omega arith)
alike_panel (x ∷ []) i l e = absurd (omega arith)
alike_panel (x ∷ y ∷ s) zero l e = rw (eq-eqb x y e)
alike_panel (x ∷ y ∷ s) (suc i) l e = rw (alike_panel (y ∷ s) i (omega arith) e) (and-false (not (eqb x y)))

pub panel_apart : (s : List ℕ) → stands_apart false s ≡ true → (i : ℕ) → suc i < length s → get_or s i 0 ≡ get_or s (suc i) 0 → ⊥
panel_apart s h i l e = false≢true (sym (alike_panel s i l e) ∙ h)

pub apart_panel : (s : List ℕ) → ((i : ℕ) → suc i < length s → get_or s i 0 ≡ get_or s (suc i) 0 → ⊥) → stands_apart false s ≡ true
unfolding stands_apart on_right unlike
apart_panel [] h = refl
apart_panel (x ∷ []) h = refl
apart_panel (x ∷ y ∷ s) h = rw (ne_eqb x y (h 0 (omega arith))) (apart_panel (y ∷ s) (λ i l. h (suc i) (omega arith)))

-- ---- on an endless paper: none on the panel, and the last place is not like the first

ends_too : (x : ℕ) (s : List ℕ) (y : ℕ) → unlike (x ∷ s) (s ++ (y ∷ [])) ≡ (unlike (x ∷ s) s && not (eqb (get_or (x ∷ s) (length s) 0) y))
unfolding unlike
ends_too x [] y = and-true (not (eqb x y))
ends_too x (z ∷ s) y = ap (λ (b : Bool). not (eqb x z) && b) (ends_too z s y) ∙ sym (and_assoc (not (eqb x z)) (unlike (z ∷ s) s) (not (eqb (get_or (z ∷ s) (length s) 0) y)))

pub endless_apart : (s : List ℕ) → 0 < length s → stands_apart true s ≡ (stands_apart false s && not (eqb (get_or s (length s - 1) 0) (get_or s 0 0)))
unfolding stands_apart on_right turned
endless_apart [] some = absurd (omega arith)
endless_apart (x ∷ s) some =
    let e : suc (length s) - 1 ≡ length s = omega arith in
    ends_too x s x ∙ rw e

-- two neighbours alike: neither is such
pub alike_not_apart : (s : List ℕ) (endless : Bool) (i : ℕ) → suc i < length s → get_or s i 0 ≡ get_or s (suc i) 0 → stands_apart endless s ≡ false
alike_not_apart s false i l e = alike_panel s i l e
alike_not_apart s true i l e = endless_apart s (omega arith) ∙ rw (alike_panel s i l e)

-- a strip of one block: on a panel it has no neighbour, on an endless paper itself
pub one_block : (x : ℕ) → (stands_apart false (x ∷ []) ≡ true) × (stands_apart true (x ∷ []) ≡ false)
unfolding stands_apart on_right turned unlike
one_block x = (refl, rw (eq-eqb x x refl))

-- the two ends count on an endless paper alone, and so does the one block of a strip
pub ends : (stands_apart false (1 ∷ 2 ∷ 1 ∷ []) ≡ true) × (stands_apart true (1 ∷ 2 ∷ 1 ∷ []) ≡ false) × (stands_apart true (1 ∷ 2 ∷ 1 ∷ 2 ∷ []) ≡ true) × (stands_apart false (1 ∷ 2 ∷ 2 ∷ 1 ∷ []) ≡ false)
    × (stands_apart false (1 ∷ []) ≡ true) × (stands_apart true (1 ∷ []) ≡ false)
unfolding stands_apart on_right unlike turned
ends = (refl, refl, refl, refl, refl, refl)
