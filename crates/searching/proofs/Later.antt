-- Proofs. The strips of a list that come later than one of them.
use Prim.Native.Nat.{ℕ, suc, ◌+◌, ◌-◌, ◌<◌}
use mathlib.Core.Path.{◌≡◌, sym, ap, ◌∙◌}
use mathlib.Core.List.{List, []}
use native.Mathlib.Omega.{arith}
use lib.ListN.{length, get_or, drop, length-drop}
use lib.Seq.{get_or-drop, drop-drop}
use Rattle.rules.specs.Book.{place_in}
use Rattle.searching.specs.Searching.{later}

module _ (list : List (List ℕ)) (s : List ℕ) where
  -- the place of s
  abbrev at : ℕ
  at = place_in list s

  pub later_many : length (later list s) ≡ length list - (at + 1)
  unfolding later
  later_many = length-drop (at + 1) list

  -- strip m of them, from 0, is m + 1 places on
  pub later_at : (m : ℕ) → get_or (later list s) m [] ≡ get_or list (at + suc m) []
  unfolding later
  later_at m =
      let e : at + 1 + m ≡ at + suc m = omega arith in
      get_or-drop (at + 1) list m [] ∙ rw e

  -- a strip of the list with a larger place is one of them
  pub larger_later : (t : List ℕ) → place_in list t < length list → at < place_in list t → (m : ℕ) × (m < length (later list s)) × (place_in list t ≡ at + suc m) × (get_or (later list s) m [] ≡ get_or list (place_in list t) [])
  larger_later t l k =
      let e : at + suc (place_in list t - at - 1) ≡ place_in list t = omega arith in
      (place_in list t - at - 1, omega (arith, later_many), sym e, later_at (place_in list t - at - 1) ∙ rw e)

  -- where each strip of the list stands at its own place alone
  module _ (own : (i : ℕ) → i < length list → place_in list (get_or list i []) ≡ i) (m : ℕ) (l : m < length (later list s)) where
    pub later_place : place_in list (get_or (later list s) m []) ≡ at + suc m
    later_place = ap (place_in list) (later_at m) ∙ own (at + suc m) (omega (arith, later_many))

    -- what comes later than a later strip is what comes behind it
    pub later_later : later list (get_or (later list s) m []) ≡ drop (suc m) (later list s)
    unfolding later
    later_later =
        let e : at + suc m + 1 ≡ at + 1 + suc m = omega arith in
        ap (λ (p : ℕ). drop (p + 1) list) later_place ∙ rw e (sym (drop-drop (suc m) (at + 1) list))
