-- Proofs. The smallest kind at which two walkers differ: a loop that looks for it, and that two walkers that differ nowhere are the same.
use Prim.Native.Nat.{ℕ, zero, suc, ◌+◌, ◌≤◌, ◌<◌}
use mathlib.Core.Path.{◌≡◌, refl, sym, ap, ◌∙◌}
use mathlib.Core.Bool.{Bool, true, false, not, beq}
use mathlib.Core.List.{List, [], ◌∷◌, ◌++◌}
use native.Mathlib.Numerals.{add-one}
use native.Mathlib.Omega.{arith}
use borrow.Author.Tests.{not-true, not-false}
use lib.ListN.{length, get_or, drop, set, drop_of_length-le}
use lib.Seq.{drop-cons}
use Rattle.rules.specs.Stock.{IsStock, IsStrip}
use Rattle.rules.specs.Refusals.{fine, at_place, first_of, check_nos}
use Rattle.rules.proofs.Refusals.{at_place_lem, passed_first, passed_both, end_is, row_is, both_is, place_is}
use Rattle.rules.proofs.Checks.{at_passed, passed_head, accepted_both, accepted_both_back, check_to_six}
use Rattle.std.specs.Prelude.{Some, None}
use Rattle.stock.specs.Places.{found_at}
use Rattle.stock.proofs.Places.{is_found, is_nowhere}
use Rattle.stock.proofs.Told.{passed_next}
use Rattle.walker.specs.declared.Walker.{Walker}
use Rattle.walker.specs.Walkers.{walker_for, alike, differing_from, walker_no, walker_nos}
use Rattle.walker.proofs.ByKind.{walker_to_lem, to_long}

alike_is : (a b : Bool) → alike a b ≡ beq a b
alike_is false false = refl
alike_is false true = refl
alike_is true false = refl
alike_is true true = refl

module _ (a b : Bool) where
  unlike : not (beq a b) ≡ true → alike a b ≡ false
  unlike t = alike_is a b ∙ not-true (beq a b) t

  like : not (beq a b) ≡ false → alike a b ≡ true
  like t = alike_is a b ∙ not-false (beq a b) t

-- ---- a loop that looks for it

-- i kinds are passed, and the smallest kind at which the whole lists differ is that at which the rests do
pub record Compared (d e : List Bool) (i : ℕ) : Type 0 where
  pub passed : i ≤ 16
  pub rest : differing_from (i + 1) (drop i d) (drop i e) ≡ differing_from 1 d e

pub start : (d e : List Bool) → Compared d e 0
start d e = record { passed = omega arith; rest = refl }

module _ (d e : List Bool) (k : length d ≡ 16) (l : length e ≡ 16) (i : ℕ) (c : Compared d e i) where
  module _ (h : i < 16) where
    one : differing_from (i + 1) (get_or d i false ∷ drop (suc i) d) (get_or e i false ∷ drop (suc i) e) ≡ differing_from 1 d e
    one = rw (drop-cons d i false (omega arith), drop-cons e i false (omega arith)) at c.rest

    pub here : not (beq (get_or d i false) (get_or e i false)) ≡ true → i + 1 ≡ differing_from 1 d e
    unfolding differing_from
    here t = rw (unlike (get_or d i false) (get_or e i false) t) at one

    pub on : not (beq (get_or d i false) (get_or e i false)) ≡ false → Compared d e (i + 1)
    unfolding differing_from
    on t = record { passed = omega arith; rest = rw (add-one (i + 1), add-one i) (rw (like (get_or d i false) (get_or e i false) t, add-one i) at one) }

  pub end : 16 ≤ i → 0 ≡ differing_from 1 d e
  unfolding differing_from
  end h = rw (drop_of_length-le d {i = i} (omega arith)) at c.rest

-- ---- walkers that differ nowhere

differ_nowhere : (j : ℕ) (d e : List Bool) → length d ≡ length e → differing_from (suc j) d e ≡ 0 → d ≡ e
unfolding differing_from
differ_nowhere j [] [] k h = refl
differ_nowhere j [] (c ∷ e) k h = absurd (omega arith)
differ_nowhere j (b ∷ d) [] k h = absurd (omega arith)
differ_nowhere j (false ∷ d) (false ∷ e) k h = ap (λ (d : List Bool). false ∷ d) (differ_nowhere (suc j) d e (omega arith) h)
differ_nowhere j (false ∷ d) (true ∷ e) k h = absurd (omega arith)
differ_nowhere j (true ∷ d) (false ∷ e) k h = absurd (omega arith)
differ_nowhere j (true ∷ d) (true ∷ e) k h = ap (λ (d : List Bool). true ∷ d) (differ_nowhere (suc j) d e (omega arith) h)

differ_self : (j : ℕ) (d : List Bool) → differing_from j d d ≡ 0
unfolding differing_from
differ_self j [] = refl
differ_self j (false ∷ d) = differ_self (suc j) d
differ_self j (true ∷ d) = differ_self (suc j) d

module _ (counts s : List ℕ) where
  -- a walker that 10 does not refuse is the one that Open gives
  pub walker_passed : (w : Walker) → length w.back ≡ 16 → (walker_no counts s w).0 ≡ 0 → w ≡ walker_for counts s
  unfolding walker_no
  walker_passed w l h =
      let k : length (walker_for counts s).back ≡ 16 = rw (walker_to_lem counts s) (to_long counts s (length counts)) in
      ap (λ (d : List Bool). record { back = d }) (differ_nowhere 0 w.back (walker_for counts s).back (l ∙ sym k) (at_passed 9 _ h))

  -- and that one is not refused
  pub walker_accepted : walker_no counts s (walker_for counts s) ≡ fine
  unfolding walker_no
  walker_accepted = rw (differ_self 1 (walker_for counts s).back)

-- a stock, a strip and a walker that pass 1 to 6 and 10
pub accepted_walker : (counts s : List ℕ) (w : Walker) → length w.back ≡ 16 → (first_of (check_nos counts s ++ (walker_no counts s w ∷ []))).0 ≡ 0
    → IsStock counts × IsStrip counts s × (w ≡ walker_for counts s)
accepted_walker counts s w l h =
    let p = passed_both (check_nos counts s) (walker_no counts s w ∷ []) h in
    let b = accepted_both counts s p.0 in
    (b.0, b.1, walker_passed counts s w l (passed_head (walker_no counts s w) [] p.1).0)

pub accepted_walker_back : (counts s : List ℕ) (w : Walker) → IsStock counts → IsStrip counts s → w ≡ walker_for counts s → first_of (walker_nos counts s w) ≡ fine
unfolding first_of
accepted_walker_back counts s w k h v = passed_first (check_nos counts s) (walker_no counts s w ∷ []) (accepted_both_back counts s k h) ∙ rw (v, walker_accepted counts s)

-- one wrong direction, whatever the kind: 10 at that kind
differ_one : (p : ℕ) (d : List Bool) (j : ℕ) → j < length d → differing_from p (set d j (not (get_or d j false))) d ≡ p + j
unfolding differing_from
differ_one p [] j h = absurd (omega arith)
differ_one p (false ∷ d) zero h = omega arith
differ_one p (true ∷ d) zero h = omega arith
differ_one p (false ∷ d) (suc j) h = differ_one (suc p) d j (omega arith) ∙ omega arith
differ_one p (true ∷ d) (suc j) h = differ_one (suc p) d j (omega arith) ∙ omega arith

pub one_wrong : (counts s : List ℕ) (j : ℕ) → IsStock counts → IsStrip counts s → j < 16
    → let d = (walker_for counts s).back in first_of (walker_nos counts s (record { back = set d j (not (get_or d j false)) })) ≡ (10, suc j)
unfolding walker_no
one_wrong counts s j k h l =
    let d = (walker_for counts s).back in
    let long : length d ≡ 16 = rw (walker_to_lem counts s) (to_long counts s (length counts)) in
    let e : differing_from 1 (set d j (not (get_or d j false))) d ≡ suc j = differ_one 1 d j (omega arith) ∙ omega arith in
    passed_first (check_nos counts s) _ (accepted_both_back counts s k h) ∙ at_place_lem 9 [] _ (λ z. omega (arith, e, z)) ∙ ap (λ (p : ℕ). (10, p)) e

-- none of 1 to 6 and 10 is 9
abbrev NotNine : ℕ → Type 0
NotNine n = n ≡ 9 → ⊥

none : NotNine 0
none e = omega arith

ten_not_nine : (counts s : List ℕ) (w : Walker) → NotNine (walker_no counts s w).0
unfolding walker_no
ten_not_nine counts s w = place_is NotNine none 10 (λ e. omega arith) (differing_from 1 w.back (walker_for counts s).back)

pub never_nine : (counts s : List ℕ) (w : Walker) → (first_of (walker_nos counts s w)).0 ≡ 9 → ⊥
never_nine counts s w =
    both_is NotNine none (check_nos counts s) (walker_no counts s w ∷ []) (λ e. omega (arith, check_to_six counts s))
    (row_is NotNine none (walker_no counts s w) [] (ten_not_nine counts s w) (end_is NotNine none))

-- ---- 10, after 1 to 6, as a check finds it: the stock and the strip are accepted, and `right` is the walker of the strip

module _ (counts s : List ℕ) (w : Walker) (h : fine ≡ first_of (check_nos counts s)) (right : Walker) (is : right ≡ walker_for counts s) where
  ten : first_of (at_place 10 (differing_from 1 w.back right.back) ∷ []) ≡ first_of (walker_no counts s w ∷ [])
  unfolding walker_no
  ten = rw is

  pub walker_wrong : (kind : ℕ) → Some kind ≡ found_at (differing_from 1 w.back right.back) → (10, kind) ≡ first_of (walker_nos counts s w)
  walker_wrong kind f =
      let e = is_found _ kind f in
      passed_next (check_nos counts s) (walker_no counts s w ∷ []) h (10, kind) (ap (λ (p : ℕ). (10, p)) e.0 ∙ sym (at_place_lem 9 [] _ (λ z. e.1 (e.0 ∙ z))) ∙ ten)

  pub walker_fine : None ≡ found_at (differing_from 1 w.back right.back) → fine ≡ first_of (walker_nos counts s w)
  unfolding first_of
  walker_fine f = passed_next (check_nos counts s) (walker_no counts s w ∷ []) h fine (rw (is_nowhere _ f) at ten)
