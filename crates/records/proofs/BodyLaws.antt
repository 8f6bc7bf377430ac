-- Proofs. The records of a sheet: the laws of their definitions as the code finds them.
use Prim.Native.Nat.{ℕ, zero, suc, ◌+◌, ◌≤◌, ◌<◌}
use mathlib.Core.Path.{◌≡◌, refl, sym, ap, ◌∙◌}
use mathlib.Core.Bool.{Bool, true, false, ◌&&◌, ◌||◌}
use mathlib.Core.List.{List, [], ◌∷◌, ◌++◌}
use native.Mathlib.Numerals.{add-one}
use native.Mathlib.Omega.{arith}
use borrow.Author.Tests.{eq-eqb, ne_eqb, lt-ltb, le-ltb}
use Rattle.std.specs.List.{list_all}
use Rattle.std.specs.Array.{IsFromFnResultFrom}
use Rattle.std.specs.Fn.{Mut, Called}
use Rattle.std.proofs.Common.{zero-add, add-zero, subst, Option, None, Some, MatchOption}
use lib.Dec.{eqb}
use lib.ListN.{length, get_or, take, replicate}
use lib.Seq.{take-suc, length-take-le}
use Rattle.rules.specs.Book.{same}
use Rattle.rules.specs.Refusals.{fine}
use Rattle.rules.specs.SoldOut.{until_last, used}
use Rattle.rules.proofs.Used.{used_last, used_within}
use Rattle.records.specs.Records.{record_no}

-- ---- a record at a byte

or_true : (b : Bool) → (b || true) ≡ true
or_true false = refl
or_true true = refl

module _ (kind body at : ℕ) (sheet : List ℕ) where
  -- none there, or cut short
  pub record_short : length sheet ≤ at + body → (11, at) ≡ record_no kind body at sheet
  unfolding record_no
  record_short h = rw (lt-ltb (length sheet) (at + 1 + body) (omega arith), or_true)

  pub record_other : (get_or sheet at 0 ≡ kind → ⊥) → (11, at) ≡ record_no kind body at sheet
  unfolding record_no
  record_other h = rw (ne_eqb (get_or sheet at 0) kind h)

  pub record_there : get_or sheet at 0 ≡ kind → at + body < length sheet → fine ≡ record_no kind body at sheet
  unfolding record_no
  record_there e h = rw (eq-eqb (get_or sheet at 0) kind e, le-ltb (length sheet) (at + 1 + body) (omega arith))

-- ---- an array that is made place by place, where each call gives what `gives` says of its place

module _ {F : Type 0} (g : Mut F (ℕ × Unit {0}) ℕ) (f : F) (gives : ℕ → ℕ) (call : (i y : ℕ) (q : F) → Called g f (i, tt) y q → (q ≡ f) × (y ≡ gives i)) (l : List ℕ) where
  made_from : (from n : ℕ) → IsFromFnResultFrom g f l from n → (k : ℕ) → k < n → get_or l (from + k) 0 ≡ gives (from + k)
  made_from from zero made k h = absurd (omega arith)
  made_from from (suc n) made zero h = rw add-zero (made.2.1 0 ∙ (call from made.1 made.0 made.3).1)
  made_from from (suc n) made (suc k) h =
      let rest : IsFromFnResultFrom g f l (from + 1) n = subst (λ (q : F). IsFromFnResultFrom g q l (from + 1) n) (call from made.1 made.0 made.3).0 made.4 in
      let e : from + suc k ≡ from + 1 + k = omega arith in
      rw e (made_from (from + 1) n rest k (omega arith))

  pub made_at : (n : ℕ) → IsFromFnResultFrom g f l 0 n → (k : ℕ) → k < n → get_or l k 0 ≡ gives k
  made_at n made k h = rw zero-add at (made_from 0 n made k h)

-- ---- the counts to the last one that is not 0

-- as many kinds as are used, of the counts
module _ (l : List ℕ) (kinds : ℕ) (is : kinds ≡ length (used l)) where
  pub used_fits : kinds ≤ length l
  used_fits = omega (arith, used_within l)

  pub used_long : kinds ≡ length (take kinds l)
  used_long = sym (length-take-le kinds l used_fits)

-- the place of the last count that is not 0, or that there is none
abbrev pub LastUsed : List ℕ → Option ℕ → Type 0
LastUsed l o = MatchOption o ((k : ℕ) → k < length l → get_or l k 0 ≡ 0)
    (λ i. (i < length l) × (get_or l i 0 ≡ 0 → ⊥) × ((k : ℕ) → i < k → k < length l → get_or l k 0 ≡ 0))

-- counts of which all from `kinds` on are 0
used_to : (l : List ℕ) (kinds : ℕ) → ((k : ℕ) → kinds ≤ k → k < length l → get_or l k 0 ≡ 0) → used l ≡ used (take kinds l)
unfolding used
used_to [] zero h = refl
used_to [] (suc n) h = refl
used_to (x ∷ l) zero h = rw (h 0 (omega arith) (omega arith), used_to l zero (λ k a b. h (suc k) (omega arith) (omega arith)))
used_to (x ∷ l) (suc n) h = ap (until_last x) (used_to l n (λ k a b. h (suc k) (omega arith) (omega arith)))

pub kinds_to_last : (l : List ℕ) (o : Option ℕ) (kinds : ℕ) → LastUsed l o → MatchOption o (kinds ≡ 0) (λ i. kinds ≡ i + 1) → kinds ≡ length (used l)
unfolding used
kinds_to_last l None kinds h e = e ∙ sym (ap length (used_to l 0 (λ k a b. h k b)))
kinds_to_last l (Some i) kinds h e =
    let s : take (i + 1) l ≡ take i l ++ (get_or l i 0 ∷ []) = rw (add-one i) (take-suc l i 0 h.0) in
    let u : used l ≡ take (i + 1) l = used_to l (i + 1) (λ k a b. h.2 k (omega arith) b) ∙ rw s (used_last (take i l) (get_or l i 0) h.1) in
    e ∙ sym (ap length u ∙ length-take-le (i + 1) l (omega (arith, h.0)))

-- ---- bytes that are all 0

abbrev pub zeros : List ℕ → Bool
zeros l = same l (replicate (length l) 0)

pub zeros_all : (l : List ℕ) → list_all (λ b. eqb b 0) l ≡ zeros l
unfolding same
zeros_all [] = refl
zeros_all (x ∷ l) = ap (λ b. eqb x 0 && b) (zeros_all l)
