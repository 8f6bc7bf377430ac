-- Proofs. Which of two words has its pattern first in a list, read letter by letter from their ends: a letters are left, in which alone they can differ.
use Prim.Native.Nat.{ℕ, suc, ◌+◌, ◌-◌, ◌≤◌, ◌<◌}
use mathlib.Core.Path.{◌≡◌, refl, sym, ◌∙◌}
use mathlib.Core.Bool.{Bool, true, false, not, beq, false≢true}
use mathlib.Core.List.{List, ◌∷◌}
use native.Mathlib.Omega.{arith}
use lib.Dec.{eqb}
use lib.ListN.{length, get_or}
use lib.Seq.{take_all}
use Rattle.rules.specs.Stock.{binom}
use Rattle.rules.specs.Book.{K, R, Word, letter, pattern}
use Rattle.rules.specs.Refusals.{pick}
use Rattle.rules.proofs.Listed.{like, face, face_lt}
use Rattle.rules.proofs.Patterns.{count_r, rank, listed_l}
use Rattle.rules.proofs.Index.{index, rests, rests_turned}
use Rattle.rules.proofs.LettersLeft.{letters_left, left_whole, left_long, left_letter}
use Rattle.comparing.specs.Order.{which_of}
use Rattle.comparing.specs.Along.{which_along}
use Rattle.comparing.proofs.Numbers.{which_first, which_second, which_equal, which_as}

-- ---- two places of a list that is moved, or turned round

which_moved : (n x y : ℕ) → which_of (n + x) (n + y) ≡ which_of x y
which_moved n x y = which_as (n + x) (n + y) x y (λ h. omega arith) (λ h. omega arith) (λ h. omega arith)

which_back : (n x y : ℕ) → x < n → y < n → which_of (n - suc x) (n - suc y) ≡ which_of y x
which_back n x y h k = which_as (n - suc x) (n - suc y) y x (λ l. omega arith) (λ l. omega arith) (λ l. omega arith)

pub along_moved : (b : Bool) (n x y : ℕ) → which_along b (n + x) (n + y) ≡ which_along b x y
along_moved false n x y = which_moved n x y
along_moved true n x y = which_moved n y x

pub along_faced : (b t : Bool) (n x y : ℕ) → x < n → y < n → which_along b (face t n x) (face t n y) ≡ which_along (not (beq b t)) x y
unfolding face
along_faced false false n x y h k = refl
along_faced true false n x y h k = refl
along_faced false true n x y h k = which_back n x y h k
along_faced true true n x y h k = which_back n y x k h

-- ---- two words of as many letters, last letter first

module _ (p q : Word) (long : length p ≡ length q) (turned heading : Bool) where
  along_k : count_r p ≡ count_r q → which_along heading (rank turned (K ∷ p)) (rank turned (K ∷ q)) ≡ which_along (not (beq heading turned)) (rank false p) (rank false q)
  unfolding rank
  along_k e =
      let n = listed_l false (length q) (count_r q) in
      rw (long, e) (along_faced heading turned (binom (length q) (count_r q)) (rank false p) (rank false q) (n.below p (long, e)) (n.below q (refl, refl)))

  along_r : count_r p ≡ count_r q → which_along heading (rank turned (R ∷ p)) (rank turned (R ∷ q)) ≡ which_along heading (rank (not turned) p) (rank (not turned) q)
  unfolding rank
  along_r e = rw (long, e) (along_moved heading (binom (length q) (suc (count_r q))) (rank (not turned) p) (rank (not turned) q))

  k_before_r : count_r p ≡ suc (count_r q) → rank turned (K ∷ p) < rank turned (R ∷ q)
  unfolding rank
  k_before_r e =
      let n = binom (length q) (suc (count_r q)) in
      let l : face turned n (rank false p) < n = face_lt turned n (rank false p) ((listed_l false (length q) (suc (count_r q))).below p (long, e)) in
      rw (long, e) (omega arith)

-- where the next letters differ
along_parts : (own other : Bool) (p q : Word) → length p ≡ length q → count_r (letter own ∷ p) ≡ count_r (letter other ∷ q) → (turned heading : Bool)
    → not (beq own other) ≡ true → pick (beq own heading) 2 1 ≡ which_along heading (rank turned (letter own ∷ p)) (rank turned (letter other ∷ q))
along_parts true true p q long e turned heading h = absurd (false≢true h)
along_parts false false p q long e turned heading h = absurd (false≢true h)
along_parts true false p q long e turned false h = sym (which_first _ _ (k_before_r p q long turned false e))
along_parts true false p q long e turned true h = sym (which_second _ _ (k_before_r p q long turned true e))
along_parts false true p q long e turned false h = sym (which_second _ _ (k_before_r q p (sym long) turned false (sym e)))
along_parts false true p q long e turned true h = sym (which_first _ _ (k_before_r q p (sym long) turned true (sym e)))

-- ---- the loop

pub record Letters (j : ℕ) (v w : List ℕ) (back : Bool) (a : ℕ) (turned heading : Bool) : Type 0 where
  pub left : a ≤ length v
  pub long : length v ≡ length w
  pub rest : count_r (letters_left j v a) ≡ count_r (letters_left j w a)
  pub order : which_along heading (rank turned (letters_left j v a)) (rank turned (letters_left j w a)) ≡ which_along back (index j v) (index j w)

pub start : (j : ℕ) (v w : List ℕ) (back : Bool) → length v ≡ length w → rests j v ≡ rests j w → Letters j v w back (length v) false back
start j v w back e r = record {
  left = omega arith;
  long = e;
  rest = rw (take_all (length v) v (omega arith), take_all (length v) w (omega arith), ← rests_turned j v, ← rests_turned j w) r;
  order = rw (left_whole j v, left_whole j w, e);
}

module _ {j : ℕ} {v w : List ℕ} {back : Bool} {a : ℕ} {turned heading : Bool} (s : Letters j v w back (suc a) turned heading) where
  abbrev own : Bool
  own = eqb (get_or v a 0) j

  abbrev other : Bool
  other = eqb (get_or w a 0) j

  abbrev p : Word
  p = letters_left j v a

  abbrev q : Word
  q = letters_left j w a

  v_next : letters_left j v (suc a) ≡ letter own ∷ p
  v_next = left_letter j v a s.left

  w_next : letters_left j w (suc a) ≡ letter other ∷ q
  w_next = left_letter j w a (omega (arith, s.left, s.long))

  as_long : length p ≡ length q
  as_long = left_long j v a (omega (arith, s.left)) ∙ sym (left_long j w a (omega (arith, s.left, s.long)))

  rest_next : count_r (letter own ∷ p) ≡ count_r (letter other ∷ q)
  rest_next = rw (v_next, w_next) at s.rest

  order_next : which_along heading (rank turned (letter own ∷ p)) (rank turned (letter other ∷ q)) ≡ which_along back (index j v) (index j w)
  order_next = rw (v_next, w_next) at s.order

  parted : not (beq own other) ≡ true → pick (beq own heading) 2 1 ≡ which_along back (index j v) (index j w)
  parted h = along_parts own other p q as_long rest_next turned heading h ∙ order_next

  module _ (h : not (beq own other) ≡ false) where
    both_k : own ≡ true → Letters j v w back a false (not (beq heading turned))
    both_k k =
        let o : other ≡ true = sym (like own other h) ∙ k in
        let r : count_r p ≡ count_r q = rw (k, o) at rest_next in
        record { left = omega (arith, s.left); long = s.long; rest = r; order = sym (along_k p q as_long turned heading r) ∙ (rw (k, o) at order_next) }

    both_r : own ≡ false → Letters j v w back a (not turned) heading
    both_r k =
        let o : other ≡ false = sym (like own other h) ∙ k in
        let f : suc (count_r p) ≡ suc (count_r q) = rw (k, o) at rest_next in
        let r : count_r p ≡ count_r q = omega arith in
        record { left = omega (arith, s.left); long = s.long; rest = r; order = sym (along_r p q as_long turned heading r) ∙ (rw (k, o) at order_next) }

-- ---- the same in the terms of the loop, which has taken 1 from a

module _ {j : ℕ} {v w : List ℕ} {back : Bool} {a : ℕ} {turned heading : Bool} (s : Letters j v w back a turned heading) (some : 0 < a) where
  e : a ≡ suc (a - 1)
  e = omega arith

  module _ (h : not (beq (eqb (get_or v (a - 1) 0) j) (eqb (get_or w (a - 1) 0) j)) ≡ true) where
    pub behind : beq (eqb (get_or v (a - 1) 0) j) heading ≡ true → 2 ≡ which_along back (index j v) (index j w)
    behind k = rw k at (parted (rw e at s) h)

    pub ahead : beq (eqb (get_or v (a - 1) 0) j) heading ≡ false → 1 ≡ which_along back (index j v) (index j w)
    ahead k = rw k at (parted (rw e at s) h)

  module _ (h : not (beq (eqb (get_or v (a - 1) 0) j) (eqb (get_or w (a - 1) 0) j)) ≡ false) where
    pub on_k : eqb (get_or v (a - 1) 0) j ≡ true → Letters j v w back (a - 1) false (not (beq heading turned))
    on_k k = both_k (rw e at s) h k

    pub on_r : eqb (get_or v (a - 1) 0) j ≡ false → Letters j v w back (a - 1) (not turned) heading
    on_r k = both_r (rw e at s) h k

-- no letter is left, and none has differed
pub end : {j : ℕ} {v w : List ℕ} {back : Bool} {a : ℕ} {turned heading : Bool} → Letters j v w back a turned heading → a ≤ 0 → 3 ≡ which_along back (index j v) (index j w)
unfolding rank pattern
end {j} {v} {w} {back} {a} {turned} {heading} s h =
    let z : a ≡ 0 = omega arith in
    sym (go heading) ∙ (rw z at s.order)
  where
    go : (b : Bool) → which_along b 0 0 ≡ 3
    go false = which_equal 0 0 refl
    go true = which_equal 0 0 refl
