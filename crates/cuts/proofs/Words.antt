-- Proofs. The cuts of a word that is read from its last letter to its first: which words are cut, and how often at most.
use Prim.Native.Nat.compare
use Prim.Native.Nat.{ℕ, suc, ◌-◌, ◌≤◌, ◌<◌}
use mathlib.Core.Path.{◌≡◌, refl, sym, ap, ◌∙◌}
use mathlib.Core.Bool.{Bool, true, false, ◌||◌, and-false, or-false, or_comm, or_assoc}
use mathlib.Core.List.{[], ◌∷◌, ◌++◌, reverse, reverse-cons}
use native.Mathlib.Omega.{arith}
use borrow.Author.Tests.{lt-ltb, le-ltb}
use lib.Dec.{is_le, ltb}
use lib.ListN.{length}
use Rattle.rules.specs.Book.{Letter, K, R, Word}
use Rattle.rules.specs.Refusals.{pick}
use Rattle.rules.proofs.Patterns.{count_r, count_r_le}
use Rattle.cuts.specs.Cuts.{alike, has, has_both, cuts_from_end}

-- ---- which letters a word has, by how many of them are R

has_r : (w : Word) → has R w ≡ ltb 0 (count_r w)
unfolding has
has_r [] = refl
has_r (K ∷ w) = has_r w
has_r (R ∷ w) = sym (lt-ltb 0 (suc (count_r w)) (omega arith))

has_k : (w : Word) → has K w ≡ ltb (count_r w) (length w)
unfolding has
has_k [] = refl
has_k (K ∷ w) = sym (lt-ltb (count_r w) (suc (length w)) (omega (arith, count_r_le w)))
has_k (R ∷ w) = has_k w ∙ sym (ap is_le (compare.suc-suc (suc (count_r w)) (length w)))

pub both : (w : Word) → 0 < count_r w → count_r w < length w → has_both w ≡ true
both w r k = rw (has_r w, has_k w, lt-ltb 0 (count_r w) r, lt-ltb (count_r w) (length w) k)

pub no_r : (w : Word) → count_r w ≡ 0 → has_both w ≡ false
no_r w e = rw (has_r w, le-ltb 0 (count_r w) (omega arith)) (and-false (has K w))

pub no_k : (w : Word) → length w ≤ count_r w → has_both w ≡ false
no_k w h = rw (has_k w, le-ltb (count_r w) (length w) h)

-- ---- a word has the same letters read from its end

has_added : (x y : Letter) (w : Word) → has x (w ++ (y ∷ [])) ≡ (has x w || alike x y)
unfolding has
has_added x y [] = or-false (alike x y)
has_added x y (z ∷ w) = rw (has_added x y w) (sym (or_assoc (alike x z) (has x w) (alike x y)))

has_turned : (x : Letter) (w : Word) → has x (reverse w) ≡ has x w
unfolding has
has_turned x [] = refl
has_turned x (y ∷ w) = rw (reverse-cons y w, has_added x y (reverse w), has_turned x w) (or_comm (has x w) (alike x y))

pub both_turned : (w : Word) → has_both (reverse w) ≡ has_both w
both_turned w = rw (has_turned K w, has_turned R w)

-- ---- the cuts

pub uncut : (w : Word) → has_both w ≡ false → cuts_from_end w ≡ 0
unfolding cuts_from_end
uncut [] e = refl
uncut (K ∷ w) e = rw e
uncut (R ∷ []) e = refl
uncut (R ∷ x ∷ w) e = rw e

pub one_off : (w : Word) → has_both (K ∷ w) ≡ true → cuts_from_end (K ∷ w) ≡ suc (cuts_from_end w)
unfolding cuts_from_end
one_off w e = rw e

pub two_off : (x : Letter) (w : Word) → has_both (R ∷ x ∷ w) ≡ true → cuts_from_end (R ∷ x ∷ w) ≡ suc (cuts_from_end w)
unfolding cuts_from_end
two_off x w e = rw e

pub within : (b : Bool) (n m : ℕ) → n ≤ m → pick b n 0 ≤ m
within false n m h = omega arith
within true n m h = h

-- each cut takes a letter off, and the last one takes two, or leaves one
pub cuts_fewer : (w : Word) → cuts_from_end w ≤ length w - 1
unfolding cuts_from_end has
cuts_fewer [] = omega arith
cuts_fewer (K ∷ []) = omega arith
cuts_fewer (K ∷ x ∷ w) = within (has_both (K ∷ x ∷ w)) (suc (cuts_from_end (x ∷ w))) _ (omega (arith, cuts_fewer (x ∷ w)))
cuts_fewer (R ∷ []) = omega arith
cuts_fewer (R ∷ x ∷ w) = within (has_both (R ∷ x ∷ w)) (suc (cuts_from_end w)) _ (omega (arith, cuts_fewer w))
