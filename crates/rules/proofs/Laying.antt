-- Proofs. Laying by a word that is found from its last letter to its first, as `unrank` finds it; by a word of R alone; and with the kinds renamed.
use Prim.Native.Nat.{ℕ, suc, pred, ◌-◌, ◌≤◌, ◌<◌}
use mathlib.Core.Path.{◌≡◌, refl, ap, ◌∙◌}
use mathlib.Core.Bool.{Bool, false, not}
use mathlib.Core.List.{List, [], ◌∷◌, ◌++◌, map, reverse, reverse-cons, append-nil}
use native.Mathlib.Omega.{arith}
use borrow.Author.Tests.{lt-ltb, le-ltb}
use lib.ListN.{length}
use Rattle.rules.specs.Stock.{binom}
use Rattle.rules.specs.Book.{K, R, Word, lay}
use Rattle.rules.proofs.Listed.{face}
use Rattle.rules.proofs.Patterns.{count_r, count_r_reverse, unrank}
use Rattle.rules.proofs.Moves.{count_both}
use Rattle.rules.proofs.Walk.{lay_append}

-- the letter that `unrank` finds, and what it goes on with
module _ (s : Bool) (a b i : ℕ) where
  pub unrank_k : i < binom a b → unrank s (suc a) b i ≡ K ∷ unrank false a b (face s (binom a b) i)
  unfolding unrank
  unrank_k h = rw (lt-ltb i (binom a b) h, unrank)

  pub unrank_r : binom a b ≤ i → unrank s (suc a) b i ≡ R ∷ unrank (not s) a (pred b) (i - binom a b)
  unfolding unrank
  unrank_r h = rw (le-ltb i (binom a b) h, unrank)

-- a word p, last letter first, with one letter more at its end
module _ (j : ℕ) (w : List ℕ) (p : Word) (e : count_r p ≡ length w) where
  lay_one : (x : Word) (v : List ℕ) → lay j (w ++ v) (reverse p ++ x) ≡ lay j w (reverse p) ++ lay j v x
  lay_one x v = lay_append j w v (reverse p) x (count_r_reverse p ∙ e)

  pub lay_k : lay j w (reverse (K ∷ p)) ≡ lay j w (reverse p) ++ (j ∷ [])
  unfolding lay
  lay_k = rw (reverse-cons K p) (rw (append-nil w) at (lay_one (K ∷ []) []))

  pub lay_r : (x : ℕ) → lay j (w ++ x ∷ []) (reverse (R ∷ p)) ≡ lay j w (reverse p) ++ (x ∷ [])
  unfolding lay
  lay_r x = rw (reverse-cons R p) (lay_one (R ∷ []) (x ∷ []))

-- a word of R alone leaves the blocks as they are
pub lay_all_r : (j : ℕ) (w : List ℕ) (p : Word) → length w ≡ length p → count_r p ≡ length p → lay j w p ≡ w
unfolding lay
lay_all_r j [] [] h e = refl
lay_all_r j (x ∷ w) [] h e = absurd (omega arith)
lay_all_r j w (K ∷ p) h e = absurd (omega (arith, count_both p))
lay_all_r j [] (R ∷ p) h e = absurd (omega arith)
lay_all_r j (x ∷ w) (R ∷ p) h e = ap (λ (s : List ℕ). x ∷ s) (lay_all_r j w p (omega arith) (omega arith))

pub lay_map : (f : ℕ → ℕ) (j : ℕ) (w : List ℕ) (p : Word) → lay (f j) (map f w) p ≡ map f (lay j w p)
unfolding lay
lay_map f j w [] = refl
lay_map f j w (K ∷ p) = ap (λ (s : List ℕ). f j ∷ s) (lay_map f j w p)
lay_map f j [] (R ∷ p) = refl
lay_map f j (x ∷ w) (R ∷ p) = ap (λ (s : List ℕ). f x ∷ s) (lay_map f j w p)
