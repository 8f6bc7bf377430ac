-- Proofs. The three equations of E, as document 01 writes them.
use Prim.Native.Nat.{ℕ, zero, suc, ◌-◌, ◌<◌}
use mathlib.Core.Path.{◌≡◌, refl, ap, ◌∙◌}
use mathlib.Core.Bool.{cond}
use mathlib.Core.List.{List, [], ◌∷◌, ◌++◌, reverse, append-nil}
use native.Mathlib.Nat.{add-zero}
use native.Mathlib.Omega.{arith}
use lib.Dec.{leb}
use borrow.Author.Tests.{le-leb}
use lib.ListN.{length, get_or, replicate}
use Rattle.rules.specs.Book.{K, R, Word, after, E}
use Rattle.rules.proofs.Patterns.{listed_e, e_first, binom_self}

only : (l : List Word) (x : Word) → length l ≡ 1 → get_or l 0 [] ≡ x → l ≡ x ∷ []
only [] x h e = absurd (omega arith)
only (w ∷ []) x h e = ap (λ (w : Word). w ∷ []) e
only (w ∷ v ∷ l) x h e = absurd (omega arith)

pub e_all_k : (a : ℕ) → E a 0 ≡ replicate a K ∷ []
unfolding E
e_all_k zero = refl
e_all_k (suc zero) = refl
e_all_k (suc (suc a)) = refl

pub e_all_r : (a : ℕ) → E a a ≡ replicate a R ∷ []
e_all_r a = only (E a a) (replicate a R) ((listed_e a a).size ∙ binom_self a) (simp (add-zero, append-nil) at (e_first a 0))

-- E(a, b) for 0 < b < a, as the document writes it: the third part only if b is at least 2
pub e_rule : (a b : ℕ) → 0 < b → b < a
    → E a b ≡ after (K ∷ []) (E (a - 1) b) ++ (after (K ∷ R ∷ []) (reverse (E (a - 2) (b - 1))) ++ cond (leb 2 b) (after (R ∷ R ∷ []) (E (a - 2) (b - 2))) [])
unfolding E
e_rule a zero h l = absurd (omega arith)
e_rule zero (suc b) h l = absurd (omega arith)
e_rule (suc zero) (suc b) h l = absurd (omega arith)
e_rule (suc (suc a)) (suc zero) h l =
    let e : suc (suc a) - 1 ≡ suc a = omega arith in
    let f : suc (suc a) - 2 ≡ a = omega arith in
    rw (e, f, append-nil)
e_rule (suc (suc a)) (suc (suc b)) h l =
    let e : suc (suc a) - 1 ≡ suc a = omega arith in
    let f : suc (suc a) - 2 ≡ a = omega arith in
    let g : suc (suc b) - 1 ≡ suc b = omega arith in
    let k : suc (suc b) - 2 ≡ b = omega arith in
    rw (e, f, g, k, le-leb 2 (suc (suc b)) (omega arith))
