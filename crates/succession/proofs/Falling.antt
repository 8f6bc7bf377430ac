-- Proofs. A tail that falls, one block longer; and the blocks at its end.
use Prim.Native.Nat.{ℕ, suc, ◌-◌, ◌≤◌, ◌<◌}
use mathlib.Core.Path.{◌≡◌, ◌∙◌}
use mathlib.Core.List.{List, [], ◌∷◌}
use native.Mathlib.Omega.{arith}
use lib.ListN.{length, get_or, drop}
use lib.Seq.{drop-cons, drop-length}
use Rattle.dictionary.proofs.Following.{AtMost, Falls}

at_most_more : (x y : ℕ) (s : List ℕ) → AtMost x s → x ≤ y → AtMost y s
at_most_more x y [] h l = tt
at_most_more x y (z ∷ s) h l = (omega (arith, h.0), at_most_more x y s h.1 l)

-- the last block alone falls
pub falls_one : (s : List ℕ) → Falls (drop (length s - 1) s)
falls_one [] = tt
falls_one (x ∷ s) =
    let t = x ∷ s in
    let e : suc (length t - 1) ≡ length t = omega arith in
    let d : drop (length t - 1) t ≡ get_or t (length t - 1) 0 ∷ [] = drop-cons t (length t - 1) 0 (omega arith) ∙ rw (e, drop-length t) in
    rw d (tt, tt)

pub falls_more : (s : List ℕ) (i : ℕ) → suc i < length s → Falls (drop (suc i) s) → get_or s (suc i) 0 ≤ get_or s i 0 → Falls (drop i s)
falls_more s i h f l =
    rw (drop-cons s i 0 (omega arith)) (go (drop-cons s (suc i) 0 h) f)
  where
    go : drop (suc i) s ≡ get_or s (suc i) 0 ∷ drop (suc (suc i)) s → Falls (drop (suc i) s) → AtMost (get_or s i 0) (drop (suc i) s) × Falls (drop (suc i) s)
    go e f = let g : Falls (get_or s (suc i) 0 ∷ drop (suc (suc i)) s) = rw e at f in
        (rw e (l, at_most_more (get_or s (suc i) 0) (get_or s i 0) (drop (suc (suc i)) s) g.0 l), f)
