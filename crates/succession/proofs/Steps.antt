-- Proofs. The step of the code is the step of the theory.
use Prim.Native.Nat.{ℕ, suc, ◌+◌, ◌-◌, ◌≤◌, ◌<◌}
use mathlib.Core.Path.{◌≡◌, refl, sym, ap, ◌∙◌}
use mathlib.Core.Bool.{true, false, false≢true}
use mathlib.Core.List.{List, [], ◌∷◌, ◌++◌, append_assoc, reverse}
use native.Mathlib.Numerals.{add-one}
use native.Mathlib.Omega.{arith}
use lib.ListN.{length, get_or, take, drop, set, length-append, length-drop}
use lib.Seq.{split_at, get_or-drop, drop-drop, set_at, take_at, drop_at, length-take-le}
use Rattle.std.specs.List.{swap}
use Rattle.std.proofs.lemmas.List.Edits.{swap_is}
use Rattle.rules.specs.Stock.{IsStrip}
use Rattle.dictionary.proofs.Following.{AtMost, Falls, Step, step_after, falls_end}
use Rattle.succession.specs.Steps.{Advanced}

pub at_end : (counts s : List ℕ) → IsStrip counts s → Falls s → Advanced counts s false s
at_end counts s h f = record { on = λ z. absurd (false≢true z); end = λ z. (falls_end counts s h f, refl) }

module _ (s : List ℕ) (at j : ℕ) (l : suc at ≤ j) (m : j < length s) (f : Falls (drop (suc at) s)) (less : get_or s at 0 < get_or s j 0) (low : AtMost (get_or s at 0) (drop (suc j) s)) where
  abbrev pub p : List ℕ
  p = take at s

  abbrev pub x : ℕ
  x = get_or s at 0

  abbrev pub a : List ℕ
  a = take (j - suc at) (drop (suc at) s)

  abbrev pub y : ℕ
  y = get_or s j 0

  abbrev pub b : List ℕ
  b = drop (suc j) s

  long_p : length p ≡ at
  long_p = length-take-le at s (omega arith)

  long_a : length a ≡ j - suc at
  long_a = length-take-le (j - suc at) (drop (suc at) s) (omega (arith, length-drop (suc at) s))

  tail : drop (suc at) s ≡ a ++ y ∷ b
  tail =
      let e : suc at + (j - suc at) ≡ j = omega arith in
      let g : suc at + suc (j - suc at) ≡ suc j = omega arith in
      let last : get_or (drop (suc at) s) (j - suc at) 0 ≡ y = get_or-drop (suc at) s (j - suc at) 0 ∙ rw e in
      let rest : drop (suc (j - suc at)) (drop (suc at) s) ≡ b = drop-drop (suc (j - suc at)) (suc at) s ∙ rw g in
      split_at (drop (suc at) s) (j - suc at) 0 (omega (arith, length-drop (suc at) s)) ∙ rw (last, rest)

  whole : s ≡ p ++ x ∷ (a ++ y ∷ b)
  whole = split_at s at 0 (omega arith) ∙ ap (λ (d : List ℕ). p ++ x ∷ d) tail

  step : Step s
  step = record { front = p; x = x; a = a; y = y; b = b; is = whole; falls = rw tail at f; less = less; low = low }

  -- the strip after the exchange
  swapped_is : swap s at j ≡ (p ++ y ∷ []) ++ (a ++ x ∷ b)
  swapped_is =
      let one : set s at y ≡ p ++ y ∷ (a ++ y ∷ b) = ap (λ (t : List ℕ). set t at y) whole ∙ set_at p x (a ++ y ∷ b) y at long_p in
      let two : p ++ y ∷ (a ++ y ∷ b) ≡ ((p ++ y ∷ []) ++ a) ++ y ∷ b = sym (append_assoc (p ++ y ∷ []) a (y ∷ b) ∙ append_assoc p (y ∷ []) (a ++ y ∷ b)) in
      let n : length ((p ++ y ∷ []) ++ a) ≡ j = length-append (p ++ y ∷ []) a ∙ omega (arith, length-append p (y ∷ []), long_p, long_a) in
      sym (swap_is s at j 0 (omega arith) m) ∙ ap (λ (t : List ℕ). set t j x) (one ∙ two) ∙ set_at ((p ++ y ∷ []) ++ a) y b x j n ∙ append_assoc (p ++ y ∷ []) a (x ∷ b)

  turned_is : take (suc at) (swap s at j) ++ reverse (drop (suc at) (swap s at j)) ≡ p ++ y ∷ reverse (a ++ x ∷ b)
  turned_is =
      let n : length (p ++ y ∷ []) ≡ suc at = length-append p (y ∷ []) ∙ omega (arith, long_p) in
      rw (swapped_is, take_at (p ++ y ∷ []) (a ++ x ∷ b) (suc at) n, drop_at (p ++ y ∷ []) (a ++ x ∷ b) (suc at) n) (append_assoc p (y ∷ []) (reverse (a ++ x ∷ b)))

  pub advanced : (counts u t : List ℕ) → IsStrip counts s → u ≡ swap s at j → t ≡ take (at + 1) u ++ reverse (drop (at + 1) u) → Advanced counts s true t
  unfolding step
  advanced counts u t h e f =
      let r = step_after counts s h step in
      let g : t ≡ p ++ y ∷ reverse (a ++ x ∷ b) = f ∙ rw (e, add-one at) turned_is in
      record { on = λ z. (r.0, g ∙ sym r.1); end = λ z. absurd (false≢true (sym z)) }
