-- Proofs. The bytes of a sheet: the kinds of its first two records, their bodies, and what is left from byte 82 on.
use Prim.Native.Nat.{ℕ, suc, ◌+◌, ◌≤◌}
use mathlib.Core.Path.{◌≡◌, sym, ap, ◌∙◌}
use mathlib.Core.List.{List, [], ◌∷◌, ◌++◌, append_assoc}
use native.Mathlib.Omega.{arith}
use lib.ListN.{length, get_or, take, drop, length-append, take-append-drop}
use lib.Seq.{take_at, drop_at, get_or_at, drop-cons, drop-drop}

-- two records and what is left
abbrev pub shaped : List ℕ → List ℕ → List ℕ → List ℕ
shaped a b m = 1 ∷ (a ++ (2 ∷ (b ++ m)))

module _ (a b m : List ℕ) (la : length a ≡ 16) (lb : length b ≡ 64) where
  shaped_long : length (shaped a b m) ≡ 82 + length m
  shaped_long = ap suc (length-append a (2 ∷ (b ++ m))) ∙ omega (arith, length-append b m)

  pub long_enough : 82 ≤ length (shaped a b m)
  long_enough = omega (arith, shaped_long)

  pub first_body : take 16 (drop 1 (shaped a b m)) ≡ a
  first_body = take_at a (2 ∷ (b ++ m)) 16 la

  pub second_kind : get_or (shaped a b m) 17 0 ≡ 2
  second_kind = get_or_at a 2 (b ++ m) 0 16 la

  second : drop 18 (shaped a b m) ≡ b ++ m
  second = ap (drop 17) (sym (append_assoc a (2 ∷ []) (b ++ m))) ∙ drop_at (a ++ (2 ∷ [])) (b ++ m) 17 (length-append a (2 ∷ []) ∙ omega arith)

  pub second_body : take 64 (drop 18 (shaped a b m)) ≡ b
  second_body = rw second (take_at b m 64 lb)

  pub left_over : drop 82 (shaped a b m) ≡ m
  left_over = sym (drop-drop 64 18 (shaped a b m)) ∙ rw second (drop_at b m 64 lb)

-- and back
pub reshaped : (l : List ℕ) → 82 ≤ length l → get_or l 0 0 ≡ 1 → get_or l 17 0 ≡ 2 → l ≡ shaped (take 16 (drop 1 l)) (take 64 (drop 18 l)) (drop 82 l)
reshaped l h e f =
    let one : l ≡ 1 ∷ drop 1 l = drop-cons l 0 0 (omega arith) ∙ rw e in
    let two : drop 17 l ≡ 2 ∷ drop 18 l = drop-cons l 17 0 (omega arith) ∙ rw f in
    let rest : drop 18 l ≡ take 64 (drop 18 l) ++ drop 82 l = sym (take-append-drop 64 (drop 18 l)) ∙ ap (λ (r : List ℕ). take 64 (drop 18 l) ++ r) (drop-drop 64 18 l) in
    let whole : drop 1 l ≡ take 16 (drop 1 l) ++ drop 17 l = sym (take-append-drop 16 (drop 1 l)) ∙ ap (λ (r : List ℕ). take 16 (drop 1 l) ++ r) (drop-drop 16 1 l) in
    one ∙ ap (λ (r : List ℕ). 1 ∷ r) (whole ∙ ap (λ (r : List ℕ). take 16 (drop 1 l) ++ r) (two ∙ ap (λ (r : List ℕ). 2 ∷ r) rest))
