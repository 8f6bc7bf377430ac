-- Proofs. The texts of the printed lines, part after part, and how long they are.
use Prim.Native.Nat.{ℕ, ◌+◌, ◌-◌, ◌≤◌, ◌<◌}
use mathlib.Core.Path.{◌≡◌, refl, ap, ◌∙◌}
use mathlib.Core.List.{List, [], ◌∷◌, ◌++◌, map, append_assoc, append-nil}
use native.Mathlib.Numerals.{add-one}
use native.Mathlib.Omega.{arith}
use lib.ListN.{length, get_or, take, drop, drop_of_length-le, length-append, length-take, length-drop}
use lib.Seq.{drop-cons}
use Rattle.std.proofs.lemmas.List.{get_or-take, get_or-drop}
use Rattle.rules.specs.Refusals.{No}
use Rattle.lines.specs.Text.{feed, space, hyphen, decimal, preceded, joined, refused_word, refused_line, strip_line}

-- ---- the lines, part after part

pub strip_parts : (number : ℕ) (s : List ℕ) → strip_line number s ≡ decimal number ++ (space ∷ (joined hyphen (map decimal s) ++ (feed ∷ [])))
unfolding strip_line joined preceded
strip_parts number s = append_assoc (decimal number) _ (feed ∷ []) ∙ rw (append-nil (joined hyphen (map decimal s)))

pub strip_room : (number : ℕ) (s : List ℕ) → length (strip_line number s) ≡ length (decimal number) + length (joined hyphen (map decimal s)) + 2
strip_room number s =
    let k = joined hyphen (map decimal s) in
    ap length (strip_parts number s) ∙ omega (arith, length-append (decimal number) (space ∷ (k ++ (feed ∷ []))), length-append k (feed ∷ []))

pub refused_parts : (r : No) → refused_line r ≡ refused_word ++ (space ∷ (decimal r.0 ++ (space ∷ (decimal r.1 ++ (feed ∷ [])))))
unfolding refused_line joined preceded
refused_parts r = rw (append-nil (decimal r.1), append_assoc (decimal r.0) (space ∷ decimal r.1) (feed ∷ []))

pub refused_room : (r : No) → length (refused_line r) ≡ 10 + length (decimal r.0) + length (decimal r.1)
refused_room r =
    let d = decimal r.1 ++ (feed ∷ []) in
    ap length (refused_parts r) ∙ omega (arith, length-append (decimal r.0) (space ∷ d), length-append (decimal r.1) (feed ∷ []))

-- ---- the kinds of a strip, kind after kind

abbrev pub kinds_from : ℕ → List ℕ → List ℕ
kinds_from i s = preceded hyphen (map decimal (drop i s))

pub kinds_first : (s : List ℕ) → 0 < length s → joined hyphen (map decimal s) ≡ decimal (get_or s 0 0) ++ kinds_from 1 s
unfolding joined
kinds_first [] h = absurd (omega arith)
kinds_first (x ∷ s) h = refl

module _ (s : List ℕ) (i : ℕ) where
  pub kinds_next : i < length s → kinds_from i s ≡ hyphen ∷ (decimal (get_or s i 0) ++ kinds_from (i + 1) s)
  unfolding preceded
  kinds_next h = rw (add-one i, drop-cons s i 0)

  pub kinds_end : length s ≤ i → kinds_from i s ≡ []
  unfolding preceded
  kinds_end h = rw (drop_of_length-le s {i = i} h)

-- the kinds behind the first
module _ (s : List ℕ) where
  pub others_length : length (take (length s - 1) (drop 1 s)) ≡ length s - 1
  others_length = length-take (length s - 1) (drop 1 s) ∙ omega (arith, length-drop 1 s)

  pub others_at : (i : ℕ) → i < length s - 1 → get_or (take (length s - 1) (drop 1 s)) i 0 ≡ get_or s (i + 1) 0
  others_at i h = get_or-take (length s - 1) (drop 1 s) i 0 h ∙ get_or-drop 1 s i 0 ∙ ap (λ (k : ℕ). get_or s k 0) (omega arith)
