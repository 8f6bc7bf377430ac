-- Proofs. The records of c moves, and a stride of n, and what following them comes to: they lead c strips on, or n, whatever stands behind them.
use Prim.Native.Nat.{ℕ, zero, suc, ◌+◌, ◌*◌, ◌^◌, ◌≤◌, ◌<◌}
use mathlib.Core.Path.{◌≡◌, refl, sym, ap, ◌∙◌}
use mathlib.Core.Bool.{Bool, true, false, and-false}
use mathlib.Core.List.{List, [], ◌∷◌, ◌++◌, append-nil, append_assoc}
use native.Mathlib.Decide.{ℕ_discrete}
use native.Mathlib.Omega.{arith}
use lib.ListN.{length, take, drop, length-append, length-take}
use lib.Seq.{take_at, drop_at}
use Rattle.rules.specs.Stock.{total, IsStrip}
use Rattle.rules.specs.Neighbours.{places}
use Rattle.rules.specs.Refusals.{fine}
use Rattle.rules.proofs.Neighbours.{no_places}
use Rattle.rules.proofs.Places.{same_self, place_below}
use Rattle.walking.specs.Answers.{left_along, onward, left}
use Rattle.walking.proofs.Along.{past_last, two_places, along_none, along_strip, along_left, along_further}
use Rattle.sheets.specs.Sheets.{move_records}
use Rattle.strides.specs.Strides.{value, bytes_of, stride_record}
use Rattle.strides.proofs.Values.{value_bytes, bytes_long}
use Rattle.strides.proofs.Rows.{rows_fine}
use Rattle.following.specs.Following.{Followed, more, if_made, next_no, follow}
use Rattle.following.proofs.Steps.{passed, not_move, whole_move, whole_stride, more_none, more_more}

pub pair_long : (rest : List ℕ) → 2 ≤ length rest → length (take 2 rest) ≡ 2
pair_long rest two = simp length-take (omega arith)

module _ (counts s : List ℕ) (h : IsStrip counts s) (some : 1 ≤ left counts s) where
  -- from the next strip it is one number less
  onward_onward : (i : ℕ) → onward counts (onward counts s 1) i ≡ onward counts s (suc i)
  onward_onward i = let e : 1 + i ≡ suc i = omega arith in along_further false counts s h 1 some i ∙ rw e

  -- the first record, then those from the next strip
  pub front : (c : ℕ) → move_records counts s (suc c) ≡ (3 ∷ places s (onward counts s 1)) ++ move_records counts (onward counts s 1) c
  unfolding move_records
  front zero = rw (along_none false counts s h) (sym (append-nil (3 ∷ places s (onward counts s 1))))
  front (suc c) = rw (front c, onward_onward c, onward_onward (suc c)) (append_assoc (3 ∷ places s (onward counts s 1)) (move_records counts (onward counts s 1) c) _)

-- two places that are those of the next move: one is left
pub next_left : (counts s rest : List ℕ) → IsStrip counts s → 2 ≤ length rest → places s (onward counts s 1) ≡ take 2 rest → 1 ≤ left counts s
next_left counts s rest h two e = elim (ℕ_discrete (left counts s) 0) [
  | yes z ↦ absurd (omega (arith, pair_long rest two, ap length (rw (past_last counts s h z, no_places 1 s) at e)))
  | no z ↦ omega arith
]

pub records_none : (counts s : List ℕ) → move_records counts s 0 ≡ []
unfolding move_records
records_none counts s = refl

more_one : (c : ℕ) (f : Followed) → more 1 (more c f) ≡ more (suc c) f
more_one c f = let e : 1 + c ≡ suc c = omega arith in more_more 1 c f ∙ rw e

module _ (strides : Bool) (counts : List ℕ) where
  -- a whole move record, and what stands behind it
  move_behind : (s : List ℕ) (at p q : ℕ) (rest : List ℕ) → follow strides counts s at (3 ∷ p ∷ q ∷ rest) ≡ if_made (next_no s (onward counts s 1) (p ∷ q ∷ [])) 1 at (follow strides counts (onward counts s 1) (at + 3) rest)
  move_behind s at p q rest =
      let f : at + 1 + 2 ≡ at + 3 = omega arith in
      whole_move strides counts s at 3 (p ∷ q ∷ rest) refl (omega arith) ∙ rw (passed strides counts (onward counts s 1) 2 (at + 1) (p ∷ q ∷ rest) (omega arith), f)

  pub end_alone : (s : List ℕ) (at : ℕ) → follow strides counts s at (4 ∷ []) ≡ record { no = fine; moves = 0; strip = s }
  end_alone s at = not_move strides counts s at 4 [] (λ z. omega arith) (and-false strides)

  -- the records of c moves, and then what follows them
  pub follow_moves : (c : ℕ) (s : List ℕ) → IsStrip counts s → c ≤ left counts s → (at : ℕ) (rest : List ℕ)
      → follow strides counts s at (move_records counts s c ++ rest) ≡ more c (follow strides counts (onward counts s c) (at + 3 * c) rest)
  follow_moves zero s h l at rest =
      let e : at + 3 * 0 ≡ at = omega arith in
      rw (records_none counts s, along_none false counts s h, e) (more_none (follow strides counts s at rest))
  follow_moves (suc c) s h l at rest =
      let some : 1 ≤ left counts s = omega arith in
      let t = onward counts s 1 in
      let two = two_places false counts s h some in
      let e = two.2 in
      let f : at + 3 + 3 * c ≡ at + 3 * suc c = omega arith in
      let later = follow_moves c t (along_strip false counts s h 1 some) (omega (arith, along_left false counts s h 1 some)) (at + 3) rest in
      rw (front counts s h some c, e) (move_behind s at two.0 two.1 (move_records counts t c ++ rest) ∙ rw (e, same_self (two.0 ∷ two.1 ∷ []), later, onward_onward counts s h some c, f) (more_one c _))

  pub follow_written : (c : ℕ) (s : List ℕ) → IsStrip counts s → c ≤ left counts s → (at : ℕ)
      → follow strides counts s at (move_records counts s c ++ (4 ∷ [])) ≡ record { no = fine; moves = c; strip = onward counts s c }
  follow_written c s h l at =
      follow_moves c s h l at (4 ∷ []) ∙ rw (end_alone (onward counts s c) (at + 3 * c)) (ap (λ (m : ℕ). record { no = fine; moves = m; strip = onward counts s c }) (omega arith))

-- a stride where one is allowed, and then what follows it
pub follow_stride : (counts : List ℕ) (n : ℕ) (s : List ℕ) → IsStrip counts s → 2 ≤ n → total counts < 2 ^ 64 → n ≤ left counts s → (at : ℕ) (rest : List ℕ)
    → follow true counts s at (stride_record n ++ rest) ≡ more n (follow true counts (onward counts s n) (at + 9) rest)
unfolding stride_record left_along
follow_stride counts n s h two few l at rest =
    let body = bytes_of 8 n in
    let long : length (body ++ rest) ≡ 8 + length rest = length-append body rest ∙ rw (bytes_long 8 n) in
    let e : value (take 8 (body ++ rest)) ≡ n = ap value (take_at body rest 8 (bytes_long 8 n)) ∙ value_bytes 8 n (omega (arith, place_below counts s h)) in
    let f : drop 8 (body ++ rest) ≡ rest = drop_at body rest 8 (bytes_long 8 n) in
    let g : at + 1 + 8 ≡ at + 9 = omega arith in
    whole_stride true counts s at 5 (body ++ rest) refl refl (omega arith) ∙ rw (e, rows_fine counts s n two few l, passed true counts (onward counts s n) 8 (at + 1) (body ++ rest) (omega arith), f, g)
