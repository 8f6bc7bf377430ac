-- Proofs. Where the two editions part: nowhere, or at a record 5 behind moves that are right, which edition 1 meets with 11.
use Prim.Native.Nat.{ℕ, zero, suc, ◌+◌, ◌*◌, ◌≤◌}
use mathlib.Core.Path.{◌≡◌, refl, sym, ap, ◌∙◌}
use mathlib.Core.Bool.{Bool, true, false}
use mathlib.Core.List.{List, [], ◌∷◌, ◌++◌, append_assoc}
use mathlib.Core.Logic.{◌⊎◌, inl, inr}
use native.Mathlib.Decide.{ℕ_discrete, dec_lt}
use native.Mathlib.Omega.{arith}
use borrow.Author.Tests.{ne_eqb, not-false}
use lib.ListN.{length, take, drop, length-drop, take-append-drop}
use Rattle.rules.specs.Stock.{IsStrip}
use Rattle.rules.specs.Neighbours.{places}
use Rattle.rules.specs.Refusals.{No}
use Rattle.rules.proofs.Places.{same_true}
use Rattle.rules.proofs.Checks.{when_passed}
use Rattle.walking.specs.Answers.{onward, left}
use Rattle.walking.proofs.Along.{along_strip, along_left}
use Rattle.sheets.specs.Sheets.{move_records}
use Rattle.following.specs.Following.{Followed, if_made, next_no, follow_past, follow}
use Rattle.following.proofs.Steps.{passed, not_move, short_move, whole_move, made_not}
use Rattle.reading.proofs.MoveRecords.{front, next_left, records_none, follow_moves}

module _ (counts : List ℕ) where
  -- so many moves that are right, and then a record 5
  pub record Five (s l : List ℕ) : Type 0 where
    pub moves : ℕ
    pub rest : List ℕ
    pub within : moves ≤ left counts s
    pub is : l ≡ move_records counts s moves ++ (5 ∷ rest)

  abbrev Alike : List ℕ → ℕ → List ℕ → Type 0
  Alike s at l = follow true counts s at l ≡ follow false counts s at l

  -- edition 1 meets it with 11 at its offset
  pub five_refused : (s : List ℕ) → IsStrip counts s → (c at : ℕ) (rest : List ℕ) → c ≤ left counts s → (follow false counts s at (move_records counts s c ++ (5 ∷ rest))).no ≡ (11, at + 3 * c)
  five_refused s h c at rest l =
      ap (λ (f : Followed). f.no) (follow_moves false counts c s h l at (5 ∷ rest)) ∙ ap (λ (f : Followed). f.no) (not_move false counts (onward counts s c) (at + 3 * c) 5 rest (λ z. omega arith) refl)

  -- ---- a record that is no stride is followed alike

  other : (s : List ℕ) (at kind : ℕ) (rest : List ℕ) → (kind ≡ 3 → ⊥) → (kind ≡ 5 → ⊥) → Alike s at (kind ∷ rest)
  other s at kind rest e k =
      not_move true counts s at kind rest e (ne_eqb kind 5 k) ∙ sym (not_move false counts s at kind rest e refl)

  five_here : (s rest : List ℕ) → Five s (5 ∷ rest)
  five_here s rest = record { moves = 0; rest = rest; within = omega arith; is = rw (records_none counts s) }

  -- one move that is right before the others
  five_later : (s : List ℕ) → IsStrip counts s → (rest : List ℕ) → 1 ≤ left counts s → places s (onward counts s 1) ≡ take 2 rest → Five (onward counts s 1) (drop 2 rest) → Five s (3 ∷ rest)
  five_later s h rest w next v = record {
    moves = suc v.moves;
    rest = v.rest;
    within = omega (arith, v.within, along_left false counts s h 1 w);
    is = rw (front counts s h w v.moves, next) (ap (λ (l : List ℕ). 3 ∷ l) (sym (take-append-drop 2 rest) ∙ ap (λ (l : List ℕ). take 2 rest ++ l) v.is ∙ sym (append_assoc (take 2 rest) (move_records counts (onward counts s 1) v.moves) (5 ∷ v.rest))));
  }

  -- ---- all of them

  abbrev To : ℕ → Type 0
  To n = (l : List ℕ) → length l ≤ n → (s : List ℕ) → IsStrip counts s → (at : ℕ) → Alike s at l ⊎ Five s l

  module _ (n : ℕ) (later : To n) (kind : ℕ) (rest : List ℕ) (b : length rest ≤ n) (s : List ℕ) (h : IsStrip counts s) (at : ℕ) where
    abbrev t : List ℕ
    t = onward counts s 1

    abbrev row : No
    row = next_no s t (take 2 rest)

    abbrev behind : Bool → Followed
    behind strides = follow strides counts t (at + 1 + 2) (drop 2 rest)

    by_move : kind ≡ 3 → 2 ≤ length rest → (strides : Bool) → follow strides counts s at (kind ∷ rest) ≡ if_made row 1 at (behind strides)
    by_move e two strides = whole_move strides counts s at kind rest e two ∙ ap (if_made row 1 at) (passed strides counts t 2 (at + 1) rest two)

    past : kind ≡ 3 → 2 ≤ length rest → row.0 ≡ 0 → Alike s at (kind ∷ rest) ⊎ Five s (kind ∷ rest)
    past e two z =
        let next : places s t ≡ take 2 rest = same_true (places s t) (take 2 rest) (not-false _ (when_passed 11 0 _ z)) in
        let w = next_left counts s rest h two next in
        go w next (later (drop 2 rest) (omega (arith, length-drop 2 rest)) t (along_strip false counts s h 1 w) (at + 1 + 2))
      where
        go : 1 ≤ left counts s → places s t ≡ take 2 rest → Alike t (at + 1 + 2) (drop 2 rest) ⊎ Five t (drop 2 rest) → Alike s at (kind ∷ rest) ⊎ Five s (kind ∷ rest)
        go w next (inl f) = inl (by_move e two true ∙ ap (if_made row 1 at) f ∙ sym (by_move e two false))
        go w next (inr v) = inr (rw e (five_later s h rest w next v))

    three : kind ≡ 3 → Alike s at (kind ∷ rest) ⊎ Five s (kind ∷ rest)
    three e = elim (dec_lt (length rest) 2) [
      | yes l ↦ inl (short_move true counts s at kind rest e l ∙ sym (short_move false counts s at kind rest e l))
      | no l ↦
          let two : 2 ≤ length rest = omega arith in
          elim (ℕ_discrete row.0 0) [
            | yes z ↦ past e two z
            | no z ↦ inl (by_move e two true ∙ made_not row 1 at (behind true) z ∙ sym (by_move e two false ∙ made_not row 1 at (behind false) z))
          ]
    ]

    one : Alike s at (kind ∷ rest) ⊎ Five s (kind ∷ rest)
    one = elim (ℕ_discrete kind 3) [ yes e ↦ three e | no e ↦ elim (ℕ_discrete kind 5) [ yes k ↦ inr (rw k (five_here s rest)) | no k ↦ inl (other s at kind rest e k) ] ]

  nothing : (s : List ℕ) (at : ℕ) → Alike s at []
  unfolding follow_past
  nothing s at = refl

  none_long : To 0
  none_long [] b s h at = inl (nothing s at)
  none_long (kind ∷ rest) b s h at = absurd (omega arith)

  step : (n : ℕ) → To n → To (suc n)
  step n later [] b s h at = inl (nothing s at)
  step n later (kind ∷ rest) b s h at = one n later kind rest (omega arith) s h at

  part_to : (n : ℕ) → To n
  part_to zero = none_long
  part_to (suc n) = step n (part_to n)

  pub alike_or_five : (l s : List ℕ) → IsStrip counts s → (at : ℕ) → (follow true counts s at l ≡ follow false counts s at l) ⊎ Five s l
  alike_or_five l s h at = part_to (length l) l (omega arith) s h at
