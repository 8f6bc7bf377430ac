-- Proofs. The records of a sheet of either edition that are followed to the end: no more moves than are left, the strip that many numbers further on, how few bytes they can be, and without strides which bytes they are.
use Prim.Native.Nat.{ℕ, zero, suc, ◌+◌, ◌*◌, ◌^◌, ◌≤◌, min}
use mathlib.Core.Path.{◌≡◌, refl, sym, ap, ◌∙◌}
use mathlib.Core.Bool.{Bool, true, false, ◌&&◌, and-false, false≢true}
use mathlib.Core.List.{List, [], ◌∷◌, ◌++◌, append_assoc}
use native.Mathlib.Decide.{ℕ_discrete, dec_lt}
use native.Mathlib.Omega.{arith}
use borrow.Author.Tests.{eq-eqb, ne_eqb, not-false}
use lib.Dec.{eqb}
use lib.ListN.{length, take, drop, length-append, length-take, length-drop, take-append-drop}
use Rattle.rules.specs.Stock.{total, IsStrip}
use Rattle.rules.specs.Neighbours.{places}
use Rattle.rules.specs.Refusals.{fine, first_of}
use Rattle.rules.proofs.Places.{same_true}
use Rattle.rules.proofs.Checks.{when_passed}
use Rattle.walking.specs.Answers.{onward, left}
use Rattle.walking.proofs.Along.{along_none, along_strip, along_left, along_further}
use Rattle.sheets.specs.Sheets.{move_records}
use Rattle.strides.specs.Strides.{value, stride_nos}
use Rattle.strides.proofs.Rows.{rows_passed}
use Rattle.following.specs.Following.{Followed, refused_at, more, ended, if_made, next_no, follow_past, follow}
use Rattle.following.proofs.Steps.{passed, not_move, short_move, whole_move, short_stride, whole_stride, made, made_passed}
use Rattle.reading.proofs.MoveRecords.{pair_long, front, next_left, records_none}

module _ (strides : Bool) (counts : List ℕ) where
  pub record Right (s l : List ℕ) (f : Followed) : Type 0 where
    pub none : f.no ≡ fine
    pub within : f.moves ≤ left counts s
    pub strip : f.strip ≡ onward counts s f.moves
    pub single : strides ≡ false → l ≡ move_records counts s f.moves ++ (4 ∷ [])
    pub bytes : 1 + min 9 (3 * f.moves) ≤ length l
    pub listed : 2 ^ 64 ≤ total counts → 1 + 3 * f.moves ≤ length l

  -- no refusal is none with a number
  not_refused : (f : Followed) (n at : ℕ) → f ≡ refused_at (suc n) at → f.no.0 ≡ 0 → ⊥
  not_refused f n at e z = omega (arith, ap (λ (f : Followed). f.no.0) e, z)

  at_end : (s : List ℕ) → IsStrip counts s → (at : ℕ) (rest : List ℕ) → (ended s at rest).no.0 ≡ 0 → Right s (4 ∷ rest) (ended s at rest)
  at_end s h at [] z = record { none = refl; within = omega arith; strip = sym (along_none false counts s h); single = λ x. rw (records_none counts s); bytes = omega arith; listed = λ k. omega arith }
  at_end s h at (x ∷ rest) z = absurd (omega arith)

  -- a record that is no move and no stride
  other : (kind : ℕ) → (kind ≡ 3 → ⊥) → (strides && eqb kind 5) ≡ false → (rest s : List ℕ) → IsStrip counts s → (at : ℕ) → (follow strides counts s at (kind ∷ rest)).no.0 ≡ 0 → Right s (kind ∷ rest) (follow strides counts s at (kind ∷ rest))
  other kind k g rest s h at z = elim (ℕ_discrete kind 4) [
    | yes e ↦
        let f : follow strides counts s at (kind ∷ rest) ≡ ended s at rest = not_move strides counts s at kind rest k g ∙ rw (eq-eqb kind 4 e) in
        rw (f, e) (at_end s h at rest (rw f at z))
    | no e ↦ absurd (not_refused _ 10 at (not_move strides counts s at kind rest k g ∙ rw (ne_eqb kind 4 e)) z)
  ]

  -- n moves by a record, before what is right
  module _ (s : List ℕ) (h : IsStrip counts s) (n : ℕ) (w : n ≤ left counts s) (l first rest : List ℕ) (is : l ≡ first ++ rest) (f : Followed) (r : Right (onward counts s n) rest f) where
    joined : (strides ≡ false → move_records counts s (n + f.moves) ≡ first ++ move_records counts (onward counts s n) f.moves) → min 9 (3 * n) ≤ length first → (2 ^ 64 ≤ total counts → 3 * n ≤ length first) → Right s l (more n f)
    joined e a b =
        let n_long : length l ≡ length first + length rest = ap length is ∙ length-append first rest in
        record {
          none = r.none;
          within = omega (arith, r.within, along_left false counts s h n w);
          strip = r.strip ∙ along_further false counts s h n w f.moves;
          single = λ x. is ∙ rw (e x) (ap (λ (m : List ℕ). first ++ m) (r.single x) ∙ sym (append_assoc first (move_records counts (onward counts s n) f.moves) (4 ∷ [])));
          bytes = omega (arith, n_long, r.bytes, a);
          listed = λ m. omega (arith, n_long, r.listed m, b m);
        }

  -- what holds of all lists that are no longer than n
  abbrev To : ℕ → Type 0
  To n = (l : List ℕ) → length l ≤ n → (s : List ℕ) → IsStrip counts s → (at : ℕ) → (follow strides counts s at l).no.0 ≡ 0 → Right s l (follow strides counts s at l)

  module _ (n : ℕ) (later : To n) (kind : ℕ) (rest : List ℕ) (b : length rest ≤ n) (s : List ℕ) (h : IsStrip counts s) (at : ℕ) (z : (follow strides counts s at (kind ∷ rest)).no.0 ≡ 0) where
    three : kind ≡ 3 → Right s (kind ∷ rest) (follow strides counts s at (kind ∷ rest))
    three e = elim (dec_lt (length rest) 2) [
      | yes l ↦ absurd (not_refused _ 10 at (short_move strides counts s at kind rest e l) z)
      | no l ↦
          let two : 2 ≤ length rest = omega arith in
          let t = onward counts s 1 in
          let r = next_no s t (take 2 rest) in
          let g = follow strides counts t (at + 1 + 2) (drop 2 rest) in
          let f : follow strides counts s at (kind ∷ rest) ≡ if_made r 1 at g = whole_move strides counts s at kind rest e two ∙ ap (if_made r 1 at) (passed strides counts t 2 (at + 1) rest two) in
          let p = made_passed r 1 at g (rw f at z) in
          let next : places s t ≡ take 2 rest = same_true (places s t) (take 2 rest) (not-false _ (when_passed 11 0 _ p.0)) in
          let w = next_left counts s rest h two next in
          let own = along_strip false counts s h 1 w in
          let m : 1 + g.moves ≡ suc g.moves = omega arith in
          let long : length (3 ∷ take 2 rest) ≡ 3 = omega (arith, pair_long rest two) in
          rw (f, made r 1 at g p.0, e) (joined s h 1 w (3 ∷ rest) (3 ∷ take 2 rest) (drop 2 rest) (ap (λ (l : List ℕ). 3 ∷ l) (sym (take-append-drop 2 rest))) g (later (drop 2 rest) (omega (arith, length-drop 2 rest)) t own (at + 1 + 2) p.1)
          (λ x. rw m (front counts s h w g.moves ∙ rw next)) (omega (arith, long)) (λ k. omega (arith, long)))
    ]

    five : kind ≡ 5 → (kind ≡ 3 → ⊥) → (two : Bool) → strides ≡ two → Right s (kind ∷ rest) (follow strides counts s at (kind ∷ rest))
    five k e false x = other kind e (ap (λ (y : Bool). y && eqb kind 5) x) rest s h at z
    five k e true x = elim (dec_lt (length rest) 8) [
      | yes l ↦ absurd (not_refused _ 10 at (short_stride strides counts s at kind rest k x l) z)
      | no l ↦
          let eight : 8 ≤ length rest = omega arith in
          let m = value (take 8 rest) in
          let t = onward counts s m in
          let r = first_of (stride_nos counts s m) in
          let g = follow strides counts t (at + 1 + 8) (drop 8 rest) in
          let f : follow strides counts s at (kind ∷ rest) ≡ if_made r m at g = whole_stride strides counts s at kind rest k x eight ∙ ap (if_made r m at) (passed strides counts t 8 (at + 1) rest eight) in
          let p = made_passed r m at g (rw f at z) in
          let a = rows_passed counts s m p.0 in
          let own = along_strip false counts s h m a.within in
          let long : length (5 ∷ take 8 rest) ≡ 9 = ap suc (simp length-take (omega arith)) in
          rw (f, made r m at g p.0, k) (joined s h m a.within (5 ∷ rest) (5 ∷ take 8 rest) (drop 8 rest) (ap (λ (l : List ℕ). 5 ∷ l) (sym (take-append-drop 8 rest))) g (later (drop 8 rest) (omega (arith, length-drop 8 rest)) t own (at + 1 + 8) p.1)
          (λ y. absurd (false≢true (sym y ∙ x))) (omega (arith, long)) (λ many. absurd (omega (arith, a.few))))
    ]

    one : Right s (kind ∷ rest) (follow strides counts s at (kind ∷ rest))
    one = elim (ℕ_discrete kind 3) [
      | yes e ↦ three e
      | no e ↦ elim (ℕ_discrete kind 5) [
        | yes k ↦ five k e strides refl
        | no k ↦ other kind e (ap (λ (y : Bool). strides && y) (ne_eqb kind 5 k) ∙ and-false strides) rest s h at z
      ]
    ]

  follow_nothing : (s : List ℕ) (at : ℕ) → follow strides counts s at [] ≡ refused_at 11 at
  unfolding follow_past
  follow_nothing s at = refl

  step : (n : ℕ) → To n → To (suc n)
  step n later [] b s h at z = absurd (not_refused _ 10 at (follow_nothing s at) z)
  step n later (kind ∷ rest) b s h at z = one n later kind rest (omega arith) s h at z

  none_long : To 0
  none_long [] b s h at z = absurd (not_refused _ 10 at (follow_nothing s at) z)
  none_long (x ∷ l) b s h at z = absurd (omega arith)

  right_to : (n : ℕ) → To n
  right_to zero = none_long
  right_to (suc n) = step n (right_to n)

  pub right : (l s : List ℕ) → IsStrip counts s → (at : ℕ) → (follow strides counts s at l).no.0 ≡ 0 → Right s l (follow strides counts s at l)
  right l s h at z = right_to (length l) l (omega arith) s h at z
